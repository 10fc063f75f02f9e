-- What is left of a device that is read from its front.
use Rattle.std.proofs.Common.{◌≡◌, ◌⊎◌, inl, inr, ℕ, ◌+◌, ◌-◌, ◌≤◌, min, List, [], ◌++◌, length, take, drop, sym, ◌∙◌, ap, arith, append_assoc}
use Rattle.std.proofs.lemmas.Bool.{cases_lt}
use Rattle.std.proofs.Math.Seq.{paste, take-append_seam}
use Rattle.std.proofs.lemmas.List.Edits.{take-paste}
use Rattle.std.proofs.lemmas.List.{drop_all, drop-take, length-take-le, take-append-drop, drop-drop}

-- a window whose elements were all written over
pub filled_window : (n : ℕ) (xs ys : List ℕ) → n ≡ length xs → take n (xs ++ ys) ≡ xs
filled_window n xs ys e = ap (λ k. take k (xs ++ ys)) e ∙ take-append_seam xs ys

-- what was moved to the front stands there
pub pasted : (old xs : List ℕ) (n : ℕ) → n ≤ length xs → take n (paste old 0 xs n) ≡ take n xs
pasted old xs n le = ap (λ k. take k (paste old 0 xs n)) (let e : n ≡ 0 + n = omega arith in e) ∙ take-paste old 0 xs n (omega arith) le

-- without the first so many
pub skipped : (xs : List ℕ) (start end n : ℕ) → start + n ≤ end → take (end - (start + n)) (drop (start + n) xs) ≡ drop n (take (end - start) (drop start xs))
skipped xs start end n le =
    let count : end - start ≡ n + (end - (start + n)) = omega (arith, le) in
    sym (ap (λ k. drop n (take k (drop start xs))) count ∙ drop-take n (end - (start + n)) (drop start xs) ∙ ap (take (end - (start + n))) (drop-drop n start xs))

-- a read of as many as there are, and fit behind the first e bytes, filled the window or came to the end
pub has_most : {unread : List ℕ} {now : ℕ} {honest : Type 0} {new : List ℕ} (w old : List ℕ) (count at e n : ℕ) → unread ≡ take count w → count ≡ e + n → 546 ≤ length w → e + n ≤ length w
    → (honest → n ≡ min (length w - e) (length old - at)) → now ≡ at + n → new ≡ old → (546 ≤ length unread) ⊎ (honest → drop now new ≡ [])
has_most {unread} {now} {honest} {new} w old count at e n is total wide le read goes same = elim (cases_lt (e + n) (length w)) [
  | inl less ↦ inr (λ h. drop_all now new (let r = read h in let s = ap length same in omega (arith, less, le, r, goes, s)))
  | inr full ↦ inl (let k = length-take-le count w (omega (arith, le, wide, total)) in let u = ap length is in omega (arith, k, u, total, full))
]

-- what was read is taken from what was not
pub left_same : {unread now_seen : List ℕ} {now : ℕ} (kept old : List ℕ) (at n : ℕ) → unread ≡ kept ++ take n (drop at old) → now ≡ at + n → now_seen ≡ old → unread ++ drop now now_seen ≡ kept ++ drop at old
left_same {unread} {now_seen} {now} kept old at n is goes same =
    ap (λ l. l ++ drop now now_seen) is ∙ append_assoc kept (take n (drop at old)) (drop now now_seen)
    ∙ ap (λ l. kept ++ (take n (drop at old) ++ l)) (ap (λ k. drop k now_seen) goes ∙ ap (drop (at + n)) same ∙ sym (drop-drop n at old))
    ∙ ap (λ l. kept ++ l) (take-append-drop n (drop at old))
