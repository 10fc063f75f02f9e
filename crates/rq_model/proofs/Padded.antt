-- Bytes laid over the front of zeros.
use Rattle.std.proofs.Common.{◌≡◌, ℕ, ◌+◌, ◌-◌, ◌≤◌, List, [], ◌++◌, length, take, drop, replicate, refl, sym, ap, ◌∙◌, append_assoc, append-nil, arith, subst}
use Rattle.std.proofs.lemmas.List.{drop-replicate, drop-drop, drop_all, length-drop, length-append, length-replicate}
use Rattle.std.proofs.lemmas.Slice.{drop-append-drop}
use Rattle.std.proofs.Math.Seq.{take-append_seam}
use borrow.Rule.Slice.PartMut.{put_mid, post_of}

-- so many bytes stand in front, and zeros behind them
abbrev pub IsPadded : (n size : ℕ) → List ℕ → Type 0
IsPadded n size xs = (size ≤ n) × (xs ≡ take size xs ++ replicate (n - size) 0) × (length xs ≡ n)

pub padded : (n : ℕ) (xs : List ℕ) → length xs ≤ n → IsPadded n (length xs) (xs ++ drop (length xs) (replicate n 0))
padded n xs le =
    let zeros : drop (length xs) (replicate n 0) ≡ replicate (n - length xs) 0 = drop-replicate (length xs) n 0 in
    let whole : length xs + (n - length xs) ≡ n = omega (arith, le) in (
      le,
      ap (λ z. xs ++ z) zeros ∙ ap (λ f. f ++ replicate (n - length xs) 0) (sym (take-append_seam xs (drop (length xs) (replicate n 0)))),
      ap (λ z. length (xs ++ z)) zeros ∙ length-append xs (replicate (n - length xs) 0) ∙ ap (λ k. length xs + k) (length-replicate (n - length xs) 0) ∙ whole,
    )

-- and others behind them
laid_behind : (xs ys zs : List ℕ) → put_mid (length xs) (length xs + length ys - length xs) (xs ++ drop (length xs) zs) ys ≡ (xs ++ ys) ++ drop (length (xs ++ ys)) zs
laid_behind xs ys zs =
    let k : ℕ = length xs + length ys - length xs in
    let laid : List ℕ = xs ++ drop (length xs) zs in
    let count : length xs + k ≡ length (xs ++ ys) = (let l = length-append xs ys in omega (arith, l)) in
    let back : post_of (length xs) k laid ≡ drop (length (xs ++ ys)) zs =
    drop-drop k (length xs) laid ∙ drop-append-drop (length xs) zs xs (length xs + k) (omega arith) refl ∙ ap (λ (n : ℕ). drop n zs) count in
    ap (λ (f : List ℕ). f ++ (ys ++ post_of (length xs) k laid)) (take-append_seam xs (drop (length xs) zs))
    ∙ ap (λ (t : List ℕ). xs ++ (ys ++ t)) back ∙ sym (append_assoc xs ys (drop (length (xs ++ ys)) zs))

-- zeros laid over all that stands behind them
zeros_behind : (n : ℕ) (xs rest : List ℕ) → length (xs ++ rest) ≡ n
    → put_mid (length xs) (n - length xs) (xs ++ rest) (replicate (n - length xs) 0) ≡ xs ++ drop (length xs) (replicate n 0)
zeros_behind n xs rest whole =
    let zeros : List ℕ = replicate (n - length xs) 0 in
    let none : post_of (length xs) (n - length xs) (xs ++ rest) ≡ [] =
    (let l = length-drop (length xs) (xs ++ rest) in drop_all (n - length xs) (drop (length xs) (xs ++ rest)) (omega (arith, l, whole))) in
    ap (λ (f : List ℕ). f ++ (zeros ++ post_of (length xs) (n - length xs) (xs ++ rest))) (take-append_seam xs rest)
    ∙ ap (λ (t : List ℕ). xs ++ (zeros ++ t)) none ∙ ap (λ (t : List ℕ). xs ++ t) (append-nil zeros ∙ sym (drop-replicate (length xs) n 0))

-- these two over the front of bytes
abbrev both_over : List ℕ → List ℕ → List ℕ → List ℕ
both_over xs ys old = put_mid (length xs) (length xs + length ys - length xs) (xs ++ drop (length xs) old) ys

-- and zeros over the rest
pub padded_over : (n : ℕ) (xs ys old : List ℕ) → length old ≡ n → length xs + length ys ≤ n
    → IsPadded n (length xs + length ys) (put_mid (length xs + length ys) (length (both_over xs ys old) - (length xs + length ys))
    (both_over xs ys old) (replicate (n - (length xs + length ys)) 0))
padded_over n xs ys old size le =
    let l = length-append xs ys in
    let rest : List ℕ = drop (length (xs ++ ys)) old in
    let behind = length-drop (length (xs ++ ys)) old in
    let whole : length ((xs ++ ys) ++ rest) ≡ n = length-append (xs ++ ys) rest ∙ omega (arith, l, behind, size, le) in
    subst (λ (laid : List ℕ). IsPadded n (length xs + length ys) (put_mid (length xs + length ys) (length laid - (length xs + length ys)) laid (replicate (n - (length xs + length ys)) 0)))
    (sym (laid_behind xs ys old))
    (subst (λ (k : ℕ). IsPadded n k (put_mid k (length ((xs ++ ys) ++ rest) - k) ((xs ++ ys) ++ rest) (replicate (n - k) 0))) l
    (subst (λ (m : ℕ). IsPadded n (length (xs ++ ys)) (put_mid (length (xs ++ ys)) (m - length (xs ++ ys)) ((xs ++ ys) ++ rest) (replicate (n - length (xs ++ ys)) 0))) (sym whole)
    (subst (IsPadded n (length (xs ++ ys))) (sym (zeros_behind n (xs ++ ys) rest whole)) (padded n (xs ++ ys) (omega (arith, l, le))))))
