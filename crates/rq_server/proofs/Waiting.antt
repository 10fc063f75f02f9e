-- The commits that wait at the connections that a round goes over, and the last of them.
use Rattle.std.proofs.Common.{◌≡◌, ◌⊎◌, ◌↔◌, ℕ, zero, suc, ◌+◌, ◌<◌, ◌≤◌, max, Option, Some, None, List, [], ◌∷◌, ◌++◌, length, take, get_or, slice_get, IfSome, MatchOption, Bool, true, false, refl, sym, ◌∙◌, ap, inl, inr, arith, length-append, subst}
use Rattle.std.proofs.lemmas.Bool.{cases_eq, cases_lt}
use Rattle.std.specs.List.{filter_map, cons_option}
use Rattle.std.proofs.Math.ListN.{get_or-append}
use Rattle.std.proofs.Math.Seq.{get_or-append_seam}
use Rattle.std.proofs.lemmas.List.Elements.{filter_map-append}
use Rattle.std.proofs.lemmas.Option.{slice_get-get_or}
use Rattle.slab.specs.Slab.{Slab}
use Rattle.rq_model.specs.Tests.{below}
use Rattle.rq_model.specs.Vocabulary.{In}
use Rattle.rq_model.proofs.Lists.{In-left, In-right, In-parts}
use Rattle.rq_server.specs.Waiting.{AreUpTo, IsLast, awaited_at}
use Rattle.rq_server.specs.declared.connection.Connection.{Connection}

pub length_below : (n : ℕ) → length (below n) ≡ n
length_below zero = refl
length_below (suc n) = let h = length_below n in omega (arith, h, length-append (below n) (n ∷ []))

get_below : (n i d : ℕ) → i < n → get_or (below n) i d ≡ i
get_below zero i d l = absurd (omega arith)
get_below (suc n) i d l = elim (cases_eq i n) [
  | inl e ↦ let at : length (below n) ≡ i = length_below n ∙ sym e in subst (λ k. get_or (below n ++ n ∷ []) k d ≡ i) at (get_or-append_seam (below n) n [] d ∙ sym e)
  | inr ne ↦
      let lt : i < length (below n) = let h = length_below n in omega (arith, h, ne) in
      get_or-append (below n) (n ∷ []) d i lt ∙ get_below n i d (omega (arith, ne))
]

pub nth_below : (n i : ℕ) → i < n → slice_get (below n) i ≡ Some i
nth_below n i l = slice_get-get_or (below n) i 0 (let h = length_below n in omega arith) ∙ ap (λ k. Some k) (get_below n i 0 l)

take_more : (ts : List ℕ) (at token : ℕ) → slice_get ts at ≡ Some token → take (at + 1) ts ≡ take at ts ++ token ∷ []
take_more [] at token e = absurd (cc e)
take_more (t ∷ ts) zero token e = let same : t ≡ token = cc e in rw same refl
take_more (t ∷ ts) (suc at) token e =
    let n : suc at + 1 ≡ suc (at + 1) = omega arith in
    rw n (ap (λ l. t ∷ l) (take_more ts at token e))

-- one token more
pub awaited_more : (s : Slab Connection) (ts : List ℕ) (at token : ℕ) → slice_get ts at ≡ Some token → filter_map (awaited_at s) (take (at + 1) ts) ≡ filter_map (awaited_at s) (take at ts) ++ cons_option (awaited_at s token) []
awaited_more s ts at token e = ap (filter_map (awaited_at s)) (take_more ts at token e) ∙ filter_map-append (awaited_at s) (take at ts) (token ∷ [])

-- the last, with one more
pub last_more : (lsns : List ℕ) (one other now : Option ℕ) → IsLast lsns one → IfSome one (λ lsn. (last : ℕ) × (now ≡ Some last) × (lsn ≤ last)) → IfSome other (λ lsn. (last : ℕ) × (now ≡ Some last) × (lsn ≤ last))
    → IfSome now (λ last. (one ≡ Some last) ⊎ (other ≡ Some last)) → IsLast (lsns ++ cons_option other []) now
last_more lsns None None None h a b c = rw h refl
last_more lsns None None (Some x) h a b c = absurd (elim c [ inl e ↦ cc e | inr e ↦ cc e ])
last_more lsns None (Some w) None h a b c = absurd (let e = b.1 in cc e)
last_more lsns (Some z) other None h a b c = absurd (let e = a.1 in cc e)
last_more lsns None (Some w) (Some x) h a b c =
    let same : w ≡ x = elim c [ inl e ↦ absurd (cc e) | inr e ↦ cc e ] in
    rw (h, same) (inl refl, λ lsn i. elim i [ inl e ↦ omega (arith, e) | inr n ↦ absurd n ])
last_more lsns (Some z) None (Some x) h a b c =
    let same : z ≡ x = elim c [ inl e ↦ cc e | inr e ↦ absurd (cc e) ] in
    (In-left lsns [] x (subst (λ n. In n lsns) same h.0), λ lsn i. elim (In-parts lsns [] lsn i) [ inl j ↦ (let g = h.1 lsn j in omega (arith, g, same)) | inr n ↦ absurd n ])
last_more lsns (Some z) (Some w) (Some x) h a b c =
    let top : a.0 ≡ x = (let e = a.1 in cc e) in
    let and : b.0 ≡ x = (let e = b.1 in cc e) in
    let low = a.2 in
    let lower = b.2 in
    let among : In x (lsns ++ w ∷ []) = elim c [
      | inl e ↦ (let same : z ≡ x = cc e in In-left lsns (w ∷ []) x (subst (λ n. In n lsns) same h.0))
      | inr e ↦ (let same : x ≡ w = cc e in In-right lsns (w ∷ []) x (inl same))
    ] in (
      among,
      λ lsn i. elim (In-parts lsns (w ∷ []) lsn i) [
        | inl j ↦ (let g = h.1 lsn j in omega (arith, g, top, low))
        | inr j ↦ elim j [ inl e ↦ omega (arith, e, and, lower) | inr n ↦ absurd n ]
      ],
    )

-- what is owed then reaches all of them
pub owed_reaches : (lsns : List ℕ) (last : Option ℕ) (old new upto : ℕ) → IsLast lsns last → MatchOption last (new ≡ old) (λ lsn. new ≡ max old lsn) → new ≤ upto → AreUpTo upto lsns
owed_reaches lsns None old new upto h owed le = λ lsn i. absurd (rw h at i)
owed_reaches lsns (Some x) old new upto h owed le = λ lsn i. (let g = h.1 lsn i in omega (arith, g, owed, le))

-- what is not due is forced, or left to others, of whom there are some
pub left_to_others : (lsns : List ℕ) (last : Option ℕ) (old new forced most left : ℕ) (others due : Bool) → IsLast lsns last → MatchOption last (new ≡ old) (λ lsn. new ≡ max old lsn)
    → (due ≡ true) ↔ ((forced < new) × (others ≡ true → most ≤ left)) → due ≡ false → AreUpTo forced lsns ⊎ (0 < most)
left_to_others lsns last old new forced (suc most) left others due h owed d e = inr (omega arith)
left_to_others lsns last old new forced zero left others due h owed d e = elim (cases_lt forced new) [
  | inl lt ↦ absurd (let y = d.1 (lt, λ o. omega arith) in cc (y, e))
  | inr ge ↦ inl (owed_reaches lsns last old new forced h owed (omega (arith, ge)))
]
