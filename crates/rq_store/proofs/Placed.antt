-- What is finished, the newest first: one more, and what it tells.
use Rattle.std.proofs.Common.{◌≡◌, List, [], ◌∷◌, ◌++◌, map, reverse, refl, sym, ◌∙◌, ap, inl, inr, arith, length, cond}
use Rattle.std.proofs.lemmas.Bool.{cases_Bool}
use Rattle.std.proofs.lemmas.List.{reverse-append, map-append}
use Rattle.rq_model.specs.declared.record.Deed.{Deed}
use Rattle.rq_model.specs.declared.record.Deed.TheVariants.{Append, UnlinkHead, Close, Mark}
use Rattle.rq_model.specs.Content.{said, Said}
use Rattle.rq_views.specs.Legal.{Placed}
use Rattle.rq_views.proofs.Committed.{say}
use Rattle.rq_txn.specs.declared.Finished.{Finished}
use Rattle.rq_store.specs.State.{op_done}
use Rattle.rq_store.specs.Settled.{takes_one}
use Rattle.rq_store.specs.Rows.{placed, placed_one}
use Rattle.std.specs.List.{filter, sum_by}
use Rattle.std.proofs.lemmas.List.Sums.{sum_by-cons}
use Rattle.rq_views.specs.Claims.{takes_placed, takes_of}
use Rattle.rq_model.specs.Counts.{is_taken}
use Rattle.rq_model.specs.Commits.{op_of, ops_told}

-- the last of what is finished is the newest
pub placed_more : (fs : List Finished) (f : Finished) → placed (fs ++ f ∷ []) ≡ placed_one f ∷ placed fs
placed_more fs f = ap reverse (map-append placed_one fs (f ∷ [])) ∙ reverse-append (map placed_one fs) (placed_one f ∷ [])

pub placed_first : (f : Finished) (fs : List Finished) → placed (f ∷ fs) ≡ placed fs ++ placed_one f ∷ []
placed_first f fs = reverse-append (placed_one f ∷ []) (map placed_one fs)

pub takes_finished : (fs : List Finished) → sum_by takes_placed (map placed_one fs) ≡ sum_by takes_one fs
takes_finished [] = refl
takes_finished (f ∷ fs) =
    let a = sum_by-cons takes_one f fs in
    let b = sum_by-cons takes_placed (placed_one f) (map placed_one fs) in
    let ih = takes_finished fs in
    omega (arith, a, b, ih)

say_join : (ps qs : List Placed) → say (ps ++ qs) ≡ say ps ++ say qs
say_join [] qs = refl
say_join (p ∷ ps) qs = ap (λ l. said p.deed ∷ l) (say_join ps qs)

told_last : (ds : List Said) (d : Said) → ops_told (ds ++ d ∷ []) ≡ op_of d ∷ ops_told ds
told_last [] d = refl
told_last (e ∷ ds) d = ap (λ l. l ++ op_of e ∷ []) (told_last ds d)

-- in the order in which it was done
pub told_placed : (fs : List Finished) → ops_told (say (placed fs)) ≡ map op_done fs
told_placed [] = refl
told_placed (f ∷ fs) = ap (λ ps. ops_told (say ps)) (placed_first f fs) ∙ ap ops_told (say_join (placed fs) (placed_one f ∷ [])) ∙ told_last (say (placed fs)) (said f.deed) ∙ ap (λ l. op_done f ∷ l) (told_placed fs)

takes_many : (d : Deed) → cond (is_taken (op_of (said d))) 1 0 ≡ takes_of d
takes_many (Append q n tag previous body) = refl
takes_many (UnlinkHead q n tag body) = refl
takes_many (Close q) = refl
takes_many (Mark c tag previous) = refl

-- how many messages finished operations took
pub count_takes : (fs : List Finished) → length (filter is_taken (map op_done fs)) ≡ sum_by takes_one fs
count_takes [] = refl
count_takes (f ∷ fs) =
    let a = sum_by-cons takes_one f fs in
    let b = takes_many f.deed in
    let c = count_takes fs in
    elim (cases_Bool (is_taken (op_done f))) [
      | inl y ↦ let d : 1 ≡ takes_one f = sym (rw y refl) ∙ b in rw y (omega (arith, a, c, d))
      | inr n ↦ let d : 0 ≡ takes_one f = sym (rw n refl) ∙ b in rw n (omega (arith, a, c, d))
    ]
