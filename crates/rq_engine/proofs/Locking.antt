-- A lock that is taken for a start, and given back where it is refused.
use Rattle.std.proofs.Common.{◌≡◌, ℕ, Bool, not, cond, drop, List, refl, ap, ◌∙◌, inl, inr}
use Rattle.std.proofs.lemmas.Bool.{cases_Bool}
use Rattle.rq_model.specs.declared.txn.Txn.{Txn}
use Rattle.rq_model.specs.declared.refusal.Refusal.{Refusal}
use Rattle.rq_model.specs.declared.refusal.Refusal.TheVariants as why
use Rattle.rq_disk.specs.declared.device.PageDevice as page_device
use Rattle.rq_groups.specs.declared.End.{End}
use Rattle.rq_groups.specs.declared.End.TheVariants.{Sending, Receiving, Marking}
use Rattle.rq_groups.specs.declared.Held.{Held}
use Rattle.rq_groups.specs.Ends.{HeldEnds, has_held, with_held}
use Rattle.rq_groups.specs.Sides.{holds_end, with_end, without_newest}
use Rattle.rq_model.specs.Vocabulary.{client_group}
use Rattle.rq_store.specs.State.{State}
use Rattle.rq_engine.specs.KeptUp.{IsLeftBy, RefusalCounts, failed_by}
use Rattle.rq_engine.specs.Opened.{OpenStore}

held_before : (t : Txn) (s : ℕ) (hs : List Held) → cond (not (has_held t s hs)) (drop 1 (with_held t s hs)) (with_held t s hs) ≡ hs
held_before t s hs = elim (cases_Bool (has_held t s hs)) [ inl held ↦ rw held refl | inr free ↦ rw free refl ]

taken_before : (t : Txn) (end : End) (ends : HeldEnds) → without_newest end (not (holds_end t end ends)) (with_end t end ends) ≡ ends
taken_before t (Sending s) ends = ap (λ (l : List Held). record ends { sending = l }) (held_before t s ends.sending)
taken_before t (Receiving s) ends = ap (λ (l : List Held). record ends { receiving = l }) (held_before t s ends.receiving)
taken_before t (Marking c) ends = ap (λ (l : List Held). record ends { sending = l }) (held_before t (client_group c) ends.sending)

-- the ends are as they were
pub given_back : (t : Txn) (end : End) (newly : Bool) (ends now last : HeldEnds) → now ≡ with_end t end ends → newly ≡ not (holds_end t end ends) → last ≡ without_newest end newly now → last ≡ ends
given_back t end newly ends now last taken new given =
    given ∙ ap (without_newest end newly) taken ∙ ap (λ b. without_newest end b (with_end t end ends)) new ∙ taken_before t end ends

pub left_but_ends : (old new : State) (r : Refusal) (taken given : HeldEnds) → IsLeftBy (record old { ends = taken }) r new → given ≡ old.ends → IsLeftBy old r (record new { ends = given })
left_but_ends old new r taken given left back =
    ap (λ (s : State). record s { ends = given }) left ∙ ap (λ (ends : HeldEnds). record old { ends = ends; failed = failed_by old.failed r; images = new.images }) back

-- the store, with these ends
abbrev pub with_ends : {P L : Type 0} → HeldEnds → OpenStore P L → OpenStore P L
with_ends ends s = record s { state = record s.state { ends = ends } }

-- no device fails more for them
pub counts_but_ends : {P L : Type 0} (g : page_device.Ghosts P) (r : Refusal) (old new : OpenStore P L) (a b : HeldEnds) → RefusalCounts g r (with_ends a old) new → RefusalCounts g r old (with_ends b new)
counts_but_ends g why.DiskRead old new a b counts = counts
counts_but_ends g why.DiskWrite old new a b counts = counts
counts_but_ends g _ old new a b counts = counts
