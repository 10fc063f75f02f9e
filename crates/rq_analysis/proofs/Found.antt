-- What an inverse needs is there.
use Rattle.std.proofs.Common.{◌≡◌, ℕ, ◌/◌, ◌||◌, List, [], ◌∷◌, sym, ◌∙◌, ap, true, false, inl, inr}
use Rattle.std.proofs.lemmas.Bool.{false≢true, true≢false}
use Rattle.rq_model.specs.declared.record.Deed.{Deed}
use Rattle.rq_model.specs.declared.record.Deed.TheVariants.{Append, UnlinkHead, Close, Mark}
use Rattle.rq_page.specs.Sizes.{client_slot_at, directory_at}
use Rattle.rq_txn.specs.Rows.{Row, any_under}
use Rattle.rq_store.specs.State.{State}
use Rattle.rq_sound.specs.Groups.{slots_now}
use Rattle.rq_sound.specs.Latching.{any_latched, at_head, before_tail}
use Rattle.rq_sound.specs.Sound.{IsSound}
use Rattle.rq_sound.proofs.Groups.{all_stand, none_latched}
use Rattle.rq_sound.proofs.UsedCells.{some_free}
use Rattle.rq_sound.specs.Inverses.{InverseIsLatched, MayBeUndone}

none_any : (rows : List Row) (xs : List ℕ) → any_under rows ≡ false → any_latched rows xs ≡ true → ⊥
none_any rows [] e h = false≢true h
none_any rows (a ∷ xs) e h = none_any rows xs e (ap (λ b. b || any_latched rows xs) (sym (none_latched rows (a / 16) e)) ∙ h)

pub free_of_latches : (s : State) (d : Deed) → IsSound s → MayBeUndone s d → any_under s.rows ≡ false → InverseIsLatched s.sizes (slots_now s) s.rows d → ⊥
free_of_latches s (Append g n tag previous body) k may e h = none_any s.rows (before_tail (slots_now s) g) e h
free_of_latches s (UnlinkHead g n tag body) k may e h = elim h [
  | inl y ↦ none_any s.rows (at_head (slots_now s) g) e y
  | inr all ↦ let f = some_free s.sizes (slots_now s) (all_stand s k) may.1 in true≢false (sym (all f.0 f.1 f.2) ∙ none_latched s.rows (f.0 / 16) e)
]
free_of_latches s (Close g) k may e h = true≢false (sym h ∙ none_latched s.rows (directory_at g / 16) e)
free_of_latches s (Mark c tag previous) k may e h = none_any s.rows (client_slot_at s.sizes c ∷ []) e h
