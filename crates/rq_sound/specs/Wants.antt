-- What a level finds in a sound store, where it was given the slots that it wants.
use Rattle.std.specs.Prelude.{◌≡◌, ℕ, ◌/◌, ◌<◌, ◌≤◌, ◌^◌, ◌++◌, true, false, List, [], ◌∷◌, length}
use Rattle.rq_model.specs.declared.record.Deed.{Deed}
use Rattle.rq_model.specs.declared.record.Deed.TheVariants.{Append, UnlinkHead, Close, Mark}
use Rattle.rq_page.specs.Sizes.{Sizes, client_count, client_slot_at, directory_at, sender_count}
use Rattle.rq_views.specs.Items.{items}
use Rattle.rq_views.specs.Legal.{view}
use Rattle.rq_views.specs.Plans.Turn.{Undid}
use Rattle.rq_level.specs.declared.slots.Given.{Given}
use Rattle.rq_level.specs.ChainPlans.{CanSend, CanReceive, CanMark, CanUnlinkTail, CanPutBack}
use Rattle.rq_level.specs.Given.{GivenHolds}
use Rattle.rq_level.specs.TagPlans.{CanTag, CanUntag}
use Rattle.rq_txn.specs.declared.Finished.{Finished}
use Rattle.rq_groups.specs.Waiting.{waits}
use Rattle.rq_txn.specs.Rows.{Row, latched_in}
use Rattle.rq_store.specs.State.{State}
use Rattle.rq_sound.specs.Sound.{IsSound}
use Rattle.rq_sound.specs.Calls.{IsIdle}
use Rattle.rq_sound.specs.Groups.{slots_now}
use Rattle.rq_sound.specs.Latching.{at_tail, behind_head, needed}
use Rattle.rq_sound.specs.Rows.{own_slot}

-- these slots were given, as they are
abbrev pub AreGivenOf : State → List Given → List ℕ → Type 0
AreGivenOf s given [] = Unit {0}
AreGivenOf s given (a ∷ rest) = GivenHolds s.sizes given a (slots_now s a) × AreGivenOf s given rest

-- they hold what the inverse of a deed needs
abbrev pub CanUndo : Sizes → List Given → Deed → Type 0
CanUndo z given (Append g n tag previous body) = CanUnlinkTail z given g n
CanUndo z given (UnlinkHead g n tag body) = CanPutBack z given g n
CanUndo z given (Close g) = CanMark z given g false
CanUndo z given (Mark c tag previous) = CanUntag z given c tag

-- Where nobody has latched the page of a group's directory slot, or of a client's, what a level is given of the slots that
-- it wants holds what its operation needs: it finds no damage.
pub record LevelsFindAll : Type 0 where
  pub sends : (s : State) (given : List Given) (g : ℕ) → IsSound s → g < sender_count s.sizes
      → latched_in s.rows (directory_at g / 16) ≡ false → length s.records ≤ 2 ^ 50
      → AreGivenOf s given (at_tail (slots_now s) g) → CanSend s.sizes given g
  pub receives : (s : State) (given : List Given) (g : ℕ) → IsSound s → g < sender_count s.sizes
      → latched_in s.rows (directory_at g / 16) ≡ false → 1 ≤ waits s.waiting g
      → AreGivenOf s given (behind_head (slots_now s) g) → CanReceive s.sizes given g
  pub closes : (s : State) (given : List Given) (g : ℕ) → IsSound s → g < sender_count s.sizes
      → latched_in s.rows (directory_at g / 16) ≡ false → (view (items s.sizes s.records) g).closed ≡ false
      → AreGivenOf s given (directory_at g ∷ []) → CanMark s.sizes given g true
  pub tags : (s : State) (given : List Given) (c : ℕ) → IsSound s → c < client_count s.sizes
      → latched_in s.rows (client_slot_at s.sizes c / 16) ≡ false → length s.records ≤ 2 ^ 50
      → AreGivenOf s given (client_slot_at s.sizes c ∷ []) → CanTag s.sizes given c
  pub undoes : (s : State) (given : List Given) (r : Row) (rest : List Finished) (f : Finished) → IsSound s
      → IsIdle s r → r.finished ≡ rest ++ f ∷ [] → latched_in s.rows (own_slot s.sizes f.deed / 16) ≡ false
      → AreGivenOf s given (needed s.sizes (slots_now s) (Undid f.deed)) → CanUndo s.sizes given f.deed
