-- What takes an operation back, over what its group shows, with operations on the other end of it between.
use Rattle.std.specs.Prelude.{◌≡◌, ◌≢◌, ℕ, ◌<◌, ◌^◌, true, false, List, Some, Ok, All, reverse}
use Rattle.rq_model.specs.declared.record.Deed.{Deed}
use Rattle.rq_model.specs.declared.record.Record.TheVariants.{OpEnd}
use Rattle.rq_model.specs.declared.txn.Txn.{Txn}
use Rattle.rq_model.specs.Vocabulary.{client_group}
use Rattle.rq_page.specs.Sizes.{Sizes}
use Rattle.rq_views.specs.Chain.{View, Taking, Sending, AreTaken, AreSent}
use Rattle.rq_views.specs.Inverses.{is_of_receiver}
use Rattle.rq_views.specs.Items.{layout_of}
use Rattle.rq_views.specs.Log.{HasBefores, Places, Slots, Write, applied}
use Rattle.rq_views.specs.Plans.{ShowsAt, ShowsTag, deed_sender, with_turn}
use Rattle.rq_views.specs.Plans.Turn.{Did}
use Rattle.rq_level.specs.LevelState.{LevelState}
use Rattle.rq_level.specs.Meaning.{Meaning}
use Rattle.rq_level.specs.Writes.{writes_of}
use Rattle.rq_level.specs.declared.slots.Given.{Given}
use Rattle.rq_level.specs.declared.writes.Plan.{Plan}

-- the writes of a plan, the newest first
abbrev pub newest_first : Sizes → Plan → List Write
newest_first z p = reverse (writes_of z p.writes.items)

-- each write is over what its slot holds before all of them
abbrev pub AreOverHeld : Slots → List Write → Type 0
AreOverHeld q ws = All (λ w. w.before ≡ q w.at) ws

-- the slots show this view of the group: in its sender's chain, or in its client's slot
pub record ShowsOf (l : Places) (q : Slots) (g : ℕ) (v : View) : Type 0 where
  pub sender : g < 2 ^ 32 → ShowsAt l q g v
  pub client : (c : ℕ) → g ≡ client_group c → ShowsTag l q c v

-- the writes leave slots that show v of the group, and each other group as it was
abbrev pub LeavesAt : Sizes → Plan → Slots → ℕ → View → Type 0
LeavesAt z p q g v = ShowsOf (layout_of z) (applied (newest_first z p) q) g v
    × ((r : ℕ) (x : View) → g ≢ r → ShowsOf (layout_of z) q r x → ShowsOf (layout_of z) (applied (newest_first z p) q) r x)

-- Over slots that show u of the group, what takes back the operation of level l whose end tells the deed leaves slots that
-- show w. Each of its writes is over what those before it leave, too.
abbrev pub LeadsBack : (l : ℕ) → Meaning → Sizes → ℕ → List ℕ → View → View → Type 0
LeadsBack l m z g deed u w = (k : LevelState) (t : Txn) (n : ℕ) (given : List Given) (latched : List ℕ) (p : Plan)
    (after : LevelState) (q : Slots) → k.sizes ≡ Some z → m.undoes k (OpEnd t n l deed) given latched (Ok p) after
    → AreOverHeld q (newest_first z p) → ShowsOf (layout_of z) q g u
    → HasBefores (newest_first z p) q × LeavesAt z p q g w

-- An operation of level l does to the view v what its deed tells. Operations on the other end lead on from there to u. They could be
-- done without it too, with the same replies, and would lead from v to w. What takes it back leads from u to w.
pub record LeavesOthers (l : ℕ) (m : Meaning) (z : Sizes) (d : Deed) (v : View) (q : Slots) (p : Plan) : Type 0 where
  -- each write is over what those before it leave
  pub over : HasBefores (newest_first z p) q
  pub does : LeavesAt z p q (deed_sender d) (with_turn (Did d) v)
  pub takings : is_of_receiver (Did d) ≡ false → v.closed ≡ false → (ops : List Taking) (u w : View)
      → AreTaken ops (with_turn (Did d) v) u → AreTaken ops v w → LeadsBack l m z (deed_sender d) p.deed u w
  pub sendings : is_of_receiver (Did d) ≡ true → (ops : List Sending) (u w : View) → AreSent ops (with_turn (Did d) v) u
      → AreSent ops v w → LeadsBack l m z (deed_sender d) p.deed u w
