-- What holds of every legal log.
use Rattle.std.specs.Prelude.{◌≡◌, ◌≢◌, Bool, ℕ, ◌<◌, List, [], Some}
use Rattle.rq_model.specs.declared.txn.Sub.{Sub}
use Rattle.rq_model.specs.declared.txn.Txn.{Txn}
use Rattle.rq_model.specs.declared.record.Deed.{Deed}
use Rattle.rq_model.specs.declared.record.Record.{Record}
use Rattle.rq_model.specs.Content.{content}
use Rattle.rq_model.specs.Rules.{KeepsRules}
use Rattle.rq_page.specs.Sizes.{Sizes}
use Rattle.rq_views.specs.Committed.{IsViewOf}
use Rattle.rq_views.specs.Items.{items, layout_of, ReadsItsDeeds}
use Rattle.rq_views.specs.Chain.{View}
use Rattle.rq_views.specs.Log.{HasBefores, Item, Places, Slots, Write, applied, state_of}
use Rattle.rq_views.specs.Plans.{IsPlan, ShowsAt, Spares, Turn}
use Rattle.rq_views.specs.Legal.{IsLegalLog, IsLayout, open_deeds, view, view_after}
use Rattle.rq_views.specs.Groups.{KeepsGroups, DeedsTellViews, committed, on_sending_end, on_receiving_end, side, with_all}

-- The writes of one operation over slots that hold what they are to be written over: where these show a sender's chain, they
-- show it as the operation leaves it; and that of another sender as it was.
abbrev pub PlansChangeOneChain : Type 0
PlansChangeOneChain = (l : Places) (q : Slots) (ws : List Write) (turn : Turn) (s : ℕ) (v : View) → IsPlan l turn ws
    → HasBefores ws q → s < l.senders → ShowsAt l q s v → ShowsAt l (applied ws q) s (view_after s (Some turn) v)

-- the slots that whole operations alone have written show, of each sender, the fold of what its operations did and
-- undid, whatever is under way
abbrev pub QuietSlotsShowTheFold : Type 0
QuietSlotsShowTheFold = (l : Places) (log : List Item) (s : ℕ) → IsLayout l → IsLegalLog l log → s < l.senders
    → ShowsAt l (state_of l log).quiet s (view log s)

-- and so do the slots as they are, of a sender over whose slots no operation under way has written
abbrev pub IdleSlotsShowTheFold : Type 0
IdleSlotsShowTheFold = (l : Places) (log : List Item) (s : ℕ) → IsLayout l → IsLegalLog l log → s < l.senders
    → ((o : Sub) → Spares s ((state_of l log).writes o)) → ShowsAt l (state_of l log).slots s (view log s)

-- what a transaction did at an end of the sender, neither committed nor undone
abbrev pub side_of : (Deed → Bool) → List Item → Txn → List Deed
side_of f log t = side f (open_deeds t log)

-- One transaction at most has such deeds at each end, and the view is what is committed, without what the one at the
-- receiving end took, and then what the one at the sending end sent.
pub record IsHeldBy (log : List Item) (s : ℕ) : Type 0 where
  pub sender : Txn
  pub taker : Txn
  pub shown : view log s ≡ with_all (side_of (on_sending_end s) log sender)
      (with_all (side_of (on_receiving_end s) log taker) (committed log s))
  pub send : (u : Txn) → u ≢ sender → side_of (on_sending_end s) log u ≡ []
  pub take : (u : Txn) → u ≢ taker → side_of (on_receiving_end s) log u ≡ []

abbrev pub ViewsAreHolders : Type 0
ViewsAreHolders = (z : Sizes) (s : ℕ) (log : List Record) → IsLegalLog (layout_of z) (items z log) → KeepsRules log
    → ReadsItsDeeds log → DeedsTellViews (items z log) → IsHeldBy (items z log) s

-- where every transaction has ended, the fold is what committed transactions leave
abbrev pub SettledFoldIsCommitted : Type 0
SettledFoldIsCommitted = (s : ℕ) (log : List Item) → KeepsGroups log → ((t : Txn) → open_deeds t log ≡ [])
    → view log s ≡ committed log s

-- what the chains of committed transactions hold is the content of the log
abbrev pub CommittedIsContent : Type 0
CommittedIsContent = (z : Sizes) (s : ℕ) (log : List Record) → KeepsRules log → ReadsItsDeeds log
    → IsViewOf s (content log s) (committed (items z log) s)

-- where only the holder of an end uses it and each deed tells what it was done over, each sender's view is that of its
-- holders
abbrev pub RulesKeepGroups : Type 0
RulesKeepGroups =
    (z : Sizes) (log : List Record) → IsLegalLog (layout_of z) (items z log) → KeepsRules log → ReadsItsDeeds log
    → DeedsTellViews (items z log) → KeepsGroups (items z log)
