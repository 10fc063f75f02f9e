-- What committed transactions leave of each sender, and what those that hold its ends add.
use Rattle.rq_model.specs.declared.record.Deed.{Deed}
use Rattle.rq_model.specs.declared.txn.Txn.{Txn}
use Rattle.rq_model.specs.Vocabulary.{client_group}
use Rattle.std.specs.Prelude.{◌≡◌, ◌≢◌, ℕ, ◌+◌, ◌<◌, ◌==◌, List, [], ◌∷◌, length, Bool, true, false, cond}
use Rattle.rq_views.specs.Chain.{View}
use Rattle.rq_views.specs.Log.{Item}
use Rattle.rq_model.specs.declared.record.Deed.TheVariants.{Append, UnlinkHead, Close, Mark}
use Rattle.rq_views.specs.Log.Item.{OpEnd, CompEnd, Commit}
use Rattle.rq_views.specs.Plans.{with_turn, deed_sender}
use Rattle.rq_views.specs.Plans.Turn.{Did}
use Rattle.rq_views.specs.Legal.{Placed, open_deeds, no_view, view}

abbrev pub on_sending_end : ℕ → Deed → Bool
on_sending_end s (Append r n tag previous body) = r == s
on_sending_end s (UnlinkHead r n tag body) = false
on_sending_end s (Close r) = r == s
on_sending_end s (Mark c tag previous) = client_group c == s

abbrev pub on_receiving_end : ℕ → Deed → Bool
on_receiving_end s (Append r n tag previous body) = false
on_receiving_end s (UnlinkHead r n tag body) = r == s
on_receiving_end s (Close r) = false
on_receiving_end s (Mark c tag previous) = false

abbrev pub side : (Deed → Bool) → List Placed → List Deed
side f [] = []
side f (p ∷ ps) = cond (f p.deed) (p.deed ∷ side f ps) (side f ps)

abbrev pub with_all : List Deed → View → View
with_all [] v = v
with_all (d ∷ ds) v = with_turn (Did d) (with_all ds v)

abbrev pub committed_after : ℕ → Item → List Item → View → View
committed_after s (Commit t) log v = with_all (side (on_sending_end s) (open_deeds t log))
    (with_all (side (on_receiving_end s) (open_deeds t log)) v)
committed_after s _ log v = v

-- what committed transactions leave of s
abbrev pub committed : List Item → ℕ → View
committed [] s = no_view
committed (r ∷ log) s = committed_after s r log (committed log s)

-- no transaction but t holds the end
abbrev pub Alone : (Deed → Bool) → Txn → List Item → Type 0
Alone f t log = (u : Txn) → u ≢ t → side f (open_deeds u log) ≡ []

-- the view that the deed was done over: nothing is sent to a closed group, nor is it closed again
abbrev pub TellsView : Deed → View → Type 0
TellsView (Append s n tag previous body) v =
    (previous ≡ v.last_tag) × (n ≡ v.received + length v.messages + 1) × (v.closed ≡ false)
TellsView (UnlinkHead s n tag body) v = (rest : List (ℕ × List ℕ)) × (v.messages ≡ (tag, body) ∷ rest) × (n ≡ v.received + 1)
TellsView (Close s) v = v.closed ≡ false
TellsView (Mark c tag previous) v = (previous ≡ v.last_tag) × (v.closed ≡ false)

-- the rule of groups and receives for a record: what it comes to over views
pub record MayTurn (log : List Item) (t : Txn) (d : Deed) (s : ℕ) : Type 0 where
  pub sends : on_sending_end s d ≡ true → Alone (on_sending_end s) t log × TellsView d (view log s)
  pub takes : on_receiving_end s d ≡ true → Alone (on_receiving_end s) t log × TellsView d (view log s)
      × (0 < length (with_all (side (on_receiving_end s) (open_deeds t log)) (committed log s)).messages)

abbrev pub MayGroup : List Item → Item → Type 0
MayGroup log (OpEnd o d) = (s : ℕ) → MayTurn log o.txn d s
MayGroup log (CompEnd o u) = open_deeds o.txn log ≢ []
MayGroup log _ = Unit {0}

abbrev pub KeepsGroups : List Item → Type 0
KeepsGroups [] = Unit {0}
KeepsGroups (r ∷ log) = MayGroup log r × KeepsGroups log

-- each deed tells what it was done over
abbrev pub TellsOne : List Item → Item → Type 0
TellsOne log (OpEnd o d) = TellsView d (view log (deed_sender d))
TellsOne log _ = Unit {0}

abbrev pub DeedsTellViews : List Item → Type 0
DeedsTellViews [] = Unit {0}
DeedsTellViews (r ∷ log) = TellsOne log r × DeedsTellViews log
