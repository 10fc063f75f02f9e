-- What operations under way are for, where the slots of their groups stand, and how their inverses end.
use Rattle.std.specs.Prelude.{ℕ}
use Rattle.rq_model.specs.declared.txn.Txn.{Txn}
use Rattle.rq_model.specs.declared.record.Deed.{Deed}
use Rattle.rq_model.specs.declared.record.Deed.TheVariants.{Append, UnlinkHead, Close, Mark}
use Rattle.rq_model.specs.declared.record.Record.{Record}
use Rattle.rq_model.specs.declared.record.Record.TheVariants.{CompEnd}
use Rattle.rq_page.specs.Sizes.{Sizes, client_slot_at, directory_at}
use Rattle.rq_views.specs.Plans.{Turn}
use Rattle.rq_views.specs.Plans.Turn.{Did, Undid}
use Rattle.rq_txn.specs.declared.Aim.{Aim}
use Rattle.rq_txn.specs.declared.Aim.TheVariants.{Doing, Undoing}

abbrev pub turn_of : Aim → Turn
turn_of (Doing d) = Did d
turn_of (Undoing lsn d) = Undid d

-- a deed's own slot: the directory slot of its sender, or its client's slot of a tag page
abbrev pub own_slot : Sizes → Deed → ℕ
own_slot z (Append s n tag previous body) = directory_at s
own_slot z (UnlinkHead s n tag body) = directory_at s
own_slot z (Close s) = directory_at s
own_slot z (Mark c tag previous) = client_slot_at z c

-- the record of an inverse's end
abbrev pub comp_end : Txn → ℕ → ℕ → Record
comp_end t n lsn = CompEnd t n lsn
