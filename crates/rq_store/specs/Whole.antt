-- A legal log of a store.
use Rattle.std.specs.Prelude.{◌≡◌, List, [], ◌∷◌, length, Option, Some, None}
use Rattle.rq_model.specs.declared.record.Record.{Record}
use Rattle.rq_model.specs.declared.record.Record.TheVariants.{PageOp, Base}
use Rattle.rq_model.specs.declared.txn.Txn.{Txn}
use Rattle.rq_model.specs.Bases.{earlier}
use Rattle.rq_model.specs.Incarnations.{InOrder, txn_of}
use Rattle.rq_model.specs.Rules.{KeepsRules}
use Rattle.rq_page.specs.Sizes.{Sizes, cell_count}
use Rattle.rq_page.specs.Slots.{IsSlotOf}
use Rattle.rq_views.specs.Items.{items, layout_of, ReadsItsDeeds}
use Rattle.rq_views.specs.Claims.{HasRoom}
use Rattle.rq_views.specs.Numbers.{AreNumbered}
use Rattle.rq_views.specs.Legal.{IsLegalLog}
use Rattle.rq_views.specs.Groups.{DeedsTellViews}
use Rattle.rq_views.specs.InStore.{InStore, IsStranger}

-- each before-image of the log is a slot of the store
abbrev pub IsBefore : Sizes → Record → Type 0
IsBefore z (PageOp t n page slot before after) = IsSlotOf z page slot before
IsBefore z _ = Unit {0}

abbrev pub BeforesAreSlots : Sizes → List Record → Type 0
BeforesAreSlots z [] = Unit {0}
BeforesAreSlots z (r ∷ log) = IsBefore z r × BeforesAreSlots z log

-- a Base tells how many records stood before it
abbrev pub IsBased : List Record → Record → Type 0
IsBased log (Base many i) = many ≡ length log
IsBased log _ = Unit {0}

abbrev pub AreBased : List Record → Type 0
AreBased [] = Unit {0}
AreBased (r ∷ log) = IsBased log r × AreBased log

-- a transaction that has a record has none before the newest Base
abbrev pub IsBehind : List Record → Option Txn → Type 0
IsBehind log None = Unit {0}
IsBehind log (Some t) = IsStranger t (earlier log)

abbrev pub AreBehind : List Record → Type 0
AreBehind [] = Unit {0}
AreBehind (r ∷ log) = IsBehind log (txn_of r) × AreBehind log

-- a legal log of the store
pub record IsWhole (z : Sizes) (log : List Record) : Type 0 where
  pub legal : IsLegalLog (layout_of z) (items z log)
  pub told : DeedsTellViews (items z log)
  pub rules : KeepsRules log
  pub reads : ReadsItsDeeds log
  pub in_store : InStore z log
  pub befores : BeforesAreSlots z log
  pub order : InOrder log
  pub based : AreBased log
  pub behind : AreBehind log
  pub room : HasRoom (cell_count z) (items z log)
  pub numbers : AreNumbered (items z log)
