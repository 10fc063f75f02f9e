-- A transaction that a crash leaves with something to put back finds a cell for it.
use Rattle.std.proofs.Common.{◌≡◌, ℕ, ◌<◌, ◌∙◌, List, false, arith}
use Rattle.std.specs.List.{sum_by}
use Rattle.rq_model.specs.declared.txn.Sub.{Sub}
use Rattle.rq_model.specs.declared.txn.Txn.{Txn}
use Rattle.rq_model.specs.declared.record.Record.{Record}
use Rattle.rq_page.specs.Sizes.{Sizes, IsCellAddress}
use Rattle.rq_page.specs.Slots.Slot.{Free}
use Rattle.rq_views.specs.Claims.{takes_placed}
use Rattle.rq_views.specs.Items.{items, layout_of}
use Rattle.rq_views.specs.Legal.{open_deeds, under_way}
use Rattle.rq_views.proofs.Claims.{taken_have_cells}
use Rattle.rq_views.proofs.Idle.{idle_quiet}
use Rattle.rq_views.proofs.Stands.{quiet_stand}
use Rattle.rq_store.specs.Fitting.{left_by}
use Rattle.rq_store.specs.Whole.{IsWhole}
use Rattle.rq_sound.proofs.UsedCells.{some_free}

pub lost_finds_cell : (z : Sizes) (log : List Record) (t : Txn) → IsWhole z log → ((o : Sub) → under_way o (items z log) ≡ false) → 0 < sum_by takes_placed (open_deeds t (items z log))
    → (a : ℕ) × IsCellAddress z a × ((left_by z log).slots a ≡ Free)
lost_finds_cell z log t whole idle took =
    let a = taken_have_cells z log t whole.legal whole.in_store whole.room in
    let f = some_free z (left_by z log).quiet (quiet_stand z log whole.in_store) (omega (arith, a, took)) in
    (f.0, f.1, idle_quiet (layout_of z) (items z log) whole.legal idle f.0 ∙ f.2)
