-- A slot write that is undone as the level of single slots says.
use Rattle.std.specs.Prelude.{◌≡◌, ◌+◌, ◌*◌, ◌≤◌}
use Rattle.rq_model.specs.declared.record.Record.{Record}
use Rattle.rq_model.specs.declared.record.Record.TheVariants.{PageOp}
use Rattle.rq_model.specs.declared.refusal.Refusal.{Refusal}
use Rattle.rq_model.specs.declared.refusal.Refusal.TheVariants as why
use Rattle.rq_record.specs.Spelling.{IsSlotNumber}
use Rattle.rq_level.specs.declared.writes.SlotWrite.{SlotWrite}

-- the write puts back what the record's write found, in a slot that a page has
abbrev pub PutsBackWrite : Record → SlotWrite → Type 0
PutsBackWrite (PageOp t n page slot before after) w =
    (1 ≤ slot) × (slot ≤ 15) × (w.at ≡ page * 16 + slot) × (w.before ≡ after) × (w.after ≡ before)
PutsBackWrite _ w = ⊥

-- the record tells a write of a slot that a page has
abbrev pub TellsWrite : Record → Type 0
TellsWrite (PageOp t n page slot before after) = IsSlotNumber slot
TellsWrite _ = ⊥

-- why there is none: memory is wanting, and the record tells a write; or it tells none
abbrev pub NotPutBackFor : Record → Refusal → Type 0
NotPutBackFor r why.NoMemory = TellsWrite r
NotPutBackFor r (why.Damaged d) = TellsWrite r → ⊥
NotPutBackFor r _ = ⊥
