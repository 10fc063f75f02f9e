-- For worked cases: a slot write in bytes, and an operation with so many writes made.
use Rattle.std.specs.Prelude.{ℕ, ◌/◌, ◌%◌, ◌<◌, ◌^◌}
use Rattle.rq_page.specs.Slots.{slot_bytes}
use Rattle.rq_views.specs.Log.{Write}
use Rattle.rq_level.specs.declared.writes.SlotWrite.{SlotWrite}
use Rattle.rq_txn.specs.Rows.{Under}

-- a slot write with the bytes of what it leaves
abbrev pub spelled : (w : Write) → w.at / 16 < 2 ^ 32 → 0 < w.at % 16 → SlotWrite
spelled w page slot = record {
  at = w.at;
  before = slot_bytes w.before;
  after = slot_bytes w.after;
  page = page;
  slot = slot;
}

abbrev pub with_made : ℕ → Under → Under
with_made n u = record u { made = n }
