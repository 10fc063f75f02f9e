-- How long the spelling of each kind of record is.
use Rattle.std.specs.Prelude.{◌≡◌, ℕ, ◌+◌, length}
use Rattle.rq_model.specs.declared.record.Record.{Record}
use Rattle.rq_model.specs.declared.record.Record.TheVariants.{PageOp, PageUndo, OpEnd, OpVoid, CompEnd, Commit, Restart, AbortEnd, Base}
use Rattle.rq_record.specs.Spelling.{spelling, HasWidths}

-- how many bytes a record of each kind has: its kind alone says it, but for an operation's end, where
-- the deed adds its own
abbrev pub length_of : Record → ℕ
length_of (PageOp txn operation page slot before after) = 546
length_of (PageUndo txn operation undone page slot after) = 298
length_of (OpEnd txn operation level deed) = 30 + length deed
length_of (OpVoid txn operation) = 29
length_of (CompEnd txn operation undone) = 37
length_of (Commit txn) = 21
length_of (Restart incarnation) = 13
length_of (AbortEnd txn) = 21
length_of (Base records incarnation) = 21

-- the spelling of each record that a program holds is that long
abbrev pub EachHasItsLength : Type 0
EachHasItsLength = (r : Record) → HasWidths r → length (spelling r) ≡ length_of r
