-- The spelling of each kind of record is as long as its kind says.
use Rattle.std.proofs.Common.{◌≡◌, ℕ, List, length, arith}
use Rattle.rq_model.specs.declared.txn.Txn.{Txn}
use Rattle.rq_model.specs.declared.record.Record.{Record}
use Rattle.rq_model.specs.declared.record.Record.TheVariants.{PageOp, PageUndo, OpEnd, OpVoid, CompEnd, Commit, Restart, AbortEnd, Base}
use Rattle.rq_record.specs.Spelling.{spelling, HasWidths}
use Rattle.rq_record.specs.Sizes.{length_of}
use Rattle.rq_record.proofs.Spelled.{length-spelling_page_op, length-spelling_page_undo, length-spelling_op_end, length-spelling_op_void, length-spelling_comp_end, length-spelling_commit, length-spelling_restart, length-spelling_abort_end, length-spelling_base}

-- a slot write, with two images
pub page_op_length : (txn : Txn) (operation page slot : ℕ) (before after : List ℕ) → length before ≡ 256 → length after ≡ 256 → length (spelling (PageOp txn operation page slot before after)) ≡ 546
page_op_length txn operation page slot before after b a = omega (arith, length-spelling_page_op txn operation page slot before after)

-- the undoing of one, with one image
pub page_undo_length : (txn : Txn) (operation undone page slot : ℕ) (after : List ℕ) → length after ≡ 256 → length (spelling (PageUndo txn operation undone page slot after)) ≡ 298
page_undo_length txn operation undone page slot after a = omega (arith, length-spelling_page_undo txn operation undone page slot after)

pub each_length : (r : Record) → HasWidths r → length (spelling r) ≡ length_of r
each_length (PageOp txn operation page slot before after) f = page_op_length txn operation page slot before after f.4.0 f.5.0
each_length (PageUndo txn operation undone page slot after) f = page_undo_length txn operation undone page slot after f.5.0
each_length (OpEnd txn operation level deed) f = length-spelling_op_end txn operation level deed
each_length (OpVoid txn operation) f = length-spelling_op_void txn operation
each_length (CompEnd txn operation undone) f = length-spelling_comp_end txn operation undone
each_length (Commit txn) f = length-spelling_commit txn
each_length (Restart incarnation) f = length-spelling_restart incarnation
each_length (AbortEnd txn) f = length-spelling_abort_end txn
each_length (Base records incarnation) f = length-spelling_base records incarnation
