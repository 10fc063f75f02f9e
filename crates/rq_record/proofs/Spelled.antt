-- The spelling of each kind, with its length written out.
use Rattle.std.proofs.Common.{◌≡◌, ℕ, ◌+◌, List, ◌∷◌, ◌++◌, length, ap, append_assoc, arith}
use Rattle.rq_model.specs.declared.txn.Txn.{Txn}
use Rattle.rq_model.specs.declared.record.Record.{Record}
use Rattle.rq_model.specs.declared.record.Record.TheVariants.{PageOp, PageUndo, OpEnd, OpVoid, CompEnd, Commit, Restart, AbortEnd, Base}
use Rattle.rq_record.specs.Spelling.{txn_bytes, kind_number, fields, spelling}
use Rattle.rq_bytes.specs.Number.{number}
use Rattle.rq_record.proofs.Records.{length-txn, length-page_op, length-page_undo, length-op_end, length-op_void, length-comp_end, length-commit, length-restart, length-abort_end, length-base}
use Rattle.std.proofs.lemmas.List.{length-append}
use Rattle.rq_bytes.proofs.Strings.{length-number}
use Rattle.rq_record.proofs.Whole.{length-spelling}

-- a record whose length is known
spelled : (r : Record) (size : ℕ) → 1 + length (fields r) ≡ size → spelling r ≡ number 4 size ++ (kind_number r ∷ fields r)
unfolding spelling
spelled r size e = ap (λ (n : ℕ). number 4 n ++ (kind_number r ∷ fields r)) e

pub spelling-page_op : (txn : Txn) (operation page slot : ℕ) (before after : List ℕ) → length before ≡ 256 → length after ≡ 256
    → spelling (PageOp txn operation page slot before after) ≡ number 4 542 ++ (1 ∷ (txn_bytes txn ++ (number 8 operation ++ (number 4 page ++ (slot ∷ (before ++ after))))))
unfolding fields
spelling-page_op txn operation page slot before after b a = spelled (PageOp txn operation page slot before after) 542 (length-page_op txn operation page slot before after b a)

pub spelling-page_undo : (txn : Txn) (operation undone page slot : ℕ) (after : List ℕ) → length after ≡ 256
    → spelling (PageUndo txn operation undone page slot after) ≡ number 4 294 ++ (2 ∷ (txn_bytes txn ++ (number 8 operation ++ (number 8 undone ++ (number 4 page ++ (slot ∷ after))))))
unfolding fields
spelling-page_undo txn operation undone page slot after a = spelled (PageUndo txn operation undone page slot after) 294 (length-page_undo txn operation undone page slot after a)

pub spelling-op_end : (txn : Txn) (operation level : ℕ) (deed : List ℕ) → spelling (OpEnd txn operation level deed) ≡ number 4 (26 + length deed) ++ (3 ∷ (txn_bytes txn ++ (number 8 operation ++ (level ∷ deed))))
unfolding fields
spelling-op_end txn operation level deed = spelled (OpEnd txn operation level deed) (26 + length deed) (length-op_end txn operation level deed)

pub spelling-op_void : (txn : Txn) (operation : ℕ) → spelling (OpVoid txn operation) ≡ number 4 25 ++ (4 ∷ (txn_bytes txn ++ number 8 operation))
unfolding fields
spelling-op_void txn operation = spelled (OpVoid txn operation) 25 (length-op_void txn operation)

pub spelling-comp_end : (txn : Txn) (operation undone : ℕ) → spelling (CompEnd txn operation undone) ≡ number 4 33 ++ (5 ∷ (txn_bytes txn ++ (number 8 operation ++ number 8 undone)))
unfolding fields
spelling-comp_end txn operation undone = spelled (CompEnd txn operation undone) 33 (length-comp_end txn operation undone)

pub spelling-commit : (txn : Txn) → spelling (Commit txn) ≡ number 4 17 ++ (6 ∷ txn_bytes txn)
unfolding fields
spelling-commit txn = spelled (Commit txn) 17 (length-commit txn)

pub spelling-restart : (incarnation : ℕ) → spelling (Restart incarnation) ≡ number 4 9 ++ (7 ∷ number 8 incarnation)
unfolding fields
spelling-restart incarnation = spelled (Restart incarnation) 9 (length-restart incarnation)

pub spelling-abort_end : (txn : Txn) → spelling (AbortEnd txn) ≡ number 4 17 ++ (8 ∷ txn_bytes txn)
unfolding fields
spelling-abort_end txn = spelled (AbortEnd txn) 17 (length-abort_end txn)

pub spelling-base : (records incarnation : ℕ) → spelling (Base records incarnation) ≡ number 4 17 ++ (9 ∷ (number 8 records ++ number 8 incarnation))
unfolding fields
spelling-base records incarnation = spelled (Base records incarnation) 17 (length-base records incarnation)

-- how many bytes a spelling has, by kinds
page_op_fields : (txn : Txn) (operation page slot : ℕ) (before after : List ℕ) → length (fields (PageOp txn operation page slot before after)) ≡ 29 + length before + length after
unfolding fields
page_op_fields txn operation page slot before after = simp (length-append, length-txn, length-number) (omega arith)

page_undo_fields : (txn : Txn) (operation undone page slot : ℕ) (after : List ℕ) → length (fields (PageUndo txn operation undone page slot after)) ≡ 37 + length after
unfolding fields
page_undo_fields txn operation undone page slot after = simp (length-append, length-txn, length-number) (omega arith)

size_known : (r : Record) (size : ℕ) → 1 + length (fields r) ≡ size → length (spelling r) ≡ 4 + size
size_known r size e = omega (arith, length-spelling r, e)

pub length-spelling_page_op : (txn : Txn) (operation page slot : ℕ) (before after : List ℕ) → length (spelling (PageOp txn operation page slot before after)) ≡ 34 + length before + length after
length-spelling_page_op txn operation page slot before after = omega (arith, length-spelling (PageOp txn operation page slot before after), page_op_fields txn operation page slot before after)

pub length-spelling_page_undo : (txn : Txn) (operation undone page slot : ℕ) (after : List ℕ) → length (spelling (PageUndo txn operation undone page slot after)) ≡ 42 + length after
length-spelling_page_undo txn operation undone page slot after = omega (arith, length-spelling (PageUndo txn operation undone page slot after), page_undo_fields txn operation undone page slot after)

pub length-spelling_op_end : (txn : Txn) (operation level : ℕ) (deed : List ℕ) → length (spelling (OpEnd txn operation level deed)) ≡ 30 + length deed
length-spelling_op_end txn operation level deed = omega (arith, size_known (OpEnd txn operation level deed) (26 + length deed) (length-op_end txn operation level deed))

pub length-spelling_op_void : (txn : Txn) (operation : ℕ) → length (spelling (OpVoid txn operation)) ≡ 29
length-spelling_op_void txn operation = size_known (OpVoid txn operation) 25 (length-op_void txn operation)

pub length-spelling_comp_end : (txn : Txn) (operation undone : ℕ) → length (spelling (CompEnd txn operation undone)) ≡ 37
length-spelling_comp_end txn operation undone = size_known (CompEnd txn operation undone) 33 (length-comp_end txn operation undone)

pub length-spelling_commit : (txn : Txn) → length (spelling (Commit txn)) ≡ 21
length-spelling_commit txn = size_known (Commit txn) 17 (length-commit txn)

pub length-spelling_restart : (incarnation : ℕ) → length (spelling (Restart incarnation)) ≡ 13
length-spelling_restart incarnation = size_known (Restart incarnation) 9 (length-restart incarnation)

pub length-spelling_abort_end : (txn : Txn) → length (spelling (AbortEnd txn)) ≡ 21
length-spelling_abort_end txn = size_known (AbortEnd txn) 17 (length-abort_end txn)

pub length-spelling_base : (records incarnation : ℕ) → length (spelling (Base records incarnation)) ≡ 21
length-spelling_base records incarnation = size_known (Base records incarnation) 17 (length-base records incarnation)

pub ruleset spellings = (spelling-page_op, spelling-page_undo, spelling-op_end, spelling-op_void, spelling-comp_end, spelling-commit, spelling-restart, spelling-abort_end, spelling-base, append_assoc)

pub ruleset lengths = (length-spelling_page_op, length-spelling_page_undo, length-spelling_op_end, length-spelling_op_void, length-spelling_comp_end, length-spelling_commit, length-spelling_restart, length-spelling_abort_end, length-spelling_base)
