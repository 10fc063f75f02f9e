-- What the records of a log come to, and the report that says so. A log is its records, the newest first.
use Rattle.std.specs.Prelude.{◌≡◌, ℕ, Bool, false, not, ◌&&◌, ◌||◌, nat_eq, List, [], ◌∷◌, ◌++◌, codes, decimal, flat_map, length, map}
use Rattle.std.specs.List.Sorted.{IsStrictlySortedBy}
use Rattle.rq_model.specs.declared.txn.Txn.{Txn}
use Rattle.rq_model.specs.declared.record.Record.{Record}
use Rattle.rq_model.specs.declared.record.Record.TheVariants.{PageOp, OpEnd, Commit}
use Rattle.rq_model.specs.Commits.{committed_of}
use Rattle.rq_model.specs.Content.{ends_txn}
use Rattle.rq_model.specs.Ledger.{Done}
use Rattle.rq_model.specs.Unended.{any_record, operation_ended}
use Rattle.rq_model.specs.Vocabulary.{same_txn}
use Rattle.rq_inspect.specs.declared.keys.TxnKey.{TxnKey}
use Rattle.rq_inspect.specs.declared.keys.OperationKey.{OperationKey}
use Rattle.rq_inspect.specs.Keys.{names_operation, names_txn, operation_order, txn_of, txn_order}
use Rattle.rq_inspect.specs.Lines.{operation_text, txn_text}

-- how many records, the operations that are unfinished, the transactions that are lost, and those that committed
pub record Reported : Type 0 where
  pub records : ℕ
  pub unfinished : List OperationKey
  pub lost : List TxnKey
  pub committed : List Txn

-- the record is a PageOp of the operation
abbrev pub writes : Txn → ℕ → Record → Bool
writes t n (PageOp u m page slot before after) = same_txn u t && nat_eq m n
writes t n _ = false

-- the record is an OpEnd of the transaction
abbrev pub finishes : Txn → Record → Bool
finishes t (OpEnd u n level deed) = same_txn u t
finishes t _ = false

-- it has a PageOp, and neither OpEnd, CompEnd nor OpVoid
abbrev pub is_unfinished : Txn → ℕ → List Record → Bool
is_unfinished t n log = any_record (writes t n) log && not (any_record (operation_ended t n) log)

-- it has an OpEnd, and neither Commit nor AbortEnd
abbrev pub is_lost : Txn → List Record → Bool
is_lost t log = any_record (finishes t) log && not (any_record (ends_txn t) log)

-- whose the Commit records are, in their order
abbrev pub commits : List Record → List Txn
commits log = map (λ (d : Done). d.txn) (committed_of log)

-- These are a log's: each unfinished operation and each lost transaction once, by rising number.
pub record IsReport (log : List Record) (r : Reported) : Type 0 where
  pub records : r.records ≡ length log
  pub unfinished : (t : Txn) (n : ℕ) → names_operation t n r.unfinished ≡ is_unfinished t n log
  pub unfinished_rise : IsStrictlySortedBy operation_order r.unfinished
  pub lost : (t : Txn) → names_txn t r.lost ≡ is_lost t log
  pub lost_rise : IsStrictlySortedBy txn_order r.lost
  pub committed : r.committed ≡ commits log

-- each behind a blank
abbrev pub each : {X : Type 0} → (X → List ℕ) → List X → List ℕ
each text xs = flat_map (λ x. codes " " ++ text x) xs

-- a word, how many there are, and each behind a blank
abbrev pub named : {X : Type 0} → List ℕ → (X → List ℕ) → List X → List ℕ
named word text xs = word ++ (codes " " ++ (decimal (length xs) ++ (each text xs ++ codes "\n")))

abbrev pub operation_key_text : OperationKey → List ℕ
operation_key_text k = operation_text (txn_of k.txn) k.number

abbrev pub txn_key_text : TxnKey → List ℕ
txn_key_text k = txn_text (txn_of k)

-- the lines of a report
abbrev pub report_text : Reported → List ℕ
report_text r =
    (codes "records " ++ (decimal r.records ++ codes "\n"))
    ++ (named (codes "unfinished") operation_key_text r.unfinished
    ++ (named (codes "lost") txn_key_text r.lost ++ named (codes "committed") txn_text r.committed))

-- ---- how it is come to, record by record

-- some record begins it, and none from there on ends it
abbrev pub stands : (Record → Bool) → (Record → Bool) → List Record → Bool
stands begins ends [] = false
stands begins ends (r ∷ log) = not (ends r) && (begins r || stands begins ends log)

-- What a log comes to that was read once, and of which some records were read a second time. An operation is named that wrote a
-- slot behind its end, if it has one. No end of it is among those read again. A transaction is named likewise.
pub record Tells (log again : List Record) (r : Reported) : Type 0 where
  pub records : r.records ≡ length log
  pub unfinished : (t : Txn) (n : ℕ) → names_operation t n r.unfinished
      ≡ (stands (writes t n) (operation_ended t n) log && not (any_record (operation_ended t n) again))
  pub lost : (t : Txn) → names_txn t r.lost
      ≡ (stands (finishes t) (ends_txn t) log && not (any_record (ends_txn t) again))
  pub committed : r.committed ≡ commits log

abbrev pub committed_by : Record → List Txn
committed_by (Commit t) = t ∷ []
committed_by _ = []

-- what a record begins is named, too
pub record Begins (r : Record) (old new : Reported) : Type 0 where
  pub unfinished : (t : Txn) (n : ℕ) → names_operation t n new.unfinished ≡ (writes t n r || names_operation t n old.unfinished)
  pub lost : (t : Txn) → names_txn t new.lost ≡ (finishes t r || names_txn t old.lost)
  pub committed : new.committed ≡ old.committed ++ committed_by r

-- what it ends is named no more
pub record Ends (r : Record) (old new : Reported) : Type 0 where
  pub records : new.records ≡ old.records
  pub unfinished : (t : Txn) (n : ℕ) → names_operation t n new.unfinished
      ≡ (not (operation_ended t n r) && names_operation t n old.unfinished)
  pub lost : (t : Txn) → names_txn t new.lost ≡ (not (ends_txn t r) && names_txn t old.lost)
  pub committed : new.committed ≡ old.committed
