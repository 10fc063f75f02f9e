-- How a record stands in the log, as bytes.
use Rattle.std.specs.Prelude.{◌≡◌, ℕ, ◌+◌, ◌<◌, ◌≤◌, ◌^◌, List, ◌∷◌, ◌++◌, length}
use Rattle.byteorder.specs.Endian.{big_number}
use Rattle.rq_bytes.specs.Number.{AreBytes, number}
use Rattle.rq_model.specs.declared.txn.Txn.{Txn}
use Rattle.rq_model.specs.declared.record.Record.{Record}
use Rattle.rq_model.specs.declared.record.Record.TheVariants.{PageOp, PageUndo, OpEnd, OpVoid, CompEnd, Commit, Restart, AbortEnd, Base}

-- the number of a transaction
unfoldable pub txn_bytes : Txn → List ℕ
txn_bytes txn = number 8 txn.incarnation ++ number 8 txn.count

-- the number of a record's kind
abbrev pub kind_number : Record → ℕ
kind_number (PageOp txn operation page slot before after) = 1
kind_number (PageUndo txn operation undone page slot after) = 2
kind_number (OpEnd txn operation level deed) = 3
kind_number (OpVoid txn operation) = 4
kind_number (CompEnd txn operation undone) = 5
kind_number (Commit txn) = 6
kind_number (Restart incarnation) = 7
kind_number (AbortEnd txn) = 8
kind_number (Base records incarnation) = 9

-- what stands after a record's kind
unfoldable pub fields : Record → List ℕ
fields (PageOp txn operation page slot before after) = txn_bytes txn ++
    (number 8 operation ++ (number 4 page ++ (slot ∷ (before ++ after))))
fields (PageUndo txn operation undone page slot after) = txn_bytes txn ++
    (number 8 operation ++ (number 8 undone ++ (number 4 page ++ (slot ∷ after))))
fields (OpEnd txn operation level deed) = txn_bytes txn ++ (number 8 operation ++ (level ∷ deed))
fields (OpVoid txn operation) = txn_bytes txn ++ number 8 operation
fields (CompEnd txn operation undone) = txn_bytes txn ++ (number 8 operation ++ number 8 undone)
fields (Commit txn) = txn_bytes txn
fields (Restart incarnation) = number 8 incarnation
fields (AbortEnd txn) = txn_bytes txn
fields (Base records incarnation) = number 8 records ++ number 8 incarnation

-- the one spelling of a record: the length of what follows in four bytes, the kind, the fields
unfoldable pub spelling : Record → List ℕ
spelling r = number 4 (1 + length (fields r)) ++ (kind_number r ∷ fields r)

-- incarnations and counts begin at 1
abbrev pub IsTxnInRange : Txn → Type 0
IsTxnInRange txn = (0 < txn.incarnation) × (0 < txn.count)

abbrev pub IsSlotNumber : ℕ → Type 0
IsSlotNumber slot = (1 ≤ slot) × (slot ≤ 15)

-- What a record may say. Incarnations, counts, operation numbers, LSNs and levels begin at 1. A page has slots 1 to 15, and a
-- deed is 1 to 256 bytes. Before a base stood fewer than 2 ^ 50 records, at least one of each incarnation.
abbrev pub IsInRange : Record → Type 0
IsInRange (PageOp txn operation page slot before after) = IsTxnInRange txn × (0 < operation) × IsSlotNumber slot
IsInRange (PageUndo txn operation undone page slot after) = IsTxnInRange txn × (0 < operation) × (0 < undone)
    × IsSlotNumber slot
IsInRange (OpEnd txn operation level deed) = IsTxnInRange txn × (0 < operation) × (0 < level) × (1 ≤ length deed)
    × (length deed ≤ 256)
IsInRange (OpVoid txn operation) = IsTxnInRange txn × (0 < operation)
IsInRange (CompEnd txn operation undone) = IsTxnInRange txn × (0 < operation) × (0 < undone)
IsInRange (Commit txn) = IsTxnInRange txn
IsInRange (Restart incarnation) = 0 < incarnation
IsInRange (AbortEnd txn) = IsTxnInRange txn
IsInRange (Base records incarnation) = (1 ≤ records) × (records < 2 ^ 50) × (1 ≤ incarnation) × (incarnation ≤ records)

abbrev pub FitsTxn : Txn → Type 0
FitsTxn txn = (txn.incarnation < 2 ^ 64) × (txn.count < 2 ^ 64)

abbrev pub IsImage : List ℕ → Type 0
IsImage image = (length image ≡ 256) × AreBytes image

-- what is so of each record that a program holds: its fields are of their types
abbrev pub HasWidths : Record → Type 0
HasWidths (PageOp txn operation page slot before after) = FitsTxn txn × (operation < 2 ^ 64) × (page < 2 ^ 32)
    × (slot < 2 ^ 8) × IsImage before × IsImage after
HasWidths (PageUndo txn operation undone page slot after) = FitsTxn txn × (operation < 2 ^ 64) × (undone < 2 ^ 64)
    × (page < 2 ^ 32) × (slot < 2 ^ 8) × IsImage after
HasWidths (OpEnd txn operation level deed) = FitsTxn txn × (operation < 2 ^ 64) × (level < 2 ^ 8) × (length deed ≤ 256)
    × AreBytes deed
HasWidths (OpVoid txn operation) = FitsTxn txn × (operation < 2 ^ 64)
HasWidths (CompEnd txn operation undone) = FitsTxn txn × (operation < 2 ^ 64) × (undone < 2 ^ 64)
HasWidths (Commit txn) = FitsTxn txn
HasWidths (Restart incarnation) = incarnation < 2 ^ 64
HasWidths (AbortEnd txn) = FitsTxn txn
HasWidths (Base records incarnation) = (records < 2 ^ 64) × (incarnation < 2 ^ 64)

-- what has a spelling
abbrev pub IsRecord : Record → Type 0
IsRecord r = IsInRange r × HasWidths r

-- some record stands at the front
abbrev pub HoldsRecord : List ℕ → Type 0
HoldsRecord bytes = (r : Record) × (rest : List ℕ) × IsRecord r × (bytes ≡ spelling r ++ rest)

-- a proper beginning of some record
abbrev pub BeginsRecord : List ℕ → Type 0
BeginsRecord bytes = (r : Record) × (rest : List ℕ) × IsRecord r × (0 < length rest) × (spelling r ≡ bytes ++ rest)

-- no spelling begins another, and no two records have one spelling
abbrev pub EachHasItsSpelling : Type 0
EachHasItsSpelling =
    (r s : Record) (x y : List ℕ) → IsRecord r → IsRecord s → spelling r ++ x ≡ spelling s ++ y
    → (r ≡ s) × (x ≡ y)

-- the first four bytes of a spelling, as a number, count the bytes after them
abbrev pub BeginsWithItsLength : Type 0
BeginsWithItsLength = (r : Record) → IsRecord r → 4 + big_number 4 (spelling r) ≡ length (spelling r)

-- the same, with other bytes behind the spelling
abbrev pub ShowsItsLength : Type 0
ShowsItsLength =
    (r : Record) (rest : List ℕ) → IsRecord r
    → 4 + big_number 4 (spelling r ++ rest) ≡ length (spelling r)

-- how long spellings are
abbrev pub SpellingsAreBounded : Type 0
SpellingsAreBounded = (r : Record) → IsRecord r → (13 ≤ length (spelling r)) × (length (spelling r) ≤ 546)
