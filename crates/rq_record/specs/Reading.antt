-- How a record is read, field by field: each reader gives a value and the bytes after it, or says why it stops.
use Rattle.std.specs.Prelude.{◌≡◌, ℕ, ◌-◌, ◌^◌, ◌≤◌, Bool, true, false, ◌&&◌, ◌==◌, nat_lt, nat_le, if◌then◌else◌, List, [], ◌∷◌, length, take, drop, Option, Some, None, Result, Ok, Err}
use Rattle.byteorder.specs.Endian.{big_number}
use Rattle.rq_model.specs.declared.txn.Txn.{Txn}
use Rattle.rq_model.specs.declared.record.Record.{Record}
use Rattle.rq_model.specs.declared.record.Record.TheVariants.{PageOp, PageUndo, OpEnd, OpVoid, CompEnd, Commit, Restart, AbortEnd, Base}
use Rattle.rq_record.specs.declared.reading.Stop.{Stop}
use Rattle.rq_record.specs.declared.reading.Stop.TheVariants.{Short, Bad}
use Rattle.rq_record.specs.declared.reading.Kind.{Kind}
use Rattle.rq_record.specs.declared.reading.Kind.TheVariants as kinds

infixl 10 ◌>>=◌
abbrev pub ◌>>=◌ : {A B : Type 0} → Result A Stop → (A → Result B Stop) → Result B Stop
(Ok x) >>= f = f x
(Err e) >>= f = Err e

-- what a function returned, seen by view, is what reading gives
abbrev pub Gives : {X Y : Type 0} → (X → Y) → Result X Stop → Result Y Stop → Type 0
Gives view (Ok x) read = read ≡ Ok (view x)
Gives view (Err e) read = read ≡ Err e

-- that many bytes
unfoldable pub bytes_at : ℕ → List ℕ → Result (List ℕ × List ℕ) Stop
bytes_at size bytes = if nat_lt (length bytes) size then Err Short else Ok (take size bytes, drop size bytes)

-- the number in that many bytes
unfoldable pub number_at : ℕ → List ℕ → Result (ℕ × List ℕ) Stop
number_at size bytes = if nat_lt (length bytes) size then Err Short else Ok (big_number size bytes, drop size bytes)

-- the same, from 1 on
unfoldable pub positive_at : ℕ → List ℕ → Result (ℕ × List ℕ) Stop
positive_at size bytes = number_at size bytes >>= λ n. if n.0 == 0 then Err Bad else Ok n

-- the same, up to a highest number. Where bytes are wanting they count as 0: if even that is too high,
-- no number begins so
unfoldable pub number_up_to : ℕ → ℕ → List ℕ → Result (ℕ × List ℕ) Stop
number_up_to size high bytes = if nat_le (big_number size bytes) high then positive_at size bytes else Err Bad

-- a byte from low to high
unfoldable pub byte_between : ℕ → ℕ → List ℕ → Result (ℕ × List ℕ) Stop
byte_between low high [] = Err Short
byte_between low high (b ∷ rest) = if nat_le low b && nat_le b high then Ok (b, rest) else Err Bad

unfoldable pub txn_at : List ℕ → Result (Txn × List ℕ) Stop
txn_at bytes =
    positive_at 8 bytes >>= λ incarnation. positive_at 8 incarnation.1 >>= λ count.
    Ok (record { incarnation = incarnation.0; count = count.0 }, count.1)

-- ---- the fields of each kind

unfoldable pub page_op_at : List ℕ → Result (Record × List ℕ) Stop
page_op_at bytes =
    txn_at bytes >>= λ txn. positive_at 8 txn.1 >>= λ operation. number_at 4 operation.1 >>= λ page.
    byte_between 1 15 page.1 >>= λ slot. bytes_at 256 slot.1 >>= λ before. bytes_at 256 before.1 >>= λ after.
    Ok (PageOp txn.0 operation.0 page.0 slot.0 before.0 after.0, after.1)

unfoldable pub page_undo_at : List ℕ → Result (Record × List ℕ) Stop
page_undo_at bytes =
    txn_at bytes >>= λ txn. positive_at 8 txn.1 >>= λ operation. positive_at 8 operation.1 >>= λ undone.
    number_at 4 undone.1 >>= λ page. byte_between 1 15 page.1 >>= λ slot. bytes_at 256 slot.1 >>= λ after.
    Ok (PageUndo txn.0 operation.0 undone.0 page.0 slot.0 after.0, after.1)

unfoldable pub op_end_at : ℕ → List ℕ → Result (Record × List ℕ) Stop
op_end_at size bytes =
    txn_at bytes >>= λ txn. positive_at 8 txn.1 >>= λ operation. byte_between 1 255 operation.1 >>= λ level.
    bytes_at size level.1 >>= λ deed.
    Ok (OpEnd txn.0 operation.0 level.0 deed.0, deed.1)

unfoldable pub op_void_at : List ℕ → Result (Record × List ℕ) Stop
op_void_at bytes =
    txn_at bytes >>= λ txn. positive_at 8 txn.1 >>= λ operation.
    Ok (OpVoid txn.0 operation.0, operation.1)

unfoldable pub comp_end_at : List ℕ → Result (Record × List ℕ) Stop
comp_end_at bytes =
    txn_at bytes >>= λ txn. positive_at 8 txn.1 >>= λ operation. positive_at 8 operation.1 >>= λ undone.
    Ok (CompEnd txn.0 operation.0 undone.0, undone.1)

unfoldable pub commit_at : List ℕ → Result (Record × List ℕ) Stop
commit_at bytes = txn_at bytes >>= λ txn. Ok (Commit txn.0, txn.1)

unfoldable pub restart_at : List ℕ → Result (Record × List ℕ) Stop
restart_at bytes = positive_at 8 bytes >>= λ incarnation. Ok (Restart incarnation.0, incarnation.1)

unfoldable pub abort_end_at : List ℕ → Result (Record × List ℕ) Stop
abort_end_at bytes = txn_at bytes >>= λ txn. Ok (AbortEnd txn.0, txn.1)

unfoldable pub base_at : List ℕ → Result (Record × List ℕ) Stop
base_at bytes =
    number_up_to 8 (2 ^ 50 - 1) bytes >>= λ records. number_up_to 8 records.0 records.1 >>= λ incarnation.
    Ok (Base records.0 incarnation.0, incarnation.1)

-- ---- what stands before the fields

-- the kind of this number, of which a record may be so long
unfoldable pub kind_of : ℕ → ℕ → Option Kind
kind_of number size =
    if number == 1 && size == 542 then Some kinds.PageOp else
    if number == 2 && size == 294 then Some kinds.PageUndo else
    if number == 3 && (nat_le 27 size && nat_le size 282) then Some kinds.OpEnd else
    if number == 4 && size == 25 then Some kinds.OpVoid else
    if number == 5 && size == 33 then Some kinds.CompEnd else
    if number == 6 && size == 17 then Some kinds.Commit else
    if number == 7 && size == 9 then Some kinds.Restart else
    if number == 8 && size == 17 then Some kinds.AbortEnd else
    if number == 9 && size == 17 then Some kinds.Base else
    None

-- some kind's length
unfoldable pub is_size : ℕ → Bool
is_size size =
    if nat_le 27 size && nat_le size 282 then true else
    if size == 9 then true else if size == 17 then true else if size == 25 then true else
    if size == 294 then true else size == 542

-- fewer than four bytes, with which some kind's length begins
unfoldable pub begins_size : List ℕ → Bool
begins_size [] = true
begins_size (a ∷ []) = a == 0
begins_size (a ∷ b ∷ []) = a == 0 && b == 0
begins_size (a ∷ b ∷ c ∷ []) = a == 0 && (b == 0 && nat_le c 2)
begins_size (a ∷ b ∷ c ∷ d ∷ rest) = false

unfoldable pub size_at : List ℕ → Result (ℕ × List ℕ) Stop
size_at bytes =
    if nat_lt (length bytes) 4 then (if begins_size bytes then Err Short else Err Bad)
    else if is_size (big_number 4 bytes) then Ok (big_number 4 bytes, drop 4 bytes) else Err Bad

abbrev pub known : Option Kind → List ℕ → Result (Kind × List ℕ) Stop
known (Some kind) rest = Ok (kind, rest)
known None rest = Err Bad

unfoldable pub kind_at : ℕ → List ℕ → Result (Kind × List ℕ) Stop
kind_at size [] = Err Short
kind_at size (b ∷ rest) = known (kind_of b size) rest

-- a deed of 1 to 256 bytes ends a record of this length
abbrev pub IsDeedSize : ℕ → Kind → Type 0
IsDeedSize size kinds.OpEnd = (27 ≤ size) × (size ≤ 282)
IsDeedSize size _ = Unit {0}

-- the fields of a record of this kind and length
abbrev pub fields_at : ℕ → Kind → List ℕ → Result (Record × List ℕ) Stop
fields_at size kinds.PageOp bytes = page_op_at bytes
fields_at size kinds.PageUndo bytes = page_undo_at bytes
fields_at size kinds.OpEnd bytes = op_end_at (size - 26) bytes
fields_at size kinds.OpVoid bytes = op_void_at bytes
fields_at size kinds.CompEnd bytes = comp_end_at bytes
fields_at size kinds.Commit bytes = commit_at bytes
fields_at size kinds.Restart bytes = restart_at bytes
fields_at size kinds.AbortEnd bytes = abort_end_at bytes
fields_at size kinds.Base bytes = base_at bytes

unfoldable pub record_at : List ℕ → Result (Record × List ℕ) Stop
record_at bytes = size_at bytes >>= λ size. kind_at size.0 size.1 >>= λ kind. fields_at size.0 kind.0 kind.1
