-- The reader of records reads exactly what spells one.
use Rattle.std.proofs.Common.{◌≡◌, ℕ, ◌+◌, ◌-◌, ◌^◌, ◌<◌, ◌≤◌, List, [], ◌∷◌, ◌++◌, length, Ok, replicate, refl, ap, ◌∙◌, arith}
use Rattle.std.proofs.lemmas.List.{length-append, length-replicate}
use Rattle.rq_model.specs.declared.txn.Txn.{Txn}
use Rattle.rq_model.specs.declared.record.Record.{Record}
use Rattle.rq_model.specs.declared.record.Record.TheVariants.{PageOp, PageUndo, OpEnd, OpVoid, CompEnd, Commit, Restart, AbortEnd, Base}
use Rattle.rq_record.specs.declared.reading.Kind.{Kind}
use Rattle.rq_record.specs.declared.reading.Kind.TheVariants as kinds
use Rattle.rq_record.specs.Spelling.{txn_bytes, fields, IsTxnInRange, FitsTxn, IsRecord, IsSlotNumber}
use Rattle.rq_bytes.specs.Number.{AreBytes, number}
use Rattle.rq_record.specs.Reading.{◌>>=◌, bytes_at, number_at, positive_at, number_up_to, byte_between, txn_at, page_op_at, page_undo_at, op_end_at, op_void_at, comp_end_at, commit_at, restart_at, abort_end_at, base_at}
use Rattle.rq_bytes.proofs.Strings.{length-number}
use Rattle.rq_record.proofs.Readers.{Field, Reads, also, both, Some-of, pair, Reads-then, Reads-and, Reads-last, Reads-field, Field-bytes, Field-number, Field-positive, Field-byte, AreBytes-zeros}
use Rattle.rq_record.proofs.UpTo.{IsUpTo, Field-up_to}
use Rattle.rq_record.proofs.DeedParts.{plain}

-- ---- fields that stand in many records

abbrev IsPositive : ℕ → Type 0
IsPositive n = (0 < n) × (n < 256 ^ 8)

abbrev IsPage : ℕ → Type 0
IsPage n = n < 256 ^ 4

abbrev IsLevel : ℕ → Type 0
IsLevel n = (1 ≤ n) × (n ≤ 255)

abbrev Are : ℕ → List ℕ → Type 0
Are size xs = (length xs ≡ size) × AreBytes xs

abbrev IsTxn : Txn → Type 0
IsTxn txn = IsTxnInRange txn × FitsTxn txn

abbrev byte : ℕ → List ℕ
byte b = b ∷ []

some_positive : Some-of IsPositive
some_positive = (1, (omega arith, omega arith))

some_page : Some-of IsPage
some_page = (0, omega arith)

some_slot : Some-of IsSlotNumber
some_slot = (1, (omega arith, omega arith))

some_level : Some-of IsLevel
some_level = (1, (omega arith, omega arith))

some_bytes : (size : ℕ) → Some-of (Are size)
some_bytes size = (replicate size 0, (length-replicate size 0, AreBytes-zeros size))

Field-u64 : Field (positive_at 8) (number 8) IsPositive
Field-u64 = Field-positive 8 (omega arith)

Field-page : Field (number_at 4) (number 4) IsPage
Field-page = Field-number 4 (omega arith)

Field-slot : Field (byte_between 1 15) byte IsSlotNumber
Field-slot = Field-byte 1 15 (omega arith) (omega arith)

Field-level : Field (byte_between 1 255) byte IsLevel
Field-level = Field-byte 1 255 (omega arith) (omega arith)

-- ---- transactions

make_txn : ℕ × ℕ → Txn
make_txn x = record { incarnation = x.0; count = x.1 }

Reads-txn : Reads txn_at make_txn (also (number 8) (number 8)) (both IsPositive IsPositive)
unfolding txn_at make_txn
Reads-txn = Reads-and _ (number 8) IsPositive Field-u64 some_positive (λ incarnation. Reads-last (positive_at 8) (number 8) IsPositive (λ count. record { incarnation = incarnation; count = count }) Field-u64)

Field-txn : Field txn_at txn_bytes IsTxn
unfolding txn_bytes make_txn
Field-txn = Reads-field txn_at make_txn (also (number 8) (number 8)) (both IsPositive IsPositive) txn_bytes IsTxn Reads-txn
    (λ a v. (((v.0.0, v.1.0), (v.0.1, v.1.1)), refl))
    (λ c is. ((c.incarnation, c.count), ((is.0.0, is.1.0), (is.0.1, is.1.1)), refl))

pub length-txn : (txn : Txn) → length (txn_bytes txn) ≡ 16
unfolding txn_bytes
length-txn txn = omega (arith, length-append (number 8 txn.incarnation) (number 8 txn.count), length-number 8 txn.incarnation, length-number 8 txn.count)

-- ---- the fields of each kind

abbrev pub kind_from : Record → Kind
kind_from (PageOp txn operation page slot before after) = kinds.PageOp
kind_from (PageUndo txn operation undone page slot after) = kinds.PageUndo
kind_from (OpEnd txn operation level deed) = kinds.OpEnd
kind_from (OpVoid txn operation) = kinds.OpVoid
kind_from (CompEnd txn operation undone) = kinds.CompEnd
kind_from (Commit txn) = kinds.Commit
kind_from (Restart incarnation) = kinds.Restart
kind_from (AbortEnd txn) = kinds.AbortEnd
kind_from (Base records incarnation) = kinds.Base

-- a record of this kind, with so many bytes after its length
abbrev pub IsOf : Kind → ℕ → Record → Type 0
IsOf kind size r = IsRecord r × (kind_from r ≡ kind) × (1 + length (fields r) ≡ size)

-- the lengths
pub length-page_op : (txn : Txn) (operation page slot : ℕ) (before after : List ℕ) → length before ≡ 256 → length after ≡ 256 → 1 + length (fields (PageOp txn operation page slot before after)) ≡ 542
unfolding fields
length-page_op txn operation page slot before after b a = simp (length-append, length-txn, length-number) (omega (arith, a, b))

pub length-page_undo : (txn : Txn) (operation undone page slot : ℕ) (after : List ℕ) → length after ≡ 256 → 1 + length (fields (PageUndo txn operation undone page slot after)) ≡ 294
unfolding fields
length-page_undo txn operation undone page slot after a = simp (length-append, length-txn, length-number) (omega (arith, a))

pub length-op_end : (txn : Txn) (operation level : ℕ) (deed : List ℕ) → 1 + length (fields (OpEnd txn operation level deed)) ≡ 26 + length deed
unfolding fields
length-op_end txn operation level deed = simp (length-append, length-txn, length-number) (omega arith)

pub length-op_void : (txn : Txn) (operation : ℕ) → 1 + length (fields (OpVoid txn operation)) ≡ 25
unfolding fields
length-op_void txn operation = simp (length-append, length-txn, length-number)

pub length-comp_end : (txn : Txn) (operation undone : ℕ) → 1 + length (fields (CompEnd txn operation undone)) ≡ 33
unfolding fields
length-comp_end txn operation undone = simp (length-append, length-txn, length-number)

pub length-commit : (txn : Txn) → 1 + length (fields (Commit txn)) ≡ 17
unfolding fields
length-commit txn = simp length-txn

pub length-restart : (incarnation : ℕ) → 1 + length (fields (Restart incarnation)) ≡ 9
unfolding fields
length-restart incarnation = simp length-number

pub length-abort_end : (txn : Txn) → 1 + length (fields (AbortEnd txn)) ≡ 17
unfolding fields
length-abort_end txn = simp length-txn

pub length-base : (records incarnation : ℕ) → 1 + length (fields (Base records incarnation)) ≡ 17
unfolding fields
length-base records incarnation = simp (length-append, length-number)

-- a page operation
abbrev images : List ℕ × List ℕ → List ℕ
images = also plain plain

abbrev PageOpFields : Type 0
PageOpFields = Txn × (ℕ × (ℕ × (ℕ × (List ℕ × List ℕ))))

abbrev make_page_op : PageOpFields → Record
make_page_op x = PageOp x.0 x.1.0 x.1.1.0 x.1.1.1.0 x.1.1.1.1.0 x.1.1.1.1.1

abbrev page_op_bytes : PageOpFields → List ℕ
page_op_bytes = also txn_bytes (also (number 8) (also (number 4) (also byte images)))

abbrev ArePageOp : PageOpFields → Type 0
ArePageOp = both IsTxn (both IsPositive (both IsPage (both IsSlotNumber (both (Are 256) (Are 256)))))

Reads-page_op : Reads page_op_at make_page_op page_op_bytes ArePageOp
unfolding page_op_at
Reads-page_op =
    Reads-and _ (also (number 8) (also (number 4) (also byte images))) (both IsPositive (both IsPage (both IsSlotNumber (both (Are 256) (Are 256))))) Field-txn
    (pair some_positive (pair some_page (pair some_slot (pair (some_bytes 256) (some_bytes 256)))))
    (λ txn. Reads-and _ (also (number 4) (also byte images)) (both IsPage (both IsSlotNumber (both (Are 256) (Are 256)))) Field-u64
    (pair some_page (pair some_slot (pair (some_bytes 256) (some_bytes 256))))
    (λ operation. Reads-and _ (also byte images) (both IsSlotNumber (both (Are 256) (Are 256))) Field-page
    (pair some_slot (pair (some_bytes 256) (some_bytes 256)))
    (λ page. Reads-and _ images (both (Are 256) (Are 256)) Field-slot
    (pair (some_bytes 256) (some_bytes 256))
    (λ slot. Reads-and _ plain (Are 256) (Field-bytes 256)
    (some_bytes 256)
    (λ before. Reads-last (bytes_at 256) plain (Are 256) (λ after. PageOp txn operation page slot before after) (Field-bytes 256))))))

to_page_op : (x : PageOpFields) → ArePageOp x → IsOf kinds.PageOp 542 (make_page_op x) × (fields (make_page_op x) ≡ page_op_bytes x)
unfolding fields
to_page_op x v =
    let r = v.1.1.1.1 in
    ((((v.0.0, v.1.0.0, v.1.1.1.0), (v.0.1, v.1.0.1, v.1.1.0, omega (arith, v.1.1.1.0), r.0, r.1)), refl, length-page_op x.0 x.1.0 x.1.1.0 x.1.1.1.0 x.1.1.1.1.0 x.1.1.1.1.1 r.0.0 r.1.0), refl)

from_page_op : (r : Record) → IsOf kinds.PageOp 542 r → (x : PageOpFields) × ArePageOp x × (make_page_op x ≡ r)
from_page_op (PageOp txn operation page slot before after) is =
    let low = is.0.0 in
    let high = is.0.1 in
    ((txn, (operation, (page, (slot, (before, after))))), ((low.0, high.0), ((low.1, high.1), (high.2, (low.2, (high.4, high.5))))), refl)
from_page_op (PageUndo txn operation undone page slot after) is = absurd cc
from_page_op _ is = absurd cc

pub Field-page_op : Field page_op_at fields (IsOf kinds.PageOp 542)
Field-page_op = Reads-field page_op_at make_page_op page_op_bytes ArePageOp fields (IsOf kinds.PageOp 542) Reads-page_op to_page_op from_page_op

-- the undoing of a page operation

abbrev PageUndoFields : Type 0
PageUndoFields = Txn × (ℕ × (ℕ × (ℕ × (ℕ × List ℕ))))

abbrev make_page_undo : PageUndoFields → Record
make_page_undo x = PageUndo x.0 x.1.0 x.1.1.0 x.1.1.1.0 x.1.1.1.1.0 x.1.1.1.1.1

abbrev page_undo_bytes : PageUndoFields → List ℕ
page_undo_bytes = also txn_bytes (also (number 8) (also (number 8) (also (number 4) (also byte plain))))

abbrev ArePageUndo : PageUndoFields → Type 0
ArePageUndo = both IsTxn (both IsPositive (both IsPositive (both IsPage (both IsSlotNumber (Are 256)))))

Reads-page_undo : Reads page_undo_at make_page_undo page_undo_bytes ArePageUndo
unfolding page_undo_at
Reads-page_undo =
    Reads-and _ (also (number 8) (also (number 8) (also (number 4) (also byte plain)))) (both IsPositive (both IsPositive (both IsPage (both IsSlotNumber (Are 256))))) Field-txn
    (pair some_positive (pair some_positive (pair some_page (pair some_slot (some_bytes 256)))))
    (λ txn. Reads-and _ (also (number 8) (also (number 4) (also byte plain))) (both IsPositive (both IsPage (both IsSlotNumber (Are 256)))) Field-u64
    (pair some_positive (pair some_page (pair some_slot (some_bytes 256))))
    (λ operation. Reads-and _ (also (number 4) (also byte plain)) (both IsPage (both IsSlotNumber (Are 256))) Field-u64
    (pair some_page (pair some_slot (some_bytes 256)))
    (λ undone. Reads-and _ (also byte plain) (both IsSlotNumber (Are 256)) Field-page
    (pair some_slot (some_bytes 256))
    (λ page. Reads-and _ plain (Are 256) Field-slot
    (some_bytes 256)
    (λ slot. Reads-last (bytes_at 256) plain (Are 256) (λ after. PageUndo txn operation undone page slot after) (Field-bytes 256))))))

to_page_undo : (x : PageUndoFields) → ArePageUndo x → IsOf kinds.PageUndo 294 (make_page_undo x) × (fields (make_page_undo x) ≡ page_undo_bytes x)
unfolding fields
to_page_undo x v =
    let slot = v.1.1.1.1.0 in
    let after = v.1.1.1.1.1 in
    ((((v.0.0, v.1.0.0, v.1.1.0.0, slot), (v.0.1, v.1.0.1, v.1.1.0.1, v.1.1.1.0, omega (arith, slot), after)), refl, length-page_undo x.0 x.1.0 x.1.1.0 x.1.1.1.0 x.1.1.1.1.0 x.1.1.1.1.1 after.0), refl)

from_page_undo : (r : Record) → IsOf kinds.PageUndo 294 r → (x : PageUndoFields) × ArePageUndo x × (make_page_undo x ≡ r)
from_page_undo (PageUndo txn operation undone page slot after) is =
    let low = is.0.0 in
    let high = is.0.1 in
    ((txn, (operation, (undone, (page, (slot, after))))), ((low.0, high.0), ((low.1, high.1), ((low.2, high.2), (high.3, (low.3, high.5))))), refl)
from_page_undo (PageOp txn operation page slot before after) is = absurd cc
from_page_undo _ is = absurd cc

pub Field-page_undo : Field page_undo_at fields (IsOf kinds.PageUndo 294)
Field-page_undo = Reads-field page_undo_at make_page_undo page_undo_bytes ArePageUndo fields (IsOf kinds.PageUndo 294) Reads-page_undo to_page_undo from_page_undo

-- the end of an operation, whose deed has so many bytes

abbrev OpEndFields : Type 0
OpEndFields = Txn × (ℕ × (ℕ × List ℕ))

abbrev make_op_end : OpEndFields → Record
make_op_end x = OpEnd x.0 x.1.0 x.1.1.0 x.1.1.1

abbrev op_end_bytes : OpEndFields → List ℕ
op_end_bytes = also txn_bytes (also (number 8) (also byte plain))

abbrev AreOpEnd : ℕ → OpEndFields → Type 0
AreOpEnd size = both IsTxn (both IsPositive (both IsLevel (Are size)))

Reads-op_end : (size : ℕ) → Reads (op_end_at size) make_op_end op_end_bytes (AreOpEnd size)
unfolding op_end_at
Reads-op_end size =
    Reads-and _ (also (number 8) (also byte plain)) (both IsPositive (both IsLevel (Are size))) Field-txn
    (pair some_positive (pair some_level (some_bytes size)))
    (λ txn. Reads-and _ (also byte plain) (both IsLevel (Are size)) Field-u64
    (pair some_level (some_bytes size))
    (λ operation. Reads-and _ plain (Are size) Field-level
    (some_bytes size)
    (λ level. Reads-last (bytes_at size) plain (Are size) (λ deed. OpEnd txn operation level deed) (Field-bytes size))))

to_op_end : (size : ℕ) → 1 ≤ size → size ≤ 256 → (x : OpEndFields) → AreOpEnd size x → IsOf kinds.OpEnd (26 + size) (make_op_end x) × (fields (make_op_end x) ≡ op_end_bytes x)
unfolding fields
to_op_end size low high x v =
    let level = v.1.1.0 in
    let deed = v.1.1.1 in
    let size_is = deed.0 in
    ((((v.0.0, v.1.0.0, level.0, omega (arith, size_is), omega (arith, size_is)), (v.0.1, v.1.0.1, omega (arith, level), omega (arith, size_is), deed.1)), refl, length-op_end x.0 x.1.0 x.1.1.0 x.1.1.1 ∙ ap (λ (n : ℕ). 26 + n) size_is), refl)

from_op_end : (size : ℕ) (r : Record) → IsOf kinds.OpEnd (26 + size) r → (x : OpEndFields) × AreOpEnd size x × (make_op_end x ≡ r)
from_op_end size (OpEnd txn operation level deed) is =
    let low = is.0.0 in
    let high = is.0.1 in
    let deed_size : length deed ≡ size = omega (arith, is.2, length-op_end txn operation level deed) in
    ((txn, (operation, (level, deed))), ((low.0, high.0), ((low.1, high.1), ((low.2, omega (arith, high.2)), (deed_size, high.4)))), refl)
from_op_end size (PageOp txn operation page slot before after) is = absurd cc
from_op_end size _ is = absurd cc

pub Field-op_end : (size : ℕ) → 1 ≤ size → size ≤ 256 → Field (op_end_at size) fields (IsOf kinds.OpEnd (26 + size))
Field-op_end size low high = Reads-field (op_end_at size) make_op_end op_end_bytes (AreOpEnd size) fields (IsOf kinds.OpEnd (26 + size)) (Reads-op_end size) (to_op_end size low high) (from_op_end size)

-- an operation that never was

abbrev make_op_void : Txn × ℕ → Record
make_op_void x = OpVoid x.0 x.1

Reads-op_void : Reads op_void_at make_op_void (also txn_bytes (number 8)) (both IsTxn IsPositive)
unfolding op_void_at
Reads-op_void =
    Reads-and _ (number 8) IsPositive Field-txn some_positive
    (λ txn. Reads-last (positive_at 8) (number 8) IsPositive (λ operation. OpVoid txn operation) Field-u64)

to_op_void : (x : Txn × ℕ) → both IsTxn IsPositive x → IsOf kinds.OpVoid 25 (make_op_void x) × (fields (make_op_void x) ≡ also txn_bytes (number 8) x)
unfolding fields
to_op_void x v = ((((v.0.0, v.1.0), (v.0.1, v.1.1)), refl, length-op_void x.0 x.1), refl)

from_op_void : (r : Record) → IsOf kinds.OpVoid 25 r → (x : Txn × ℕ) × both IsTxn IsPositive x × (make_op_void x ≡ r)
from_op_void (OpVoid txn operation) is = ((txn, operation), ((is.0.0.0, is.0.1.0), (is.0.0.1, is.0.1.1)), refl)
from_op_void _ is = absurd cc

pub Field-op_void : Field op_void_at fields (IsOf kinds.OpVoid 25)
Field-op_void = Reads-field op_void_at make_op_void (also txn_bytes (number 8)) (both IsTxn IsPositive) fields (IsOf kinds.OpVoid 25) Reads-op_void to_op_void from_op_void

-- the end of a compensation

abbrev make_comp_end : Txn × (ℕ × ℕ) → Record
make_comp_end x = CompEnd x.0 x.1.0 x.1.1

Reads-comp_end : Reads comp_end_at make_comp_end (also txn_bytes (also (number 8) (number 8))) (both IsTxn (both IsPositive IsPositive))
unfolding comp_end_at
Reads-comp_end =
    Reads-and _ (also (number 8) (number 8)) (both IsPositive IsPositive) Field-txn (pair some_positive some_positive)
    (λ txn. Reads-and _ (number 8) IsPositive Field-u64 some_positive
    (λ operation. Reads-last (positive_at 8) (number 8) IsPositive (λ undone. CompEnd txn operation undone) Field-u64))

to_comp_end : (x : Txn × (ℕ × ℕ)) → both IsTxn (both IsPositive IsPositive) x → IsOf kinds.CompEnd 33 (make_comp_end x) × (fields (make_comp_end x) ≡ also txn_bytes (also (number 8) (number 8)) x)
unfolding fields
to_comp_end x v = ((((v.0.0, v.1.0.0, v.1.1.0), (v.0.1, v.1.0.1, v.1.1.1)), refl, length-comp_end x.0 x.1.0 x.1.1), refl)

from_comp_end : (r : Record) → IsOf kinds.CompEnd 33 r → (x : Txn × (ℕ × ℕ)) × both IsTxn (both IsPositive IsPositive) x × (make_comp_end x ≡ r)
from_comp_end (CompEnd txn operation undone) is = ((txn, (operation, undone)), ((is.0.0.0, is.0.1.0), ((is.0.0.1, is.0.1.1), (is.0.0.2, is.0.1.2))), refl)
from_comp_end _ is = absurd cc

pub Field-comp_end : Field comp_end_at fields (IsOf kinds.CompEnd 33)
Field-comp_end = Reads-field comp_end_at make_comp_end (also txn_bytes (also (number 8) (number 8))) (both IsTxn (both IsPositive IsPositive)) fields (IsOf kinds.CompEnd 33) Reads-comp_end to_comp_end from_comp_end

-- the kinds of one field

abbrev make_commit : Txn → Record
make_commit x = Commit x

Reads-commit : Reads commit_at make_commit txn_bytes IsTxn
unfolding commit_at
Reads-commit = Reads-last txn_at txn_bytes IsTxn make_commit Field-txn

to_commit : (x : Txn) → IsTxn x → IsOf kinds.Commit 17 (make_commit x) × (fields (make_commit x) ≡ txn_bytes x)
unfolding fields
to_commit x v = (((v.0, v.1), refl, length-commit x), refl)

from_commit : (r : Record) → IsOf kinds.Commit 17 r → (x : Txn) × IsTxn x × (make_commit x ≡ r)
from_commit (Commit txn) is = (txn, (is.0.0, is.0.1), refl)
from_commit _ is = absurd cc

pub Field-commit : Field commit_at fields (IsOf kinds.Commit 17)
Field-commit = Reads-field commit_at make_commit txn_bytes IsTxn fields (IsOf kinds.Commit 17) Reads-commit to_commit from_commit

abbrev make_restart : ℕ → Record
make_restart x = Restart x

Reads-restart : Reads restart_at make_restart (number 8) IsPositive
unfolding restart_at
Reads-restart = Reads-last (positive_at 8) (number 8) IsPositive make_restart Field-u64

to_restart : (x : ℕ) → IsPositive x → IsOf kinds.Restart 9 (make_restart x) × (fields (make_restart x) ≡ number 8 x)
unfolding fields
to_restart x v = (((v.0, v.1), refl, length-restart x), refl)

from_restart : (r : Record) → IsOf kinds.Restart 9 r → (x : ℕ) × IsPositive x × (make_restart x ≡ r)
from_restart (Restart incarnation) is = (incarnation, (is.0.0, is.0.1), refl)
from_restart _ is = absurd cc

pub Field-restart : Field restart_at fields (IsOf kinds.Restart 9)
Field-restart = Reads-field restart_at make_restart (number 8) IsPositive fields (IsOf kinds.Restart 9) Reads-restart to_restart from_restart

abbrev make_abort_end : Txn → Record
make_abort_end x = AbortEnd x

Reads-abort_end : Reads abort_end_at make_abort_end txn_bytes IsTxn
unfolding abort_end_at
Reads-abort_end = Reads-last txn_at txn_bytes IsTxn make_abort_end Field-txn

to_abort_end : (x : Txn) → IsTxn x → IsOf kinds.AbortEnd 17 (make_abort_end x) × (fields (make_abort_end x) ≡ txn_bytes x)
unfolding fields
to_abort_end x v = (((v.0, v.1), refl, length-abort_end x), refl)

from_abort_end : (r : Record) → IsOf kinds.AbortEnd 17 r → (x : Txn) × IsTxn x × (make_abort_end x ≡ r)
from_abort_end (AbortEnd txn) is = (txn, (is.0.0, is.0.1), refl)
from_abort_end _ is = absurd cc

pub Field-abort_end : Field abort_end_at fields (IsOf kinds.AbortEnd 17)
Field-abort_end = Reads-field abort_end_at make_abort_end txn_bytes IsTxn fields (IsOf kinds.AbortEnd 17) Reads-abort_end to_abort_end from_abort_end

-- what stands for the records before it: the second number is bounded by the first

abbrev most : ℕ
most = 2 ^ 50 - 1

abbrev make_base : ℕ × ℕ → Record
make_base x = Base x.0 x.1

abbrev base_bytes : ℕ × ℕ → List ℕ
base_bytes x = number 8 x.0 ++ number 8 x.1

abbrev AreBase : ℕ × ℕ → Type 0
AreBase x = IsUpTo most x.0 × IsUpTo x.0 x.1

Field-incarnation : (records : ℕ) → IsUpTo most records → Field (number_up_to 8 records) (number 8) (IsUpTo records)
Field-incarnation records is = Field-up_to 8 records (omega arith) is.0 (omega (arith, is.1))

Reads-base : Reads base_at make_base base_bytes AreBase
unfolding base_at
Reads-base =
    Reads-then (number_up_to 8 most) (number 8) (IsUpTo most) (λ records bytes. number_up_to 8 records bytes >>= λ incarnation. Ok (Base records incarnation.0, incarnation.1)) make_base
    (λ _. number 8) IsUpTo (Field-up_to 8 most (omega arith) (omega arith) (omega arith))
    (λ records is. Reads-last (number_up_to 8 records) (number 8) (IsUpTo records) (λ incarnation. Base records incarnation) (Field-incarnation records is))
    (λ records is. (1, (omega arith, is.0)))

to_base : (x : ℕ × ℕ) → AreBase x → IsOf kinds.Base 17 (make_base x) × (fields (make_base x) ≡ base_bytes x)
unfolding fields
to_base x v = ((((v.0.0, omega (arith, v.0.1), v.1.0, v.1.1), (omega (arith, v.0.1), omega (arith, v.0.1, v.1.1))), refl, length-base x.0 x.1), refl)

from_base : (r : Record) → IsOf kinds.Base 17 r → (x : ℕ × ℕ) × AreBase x × (make_base x ≡ r)
from_base (Base records incarnation) is = ((records, incarnation), ((is.0.0.0, omega (arith, is.0.0.1)), (is.0.0.2, is.0.0.3)), refl)
from_base _ is = absurd cc

pub Field-base : Field base_at fields (IsOf kinds.Base 17)
Field-base = Reads-field base_at make_base base_bytes AreBase fields (IsOf kinds.Base 17) Reads-base to_base from_base
