-- What an abort makes of the ledger: it starts, each of its compensations ends, and it ends.
use Rattle.std.proofs.Common.{◌≡◌, ◌≢◌, ℕ, List, [], ◌∷◌, ◌++◌, length, map, refl, sym, ◌∙◌, ap, cond, true, false, Some, inl, inr, arith}
use Rattle.std.proofs.lemmas.Bool.{cases_Bool}
use Rattle.std.proofs.lemmas.List.{map-append}
use Rattle.rq_model.specs.declared.txn.Txn.{Txn}
use Rattle.rq_model.specs.declared.record.Record.TheVariants.{AbortEnd}
use Rattle.rq_model.proofs.Lists.{same_is, not_same}
use Rattle.rq_model.specs.Vocabulary.{In, Op, same_txn, front}
use Rattle.rq_model.specs.Ledger.{Open, change, without, after, undone}
use Rattle.rq_model.specs.History.Entry.{Undid, Aborting, Aborted}
use Rattle.rq_model.proofs.Same.{other_same}
use Rattle.rq_txn.specs.declared.Finished.{Finished}
use Rattle.rq_groups.specs.declared.Held.{Held}
use Rattle.rq_groups.specs.Ends.{HeldEnds, held_by, released}
use Rattle.rq_store.specs.State.{op_done, State, open_of, open_ones_of, ledger_of, left_under}
use Rattle.rq_txn.specs.Rows.{Under, Row, AreDistinct, found_row, change_row, without_row, row_aborting, row_undone}
use Rattle.rq_txn.proofs.Standing.{front_push}
use Rattle.rq_store.proofs.RowLists.{found_in, unique}
use Rattle.rq_sound.specs.Rows.{comp_end}
use Rattle.rq_store.proofs.Ends.{without_ends}
use Rattle.rq_store.proofs.Owing.{one_longer}

-- a change of rows, and perhaps of ends, is a change of the ledger's
pub opens_change : (t : Txn) (old new : HeldEnds) (f : Row → Row) (g : Open → Open) (rows : List Row)
    → ((r : Row) → In r rows → r.txn ≡ t → open_of new (f r) ≡ g (open_of old r)) → ((r : Row) → In r rows → r.txn ≢ t → open_of new r ≡ open_of old r)
    → open_ones_of new (change_row t f rows) ≡ change t g (open_ones_of old rows)
opens_change t old new f g [] own others = refl
opens_change t old new f g (r ∷ rows) own others =
    let rest = opens_change t old new f g rows (λ q i. own q (inr i)) (λ q i. others q (inr i)) in
    elim (cases_Bool (same_txn r.txn t)) [
      | inl y ↦ rw y (ap (λ x. x ∷ open_ones_of new (change_row t f rows)) (own r (inl refl) (same_is r.txn t y)) ∙ ap (λ l. g (open_of old r) ∷ l) rest)
      | inr n ↦ rw n (ap (λ x. x ∷ open_ones_of new (change_row t f rows)) (others r (inl refl) (not_same r.txn t n)) ∙ ap (λ l. open_of old r ∷ l) rest)
    ]

-- and so is a row that is taken out
pub opens_without : (t : Txn) (old new : HeldEnds) (rows : List Row) → ((r : Row) → In r rows → r.txn ≢ t → open_of new r ≡ open_of old r)
    → open_ones_of new (without_row t rows) ≡ without t (open_ones_of old rows)
opens_without t old new [] others = refl
opens_without t old new (r ∷ rows) others =
    let rest = opens_without t old new rows (λ q i. others q (inr i)) in
    elim (cases_Bool (same_txn r.txn t)) [
      | inl y ↦ rw y rest
      | inr n ↦ rw n (ap (λ x. x ∷ open_ones_of new (without_row t rows)) (others r (inl refl) (not_same r.txn t n)) ∙ ap (λ l. open_of old r ∷ l) rest)
    ]

held_by_other : (t q : Txn) (hs : List Held) → q ≢ t → held_by q (released t hs) ≡ held_by q hs
held_by_other t q [] n = refl
held_by_other t q (h ∷ hs) n = elim (cases_Bool (same_txn h.txn t)) [
  | inl y ↦ let k : same_txn h.txn q ≡ false = other_same h.txn q (λ e. n (sym e ∙ same_is h.txn t y)) in rw (y, k) (held_by_other t q hs n)
  | inr m ↦ rw m (ap (λ l. cond (same_txn h.txn q) (h.sender ∷ l) l) (held_by_other t q hs n))
]

pub open_other : (t : Txn) (ends : HeldEnds) (r : Row) → r.txn ≢ t → open_of (without_ends t ends) r ≡ open_of ends r
open_other t ends r n =
    ap (λ (l : List ℕ). record (open_of ends r) { sending = l; receiving = held_by r.txn (released t ends.receiving) }) (held_by_other t r.txn ends.sending n)
    ∙ ap (λ (l : List ℕ). record (open_of ends r) { receiving = l }) (held_by_other t r.txn ends.receiving n)

-- it starts to abort
pub aborting_after : (s : State) (t : Txn) → ledger_of (record s { rows = change_row t row_aborting s.rows }) ≡ after (Aborting t) (ledger_of s)
aborting_after s t = ap (λ (os : List Open). record (ledger_of s) { open_ones = os }) (opens_change t s.ends s.ends row_aborting (λ o. record o { aborting = true }) s.rows (λ q i e. refl) (λ q i n. refl))

-- a compensation ends
pub undid_after : (s : State) (r : Row) (u : Under) (lsn cells : ℕ) (ws : List ℕ) (fs : List Finished) (f : Finished) → AreDistinct s.rows → found_row r.txn s.rows ≡ Some r → r.under ≡ Some u → u.made ≡ length u.writes → r.finished ≡ fs ++ f ∷ []
    → ledger_of (record s { rows = change_row r.txn (row_undone fs) s.rows; records = comp_end r.txn u.number lsn ∷ s.records; cells_in_use = cells; waiting = ws }) ≡ after (Undid r.txn u.number) (ledger_of s)
undid_after s r u lsn cells ws fs f distinct at_row under made newest =
    let none : left_under r.under ≡ 0 = ap left_under under ∙ omega (arith, made) in
    let ops : map op_done fs ≡ front (map op_done r.finished) = sym (ap (λ (l : List Finished). front (map op_done l)) newest ∙ ap front (map-append op_done fs (f ∷ [])) ∙ front_push (map op_done fs) (op_done f)) in
    let own : open_of s.ends (row_undone fs r) ≡ undone (open_of s.ends r) =
    ap (λ (l : List Op). record (open_of s.ends (row_undone fs r)) { ops = l }) ops
    ∙ ap (λ (n : ℕ). record (undone (open_of s.ends r)) { left = n }) (sym none) in
    let opens = opens_change r.txn s.ends s.ends (row_undone fs) undone s.rows (λ q i e. ap (λ (y : Row). open_of s.ends (row_undone fs y)) (unique s.rows q r distinct i (found_in r.txn s.rows r at_row).0 e) ∙ own ∙ ap (λ (y : Row). undone (open_of s.ends y)) (sym (unique s.rows q r distinct i (found_in r.txn s.rows r at_row).0 e))) (λ q i n. refl) in
    ap (λ (os : List Open). record (ledger_of s) { open_ones = os; records = length (comp_end r.txn u.number lsn ∷ s.records) }) opens
    ∙ ap (λ (n : ℕ). record (ledger_of s) { open_ones = change r.txn undone (open_ones_of s.ends s.rows); records = n }) (one_longer (comp_end r.txn u.number lsn) s.records)

-- it ends
pub aborted_after : (s : State) (t : Txn) → ledger_of (record s { rows = without_row t s.rows; ends = without_ends t s.ends; records = AbortEnd t ∷ s.records }) ≡ after (Aborted t) (ledger_of s)
aborted_after s t =
    ap (λ (os : List Open). record (ledger_of s) { open_ones = os; records = length (AbortEnd t ∷ s.records) }) (opens_without t s.ends (without_ends t s.ends) s.rows (λ q i n. open_other t s.ends q n))
    ∙ ap (λ (n : ℕ). record (ledger_of s) { open_ones = without t (open_ones_of s.ends s.rows); records = n }) (one_longer (AbortEnd t) s.records)
