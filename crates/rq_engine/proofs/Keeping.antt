-- What is so of the fields of every engine stays so.
use Rattle.std.proofs.Common.{◌≡◌, ℕ, ◌+◌, ◌-◌, ◌*◌, ◌^◌, ◌<◌, ◌≤◌, List, [], ◌∷◌, ◌++◌, length, refl, sym, ◌∙◌, ap, subst, Bool, false, Option, Some, None, inl, inr, arith}
use Rattle.std.specs.List.{sum_by}
use Rattle.std.proofs.lemmas.List.{length-append}
use Rattle.std.proofs.lemmas.List.Sums.{sum_by-cons}
use Rattle.rq_model.specs.declared.txn.Txn.{Txn}
use Rattle.rq_model.specs.declared.record.Record.{Record}
use Rattle.rq_model.specs.declared.record.Deed.{Deed}
use Rattle.rq_model.specs.Vocabulary.{In, front}
use Rattle.rq_page.specs.Sizes.{Sizes, sender_count}
use Rattle.rq_txn.specs.declared.Finished.{Finished}
use Rattle.rq_txn.specs.Rows.{Row, Under, found_row, change_row, without_row, fresh_row, row_started, row_stepped, row_aborting, row_finished, row_taken_back, under_stepped}
use Rattle.rq_engine.specs.Invariant.{AreSendsConsistent, IsDoneConsistent, IsConsistent, IsLogged, IsRowConsistent, IsUnderConsistent, UnderConsistent, end_bytes, end_of, room_one, room_of, total_of, done_one}
use Rattle.rq_engine.specs.Moves.{with_tags, with_sends, with_taken, without_taken}
use Rattle.rq_engine.proofs.Tags.{sends_on, sends_more}
use Rattle.rq_groups.specs.Ends.{HeldEnds}
use Rattle.rq_store.specs.State.{State, owed_by, owed_one, owed_under}
use Rattle.rq_store.proofs.RowLists.{found_in, changed, distinct_change, distinct_gone, gone}
use Rattle.rq_store.proofs.RowSums.{rows_one, rows_sum, rows_without}
use Rattle.rq_engine.proofs.Waits.{length-with_sends, length-with_taken, length-without_taken, few_sends, few_taken, more_taken}
use Rattle.rq_groups.specs.Waiting.{waits}

-- of rows that are kept, the one that is found
pub kept_at : (s : State) (f : Bool) (o res : ℕ) (t : Txn) (r : Row) → IsConsistent s f o res → found_row t s.rows ≡ Some r → IsRowConsistent s.sizes s.incarnation s.begins (total_of s) r
kept_at s f o res t r k e = k.rows r (found_in t s.rows r e).0

-- and its operation under way
pub under_at : (s : State) (f : Bool) (o res : ℕ) (t : Txn) (r : Row) (u : Under) → IsConsistent s f o res → found_row t s.rows ≡ Some r → r.under ≡ Some u → IsUnderConsistent s.sizes u
under_at s f o res t r u k e under = subst (UnderConsistent s.sizes) under (kept_at s f o res t r k e).under

-- the next count is greater than those of all rows
pub next_rises : (s : State) (f : Bool) (o res : ℕ) → IsConsistent s f o res → (r : Row) → In r s.rows → r.txn.count < s.begins + 1
next_rises s f o res k r i = let high = (k.rows r i).high in omega arith

-- the next number has no row
pub new_number : (s : State) (f : Bool) (o res : ℕ) → IsConsistent s f o res → found_row (record { incarnation = s.incarnation; count = s.begins + 1 }) s.rows ≡ None
new_number s f o res k = at (found_row (record { incarnation = s.incarnation; count = s.begins + 1 }) s.rows) refl where
  at : (q : Option Row) → found_row (record { incarnation = s.incarnation; count = s.begins + 1 }) s.rows ≡ q → q ≡ None
  at None e = refl
  at (Some r) e =
      let i = found_in (record { incarnation = s.incarnation; count = s.begins + 1 }) s.rows r e in
      let c : r.txn.count ≤ s.begins = (k.rows r i.0).high in
      let v : r.txn.count ≡ s.begins + 1 = ap (λ (y : Txn). y.count) i.1 in
      absurd (omega (arith, c, v))

row_more : (z : Sizes) (i b c m n : ℕ) (r : Row) → b ≤ c → m ≤ n → IsRowConsistent z i b m r → IsRowConsistent z i c n r
row_more z i b c m n r le more h = record { mine = h.mine; low = h.low; high = omega (arith, le, h.high); number = omega (arith, more, h.number); done = h.done; under = h.under }

pub kept_begun : (s : State) (f : Bool) (o res : ℕ) → IsConsistent s f o res → IsConsistent (record s { rows = fresh_row (record { incarnation = s.incarnation; count = s.begins + 1 }) ∷ s.rows; begins = s.begins + 1 }) f o res
kept_begun s f o res k =
    let t : Txn = record { incarnation = s.incarnation; count = s.begins + 1 } in
    let a : owed_by (fresh_row t ∷ s.rows) ≡ owed_by s.rows = sum_by-cons owed_one (fresh_row t) s.rows ∙ omega arith in
    let b = sum_by-cons room_one (fresh_row t) s.rows in
    record {
      incarnation = k.incarnation;
      low = k.low;
      fails = k.fails;
      owes = k.owes ∙ sym a;
      room = omega (arith, b, k.room);
      count = omega (arith, a, k.count);
      distinct = (new_number s f o res k, k.distinct);
      rows = λ r i. elim i [
        | inl e ↦ subst (λ (q : Row). IsRowConsistent s.sizes s.incarnation (s.begins + 1) (length s.records + owed_by (fresh_row t ∷ s.rows)) q) (sym e) (record { mine = refl; low = omega arith; high = omega arith; number = omega arith; done = λ f i. absurd i; under = tt })
        | inr j ↦ row_more s.sizes s.incarnation s.begins (s.begins + 1) (total_of s) (length s.records + owed_by (fresh_row t ∷ s.rows)) r (omega arith) (omega (arith, a)) (k.rows r j)
      ];
      senders = k.senders;
      few = λ g. (let c = sum_by-cons done_one (fresh_row t) s.rows in let d = k.few g in omega (arith, c, d));
      sent = sends_on k.sent (let c = sum_by-cons done_one (fresh_row t) s.rows in omega (arith, c));
      ended = λ r f i j. elim i [ inl e ↦ absurd (subst (λ (q : Row). In f q.finished) e j) | inr h ↦ k.ended r f h j ];
    }

-- a record more is logged
one_logged : (log : List Record) (x : Record) (lsn : ℕ) (r : Record) → IsLogged log lsn r → IsLogged (x ∷ log) lsn r
one_logged log x lsn r h = record { newer = x ∷ h.newer; older = h.older; log_is = ap (λ (l : List Record). x ∷ l) h.log_is; at = h.at }

-- the one that is logged now
now_logged : (log : List Record) (x r : Record) (lsn : ℕ) → x ≡ r → lsn ≡ length log + 1 → IsLogged (x ∷ log) lsn r
now_logged log x r lsn is at = record { newer = []; older = log; log_is = ap (λ (y : Record). y ∷ log) is; at = at }

-- one more is done, or the newest is undone
done_more : (P : Finished → Type 0) (fs : List Finished) (f : Finished) → ((x : Finished) → In x fs → P x) → P f → (x : Finished) → In x (fs ++ f ∷ []) → P x
done_more P [] f h own x (inl e) = subst P (sym e) own
done_more P [] f h own x (inr i) = absurd i
done_more P (y ∷ fs) f h own x (inl e) = h x (inl e)
done_more P (y ∷ fs) f h own x (inr i) = done_more P fs f (λ q j. h q (inr j)) own x i

in_front : (fs : List Finished) (x : Finished) → In x (front fs) → In x fs
in_front [] x i = absurd i
in_front (f ∷ []) x i = absurd i
in_front (f ∷ g ∷ fs) x (inl e) = inl e
in_front (f ∷ g ∷ fs) x (inr i) = inr (in_front (g ∷ fs) x i)

pub length-front : (fs : List Finished) → length (front fs) ≤ length fs - 1
length-front [] = omega arith
length-front (f ∷ []) = omega arith
length-front (f ∷ g ∷ fs) = let h = length-front (g ∷ fs) in omega (arith, h)

module _ (s : State) (f : Bool) (o res : ℕ) (k : IsConsistent s f o res) (t : Txn) (r : Row) (at_row : found_row t s.rows ≡ Some r) where
  -- a change of one row
  changed_rows : (g : Row → Row) (total : ℕ) → ((q : Row) → (g q).txn ≡ q.txn) → total_of s ≤ total → IsRowConsistent s.sizes s.incarnation s.begins total (g r)
      → (q : Row) → In q (change_row t g s.rows) → IsRowConsistent s.sizes s.incarnation s.begins total q
  changed_rows g total keeps more own q i = elim (changed t g s.rows r q k.distinct at_row i) [
    | inl e ↦ subst (λ (y : Row). IsRowConsistent s.sizes s.incarnation s.begins total y) (sym e) own
    | inr h ↦ row_more s.sizes s.incarnation s.begins s.begins (total_of s) total q (omega arith) more (k.rows q h.0)
  ]

  -- whose finished operations are its own, and those of others
  changed_ended : (g : Row → Row) (log : List Record) → ((lsn : ℕ) (x : Record) → IsLogged s.records lsn x → IsLogged log lsn x) → ((f : Finished) → In f (g r).finished → IsLogged log f.lsn (end_of (g r).txn f))
      → (q : Row) (f : Finished) → In q (change_row t g s.rows) → In f q.finished → IsLogged log f.lsn (end_of q.txn f)
  changed_ended g log more own q f i j = elim (changed t g s.rows r q k.distinct at_row i) [
    | inl e ↦ subst (λ (y : Row). IsLogged log f.lsn (end_of y.txn f)) (sym e) (own f (subst (λ (y : Row). In f y.finished) e j))
    | inr h ↦ more f.lsn (end_of q.txn f) (k.ended q f h.0 j)
  ]

  here : In r s.rows
  here = (found_in t s.rows r at_row).0

  pub kept_started : (u : Under) (ends : HeldEnds) (cells : ℕ) → r.under ≡ None → IsUnderConsistent s.sizes u → u.number ≡ r.number + 1 → u.made ≡ 0 → total_of s + (length u.writes + 1) ≤ 2 ^ 50
      → IsConsistent (record s { rows = change_row t (row_started u) s.rows; ends = ends; cells_in_use = cells }) f (o + (length u.writes + 1)) (res + (546 * length u.writes + end_bytes u.aim))
  kept_started u ends cells none h number made fits =
      let a = rows_one owed_one t (row_started u) s.rows r k.distinct at_row in
      let b = rows_one room_one t (row_started u) s.rows r k.distinct at_row in
      let c : owed_one r ≡ 0 = ap owed_under none in
      let d : room_one r ≡ 0 = ap room_of none in
      let e : owed_one (row_started u r) ≡ length u.writes + 1 = (let m = made in omega arith) in
      let v : room_one (row_started u r) ≡ 546 * length u.writes + end_bytes u.aim = ap (λ (m : ℕ). 546 * (length u.writes - m) + end_bytes u.aim) made ∙ omega arith in
      let row = kept_at s f o res t r k at_row in
      let total : owed_by (change_row t (row_started u) s.rows) ≡ owed_by s.rows + (length u.writes + 1) = omega (arith, a, c, e) in
      record {
        incarnation = k.incarnation;
        low = (let w = k.low in omega (arith, w));
        fails = k.fails;
        owes = (let w = k.owes in omega (arith, total, w));
        room = (let w = k.room in omega (arith, b, d, v, w));
        count = omega (arith, total, fits);
        distinct = distinct_change t (row_started u) s.rows (λ q. refl) k.distinct;
        rows = changed_rows (row_started u) (length s.records + owed_by (change_row t (row_started u) s.rows)) (λ q. refl) (omega (arith, total)) (record { mine = row.mine; low = row.low; high = row.high; number = (let n = row.number in omega (arith, n, number, total)); done = row.done; under = h });
        senders = k.senders;
        few = λ g. (let c = rows_sum done_one t (row_started u) s.rows (λ q i e. refl) in let d = k.few g in omega (arith, c, d));
        sent = sends_on k.sent (let c = rows_sum done_one t (row_started u) s.rows (λ q i e. refl) in omega (arith, c));
        ended = changed_ended (row_started u) s.records (λ lsn x h. h) (λ y i. k.ended r y here i);
      }

  pub kept_stepped : (u : Under) (x : Record) (images : List (List ℕ)) (left : ℕ) → r.under ≡ Some u → u.made < length u.writes → left + 546 ≡ res
      → IsConsistent (record s { rows = change_row t row_stepped s.rows; images = images; records = x ∷ s.records }) f (o - 1) left
  kept_stepped u x images left under more fits =
      let a = rows_one owed_one t row_stepped s.rows r k.distinct at_row in
      let b = rows_one room_one t row_stepped s.rows r k.distinct at_row in
      let c : owed_one r ≡ length u.writes - u.made + 1 = ap owed_under under in
      let d : room_one r ≡ 546 * (length u.writes - u.made) + end_bytes u.aim = ap room_of under in
      let e : owed_one (row_stepped r) ≡ length u.writes - (u.made + 1) + 1 = ap (λ (y : Option Under). owed_under (under_stepped y)) under in
      let v : room_one (row_stepped r) ≡ 546 * (length u.writes - (u.made + 1)) + end_bytes u.aim = ap (λ (y : Option Under). room_of (under_stepped y)) under in
      let row = kept_at s f o res t r k at_row in
      let h = under_at s f o res t r u k at_row under in
      let total : owed_by (change_row t row_stepped s.rows) + 1 ≡ owed_by s.rows = omega (arith, a, c, e, more) in
      let same : length (x ∷ s.records) + owed_by (change_row t row_stepped s.rows) ≡ total_of s = omega (arith, total) in
      record {
        incarnation = k.incarnation;
        low = (let w = k.low in omega (arith, w));
        fails = k.fails;
        owes = (let w = k.owes in omega (arith, total, w));
        room = (let w = k.room in omega (arith, b, d, v, w, fits, more));
        count = (let w = k.count in omega (arith, same, w));
        distinct = distinct_change t row_stepped s.rows (λ q. refl) k.distinct;
        rows = changed_rows row_stepped (length (x ∷ s.records) + owed_by (change_row t row_stepped s.rows)) (λ q. refl) (omega (arith, same)) (record { mine = row.mine; low = row.low; high = row.high; number = (let n = row.number in omega (arith, n, same)); done = row.done; under = subst (λ (y : Option Under). UnderConsistent s.sizes (under_stepped y)) (sym under) (record { number = h.number; made = omega (arith, more); few = h.few; slots = h.slots; sender = h.sender; fits = h.fits }) });
        senders = k.senders;
        few = λ g. (let c = rows_sum done_one t row_stepped s.rows (λ q i e. refl) in let d = k.few g in omega (arith, c, d));
        sent = sends_on k.sent (let c = rows_sum done_one t row_stepped s.rows (λ q i e. refl) in omega (arith, c));
        ended = changed_ended row_stepped (x ∷ s.records) (one_logged s.records x) (λ y i. one_logged s.records x y.lsn (end_of r.txn y) (k.ended r y here i));
      }

  pub kept_finished : (u : Under) (x : Record) (end : Finished) (left : ℕ) (d : Deed) → r.under ≡ Some u → u.made ≡ length u.writes → left + end_bytes u.aim ≡ res → IsDoneConsistent s.sizes end → x ≡ end_of r.txn end → end.lsn ≡ length s.records + 1
      → IsConsistent (record s { rows = change_row t (row_finished end) s.rows; records = x ∷ s.records; waiting = without_taken d s.waiting }) f (o - 1) left
  kept_finished u x end left d0 under made fits own is at =
      let a = rows_one owed_one t (row_finished end) s.rows r k.distinct at_row in
      let b = rows_one room_one t (row_finished end) s.rows r k.distinct at_row in
      let c : owed_one r ≡ length u.writes - u.made + 1 = ap owed_under under in
      let d : room_one r ≡ 546 * (length u.writes - u.made) + end_bytes u.aim = ap room_of under in
      let e : owed_one (row_finished end r) ≡ 0 = refl in
      let v : room_one (row_finished end r) ≡ 0 = refl in
      let row = kept_at s f o res t r k at_row in
      let total : owed_by (change_row t (row_finished end) s.rows) + 1 ≡ owed_by s.rows = omega (arith, a, c, e, made) in
      let same : length (x ∷ s.records) + owed_by (change_row t (row_finished end) s.rows) ≡ total_of s = omega (arith, total) in
      record {
        incarnation = k.incarnation;
        low = (let w = k.low in omega (arith, w));
        fails = k.fails;
        owes = (let w = k.owes in omega (arith, total, w));
        room = (let w = k.room in omega (arith, b, d, v, w, fits, made));
        count = (let w = k.count in omega (arith, same, w));
        distinct = distinct_change t (row_finished end) s.rows (λ q. refl) k.distinct;
        rows = changed_rows (row_finished end) (length (x ∷ s.records) + owed_by (change_row t (row_finished end) s.rows)) (λ q. refl) (omega (arith, same)) (record { mine = row.mine; low = row.low; high = row.high; number = (let n = row.number in omega (arith, n, same)); done = done_more (IsDoneConsistent s.sizes) r.finished end row.done own; under = tt });
        senders = length-without_taken d0 s.waiting ∙ k.senders;
        few = λ g.
            (let p = rows_one done_one t (row_finished end) s.rows r k.distinct at_row in
            let q : done_one (row_finished end r) ≡ done_one r + 1 = length-append r.finished (end ∷ []) in
            let m = k.few g in
            let n = few_taken d0 s.waiting g in
            omega (arith, p, q, m, n));
        sent = sends_on k.sent
            (let p = rows_one done_one t (row_finished end) s.rows r k.distinct at_row in
            let q : done_one (row_finished end r) ≡ done_one r + 1 = length-append r.finished (end ∷ []) in
            omega (arith, p, q));
        ended = changed_ended (row_finished end) (x ∷ s.records) (one_logged s.records x) (done_more (λ y. IsLogged (x ∷ s.records) y.lsn (end_of r.txn y)) r.finished end (λ y i. one_logged s.records x y.lsn (end_of r.txn y) (k.ended r y here i)) (now_logged s.records x (end_of r.txn end) end.lsn is at));
      }

  -- an inverse ends
  pub kept_undone : (u : Under) (x : Record) (cells left : ℕ) (d : Deed) → r.under ≡ Some u → u.made ≡ length u.writes → left + end_bytes u.aim ≡ res
      → IsConsistent (record s { rows = change_row t row_taken_back s.rows; records = x ∷ s.records; cells_in_use = cells; waiting = with_taken d s.waiting }) f (o - 1) left
  kept_undone u x cells left d0 under made fits =
      let a = rows_one owed_one t row_taken_back s.rows r k.distinct at_row in
      let b = rows_one room_one t row_taken_back s.rows r k.distinct at_row in
      let c : owed_one r ≡ length u.writes - u.made + 1 = ap owed_under under in
      let d : room_one r ≡ 546 * (length u.writes - u.made) + end_bytes u.aim = ap room_of under in
      let e : owed_one (row_taken_back r) ≡ 0 = refl in
      let v : room_one (row_taken_back r) ≡ 0 = refl in
      let row = kept_at s f o res t r k at_row in
      let total : owed_by (change_row t row_taken_back s.rows) + 1 ≡ owed_by s.rows = omega (arith, a, c, e, made) in
      let same : length (x ∷ s.records) + owed_by (change_row t row_taken_back s.rows) ≡ total_of s = omega (arith, total) in
      record {
        incarnation = k.incarnation;
        low = (let w = k.low in omega (arith, w));
        fails = k.fails;
        owes = (let w = k.owes in omega (arith, total, w));
        room = (let w = k.room in omega (arith, b, d, v, w, fits, made));
        count = (let w = k.count in omega (arith, same, w));
        distinct = distinct_change t row_taken_back s.rows (λ q. refl) k.distinct;
        rows = changed_rows row_taken_back (length (x ∷ s.records) + owed_by (change_row t row_taken_back s.rows)) (λ q. refl) (omega (arith, same)) (record { mine = row.mine; low = row.low; high = row.high; number = (let n = row.number in omega (arith, n, same)); done = λ y i. row.done y (in_front r.finished y i); under = tt });
        senders = length-with_taken d0 s.waiting ∙ k.senders;
        few = λ g.
            (let p = rows_one done_one t row_taken_back s.rows r k.distinct at_row in
            let q : done_one (row_taken_back r) ≤ done_one r = (let h = length-front r.finished in omega (arith, h)) in
            let m = k.few g in
            let n = more_taken d0 s.waiting g in
            omega (arith, p, q, m, n));
        sent = sends_on k.sent
            (let p = rows_one done_one t row_taken_back s.rows r k.distinct at_row in
            let q : done_one (row_taken_back r) ≤ done_one r = (let h = length-front r.finished in omega (arith, h)) in
            omega (arith, p, q));
        ended = changed_ended row_taken_back (x ∷ s.records) (one_logged s.records x) (λ y i. one_logged s.records x y.lsn (end_of r.txn y) (k.ended r y here (in_front r.finished y i)));
      }

  -- a transaction is turned to abort
  pub kept_aborting : IsConsistent (record s { rows = change_row t row_aborting s.rows }) f o res
  kept_aborting =
      let a = rows_sum owed_one t row_aborting s.rows (λ q i e. refl) in
      let b = rows_sum room_one t row_aborting s.rows (λ q i e. refl) in
      let row = kept_at s f o res t r k at_row in
      record {
        incarnation = k.incarnation;
        low = (let w = k.low in omega (arith, w));
        fails = k.fails;
        owes = (let w = k.owes in omega (arith, a, w));
        room = (let w = k.room in omega (arith, b, w));
        count = (let w = k.count in omega (arith, a, w));
        distinct = distinct_change t row_aborting s.rows (λ q. refl) k.distinct;
        rows = changed_rows row_aborting (length s.records + owed_by (change_row t row_aborting s.rows)) (λ q. refl) (omega (arith, a)) (record { mine = row.mine; low = row.low; high = row.high; number = (let n = row.number in omega (arith, n, a)); done = row.done; under = row.under });
        senders = k.senders;
        few = λ g. (let c = rows_sum done_one t row_aborting s.rows (λ q i e. refl) in let d = k.few g in omega (arith, c, d));
        sent = sends_on k.sent (let c = rows_sum done_one t row_aborting s.rows (λ q i e. refl) in omega (arith, c));
        ended = changed_ended row_aborting s.records (λ lsn x h. h) (λ y i. k.ended r y here i);
      }

  -- an abort ends
  pub kept_aborted : (x : Record) (ends : HeldEnds) → r.under ≡ None → total_of s + 1 ≤ 2 ^ 50
      → IsConsistent (record s { rows = without_row t s.rows; ends = ends; records = x ∷ s.records }) f o res
  kept_aborted x ends none fits =
      let a = rows_without owed_one t s.rows r k.distinct at_row in
      let b = rows_without room_one t s.rows r k.distinct at_row in
      let c : owed_one r ≡ 0 = ap owed_under none in
      let d : room_one r ≡ 0 = ap room_of none in
      record {
        incarnation = k.incarnation;
        low = (let w = k.low in omega (arith, w));
        fails = k.fails;
        owes = (let w = k.owes in omega (arith, a, c, w));
        room = (let w = k.room in omega (arith, b, d, w));
        count = omega (arith, a, c, fits);
        distinct = distinct_gone t s.rows k.distinct;
        rows = λ q i. row_more s.sizes s.incarnation s.begins s.begins (total_of s) (length (x ∷ s.records) + owed_by (without_row t s.rows)) q (omega arith) (omega (arith, a, c)) (k.rows q (gone t s.rows q i).0);
        senders = k.senders;
        few = λ g. (let p = rows_without done_one t s.rows r k.distinct at_row in let m = k.few g in omega (arith, p, m));
        sent = sends_on k.sent (let p = rows_without done_one t s.rows r k.distinct at_row in omega (arith, p));
        ended = λ q y i j. one_logged s.records x y.lsn (end_of q.txn y) (k.ended q y (gone t s.rows q i).0 j);
      }

  pub kept_committed : (x : Record) (ends : HeldEnds) (cells : ℕ) → r.under ≡ None → total_of s + 1 ≤ 2 ^ 50
      → IsConsistent (record s { rows = without_row t s.rows; ends = ends; records = x ∷ s.records; cells_in_use = cells; waiting = with_sends r.finished s.waiting; sent = with_tags (sender_count s.sizes) r.finished s.sent }) f o res
  kept_committed x ends cells none fits =
      let a = rows_without owed_one t s.rows r k.distinct at_row in
      let b = rows_without room_one t s.rows r k.distinct at_row in
      let c : owed_one r ≡ 0 = ap owed_under none in
      let d : room_one r ≡ 0 = ap room_of none in
      record {
        incarnation = k.incarnation;
        low = (let w = k.low in omega (arith, w));
        fails = k.fails;
        owes = (let w = k.owes in omega (arith, a, c, w));
        room = (let w = k.room in omega (arith, b, d, w));
        count = omega (arith, a, c, fits);
        distinct = distinct_gone t s.rows k.distinct;
        rows = λ q i. row_more s.sizes s.incarnation s.begins s.begins (total_of s) (length (x ∷ s.records) + owed_by (without_row t s.rows)) q (omega arith) (omega (arith, a, c)) (k.rows q (gone t s.rows q i).0);
        senders = length-with_sends r.finished s.waiting ∙ k.senders;
        few = λ g. (let p = rows_without done_one t s.rows r k.distinct at_row in let m = k.few g in let n = few_sends r.finished s.waiting g in omega (arith, p, m, n));
        sent = sends_more (sender_count s.sizes) r.finished s.sent k.sent (let p = rows_without done_one t s.rows r k.distinct at_row in omega (arith, p));
        ended = λ q y i j. one_logged s.records x y.lsn (end_of q.txn y) (k.ended q y (gone t s.rows q i).0 j);
      }

-- pages were perhaps read
pub kept_read : {s : State} {f : Bool} {o res : ℕ} (images : List (List ℕ)) → IsConsistent s f o res → IsConsistent (record s { images = images }) f o res
kept_read images k = record {
  incarnation = k.incarnation;
  low = k.low;
  fails = k.fails;
  owes = k.owes;
  room = k.room;
  count = k.count;
  distinct = k.distinct;
  rows = k.rows;
  senders = k.senders;
  few = k.few;
  sent = k.sent;
  ended = k.ended;
}

-- what a device did, and whether it failed, is all that changed
pub kept_device : (s : State) (f g : Bool) (o res left forced : ℕ) (failed : Bool) (log : List Record) → IsConsistent s f o res → log ≡ s.records → left ≡ res → (failed ≡ false → g ≡ false) → IsConsistent (record s { records = log; forced = forced; failed = failed }) g o left
kept_device s f g o res left forced failed log k same room fails = record {
  incarnation = k.incarnation;
  low = (let w = k.low in let n = ap (λ (l : List Record). length l) same in omega (arith, w, n));
  fails = fails;
  owes = k.owes;
  room = (let a = k.room in omega (arith, a, room));
  count = subst (λ (l : List Record). length l + owed_by s.rows ≤ 2 ^ 50) (sym same) k.count;
  distinct = k.distinct;
  rows = λ r i. subst (λ (l : List Record). IsRowConsistent s.sizes s.incarnation s.begins (length l + owed_by s.rows) r) (sym same) (k.rows r i);
  senders = k.senders;
  few = λ g. subst (λ (l : List Record). waits s.waiting g + sum_by done_one s.rows ≤ length l) (sym same) (k.few g);
  sent = subst (λ (l : List Record). AreSendsConsistent s.sizes (length l) (sum_by done_one s.rows) s.sent) (sym same) k.sent;
  ended = λ r y i j. subst (λ (l : List Record). IsLogged l y.lsn (end_of r.txn y)) (sym same) (k.ended r y i j);
}
