-- The start of an inverse, as the model has it: its transaction's newest deed, and as many writes as the model says.
use Rattle.std.proofs.Common.{◌≡◌, ℕ, ◌+◌, ◌-◌, ◌++◌, List, [], ◌∷◌, length, map, reverse, refl, sym, ◌∙◌, ap, false, Some, None, inl, inr, arith}
use Rattle.std.specs.List.{sum_by, filter_map}
use Rattle.std.proofs.lemmas.Bool.{cases_Bool, or_parts}
use Rattle.std.proofs.lemmas.List.{length-map, length-reverse, map-append}
use Rattle.std.proofs.lemmas.List.Sums.{sum_by-cons}
use Rattle.rq_model.specs.declared.txn.Txn.{Txn}
use Rattle.rq_model.specs.declared.record.Deed.{Deed}
use Rattle.rq_model.specs.declared.record.Deed.TheVariants.{Append, UnlinkHead, Close, Mark}
use Rattle.rq_model.specs.Vocabulary.{In, Op, same_txn, has_txn, sent_for, taken_from, last, last_or}
use Rattle.rq_model.specs.Ledger.{Open, Ledger, in_chain, own_sends, own_takes, undo_writes, started, writes, after, found, ops_of}
use Rattle.rq_model.specs.Content.{said, added, removed}
use Rattle.rq_model.specs.Commits.{op_of, ops_told}
use Rattle.rq_model.specs.History.{Job}
use Rattle.rq_model.specs.History.Entry.{Started}
use Rattle.rq_model.proofs.Told.{told_taken, told_sent}
use Rattle.rq_views.specs.Items.{items, layout_of}
use Rattle.rq_views.specs.Legal.{open_deeds, view}
use Rattle.rq_views.specs.Log.{HasBefores}
use Rattle.rq_views.specs.Plans.{IsPlan, deed_sender}
use Rattle.rq_views.specs.Plans.Turn.{Undid}
use Rattle.rq_level.specs.Writes.{write_of, writes_of}
use Rattle.rq_views.proofs.Committed.{say}
use Rattle.rq_views.proofs.OpenCounts.{chain_count, AreApart}
use Rattle.rq_views.proofs.Settled.{rest_shown}
use Rattle.rq_txn.specs.declared.Finished.{Finished}
use Rattle.rq_store.specs.State.{op_done, State, open_of, open_ones_of, ledger_of, job_of_aim}
use Rattle.rq_store.specs.Fitting.{left_by}
use Rattle.rq_store.proofs.Grouping.{groups_of}
use Rattle.rq_txn.specs.Rows.{Under, Row, AreDistinct, found_row, change_row, row_started}
use Rattle.rq_txn.specs.declared.Aim.TheVariants.{Undoing}
use Rattle.rq_store.proofs.RowLists.{found_in, unique}
use Rattle.rq_sound.specs.Sound.{IsSound}
use Rattle.rq_store.proofs.Placed.{told_placed}
use Rattle.rq_store.proofs.Opens.{found_open, open_found}
use Rattle.rq_sound.proofs.Ledgers.{opens_change}
use Rattle.rq_sound.proofs.Lengths.{inverse_writes, inverse_length}
use Rattle.rq_sound.proofs.Own.{ShowsOwn}

abbrev pub txns : List Row → List Txn
txns rows = map (λ r. r.txn) rows

apart_none : (rows : List Row) (t : Txn) → found_row t rows ≡ None → has_txn t (txns rows) ≡ false
apart_none [] t e = refl
apart_none (r ∷ rows) t e = elim (cases_Bool (same_txn r.txn t)) [
  | inl y ↦ let bad : Some r ≡ None = rw y at e in cc
  | inr n ↦ rw n (apart_none rows t (rw n at e))
]

none_apart : (rows : List Row) (t : Txn) → has_txn t (txns rows) ≡ false → found_row t rows ≡ None
none_apart [] t e = refl
none_apart (r ∷ rows) t e = let p = or_parts (same_txn r.txn t) (has_txn t (txns rows)) e in rw p.0 (none_apart rows t p.1)

are_apart : (rows : List Row) → AreDistinct rows → AreApart (txns rows)
are_apart [] d = tt
are_apart (r ∷ rows) d = (apart_none rows r.txn d.0, are_apart rows d.1)

module _ (s : State) (k : IsSound s) where
  told_here : (r : Row) → In r s.rows → ops_told (say (open_deeds r.txn (items s.sizes s.records))) ≡ map op_done r.finished
  told_here r i = ap (λ ps. ops_told (say ps)) (k.standing.each r i).done ∙ told_placed r.finished

  sums_sent : (g : ℕ) (rows : List Row) → ((r : Row) → In r rows → In r s.rows) → sum_by (λ t. length (added g (say (open_deeds t (items s.sizes s.records))))) (txns rows) ≡ sum_by (λ o. length (own_sends g o)) (open_ones_of s.ends rows)
  sums_sent g [] h = refl
  sums_sent g (r ∷ rows) h =
      let a = sum_by-cons (λ t. length (added g (say (open_deeds t (items s.sizes s.records))))) r.txn (txns rows) in
      let b = sum_by-cons (λ (o : Open). length (own_sends g o)) (open_of s.ends r) (open_ones_of s.ends rows) in
      let c : length (added g (say (open_deeds r.txn (items s.sizes s.records)))) ≡ length (own_sends g (open_of s.ends r)) = ap length (sym (told_sent g (say (open_deeds r.txn (items s.sizes s.records)))) ∙ ap (filter_map (sent_for g)) (told_here r (h r (inl refl)))) in
      let d = sums_sent g rows (λ q i. h q (inr i)) in
      omega (arith, a, b, c, d)

  sums_taken : (g : ℕ) (rows : List Row) → ((r : Row) → In r rows → In r s.rows) → sum_by (λ t. removed g (say (open_deeds t (items s.sizes s.records)))) (txns rows) ≡ sum_by (λ o. length (own_takes g o)) (open_ones_of s.ends rows)
  sums_taken g [] h = refl
  sums_taken g (r ∷ rows) h =
      let a = sum_by-cons (λ t. removed g (say (open_deeds t (items s.sizes s.records)))) r.txn (txns rows) in
      let b = sum_by-cons (λ (o : Open). length (own_takes g o)) (open_of s.ends r) (open_ones_of s.ends rows) in
      let c : removed g (say (open_deeds r.txn (items s.sizes s.records))) ≡ length (own_takes g (open_of s.ends r)) = sym (told_taken g (say (open_deeds r.txn (items s.sizes s.records)))) ∙ ap (λ l. length (filter_map (taken_from g) l)) (told_here r (h r (inl refl))) in
      let d = sums_taken g rows (λ q i. h q (inr i)) in
      omega (arith, a, b, c, d)

  -- the ledger's number of messages in a chain is that of its view
  pub chain_is : (g : ℕ) → in_chain (ledger_of s) g ≡ length (view (items s.sizes s.records) g).messages
  chain_is g =
      let a = chain_count g (items s.sizes s.records) (txns s.rows) (groups_of s.sizes s.records k.log) (are_apart s.rows k.standing.distinct) (λ t e. (k.standing.others t (none_apart s.rows t e)).settled) in
      let b = sums_sent g s.rows (λ r i. i) in
      let c = sums_taken g s.rows (λ r i. i) in
      let d = rest_shown s.sizes g s.records k.log.rules k.log.reads in
      omega (arith, a, b, c, d)

last_push : (xs : List Op) (x : Op) → last (xs ++ x ∷ []) ≡ Some x
last_push [] x = refl
last_push (y ∷ ys) x = ap (λ z. Some z) (go y ys x) where
  go : (d : Op) (ys : List Op) (x : Op) → last_or d (ys ++ x ∷ []) ≡ x
  go d [] x = refl
  go d (y ∷ ys) x = go y ys x

writes_is : (l : Ledger) (d : Deed) → undo_writes l (Some (op_of (said d))) ≡ inverse_writes d (in_chain l (deed_sender d))
writes_is l (Append s n tag previous body) = refl
writes_is l (UnlinkHead s n tag body) = refl
writes_is l (Close s) = refl
writes_is l (Mark c tag previous) = refl

module _ (s : State) (k : IsSound s) (r : Row) (u : Under) (fs : List Finished) (f : Finished) (at_row : found_row r.txn s.rows ≡ Some r) (newest : r.finished ≡ fs ++ f ∷ []) (aim : u.aim ≡ Undoing f.lsn f.deed) (number : u.number ≡ r.number + 1) (made : u.made ≡ 0)
    (plan : IsPlan (layout_of s.sizes) (Undid f.deed) (reverse (writes_of s.sizes u.writes))) (fits : HasBefores (reverse (writes_of s.sizes u.writes)) (left_by s.sizes s.records).slots)
    (shows : ShowsOwn (layout_of s.sizes) (left_by s.sizes s.records).slots f.deed (view (items s.sizes s.records) (deed_sender f.deed))) where
  abbrev left : ℕ
  left = writes (ledger_of s) r.txn Job.Undoing

  left_is : length u.writes - u.made ≡ left
  left_is =
      let a : last (ops_of (found r.txn (open_ones_of s.ends s.rows))) ≡ Some (op_done f) = ap (λ o. last (ops_of o)) (found_open s.ends r.txn s.rows ∙ ap (open_found s.ends) at_row) ∙ ap (λ (l : List Finished). last (map op_done l)) newest ∙ ap last (map-append op_done fs (f ∷ [])) ∙ last_push (map op_done fs) (op_done f) in
      let b : left ≡ inverse_writes f.deed (in_chain (ledger_of s) (deed_sender f.deed)) = ap (undo_writes (ledger_of s)) a ∙ writes_is (ledger_of s) f.deed in
      let c : inverse_writes f.deed (in_chain (ledger_of s) (deed_sender f.deed)) ≡ inverse_writes f.deed (length (view (items s.sizes s.records) (deed_sender f.deed)).messages) = ap (inverse_writes f.deed) (chain_is s k (deed_sender f.deed)) in
      let d = inverse_length (layout_of s.sizes) (left_by s.sizes s.records).slots (reverse (writes_of s.sizes u.writes)) f.deed (view (items s.sizes s.records) (deed_sender f.deed)) plan fits shows in
      let e = length-reverse (writes_of s.sizes u.writes) in
      let g = length-map u.writes (write_of s.sizes) in
      omega (arith, b, c, d, e, g, made)

  own : open_of s.ends (row_started u r) ≡ started (r.number + 1) left Job.Undoing (open_of s.ends r)
  own =
      ap (λ (n : ℕ). record (open_of s.ends (row_started u r)) { number = n }) number
      ∙ ap (λ a. record (open_of s.ends (row_started u r)) { number = r.number + 1; under = Some (job_of_aim a) }) aim
      ∙ ap (λ (n : ℕ). record (open_of s.ends r) { number = r.number + 1; under = Some Job.Undoing; left = n }) left_is

  -- the ledger afterwards is that of the entry
  pub undo_started_after : ledger_of (record s { rows = change_row r.txn (row_started u) s.rows }) ≡ after (Started r.txn (r.number + 1) Job.Undoing) (ledger_of s)
  undo_started_after =
      ap (λ (os : List Open). record (ledger_of s) { open_ones = os }) (opens_change r.txn s.ends s.ends (row_started u) (started (r.number + 1) left Job.Undoing) s.rows
      (λ q i e. let same = unique s.rows q r k.standing.distinct i (found_in r.txn s.rows r at_row).0 e in ap (λ (y : Row). open_of s.ends (row_started u y)) same ∙ own ∙ ap (λ (y : Row). started (r.number + 1) left Job.Undoing (open_of s.ends y)) (sym same)) (λ q i n. refl))
