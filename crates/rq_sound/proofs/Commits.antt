-- A commit of a transaction with nothing under way.
use Rattle.std.proofs.Common.{◌≡◌, ℕ, ◌+◌, ◌<◌, ◌≤◌, ◌||◌, ◌++◌, List, [], ◌∷◌, length, map, refl, sym, ◌∙◌, ap, subst, false, cond, nat_eq, Option, Some, None, inl, inr, arith}
use Rattle.std.specs.List.{sum_by, filter, filter_map}
use Rattle.std.proofs.lemmas.Bool.{cases_Bool, cond-true, true≢false, false≢true, or_from, or_left, or_cases, cases_lt, eqb-true, false_from_ne_true}
use Rattle.std.proofs.lemmas.List.Sums.{sum_by-cons}
use Rattle.rq_model.specs.declared.txn.Txn.{Txn}
use Rattle.rq_model.specs.declared.record.Deed.{Deed}
use Rattle.rq_model.specs.declared.record.Deed.TheVariants.{Append, UnlinkHead, Close, Mark}
use Rattle.rq_model.specs.declared.record.Record.{Record}
use Rattle.rq_model.specs.declared.record.Record.TheVariants.{Commit as Commit_record}
use Rattle.rq_model.specs.Vocabulary.{In, Op, same_txn, sent_for, taken_from}
use Rattle.rq_model.specs.Vocabulary.Op.{Send, Take, End, Mark}
use Rattle.rq_model.specs.Counts.{AllBelow}
use Rattle.rq_model.specs.Ledger.{Done, rest_in, group_in}
use Rattle.rq_model.specs.Tests.{count_rest, below, is_sent}
use Rattle.rq_model.specs.Content.{said, has_end, tag_after}
use Rattle.rq_model.specs.Commits.{op_of, told, ops_told, committed_of}
use Rattle.rq_model.proofs.Lists.{same_self, same_is}
use Rattle.rq_model.proofs.Counts.{commit_counts, taken_within, rest_more}
use Rattle.rq_model.proofs.Shown.{group_more}
use Rattle.rq_model.specs.History.{Group}
use Rattle.rq_page.specs.Sizes.{Sizes, sender_count}
use Rattle.rq_views.specs.InStore.{IsDeedOf}
use Rattle.rq_views.specs.Log.Item.{Commit}
use Rattle.rq_views.specs.Items.{items, layout_of, operation}
use Rattle.rq_views.specs.Legal.{MayFollow, open_deeds, under_way}
use Rattle.rq_views.proofs.Committed.{say}
use Rattle.rq_views.proofs.Content.{own_deeds}
use Rattle.rq_views.proofs.Counting.{deeds_in_store}
use Rattle.rq_views.proofs.OpenCounts.{ops_in_store}
use Rattle.rq_txn.specs.declared.Finished.{Finished}
use Rattle.rq_groups.specs.Ends.{HeldEnds}
use Rattle.rq_groups.specs.Waiting.{waits}
use Rattle.rq_groups.specs.Sent.{SentBy, sent_count, sent_tag}
use Rattle.rq_store.specs.Sends.{KeepsSends, group_of, place_count}
use Rattle.rq_sound.specs.Calls.{sends_for}
use Rattle.rq_store.specs.State.{op_done}
use Rattle.rq_model.specs.Incarnations.{incarnation_of}
use Rattle.rq_store.specs.Rows.{HasWaiting, is_under}
use Rattle.rq_store.specs.Settled.{IsSettled}
use Rattle.rq_views.specs.Claims.{appends_of}
use Rattle.rq_views.proofs.Holders.{not_txn}
use Rattle.rq_store.specs.Whole.{IsWhole}
use Rattle.rq_txn.specs.declared.Aim.{Aim}
use Rattle.rq_txn.specs.Rows.{Under, Row, deed_of, found_row, without_row}
use Rattle.rq_txn.specs.declared.Aim.TheVariants.{Doing, Undoing}
use Rattle.rq_store.proofs.RowSums.{rows_without}
use Rattle.rq_store.proofs.RowLists.{gone}
use Rattle.rq_sound.specs.Standing.{IsAsPlanned, IsRow, AreStanding}
use Rattle.rq_sound.specs.Counted.{AreCounted, IsCovered, CoversAim, appending, appending_in, appends_one, appends_all, takes_all, takes_in, sends_in, uses_before, uses_after, made_of, before_in, after_in}
use Rattle.rq_store.proofs.Ends.{without_ends}
use Rattle.rq_store.proofs.Placed.{told_placed, count_takes}
use Rattle.rq_sound.proofs.Going.{other_gone}
use Rattle.rq_sound.proofs.Beside.{says_commit}
use Rattle.rq_sound.proofs.Alone.{takes_below}
use Rattle.rq_sound.proofs.OwnRecord.{place, row, of_order, running}
use Rattle.rq_sound.proofs.Standings.{stands_gone}

none_beyond : (n g : ℕ) (ops : List Op) → AllBelow n ops → n ≤ g → length (filter_map (taken_from g) ops) ≡ 0
none_beyond n g [] h m = refl
none_beyond n g (Send x ∷ ops) h m = none_beyond n g ops h.1 m
none_beyond n g (Take x ∷ ops) h m = rw (false_from_ne_true (nat_eq x.sender g) (λ y. let e = eqb-true x.sender g y in let b = h.0 in absurd (omega (arith, e, b, m)))) (none_beyond n g ops h.1 m)
none_beyond n g (End x ∷ ops) h m = none_beyond n g ops h.1 m
none_beyond n g (Mark client tag ∷ ops) h m = none_beyond n g ops h.1 m

sends_many : (d : Deed) → cond (is_sent (op_of (said d))) 1 0 ≡ appends_of d
sends_many (Append q n tag previous body) = refl
sends_many (UnlinkHead q n tag body) = refl
sends_many (Close q) = refl
sends_many (Mark c tag previous) = refl

-- how many messages finished operations sent
pub count_sends : (fs : List Finished) → length (filter is_sent (map op_done fs)) ≡ sum_by appends_one fs
count_sends [] = refl
count_sends (f ∷ fs) =
    let a = sum_by-cons appends_one f fs in
    let b = sends_many f.deed in
    let c = count_sends fs in
    elim (cases_Bool (is_sent (op_done f))) [
      | inl y ↦ let d : 1 ≡ appends_one f = sym (rw y refl) ∙ b in rw y (omega (arith, a, c, d))
      | inr n ↦ let d : 0 ≡ appends_one f = sym (rw n refl) ∙ b in rw n (omega (arith, a, c, d))
    ]

more_waits : (z : Sizes) (log : List Record) (ends : HeldEnds) (q : Row) (ws vs : List ℕ) (o : Option Under) → ((g : ℕ) → g < sender_count z → waits ws g ≤ waits vs g) → IsAsPlanned z log ends q o → IsCovered ws o → IsCovered vs o
more_waits z log ends q ws vs None more g h = tt
more_waits z log ends q ws vs (Some v) more g h = at v.aim g.0.of_store h where
  waiting : (e : Deed) → IsDeedOf z e → HasWaiting ws e → HasWaiting vs e
  waiting (Append g n tag previous body) m h = tt
  waiting (UnlinkHead g n tag body) m h = let a = more g m in omega (arith, a, h)
  waiting (Close g) m h = tt
  waiting (Mark c tag previous) m h = tt

  at : (a : Aim) → IsDeedOf z (deed_of a) → CoversAim ws a → CoversAim vs a
  at (Doing e) m h = waiting e m h
  at (Undoing lsn e) m h = tt

module _ (z : Sizes) (log : List Record) (ends : HeldEnds) (rows : List Row) (i b cells now : ℕ) (waiting ws : List ℕ) (whole : IsWhole z log) (k : AreStanding z log ends rows i b) (c : AreCounted z log rows cells waiting)
    (incarnation : incarnation_of log ≡ i) (some : 1 ≤ i) (r : Row) (at_row : found_row r.txn rows ≡ Some r) (idle : r.under ≡ None) (open_one : r.aborting ≡ false)
    (freed : now + takes_all r ≡ cells) (waited : (g : ℕ) → g < sender_count z → waits ws g ≡ waits waiting g + sends_in g r) where
  abbrev t : Txn
  t = r.txn

  abbrev x : Record
  x = Commit_record t

  here : In r rows
  here = place z log ends rows i b k incarnation some r at_row

  own : IsRow z log ends i b r
  own = row z log ends rows i b k incarnation some r at_row

  own_idle : (n : ℕ) → under_way (operation t n) (items z log) ≡ false
  own_idle n = own.idle n (ap (is_under n) idle)

  may : MayFollow (layout_of z) (items z log) (Commit t)
  may = record {
    idle = λ o e. ap (λ (q : Txn). under_way (operation q o.number) (items z log)) e ∙ own_idle o.number;
    running = running z log ends rows i b k incarnation some r at_row;
  }

  pub whole_commit : IsWhole z (x ∷ log)
  whole_commit = record {
    legal = (may, whole.legal);
    told = (tt, whole.told);
    rules = (tt, (λ v e. elim (or_cases (same_txn t v) false e) [ inl y ↦ ap (has_end log) (sym (same_is t v y)) ∙ own.running | inr y ↦ absurd (false≢true y) ]), whole.rules);
    reads = (own.forward open_one, whole.reads);
    in_store = (tt, whole.in_store);
    befores = (tt, whole.befores);
    based = (tt, whole.based);
    behind = (own.behind, whole.behind);
    order = (of_order z log ends rows i b k incarnation some r at_row, whole.order);
    room = (tt, whole.room);
    numbers = (tt, whole.numbers);
  }

  settled_own : IsSettled z (x ∷ log) t
  settled_own = record {
    settled = cond-true (same_txn t t) _ _ (same_self t);
    unused = λ live. absurd (true≢false (sym (or_left (same_txn t t || false) (has_end log t) (or_left (same_txn t t) false (same_self t))) ∙ live));
    idle = own_idle;
  }

  pub stands_commit : AreStanding z (x ∷ log) (without_ends t ends) (without_row t rows) i b
  stands_commit = stands_gone z log (x ∷ log) ends rows i b k t r at_row (λ q n. says_commit z log t q (not_txn t q n)) (λ q u h g. (other_gone z log ends (without_ends t ends) q u t h g).0) settled_own (λ q n h. or_from _ _ (not_txn t q n) h)

  abbrev ops : List Op
  ops = map op_done r.finished

  ops_are : told t log ≡ ops
  ops_are = ap ops_told (sym (own_deeds z t log whole.reads own.running (own.forward open_one))) ∙ ap (λ ps. ops_told (say ps)) own.done ∙ told_placed r.finished

  ops_below : AllBelow (sender_count z) ops
  ops_below = subst (AllBelow (sender_count z)) (ap (λ ps. ops_told (say ps)) own.done ∙ told_placed r.finished) (ops_in_store z (open_deeds t (items z log)) (deeds_in_store z t log whole.in_store))

  takes_within : (g : ℕ) → length (filter_map (taken_from g) ops) ≤ length (rest_in (committed_of log) g)
  takes_within g = elim (cases_lt g (sender_count z)) [
    | inl m ↦ let a = takes_below z log ends rows i b whole k cells waiting c g r m here in omega (arith, a)
    | inr m ↦ let a = none_beyond (sender_count z) g ops ops_below m in omega (arith, a)
  ]

  abbrev done : Done
  done = record { txn = t; lsn = length log + 1; ops = told t log }

  moved : count_rest (below (sender_count z)) (committed_of log ++ done ∷ []) + takes_all r ≡ count_rest (below (sender_count z)) (committed_of log) + appends_all r
  moved =
      let a = commit_counts (sender_count z) (committed_of log) t (length log + 1) ops ops_below (taken_within log whole.rules) takes_within in
      let e = ap (λ (ops : List Op). count_rest (below (sender_count z)) (committed_of log ++ record { txn = t; lsn = length log + 1; ops = ops } ∷ [])) ops_are in
      let f = count_takes r.finished in
      let h = count_sends r.finished in
      omega (arith, a, e, f, h)

  now_waiting : (g : ℕ) → g < sender_count z → waits ws g + sum_by (takes_in g) (without_row t rows) ≡ length (rest_in (committed_of log ++ done ∷ []) g)
  now_waiting g m =
      let mine : Done = record { txn = t; lsn = length log + 1; ops = ops } in
      let a = rest_more (committed_of log) mine g (taken_within log whole.rules g) (takes_within g) in
      let v = rows_without (takes_in g) t rows r k.distinct at_row in
      let y = c.waited g m in
      let d = waited g m in
      let e : length (rest_in (committed_of log ++ done ∷ []) g) ≡ length (rest_in (committed_of log ++ mine ∷ []) g) = ap (λ (ops : List Op). length (rest_in (committed_of log ++ record { txn = t; lsn = length log + 1; ops = ops } ∷ []) g)) ops_are in
      let f : takes_in g r ≡ length (filter_map (taken_from g) mine.ops) = refl in
      let h : sends_in g r ≡ length (filter_map (sent_for g) mine.ops) = refl in
      omega (arith, a, v, y, d, e, f, h)

  pub counts_commit : AreCounted z (x ∷ log) (without_row t rows) now ws
  counts_commit =
      let a = rows_without appends_all t rows r k.distinct at_row in
      let d = rows_without appending_in t rows r k.distinct at_row in
      let e = rows_without takes_all t rows r k.distinct at_row in
      let f = rows_without (before_in z) t rows r k.distinct at_row in
      let h = rows_without (after_in z) t rows r k.distinct at_row in
      let d1 : appending_in r ≡ 0 = ap appending idle in
      let f1 : before_in z r ≡ 0 = ap (λ (o : Option Under). sum_by uses_before (made_of z o)) idle in
      let h1 : after_in z r ≡ 0 = ap (λ (o : Option Under). sum_by uses_after (made_of z o)) idle in
      let m = moved in
      let k1 = c.committed in
      let k3 = c.used in
      let k4 = c.room in
      let k5 = c.bound in
      record {
        committed = omega (arith, a, d, d1, m, k1, freed);
        used = omega (arith, d, d1, e, k3, freed);
        room = omega (arith, f, h, f1, h1, k4);
        bound = omega (arith, k5, freed);
        waited = now_waiting;
        covered = λ q j. more_waits z log ends q waiting ws q.under (λ g m. (let v = waited g m in omega (arith, v))) (k.each q (gone t rows q j).0).going (c.covered q (gone t rows q j).0);
      }

  -- what is kept of each sender's sends, and of each client's marks, is what the commits tell then
  module _ (sent new : SentBy) (kept : KeepsSends z log sent) (counts : (i : ℕ) → i < place_count z → sent_count new i ≡ sent_count sent i + sends_in (group_of z i) r)
      (tags : (i : ℕ) → i < place_count z → sent_tag new i ≡ tag_after (sent_tag sent i) (sends_for (group_of z i) r)) where
    own_sends : (g : ℕ) → filter_map (sent_for g) done.ops ≡ sends_for g r
    own_sends g = ap (λ (l : List Op). filter_map (sent_for g) l) ops_are

    pub sends_commit : KeepsSends z (x ∷ log) new
    sends_commit = record {
      counts = λ i m. (let g = group_of z i in
          counts i m ∙ ap (λ n. n + sends_in g r) (kept.counts i m) ∙ ap (λ l. (group_in (committed_of log) g).sent + length l) (sym (own_sends g))
          ∙ sym (ap (λ (y : Group). y.sent) (group_more (committed_of log) done g (taken_within log whole.rules g))));
      tags = λ i m. (let g = group_of z i in
          tags i m ∙ ap (λ n. tag_after n (sends_for g r)) (kept.tags i m) ∙ ap (tag_after (group_in (committed_of log) g).last_tag) (sym (own_sends g))
          ∙ sym (ap (λ (y : Group). y.last_tag) (group_more (committed_of log) done g (taken_within log whole.rules g))));
    }
