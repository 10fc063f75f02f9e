-- What is counted of the store with lost transactions, beside their rows.
use Rattle.std.proofs.Common.{◌≡◌, ◌≢◌, ℕ, ◌+◌, ◌-◌, ◌<◌, ◌≤◌, false, List, [], ◌∷◌, length, map, reverse, Option, Some, None, refl, sym, ◌∙◌, ap, subst, arith}
use Rattle.std.specs.List.{filter, filter_map, sum_by}
use Rattle.std.proofs.lemmas.List.{reverse-append}
use Rattle.std.proofs.lemmas.List.Sums.{sum_by-cons}
use Rattle.rq_model.specs.declared.txn.Txn.{Txn}
use Rattle.rq_model.specs.declared.txn.Sub.{Sub}
use Rattle.rq_model.specs.declared.record.Record.{Record}
use Rattle.rq_model.specs.Vocabulary.{In, taken_from}
use Rattle.rq_model.specs.Commits.{committed_of, ops_told}
use Rattle.rq_model.specs.Content.{removed}
use Rattle.rq_model.specs.Counts.{is_taken}
use Rattle.rq_model.specs.Ledger.{rest_in, sent_in, tag_of}
use Rattle.rq_model.specs.Tests.{is_sent}
use Rattle.rq_model.specs.Unended.{lost}
use Rattle.rq_model.proofs.Lists.{In-map}
use Rattle.rq_model.proofs.Told.{told_taken}
use Rattle.rq_page.specs.Sizes.{Sizes, cell_count, sender_count}
use Rattle.rq_views.specs.Items.{items, layout_of}
use Rattle.rq_views.specs.Legal.{Placed, open_deeds, under_way}
use Rattle.rq_views.specs.Stored.{count_used}
use Rattle.rq_views.proofs.Claims.{claimed_within}
use Rattle.rq_views.proofs.Committed.{say}
use Rattle.rq_views.proofs.Holding.{holders, taken_there}
use Rattle.rq_views.proofs.Idle.{idle_quiet}
use Rattle.rq_views.proofs.OpenCounts.{AllOpenIn, open_counts, open_ops}
use Rattle.rq_views.proofs.Settled.{rest_shown}
use Rattle.rq_txn.specs.Rows.{Row, found_row}
use Rattle.rq_groups.specs.Ends.{HeldEnds}
use Rattle.rq_groups.specs.Waiting.{waits}
use Rattle.rq_store.specs.State.{op_done}
use Rattle.rq_store.specs.Rows.{placed}
use Rattle.rq_store.specs.Sends.{KeepsSends, group_of, place_count}
use Rattle.rq_store.specs.Fitting.{left_by}
use Rattle.rq_store.specs.Whole.{IsWhole}
use Rattle.rq_store.proofs.Grouping.{groups_of}
use Rattle.rq_store.proofs.Placed.{placed_more, count_takes, told_placed}
use Rattle.rq_store.proofs.RowLists.{found_in, in_found, some_not_none}
use Rattle.rq_store.proofs.Opening.{told_below}
use Rattle.rq_sound.specs.Counted.{AreCounted, IsCovered, after_in, appending_in, appends_all, before_in, takes_all, takes_in}
use Rattle.rq_sound.specs.Standing.{AreStanding}
use Rattle.rq_sound.proofs.Claimed.{claimed_by_rows}
use Rattle.rq_sound.proofs.Commits.{count_sends}
use Rattle.rq_sound.proofs.RowSums.{alone_of_sum, none_of_sum}
use Rattle.rq_sound.proofs.Asked.{none_removed}
use Rattle.rq_analysis.specs.Lost.{finished_in, finished_one, lost_row, lost_rows, sent_by_log, waiting_beside}
use Rattle.rq_analysis.proofs.AbortEnds.{none_row}
use Rattle.rq_analysis.proofs.Workers.{lost_apart}

-- what is finished, as it is placed in the log
back_placed : (log : List Record) (ps : List Placed) → placed (reverse (map (finished_one log) ps)) ≡ ps
back_placed log [] = refl
back_placed log (p ∷ ps) =
    ap placed (reverse-append (finished_one log p ∷ []) (map (finished_one log) ps))
    ∙ placed_more (reverse (map (finished_one log) ps)) (finished_one log p)
    ∙ ap (λ (l : List Placed). p ∷ l) (back_placed log ps)

pub lost_placed : (z : Sizes) (log : List Record) (t : Txn) → open_deeds t (items z log) ≡ placed (finished_in z log t)
lost_placed z log t = sym (back_placed log (open_deeds t (items z log)))

pub keeps_sends : (z : Sizes) (log : List Record) → KeepsSends z log (sent_by_log z log)
keeps_sends z log = record {
  counts = told_below (λ i. length (sent_in (committed_of log) (group_of z i))) (place_count z);
  tags = told_below (λ i. tag_of (sent_in (committed_of log) (group_of z i))) (place_count z);
}

module _ (z : Sizes) (log : List Record) (ends : HeldEnds) (i b : ℕ) (whole : IsWhole z log) (idle : (o : Sub) → under_way o (items z log) ≡ false) (k : AreStanding z log ends (lost_rows z log) i b) where
  abbrev rows : List Row
  rows = lost_rows z log

  ops_are : (t : Txn) → map op_done (finished_in z log t) ≡ open_ops z log t
  ops_are t = sym (told_placed (finished_in z log t)) ∙ ap (λ ps. ops_told (say ps)) (sym (lost_placed z log t))

  -- sums over the rows are those over the transactions
  takes_sum : (ts : List Txn) → sum_by takes_all (map (lost_row z log) ts) ≡ sum_by (λ t. length (filter is_taken (open_ops z log t))) ts
  takes_sum [] = refl
  takes_sum (t ∷ ts) =
      let a = sum_by-cons takes_all (lost_row z log t) (map (lost_row z log) ts) in
      let b = sum_by-cons (λ u. length (filter is_taken (open_ops z log u))) t ts in
      let c : length (filter is_taken (open_ops z log t)) ≡ takes_all (lost_row z log t) = ap (λ l. length (filter is_taken l)) (sym (ops_are t)) ∙ count_takes (finished_in z log t) in
      let ih = takes_sum ts in
      omega (arith, a, b, c, ih)

  appends_sum : (ts : List Txn) → sum_by appends_all (map (lost_row z log) ts) ≡ sum_by (λ t. length (filter is_sent (open_ops z log t))) ts
  appends_sum [] = refl
  appends_sum (t ∷ ts) =
      let a = sum_by-cons appends_all (lost_row z log t) (map (lost_row z log) ts) in
      let b = sum_by-cons (λ u. length (filter is_sent (open_ops z log u))) t ts in
      let c : length (filter is_sent (open_ops z log t)) ≡ appends_all (lost_row z log t) = ap (λ l. length (filter is_sent l)) (sym (ops_are t)) ∙ count_sends (finished_in z log t) in
      let ih = appends_sum ts in
      omega (arith, a, b, c, ih)

  all_open : AllOpenIn (lost log) (items z log)
  all_open t n = (k.others t (none_row z log t (lost log) n)).settled

  -- nothing is under way in any
  off : (f : Row → ℕ) → ((t : Txn) → f (lost_row z log t) ≡ 0) → sum_by f rows ≡ 0
  off f h = none_of_sum f rows (λ q j. let x = In-map (lost_row z log) (lost log) q j in ap f x.2 ∙ h x.0)

  -- what they took from a sender is there
  takes_are : (g : ℕ) (q : Row) → In q rows → takes_in g q ≡ removed g (say (open_deeds q.txn (items z log)))
  takes_are g q j =
      sym (ap (λ ps. length (filter_map (taken_from g) (ops_told (say ps)))) (k.each q j).done ∙ ap (λ l. length (filter_map (taken_from g) l)) (told_placed q.finished))
      ∙ told_taken g (say (open_deeds q.txn (items z log)))

  taken_within : (g : ℕ) → sum_by (takes_in g) rows ≤ length (rest_in (committed_of log) g)
  taken_within g = at (found_row taker rows) refl where
    taker : Txn
    taker = (holders g (items z log) (groups_of z log whole)).taker

    others : (q : Row) → In q rows → q.txn ≢ taker → takes_in g q ≡ 0
    others q j ne = takes_are g q j ∙ none_removed g (open_deeds q.txn (items z log)) ((holders g (items z log) (groups_of z log whole)).takes q.txn ne)

    at : (o : Option Row) → found_row taker rows ≡ o → sum_by (takes_in g) rows ≤ length (rest_in (committed_of log) g)
    at None e = let a = none_of_sum (takes_in g) rows (λ q j. others q j (λ s. some_not_none (found_row taker rows) (in_found taker rows q j s) e)) in omega (arith, a)
    at (Some r) e =
        let j = found_in taker rows r e in
        let a = alone_of_sum (takes_in g) rows r k.distinct j.0 (λ q l n. others q l (λ s. n (s ∙ sym j.1))) in
        let c = takes_are g r j.0 in
        let d = taken_there g (items z log) r.txn (groups_of z log whole) in
        let f = rest_shown z g log whole.rules whole.reads in
        omega (arith, a, c, d, f)

  waited : (g : ℕ) → g < sender_count z → waits (waiting_beside z log rows) g + sum_by (takes_in g) rows ≡ length (rest_in (committed_of log) g)
  waited g m =
      let a : waits (waiting_beside z log rows) g ≡ length (rest_in (committed_of log) g) - sum_by (takes_in g) rows = told_below (λ s. length (rest_in (committed_of log) s) - sum_by (takes_in s) rows) (sender_count z) g m in
      let c = taken_within g in
      omega (arith, a, c)

  pub lost_counted : AreCounted z log rows (count_used z (left_by z log).quiet + sum_by takes_all rows) (waiting_beside z log rows)
  lost_counted =
      let all = open_counts z log (lost log) whole.legal whole.in_store (groups_of z log whole) whole.rules whole.reads (lost_apart log) all_open in
      let a = takes_sum (lost log) in
      let c = appends_sum (lost log) in
      let d = off appending_in (λ t. refl) in
      let e = off (before_in z) (λ t. refl) in
      let f = off (after_in z) (λ t. refl) in
      let same : (left_by z log).slots ≡ (left_by z log).quiet = λ n. λ x. idle_quiet (layout_of z) (items z log) whole.legal idle x n in
      let quiet = ap (count_used z) same in
      let claims = claimed_by_rows z log ends rows i b whole k in
      let within = claimed_within (cell_count z) (items z log) whole.room in
      record {
        committed = omega (arith, all, a, c, d);
        used = omega (arith, d);
        room = omega (arith, quiet, e, f);
        bound = omega (arith, claims, within);
        waited = waited;
        covered = λ r j. let x = In-map (lost_row z log) (lost log) r j in subst (λ (q : Row). IsCovered (waiting_beside z log rows) q.under) (sym x.2) tt;
      }
