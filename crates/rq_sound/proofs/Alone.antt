-- Who holds an end is alone with it in the log, and may take what waits.
use Rattle.std.proofs.Common.{◌≡◌, ℕ, ◌+◌, ◌-◌, ◌<◌, ◌≤◌, ◌||◌, List, [], length, refl, sym, ◌∙◌, ap, subst, true, false, not, Option, Some, None, arith}
use Rattle.std.specs.List.{filter_map}
use Rattle.std.proofs.lemmas.Bool.{false≢true, and_parts, not-true, false_from_ne_true}
use Rattle.std.proofs.lemmas.List.{length-drop}
use Rattle.rq_model.specs.declared.txn.Txn.{Txn}
use Rattle.rq_model.specs.declared.record.Record.{Record}
use Rattle.rq_model.specs.Vocabulary.{In, same_txn, taken_from}
use Rattle.rq_model.specs.History.{Group}
use Rattle.rq_model.specs.Ledger.{rest_in, sent_in, taken_in, group_in}
use Rattle.rq_model.specs.Content.{deeds, has_end, has_commit, removed, added, shape}
use Rattle.rq_model.specs.Commits.{ops_told, committed_of}
use Rattle.rq_model.specs.Rules.{holds, any_use, uses_send, uses_receive}
use Rattle.rq_model.proofs.Told.{told_taken, not_yet, content_is}
use Rattle.rq_model.proofs.Commits.{removed_both, shape_is, covered_log, around_itself}
use Rattle.rq_page.specs.Sizes.{Sizes, sender_count}
use Rattle.rq_views.specs.Items.{items, has_undone}
use Rattle.rq_views.specs.Legal.{open_deeds}
use Rattle.rq_views.specs.Groups.{on_receiving_end, side, Alone}
use Rattle.rq_views.proofs.Committed.{say}
use Rattle.rq_views.proofs.Content.{own_deeds}
use Rattle.rq_views.proofs.Rules.{unused, takes_same}
use Rattle.rq_groups.specs.Ends.{HeldEnds, has_held}
use Rattle.rq_groups.specs.Waiting.{waits}
use Rattle.rq_store.specs.Whole.{IsWhole}
use Rattle.rq_txn.specs.Rows.{Row, found_row}
use Rattle.rq_store.proofs.RowLists.{found_in}
use Rattle.rq_store.proofs.RowSums.{one_of_sum}
use Rattle.rq_sound.specs.Standing.{AreStanding}
use Rattle.rq_sound.specs.Counted.{AreCounted, takes_in}
use Rattle.rq_store.proofs.Placed.{told_placed}

module _ (z : Sizes) (log : List Record) (ends : HeldEnds) (rows : List Row) (incarnation begins : ℕ) (whole : IsWhole z log) (k : AreStanding z log ends rows incarnation begins) where
  pub alone_taking : (g : ℕ) (t : Txn) → has_held t g ends.receiving ≡ true → Alone (on_receiving_end g) t (items z log)
  alone_taking g t h u n = at (found_row u rows) refl where
    at : (o : Option Row) → found_row u rows ≡ o → side (on_receiving_end g) (open_deeds u (items z log)) ≡ []
    at None e = ap (side (on_receiving_end g)) (k.others u e).settled
    at (Some r) e =
        let i = found_in u rows r e in
        let held : any_use (uses_receive g) (deeds (λ v. same_txn v u) log) ≡ true → has_held u g ends.receiving ≡ true = subst (λ v. any_use (uses_receive g) (deeds (λ w. same_txn w v) log) ≡ true → has_held v g ends.receiving ≡ true) i.1 ((k.each r i.0).held.takes g) in
        unused (uses_receive g) (on_receiving_end g) (takes_same g) z u log whole.reads (false_from_ne_true (any_use (uses_receive g) (deeds (λ v. same_txn v u) log)) (λ y. n (k.receiving.one u t g (held y) h)))

  -- whoever has used an end and has not ended is its holder
  pub used_by_holder : (g : ℕ) (t u : Txn) → has_held t g ends.sending ≡ true → holds (uses_send g) log u ≡ true → u ≡ t
  used_by_holder g t u h used = at (found_row u rows) refl where
    parts : (any_use (uses_send g) (deeds (λ v. same_txn v u) log) ≡ true) × (has_end log u ≡ false)
    parts = let p = and_parts (any_use (uses_send g) (deeds (λ v. same_txn v u) log)) (not (has_end log u)) used in (p.0, not-true (has_end log u) p.1)

    at : (o : Option Row) → found_row u rows ≡ o → u ≡ t
    at None e = absurd (false≢true (sym (ap (any_use (uses_send g)) ((k.others u e).unused parts.1)) ∙ parts.0))
    at (Some r) e =
        let i = found_in u rows r e in
        k.sending.one u t g (subst (λ v. any_use (uses_send g) (deeds (λ w. same_txn w v) log) ≡ true → has_held v g ends.sending ≡ true) i.1 ((k.each r i.0).held.sends g) parts.0) h

  pub taken_by_holder : (g : ℕ) (t u : Txn) → has_held t g ends.receiving ≡ true → holds (uses_receive g) log u ≡ true → u ≡ t
  taken_by_holder g t u h used = at (found_row u rows) refl where
    parts : (any_use (uses_receive g) (deeds (λ v. same_txn v u) log) ≡ true) × (has_end log u ≡ false)
    parts = let p = and_parts (any_use (uses_receive g) (deeds (λ v. same_txn v u) log)) (not (has_end log u)) used in (p.0, not-true (has_end log u) p.1)

    at : (o : Option Row) → found_row u rows ≡ o → u ≡ t
    at None e = absurd (false≢true (sym (ap (any_use (uses_receive g)) ((k.others u e).unused parts.1)) ∙ parts.0))
    at (Some r) e =
        let i = found_in u rows r e in
        k.receiving.one u t g (subst (λ v. any_use (uses_receive g) (deeds (λ w. same_txn w v) log) ≡ true → has_held v g ends.receiving ≡ true) i.1 ((k.each r i.0).held.takes g) parts.0) h

  -- what the log tells that it took is what the row has
  pub removed_is : (g : ℕ) (r : Row) → In r rows → removed g (say (open_deeds r.txn (items z log))) ≡ takes_in g r
  removed_is g r i = sym (told_taken g (say (open_deeds r.txn (items z log)))) ∙ ap (λ ps. length (filter_map (taken_from g) (ops_told (say ps)))) (k.each r i).done ∙ ap (λ l. length (filter_map (taken_from g) l)) (told_placed r.finished)

  sizes : (g : ℕ) → (removed g (deeds (has_commit log) log) ≡ length (taken_in (committed_of log) g)) × (length (added g (deeds (has_commit log) log)) ≡ length (sent_in (committed_of log) g))
  sizes g =
      let k : shape g (deeds (has_commit log) log) ≡ group_in (committed_of log) g = sym (shape_is g (deeds (has_commit log) log) (covered_log g (has_commit log) log whole.rules (around_itself log))) ∙ content_is g log whole.rules in
      (ap (λ (x : Group). x.received) k, ap (λ (x : Group). x.sent) k)

  -- where less was taken than is left, the log lets one that has undone nothing take one more
  pub more_left : (g : ℕ) (r : Row) → In r rows → has_undone log r.txn ≡ false → takes_in g r < length (rest_in (committed_of log) g)
      → removed g (deeds (λ u. has_commit log u || same_txn u r.txn) log) < length (added g (deeds (has_commit log) log))
  more_left g r i forward more =
      let row = k.each r i in
      let w = sizes g in
      let b = removed_both g r.txn (has_commit log) log (not_yet log r.txn row.running) in
      let own : removed g (deeds (λ u. same_txn u r.txn) log) ≡ takes_in g r =
      ap (removed g) (sym (own_deeds z r.txn log whole.reads row.running forward)) ∙ removed_is g r i in
      let d : length (rest_in (committed_of log) g) ≡ length (sent_in (committed_of log) g) - length (taken_in (committed_of log) g) = length-drop (length (taken_in (committed_of log) g)) (sent_in (committed_of log) g) in
      let w0 = w.0 in
      let w1 = w.1 in
      omega (arith, w0, w1, b, own, d, more)

  -- what it took and what waits is no more than what is committed and not taken
  pub takes_below : (cells : ℕ) (waiting : List ℕ) → AreCounted z log rows cells waiting → (g : ℕ) (r : Row) → g < sender_count z → In r rows → takes_in g r + waits waiting g ≤ length (rest_in (committed_of log) g)
  takes_below cells waiting c g r m i = let a = one_of_sum (takes_in g) rows r i in let b = c.waited g m in omega (arith, a, b)
