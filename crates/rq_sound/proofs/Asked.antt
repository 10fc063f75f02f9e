-- What the model's tests ask of a sound store, from what the store has: whether a group is closed, whether it holds a
-- message, how many cells are in use.
use Rattle.std.proofs.Common.{◌≡◌, ◌≢◌, ℕ, ◌+◌, ◌<◌, ◌||◌, List, [], ◌∷◌, length, map, refl, sym, ◌∙◌, ap, subst, true, false, cond, Option, Some, None, inl, inr, arith}
use Rattle.std.specs.List.{sum_by}
use Rattle.std.proofs.lemmas.Bool.{cases_Bool, false_from_ne_true}
use Rattle.std.proofs.lemmas.List.Sums.{sum_by-cons}
use Rattle.std.proofs.Math.Bool.{or_comm}
use Rattle.rq_model.specs.Tests as legal
use Rattle.rq_model.specs.declared.txn.Txn.{Txn}
use Rattle.rq_model.specs.declared.record.Deed.{Deed}
use Rattle.rq_model.specs.declared.record.Deed.TheVariants.{Append, UnlinkHead, Close, Mark}
use Rattle.rq_model.specs.declared.record.Record.{Record}
use Rattle.rq_model.specs.Vocabulary.{In, same_txn}
use Rattle.rq_model.specs.Ledger.{rest_in, ended_in, any_ends}
use Rattle.rq_model.specs.Tests.{pending, is_sending, has_closed}
use Rattle.rq_model.specs.Content.{said, removed, removed_one, closed, deeds}
use Rattle.rq_model.specs.Commits.{ops_told, committed_of}
use Rattle.rq_model.specs.Rules.{any_use, uses_send, uses_receive}
use Rattle.rq_model.proofs.Told.{told_ends}
use Rattle.rq_page.specs.Sizes.{Sizes, sender_count}
use Rattle.rq_views.specs.Items.{items}
use Rattle.rq_views.specs.Legal.{Placed, open_deeds, view}
use Rattle.rq_views.specs.Groups.{on_sending_end as sends_for, on_receiving_end, side, Alone}
use Rattle.rq_views.proofs.Committed.{say}
use Rattle.rq_views.proofs.Holding.{holders, view_holds, committed_is_group}
use Rattle.rq_views.proofs.Rules.{unused, sends_same, takes_same}
use Rattle.rq_groups.specs.Ends.{HeldEnds, has_held, is_free_for}
use Rattle.rq_groups.specs.Waiting.{waits}
use Rattle.rq_store.specs.State.{op_done, size_of, State, open_of, open_ones_of, ledger_of, job_under, job_of_aim}
use Rattle.rq_store.specs.Whole.{IsWhole}
use Rattle.rq_store.proofs.Grouping.{groups_of}
use Rattle.rq_txn.specs.declared.Aim.{Aim}
use Rattle.rq_txn.specs.Rows.{Under, Row, found_row}
use Rattle.rq_txn.specs.declared.Aim.TheVariants.{Doing, Undoing}
use Rattle.rq_store.proofs.RowLists.{found_in}
use Rattle.rq_sound.proofs.RowSums.{alone_of_sum}
use Rattle.rq_sound.specs.Sound.{IsSound}
use Rattle.rq_sound.specs.Standing.{AreStanding}
use Rattle.rq_sound.specs.Counted.{AreCounted, appends_aim, appending, appending_in, appends_all, takes_in}
use Rattle.rq_store.proofs.Placed.{told_placed}
use Rattle.rq_store.proofs.Ends.{free_alone}
use Rattle.rq_sound.proofs.Alone.{removed_is}
use Rattle.rq_sound.proofs.Commits.{count_sends}

one_none : (g : ℕ) (d : Deed) → on_receiving_end g d ≡ false → removed_one g (said d) ≡ 0
one_none g (Append q n tag previous body) e = refl
one_none g (UnlinkHead q n tag body) e = rw e refl
one_none g (Close q) e = refl
one_none g (Mark c tag previous) e = refl

pub none_removed : (g : ℕ) (ps : List Placed) → side (on_receiving_end g) ps ≡ [] → removed g (say ps) ≡ 0
none_removed g [] e = refl
none_removed g (p ∷ ps) e = elim (cases_Bool (on_receiving_end g p.deed)) [
  | inl y ↦ (let bad : p.deed ∷ side (on_receiving_end g) ps ≡ [] = rw y at e in absurd (cc))
  | inr n ↦ (let a = none_removed g ps (rw n at e) in let b = one_none g p.deed n in omega (arith, a, b))
]

module _ (z : Sizes) (log : List Record) (ends : HeldEnds) (rows : List Row) (i b : ℕ) (whole : IsWhole z log) (k : AreStanding z log ends rows i b) where
  -- where the sending end is free for t, t alone has sent or closed
  pub alone_free : (s : ℕ) (t : Txn) → is_free_for t s ends.sending ≡ true → Alone (sends_for s) t (items z log)
  alone_free s t free u n = at (found_row u rows) refl where
    at : (o : Option Row) → found_row u rows ≡ o → side (sends_for s) (open_deeds u (items z log)) ≡ []
    at None e = ap (side (sends_for s)) (k.others u e).settled
    at (Some r) e =
        let j = found_in u rows r e in
        let held : any_use (uses_send s) (deeds (λ v. same_txn v u) log) ≡ true → has_held u s ends.sending ≡ true = subst (λ v. any_use (uses_send s) (deeds (λ w. same_txn w v) log) ≡ true → has_held v s ends.sending ≡ true) j.1 ((k.each r j.0).held.sends s) in
        unused (uses_send s) (sends_for s) (sends_same s) z u log whole.reads (false_from_ne_true (any_use (uses_send s) (deeds (λ v. same_txn v u) log)) (λ y. n (free_alone t u s ends.sending free (held y))))

  -- so the group is closed for t where a commit or t itself closed it
  pub closed_is : (s : ℕ) (r : Row) → In r rows → is_free_for r.txn s ends.sending ≡ true → (view (items z log) s).closed ≡ (ended_in (committed_of log) s || has_closed s (Some (open_of ends r)))
  closed_is s r j free =
      let h = holders s (items z log) (groups_of z log whole) in
      let v = view_holds s (items z log) r.txn h.taker (groups_of z log whole) (alone_free s r.txn free) h.takes in
      let c = committed_is_group z s log whole.rules whole.reads in
      let own : closed s (say (open_deeds r.txn (items z log))) ≡ any_ends s (map op_done r.finished) = sym (told_ends s (say (open_deeds r.txn (items z log)))) ∙ ap (λ ps. any_ends s (ops_told (say ps))) (k.each r j).done ∙ ap (any_ends s) (told_placed r.finished) in
      v.closed ∙ ap (λ x. closed s (say (open_deeds r.txn (items z log))) || x) c.closed ∙ ap (λ x. x || ended_in (committed_of log) s) own ∙ or_comm (any_ends s (map op_done r.finished)) (ended_in (committed_of log) s)

  none_from : (g : ℕ) (t : Txn) (q : Row) → In q rows → is_free_for t g ends.receiving ≡ true → q.txn ≢ t → takes_in g q ≡ 0
  none_from g t q j free n =
      sym (removed_is z log ends rows i b whole k g q j)
      ∙ none_removed g (open_deeds q.txn (items z log)) (unused (uses_receive g) (on_receiving_end g) (takes_same g) z q.txn log whole.reads
      (false_from_ne_true (any_use (uses_receive g) (deeds (λ v. same_txn v q.txn) log)) (λ y. n (free_alone t q.txn g ends.receiving free ((k.each q j).held.takes g y)))))

  -- where the receiving end is free for t, the group holds a message for t where one waits
  pub holds_is : (cells : ℕ) (waiting : List ℕ) → AreCounted z log rows cells waiting → (g : ℕ) (r : Row) → g < sender_count z → In r rows → is_free_for r.txn g ends.receiving ≡ true → waits waiting g + takes_in g r ≡ length (rest_in (committed_of log) g)
  holds_is cells waiting c g r m j free =
      let a = alone_of_sum (takes_in g) rows r k.distinct j (λ q l n. none_from g r.txn q l free n) in
      let d = c.waited g m in
      omega (arith, a, d)

aim_sends : (a : Aim) → cond (is_sending (Some (job_of_aim a))) 1 0 ≡ appends_aim a
aim_sends (Doing (Append q n tag previous body)) = refl
aim_sends (Doing (UnlinkHead q n tag body)) = refl
aim_sends (Doing (Close q)) = refl
aim_sends (Doing (Mark c tag previous)) = refl
aim_sends (Undoing lsn d) = refl

under_sends : (o : Option Under) → cond (is_sending (job_under o)) 1 0 ≡ appending o
under_sends None = refl
under_sends (Some u) = aim_sends u.aim

pub pending_is : (ends : HeldEnds) (rows : List Row) → sum_by pending (open_ones_of ends rows) ≡ sum_by appends_all rows + sum_by appending_in rows
pending_is ends [] = refl
pending_is ends (r ∷ rows) =
    let a = sum_by-cons pending (open_of ends r) (open_ones_of ends rows) in
    let b = sum_by-cons appends_all r rows in
    let c = sum_by-cons appending_in r rows in
    let d = count_sends r.finished in
    let e = under_sends r.under in
    let f = pending_is ends rows in
    omega (arith, a, b, c, d, e, f)

-- the cells in use are those of the model, so the store is full exactly where the model is
pub cells_are : (s : State) → IsSound s → legal.cells_in_use (size_of s.sizes) (ledger_of s) ≡ s.cells_in_use
cells_are s k = let a = pending_is s.ends s.rows in let b = k.counted.committed in omega (arith, a, b)
