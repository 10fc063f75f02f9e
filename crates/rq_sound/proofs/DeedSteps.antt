-- Deeds and commits are steps of the model.
use Rattle.std.proofs.Common.{◌≡◌, ◌≢◌, ℕ, zero, suc, ◌+◌, ◌-◌, ◌/◌, ◌<◌, ◌≤◌, ◌++◌, List, [], ◌∷◌, length, map, drop, reverse, refl, sym, ◌∙◌, ap, subst, true, false, nat_lt, cond, Some, None, arith}
use Rattle.std.specs.List.{slice_get}
use Rattle.std.specs.Option.{option_map}
use Rattle.std.proofs.lemmas.Bool.{false_from_ne_true, lt-ltb, ltb-true}
use Rattle.std.proofs.lemmas.List.{length-drop, length-map, length-reverse, map-append}
use Rattle.std.proofs.lemmas.Option.{slice_get-map}
use Rattle.rq_model.specs.declared.txn.Txn.{Txn}
use Rattle.rq_model.specs.declared.record.Deed.{Deed}
use Rattle.rq_model.specs.declared.record.Deed.TheVariants.{Append, UnlinkHead, Close, Mark}
use Rattle.rq_model.specs.declared.record.Record.TheVariants.{Commit as Commit_record}
use Rattle.rq_model.specs.Commits.{committed_of, op_of, ops_told, told}
use Rattle.rq_model.specs.Content.{said, removed, added}
use Rattle.rq_model.specs.History.{Entry, Job, Call}
use Rattle.rq_model.specs.Ledger.{Done, Open, Ledger, after, change, done_more, found, in_chain, kept_in, ops_of, rest_in, own_takes, started as open_started, without, writes}
use Rattle.rq_model.specs.Legal.{CanStart, IsDoneBy, OnFound, start_of}
use Rattle.rq_model.specs.Replay.{Reply, Says}
use Rattle.rq_model.specs.Tests.{Passes, holds_for, log_full, steps_left, free_to_receive}
use Rattle.rq_model.specs.Vocabulary.{Op, In, client_group}
use Rattle.rq_model.proofs.Same.{other_same}
use Rattle.rq_page.specs.Sizes.{Sizes, sender_count}
use Rattle.rq_views.specs.Committed.{message_of}
use Rattle.rq_views.specs.Groups.{TellsView, committed as committed_view}
use Rattle.rq_views.specs.InStore.{IsDeedOf}
use Rattle.rq_views.specs.Items.{items, layout_of}
use Rattle.rq_views.specs.Legal.{open_deeds, view}
use Rattle.rq_views.specs.Plans.{deed_sender}
use Rattle.rq_views.specs.Plans.Turn.{Did}
use Rattle.rq_views.proofs.Committed.{say}
use Rattle.rq_views.proofs.Content.{own_deeds}
use Rattle.rq_views.proofs.Holding.{committed_is_group, tag_and_body, view_holds, holders}
use Rattle.rq_views.proofs.Settled.{rest_shown}
use Rattle.rq_level.specs.Writes.{write_of, writes_of}
use Rattle.rq_txn.specs.declared.Finished.{Finished}
use Rattle.rq_groups.specs.Sent.{SentBy}
use Rattle.rq_groups.specs.Ends.{HeldEnds, has_held, is_free_for}
use Rattle.rq_groups.specs.Waiting.{waits}
use Rattle.rq_groups.proofs.Holders.{held_with_same, held_with_other}
use Rattle.rq_store.specs.Fitting.{left_by}
use Rattle.rq_store.specs.Rows.{HoldsFor, HasWaiting}
use Rattle.rq_store.specs.State.{size_of, job_of, op_done, State, ledger_of, open_of, open_ones_of, job_of_aim, job_under, left_under}
use Rattle.rq_store.specs.Steps.{gave_done, op_end, took}
use Rattle.rq_store.proofs.Grouping.{groups_of}
use Rattle.rq_store.proofs.Placed.{told_placed}
use Rattle.rq_store.proofs.Owing.{one_longer}
use Rattle.rq_txn.specs.Rows.{Under, Row, deed_of, row_finished, row_started}
use Rattle.rq_store.proofs.RowLists.{found_in, unique}
use Rattle.rq_txn.specs.declared.Aim.TheVariants as aims
use Rattle.rq_sound.specs.Rows.{own_slot}
use Rattle.rq_sound.specs.Standing.{FollowsPlan, IsAsPlanned, TellsFor}
use Rattle.rq_sound.specs.Counted.{CoversAim, IsCovered, takes_in}
use Rattle.rq_sound.specs.Sound.{IsSound}
use Rattle.rq_sound.specs.Starts.{MayDo, with_end}
use Rattle.rq_sound.specs.Calls.{committed, finished, started, IsReady, MayCommit, IsIdle}
use Rattle.rq_sound.specs.ModelSteps.{IsModelStep}
use Rattle.rq_sound.specs.Theorems.{DeedsAreSteps}
use Rattle.rq_store.proofs.Opens.{found_open, open_found}
use Rattle.rq_sound.proofs.Ledgers.{opens_change, opens_without, open_other}
use Rattle.rq_sound.proofs.AbortSteps.{at_open, is_ready, none_to_make, runs_now, under_here}
use Rattle.rq_sound.proofs.Alone.{alone_taking, removed_is, takes_below}
use Rattle.rq_sound.proofs.Contracts.{answered, calls_keep, shows_own}
use Rattle.rq_sound.proofs.FreeEnds.{free_to_take}
use Rattle.rq_sound.proofs.Lengths.{deed_length, deed_writes}
use Rattle.rq_sound.proofs.Own.{latches_own}
use Rattle.rq_sound.proofs.UndoStarts.{chain_is}

-- the others hold what they held
other_open : (t : Txn) (d : Deed) (ends : HeldEnds) (q : Row) → q.txn ≢ t → open_of (with_end t d ends) q ≡ open_of ends q
other_open t (Append g n tag previous body) ends q ne = ap (λ (l : List ℕ). record (open_of ends q) { sending = l }) (held_with_other t q.txn g ends.sending (other_same t q.txn (λ e. ne (sym e))))
other_open t (UnlinkHead g n tag body) ends q ne = ap (λ (l : List ℕ). record (open_of ends q) { receiving = l }) (held_with_other t q.txn g ends.receiving (other_same t q.txn (λ e. ne (sym e))))
other_open t (Close g) ends q ne = ap (λ (l : List ℕ). record (open_of ends q) { sending = l }) (held_with_other t q.txn g ends.sending (other_same t q.txn (λ e. ne (sym e))))
other_open t (Mark c tag previous) ends q ne = ap (λ (l : List ℕ). record (open_of ends q) { sending = l }) (held_with_other t q.txn (client_group c) ends.sending (other_same t q.txn (λ e. ne (sym e))))

-- and who starts holds the end besides
own_open : (ends : HeldEnds) (r : Row) (u : Under) (d : Deed) (left : ℕ) (z : Sizes) → IsDeedOf z d → u.number ≡ r.number + 1 → u.aim ≡ aims.Doing d → length u.writes - u.made ≡ left
    → open_of (with_end r.txn d ends) (row_started u r) ≡ open_started (r.number + 1) left (job_of d) (open_of ends r)
own_open ends r u (Append g n tag previous body) left z of_store number aim left_is =
    let d = Append g n tag previous body in
    let o = open_of (with_end r.txn d ends) (row_started u r) in
    ap (λ (k : ℕ). record o { number = k }) number
    ∙ ap (λ a. record o { number = r.number + 1; under = Some (job_of_aim a) }) aim
    ∙ ap (λ (k : ℕ). record o { number = r.number + 1; under = Some (job_of d); left = k }) left_is
    ∙ ap (λ (l : List ℕ). record (open_of ends r) { number = r.number + 1; under = Some (job_of d); left = left; sending = l }) (held_with_same r.txn g ends.sending)
own_open ends r u (UnlinkHead g n tag body) left z of_store number aim left_is =
    let d = UnlinkHead g n tag body in
    let o = open_of (with_end r.txn d ends) (row_started u r) in
    ap (λ (k : ℕ). record o { number = k }) number
    ∙ ap (λ a. record o { number = r.number + 1; under = Some (job_of_aim a) }) aim
    ∙ ap (λ (k : ℕ). record o { number = r.number + 1; under = Some (job_of d); left = k }) left_is
    ∙ ap (λ (l : List ℕ). record (open_of ends r) { number = r.number + 1; under = Some (job_of d); left = left; receiving = l }) (held_with_same r.txn g ends.receiving)
own_open ends r u (Close g) left z of_store number aim left_is =
    let d = Close g in
    let o = open_of (with_end r.txn d ends) (row_started u r) in
    ap (λ (k : ℕ). record o { number = k }) number
    ∙ ap (λ a. record o { number = r.number + 1; under = Some (job_of_aim a) }) aim
    ∙ ap (λ (k : ℕ). record o { number = r.number + 1; under = Some (job_of d); left = k }) left_is
    ∙ ap (λ (l : List ℕ). record (open_of ends r) { number = r.number + 1; under = Some (job_of d); left = left; sending = l }) (held_with_same r.txn g ends.sending)
own_open ends r u (Mark c tag previous) left z of_store number aim left_is =
    let d = Mark c tag previous in
    let o = open_of (with_end r.txn d ends) (row_started u r) in
    ap (λ (k : ℕ). record o { number = k }) number
    ∙ ap (λ a. record o { number = r.number + 1; under = Some (job_of_aim a) }) aim
    ∙ ap (λ (k : ℕ). record o { number = r.number + 1; under = Some (job_of d); left = k }) left_is
    ∙ ap (λ (l : List ℕ). record (open_of ends r) { number = r.number + 1; under = Some (job_of d); left = left; sending = l }) (held_with_same r.txn (client_group c) ends.sending)

writes_are : (l : Ledger) (t : Txn) (d : Deed) → writes l t (job_of d) ≡ deed_writes d (in_chain l (deed_sender d))
writes_are l t (Append g n tag previous body) = refl
writes_are l t (UnlinkHead g n tag body) = refl
writes_are l t (Close g) = refl
writes_are l t (Mark c tag previous) = refl

says_start : (t : Txn) (n : ℕ) (d : Deed) → Says (start_of t (job_of d)) (Reply.Gave_sub t n) (Entry.Started t n (job_of d))
says_start t n (Append g k tag previous body) = (refl, refl)
says_start t n (UnlinkHead g k tag body) = (refl, refl)
says_start t n (Close g) = (refl, refl)
says_start t n (Mark c tag previous) = (refl, refl)

module _ (s : State) (k : IsSound s) where
  abbrev l : Ledger
  l = ledger_of s

  module _ (r : Row) (u : Under) (d : Deed) (m : MayDo s r u d) where
    here : In r s.rows
    here = (found_in r.txn s.rows r m.planned.at_row).0

    left_is : length u.writes - u.made ≡ writes l r.txn (job_of d)
    left_is =
        let p = m.planned in
        let off = p.free (own_slot s.sizes d / 16) (latches_own s.sizes (Did d) u.writes p.plan) in
        let a = writes_are l r.txn d in
        let b : deed_writes d (in_chain l (deed_sender d)) ≡ deed_writes d (length (view (items s.sizes s.records) (deed_sender d)).messages) = ap (deed_writes d) (chain_is s k (deed_sender d)) in
        let c = deed_length (layout_of s.sizes) (left_by s.sizes s.records).slots (reverse (writes_of s.sizes u.writes)) d (view (items s.sizes s.records) (deed_sender d)) p.plan p.fits (shows_own s k d m.of_store off) in
        let e = length-reverse (writes_of s.sizes u.writes) in
        let f = length-map u.writes (write_of s.sizes) in
        let g = p.made in
        omega (arith, a, b, c, e, f, g)

    can : (e : Deed) → d ≡ e → CanStart l (open_of s.ends r) (job_of e)
    can (Append g n tag previous body) e = tt
    can (UnlinkHead g n tag body) e =
        let x = subst (λ y. MayDo s r u y) e m in
        let a = answered.waiting s g r k x.of_store here x.end in
        let b : 1 ≤ waits s.waiting g = x.waits in
        lt-ltb (length (own_takes g (open_of s.ends r))) (length (rest_in (committed_of s.records) g)) (omega (arith, a, b))
    can (Close g) e = tt
    can (Mark c tag previous) e = tt

    start_after : ledger_of (started s r u (with_end r.txn d s.ends)) ≡ after (Entry.Started r.txn (r.number + 1) (job_of d)) l
    start_after =
        ap (λ (os : List Open). record l { open_ones = os })
        (opens_change r.txn s.ends (with_end r.txn d s.ends) (row_started u) (open_started (r.number + 1) (writes l r.txn (job_of d)) (job_of d)) s.rows
        (λ q i e. let same : q ≡ r = unique s.rows q r k.standing.distinct i here e in ap (λ (y : Row). open_of (with_end r.txn d s.ends) (row_started u y)) same ∙ own_open s.ends r u d (writes l r.txn (job_of d)) s.sizes m.of_store m.planned.number m.aim left_is ∙ ap (λ (y : Row). open_started (r.number + 1) (writes l r.txn (job_of d)) (job_of d) (open_of s.ends y)) (sym same))
        (λ q i n. other_open r.txn d s.ends q n))

    start_legal : OnFound (found r.txn l.open_ones) (λ (q : Open). (r.number + 1 ≡ q.number + 1) × CanStart l q (job_of d))
    start_legal = subst (λ o. OnFound o (λ (q : Open). (r.number + 1 ≡ q.number + 1) × CanStart l q (job_of d))) (sym (found_open s.ends r.txn s.rows ∙ ap (open_found s.ends) m.planned.at_row)) (refl, can d refl)

get_dropped : {X : Type 0} (k : ℕ) (xs : List X) (x : X) (rest : List X) → drop k xs ≡ x ∷ rest → slice_get xs k ≡ Some x
get_dropped zero [] x rest e = cc
get_dropped zero (y ∷ xs) x rest e = let f : y ≡ x = cc in ap (λ z. Some z) f
get_dropped (suc k) [] x rest e = cc
get_dropped (suc k) (y ∷ xs) x rest e = get_dropped k xs x rest e

first_of_both : {X : Type 0} (xs ys : List X) (x : X) (rest : List X) → 0 < length xs → xs ++ ys ≡ x ∷ rest → (more : List X) × (xs ≡ x ∷ more)
first_of_both [] ys x rest n e = absurd (omega (arith, n))
first_of_both (z ∷ xs) ys x rest n e = let f : z ≡ x = cc in (xs, ap (λ w. w ∷ xs) f)

-- a commit behind what is forced is not forced
kept_more : (n : ℕ) (c : List Done) (d : Done) → nat_lt n d.lsn ≡ true → kept_in n (c ++ d ∷ []) ≡ kept_in n c
kept_more n [] d e = rw e refl
kept_more n (x ∷ c) d e = ap (λ k. cond (nat_lt n x.lsn) 0 1 + k) (kept_more n c d e)

done_open : (ends : HeldEnds) (q : Row) (f : Finished) → left_under q.under ≡ 0 → open_of ends (row_finished f q) ≡ done_more (op_done f) (open_of ends q)
done_open ends q f e =
    ap (λ (ops : List Op). record (open_of ends q) { ops = ops; under = None; left = 0 }) (map-append op_done q.finished (f ∷ []))
    ∙ ap (λ (n : ℕ). record (open_of ends q) { ops = map op_done q.finished ++ op_done f ∷ []; under = None; left = n }) (sym e)

says_done : (t : Txn) (n : ℕ) (d : Deed) → Says (Call.Finish t n) (gave_done d) (Entry.Did t n (op_of (said d)))
says_done t n (Append g m tag previous body) = (record { sender = g; tag = tag; body = body }, refl)
says_done t n (UnlinkHead g m tag body) = refl
says_done t n (Close g) = (g, refl)
says_done t n (Mark c tag previous) = (c, tag, refl)

module _ (s : State) (k : IsSound s) where
  -- the first message of the chain is the one behind the holder's own takes
  first_is_next : (g tag : ℕ) (body : List ℕ) (r : Row) (rest : List (ℕ × List ℕ)) → In r s.rows → has_held r.txn g s.ends.receiving ≡ true → takes_in g r < length (rest_in (committed_of s.records) g)
      → (view (items s.sizes s.records) g).messages ≡ (tag, body) ∷ rest → slice_get (rest_in (committed_of s.records) g) (takes_in g r) ≡ Some (record { sender = g; tag = tag; body = body })
  first_is_next g tag body r rest i held more shown =
      let log = items s.sizes s.records in
      let c = committed_view log g in
      let groups = groups_of s.sizes s.records k.log in
      let h = holders g log groups in
      let v = view_holds g log h.sender r.txn groups h.sends (alone_taking s.sizes s.records s.ends s.rows s.incarnation s.begins k.log k.standing g r.txn held) in
      let n = removed_is s.sizes s.records s.ends s.rows s.incarnation s.begins k.log k.standing g r i in
      let d = rest_shown s.sizes g s.records k.log.rules k.log.reads in
      let e = length-drop (removed g (say (open_deeds r.txn log))) c.messages in
      let w = first_of_both (drop (removed g (say (open_deeds r.txn log))) c.messages) (map tag_and_body (added g (say (open_deeds h.sender log)))) (tag, body) rest (omega (arith, n, d, e, more)) (sym v.messages ∙ shown) in
      let x : slice_get c.messages (takes_in g r) ≡ Some (tag, body) = ap (slice_get c.messages) (sym n) ∙ get_dropped (removed g (say (open_deeds r.txn log))) c.messages (tag, body) w.0 w.1 in
      let y : rest_in (committed_of s.records) g ≡ map (message_of g) c.messages = (committed_is_group s.sizes g s.records k.log.rules k.log.reads).rest in
      ap (λ l. slice_get l (takes_in g r)) y ∙ slice_get-map (message_of g) c.messages (takes_in g r) ∙ ap (option_map (message_of g)) x

  is_done : (r : Row) → In r s.rows → (d : Deed) → HoldsFor s.ends r.txn d → IsDeedOf s.sizes d → HasWaiting s.waiting d → TellsView d (view (items s.sizes s.records) (deed_sender d))
      → IsDoneBy (ledger_of s) (open_of s.ends r) (Some (job_of d)) (op_of (said d))
  is_done r i (Append g m tag previous body) h n w told = refl
  is_done r i (UnlinkHead g m tag body) h n w told =
      (refl, first_is_next g tag body r told.0 i h (let b = takes_below s.sizes s.records s.ends s.rows s.incarnation s.begins k.log k.standing s.cells_in_use s.waiting k.counted g r n i in let c : 1 ≤ waits s.waiting g = w in omega (arith, b, c)) told.1)
  is_done r i (Close g) h n w told = refl
  is_done r i (Mark c tag previous) h n w told = (refl, refl)

  module _ (running : s.failed ≡ false) (r : Row) (u : Under) (d : Deed) (ws : List ℕ) (m : IsReady s r u (aims.Doing d)) (fewer : (g : ℕ) → waits ws g ≡ waits s.waiting g - took g d) where
    at : In r s.rows
    at = (found_in r.txn s.rows r m.at_row).0

    g : FollowsPlan s.sizes s.records s.ends r.txn u
    g = (subst (IsAsPlanned s.sizes s.records s.ends r) m.under (k.standing.each r at).going).0

    done_by : IsDoneBy (ledger_of s) (open_of s.ends r) (Some (job_of d)) (op_of (said d))
    done_by = is_done r at d
        (subst (λ a. HoldsFor s.ends r.txn (deed_of a)) m.aim_is g.held)
        (subst (λ a. IsDeedOf s.sizes (deed_of a)) m.aim_is g.of_store)
        (subst (CoversAim s.waiting) m.aim_is (subst (IsCovered s.waiting) m.under (k.counted.covered r at)))
        (subst (λ a. TellsFor a (view (items s.sizes s.records) (deed_sender (deed_of a)))) m.aim_is g.told)

    abbrev f : Finished
    f = record { lsn = length s.records + 1; number = u.number; deed = d }

    none : left_under r.under ≡ 0
    none = none_to_make s k running r u m.under m.made

    finish : IsModelStep s (Call.Finish r.txn u.number) (gave_done d) (finished s r u d ws)
    finish =
        let e = at_open s k running r m.at_row in
        let opens = opens_change r.txn s.ends s.ends (row_finished f) (done_more (op_done f)) s.rows (λ q i same. done_open s.ends q f (ap (λ (y : Row). left_under y.under) (unique s.rows q r k.standing.distinct i at same) ∙ none)) (λ q i n. refl) in
        record {
          entry = Entry.Did r.txn u.number (op_done f);
          says = says_done r.txn u.number d;
          legal = (
            (runs_now s k running, (under_here s k running r u m.at_row m.under, (ap steps_left e ∙ ap (λ n. nat_lt 0 n) none, tt))),
            subst (λ o. OnFound o (λ (q : Open). IsDoneBy (ledger_of s) q q.under (op_done f))) (sym e) (subst (λ o. IsDoneBy (ledger_of s) (open_of s.ends r) o (op_done f)) (sym (ap job_under m.under ∙ ap (λ a. Some (job_of_aim a)) m.aim_is)) done_by),
          );
          after =
              ap (λ (os : List Open). record (ledger_of s) { open_ones = os; records = length (finished s r u d ws).records }) opens
              ∙ ap (λ (n : ℕ). record (ledger_of s) { open_ones = change r.txn (done_more (op_done f)) (open_ones_of s.ends s.rows); records = n }) (one_longer (op_end r.txn u.number d) s.records);
          sound = calls_keep.finishes s r u d ws k m fewer;
          goes_on = (1, refl);
          stays_forced = omega arith;
        }

  module _ (running : s.failed ≡ false) (r : Row) (cells : ℕ) (ws : List ℕ) (ss : SentBy) (m : MayCommit s r cells ws ss) (room : log_full (ledger_of s) 1 ≡ false) where
    row : In r s.rows
    row = (found_in r.txn s.rows r m.idle.at_row).0

    ops_are : told r.txn s.records ≡ map op_done r.finished
    ops_are =
        let own = k.standing.each r row in
        ap ops_told (sym (own_deeds s.sizes r.txn s.records k.log.reads own.running (own.forward m.forward))) ∙ ap (λ ps. ops_told (say ps)) own.done ∙ told_placed r.finished

    abbrev new : State
    new = committed s r cells ws ss

    abbrev done : Done
    done = record { txn = r.txn; lsn = length s.records + 1; ops = ops_of (found r.txn (open_ones_of s.ends s.rows)) }

    commit_after : ledger_of new ≡ after (Entry.Committed r.txn (length s.records + 1)) (ledger_of s)
    commit_after =
        ap (λ (os : List Open). record (ledger_of new) { open_ones = os }) (opens_without r.txn s.ends new.ends s.rows (λ q i n. open_other r.txn s.ends q n))
        ∙ ap (λ (ops : List Op). record (ledger_of new) { committed = committed_of s.records ++ record { txn = r.txn; lsn = length s.records + 1; ops = ops } ∷ []; open_ones = without r.txn (open_ones_of s.ends s.rows); durable = kept_in s.forced (committed_of s.records ++ record { txn = r.txn; lsn = length s.records + 1; ops = ops } ∷ []) }) (ops_are ∙ sym (ap ops_of (at_open s k running r m.idle.at_row)))
        ∙ ap (λ (n : ℕ). record (after (Entry.Committed r.txn (length s.records + 1)) (ledger_of s)) { records = n; durable = kept_in s.forced (committed_of s.records ++ done ∷ []) }) (one_longer (Commit_record r.txn) s.records)
        ∙ ap (λ (n : ℕ). record (after (Entry.Committed r.txn (length s.records + 1)) (ledger_of s)) { durable = n }) (kept_more s.forced (committed_of s.records) done (let f = k.forced in lt-ltb s.forced (length s.records + 1) (omega (arith, f))))

    commit : IsModelStep s (Call.Commit r.txn) (Reply.Gave_commit (record { txn = r.txn; lsn = length s.records + 1 })) new
    commit =
        let h = is_ready s k running r false m.idle m.forward in
        record {
          entry = Entry.Committed r.txn (length s.records + 1);
          says = (refl, refl);
          legal = ((h.0, (h.1.0, (h.1.1.0, (h.1.1.1.0, (room, tt))))), refl);
          after = commit_after;
          sound = calls_keep.commits s r cells ws ss k m;
          goes_on = (1, refl);
          stays_forced = omega arith;
        }

  -- none waits of a sender whose end is free: none is held for the row
  module _ (r : Row) (m : IsIdle s r) where
    held_none : (g : ℕ) → g < sender_count s.sizes → is_free_for r.txn g s.ends.receiving ≡ true → waits s.waiting g ≡ 0 → holds_for (ledger_of s) (open_of s.ends r) g ≡ false
    held_none g below free none =
        let a = answered.waiting s g r k below (found_in r.txn s.rows r m.at_row).0 free in
        false_from_ne_true (holds_for (ledger_of s) (open_of s.ends r) g) (λ y. let b = ltb-true (length (own_takes g (open_of s.ends r))) (length (rest_in (committed_of s.records) g)) y in absurd (omega (arith, a, b, none)))

    found_now : found r.txn (open_ones_of s.ends s.rows) ≡ Some (open_of s.ends r)
    found_now = found_open s.ends r.txn s.rows ∙ ap (open_found s.ends) m.at_row

    none_from_steps : (g : ℕ) → g < sender_count s.sizes → is_free_for r.txn g s.ends.receiving ≡ true → waits s.waiting g ≡ 0 → Passes (size_of s.sizes) (ledger_of s) (Call.Start_receive_from r.txn g) → IsModelStep s (Call.Start_receive_from r.txn g) Reply.Gave_none s
    none_from_steps g below free none passes = record {
      entry = Entry.None_from r.txn g;
      says = refl;
      legal = (passes, subst (λ o. OnFound o (λ (q : Open). holds_for (ledger_of s) q g ≡ false)) (sym found_now) (held_none g below free none));
      after = refl;
      sound = k;
      goes_on = (0, refl);
      stays_forced = omega arith;
    }

    none_steps : ((g : ℕ) → g < sender_count s.sizes → is_free_for r.txn g s.ends.receiving ≡ true → waits s.waiting g ≡ 0) → Passes (size_of s.sizes) (ledger_of s) (Call.Start_receive r.txn) → IsModelStep s (Call.Start_receive r.txn) Reply.Gave_none s
    none_steps none passes = record {
      entry = Entry.None_free r.txn;
      says = refl;
      legal = (
        passes,
        subst (λ o. OnFound o (λ (q : Open). (g : ℕ) → g < sender_count s.sizes → free_to_receive r.txn g (ledger_of s).open_ones ≡ true → holds_for (ledger_of s) q g ≡ false)) (sym found_now)
            (λ g below y. let free = sym (free_to_take s k r.txn g) ∙ y in held_none g below free (none g below free)),
      );
      after = refl;
      sound = k;
      goes_on = (0, refl);
      stays_forced = omega arith;
    }

pub deed_steps : DeedsAreSteps
deed_steps = record {
  starts = λ s r u d k m passes. record {
    entry = Entry.Started r.txn (r.number + 1) (job_of d);
    says = says_start r.txn (r.number + 1) d;
    legal = (passes, start_legal s k r u d m);
    after = start_after s k r u d m;
    sound = calls_keep.starts s r u d k m;
    goes_on = (0, refl);
    stays_forced = omega arith;
  };
  receives_any = λ s r u g n tag body k m passes. record {
    entry = Entry.Started r.txn (r.number + 1) (Job.Taking g);
    says = (refl, g, refl);
    legal = (passes, start_legal s k r u (UnlinkHead g n tag body) m);
    after = start_after s k r u (UnlinkHead g n tag body) m;
    sound = calls_keep.starts s r u (UnlinkHead g n tag body) k m;
    goes_on = (0, refl);
    stays_forced = omega arith;
  };
  none_from = λ s r g k m below free none passes. none_from_steps s k r m g below free none passes;
  none = λ s r k m none passes. none_steps s k r m none passes;
  finishes = λ s r u d ws k running m fewer. finish s k running r u d ws m fewer;
  commits = λ s r cells ws ss k running m room. commit s k running r cells ws ss m room;
}
