use Rattle.std.proofs.Common.{◌≡◌, ◌∷◌, ◌<◌, [], None, Some, Err, rules, length, true, false, inl, refl, ◌∙◌, sym, ap, subst, arith}
use Rattle.rq_model.specs.Vocabulary.{In}
use Rattle.rq_log.specs.Logged.{Logged}
use Rattle.rq_record.specs.Spelling.{IsTxnInRange}
use Rattle.rq_analysis.specs.OpenWorkView.{without_txn}
use Rattle.rq_analysis.specs.Choices.{least_free}
use Rattle.rq_analysis.specs.Dues.{any_due, dues}
use Rattle.rq_restart.specs.Undoing.{GoesOn}
use Rattle.rq_restart.proofs.HandedOn.{kept_alike}
use Rattle.rq_restart.proofs.Renewing.{cells_same}
use Rattle.rq_restart.proofs.DueLists.{due_range, none_behind, none_then, with_first}
use Rattle.rq_restart.proofs.GoingOn.{goes_through_log}
use Rattle.rq_restart.proofs.Rounds.{all_ended, end_rest, end_stops, ends_next, told_fails, told_stops}
use Rattle.rq_restart.proofs.RoundsBehind.{IsAbortedTo, no_rounds, read_way, rounds_done, rounds_end, rounds_join, rounds_made, rounds_read, rounds_refused}
use Rattle.rq_restart.proofs.aborting.undo_all_due.Given.{Over}
use Rattle.rq_restart.proofs.aborting.undo_all_due.Goals.{After-append, In_err-due, In_ok-append, In_ok-due, In_ok-undo_due}
use Rattle.rq_restart.proofs.aborting.undo_all_due.Goals as goal

-- ---- what each step leaves

-- what is due first was told again
told_to : (g : Over) (c : In_ok-due g) → IsAbortedTo g.P.PageDevice g.L.LogDevice c.args.pages.now c.args.log.now c.loop-txn.pages c.due_again.new.log
told_to g c = (let told = c.in_ok-due.ensures in rounds_join c.loop-txn.invariant.so_far c.loop-txn.pages c.due_again.new.log (rounds_read g.P.PageDevice g.L.LogDevice g.met.P.PageDevice.only_now g.met.P.PageDevice.counts_now g.met.L.LogDevice.counts_now g.met.L.LogDevice.only_now c.loop-txn.pages c.loop-txn.log c.due_again.new.log told.same told.read told.cause))

-- or was not
not_told : (g : Over) (c : In_err-due g) → GoesOn {X = Unit {0}} g.P.PageDevice g.L.LogDevice c.loop-txn.pages c.loop-txn.log.device c.loop-txn.log.records (Err c.in_err-due.field-0.0) c.loop-txn.pages c.due_again.new.log.device c.due_again.new.log.records
not_told g c =
    let told = c.due_again.ensures in
    let log = c.loop-txn.log in
    let then = c.due_again.new.log in
    let old = c.loop-txn.pages in
    let e = c.in_err-due.field-0.0 in
    goes_through_log g.P.PageDevice g.L.LogDevice g.met.L.LogDevice.only_now old log.device then.device log.records [] then.records (Err e) told.read tt (told_fails g.P.PageDevice g.L.LogDevice old.device log.device then.device _ _ e c.in_err-due.ensures.err) (ap (λ (x : Logged _). x.records) told.same)

module _ (g : Over) (c : In_ok-undo_due g) where
  -- and is taken back
  taken : IsAbortedTo g.P.PageDevice g.L.LogDevice c.loop-txn.pages c.due_again.new.log c.undo_due.new.pages c.undo_due.new.log
  taken = (let made = c.in_ok-undo_due.ensures in rounds_made made.rounds)

  none_first : least_free (c.in-Some.ensures.0 ∷ c.undo_due.new.analysis.dues) c.loop-txn.analysis.open_work.active ≡ None
  none_first =
      let due = c.in-Some.ensures in
      let rest = c.in_ok-undo_due.ensures.rest in
      ap (λ ds. least_free ds c.loop-txn.analysis.open_work.active) (sym (with_first c.loop-txn.analysis.dues due.0 rest.0 due.1 c.undo_due.new.analysis.dues due.2 rest.1)) ∙ c.loop-txn.invariant.none

module _ (g : Over) (c : After-append g) where
  -- its transaction has nothing more, and ends next
  turn : least_free (c.in-Some.ensures.0 ∷ c.undo_due.new.analysis.dues) c.loop-txn.analysis.open_work.active ≡ None → g.L.LogDevice.honest c.append.new.log.device → least_free c.undo_due.new.analysis.dues c.undo_due.new.analysis.open_work.active ≡ Some c.in-Some.txn
  turn none k =
      let due = c.in-Some.ensures in
      let made = c.in_ok-undo_due.ensures in
      let lost = subst (λ t. In t c.loop-txn.analysis.open_work.active) (c.in_ok-due.ensures.like.0 ∙ sym due.3) (made.lost (subst g.L.LogDevice.honest c.append.ensures.device k)) in
      ends_next c.loop-txn.analysis c.undo_due.new.analysis due.0 none made.active (subst (λ t. any_due t c.undo_due.new.analysis.dues ≡ false) (sym due.3) (sym c.if-not-owes.ensures)) lost ∙ ap Some due.3

module _ (g : Over) (c : In_ok-append g) where
  end_to : (g.L.LogDevice.honest c.append.new.log.device → least_free c.undo_due.new.analysis.dues c.undo_due.new.analysis.open_work.active ≡ Some c.in-Some.txn) → IsAbortedTo g.P.PageDevice g.L.LogDevice c.undo_due.new.pages c.undo_due.new.log c.append.new.pages c.append.new.log
  end_to turn =
      let last = c.in_ok-append.ensures in
      rounds_end g.P.PageDevice g.L.LogDevice g.met.P.PageDevice.only_now g.met.P.PageDevice.counts_now g.met.L.LogDevice.counts_now c.undo_due.new.pages c.undo_due.new.log c.undo_due.new.analysis c.in_ok-undo_due.ensures.found c.in-Some.txn c.append.new.pages c.append.new.log turn (last.same refl) last.records last.device last.repeated last.goes_on

  left : (c.append.new.analysis.dues ≡ c.undo_due.new.analysis.dues) × (c.append.new.analysis.open_work.active ≡ without_txn c.in-Some.txn c.undo_due.new.analysis.open_work.active)
  left = end_rest c.undo_due.new.log.records c.append.new.log.records c.undo_due.new.analysis c.append.new.analysis c.in-Some.txn c.in_ok-undo_due.ensures.found c.in_ok-append.ensures.found c.in_ok-append.ensures.records (sym c.if-not-owes.ensures)

pub loop-txn-init : goal.loop-txn-init
loop-txn-init g c = record {
  found = c.requires.found;
  none = c.requires.none;
  follow = c.requires.follow;
  so_far = no_rounds g.P.PageDevice g.L.LogDevice g.met.L.LogDevice.only_now c.args.pages.now c.args.log.now;
  running = c.requires.running;
  room = refl;
  cells = c.requires.cells;
}

-- ---- what is due first was not told again

pub returns-in_err-due-clause-rounds : goal.returns-in_err-due-clause-rounds
returns-in_err-due-clause-rounds g c =
    let kept = c.loop-txn.invariant in
    let log = c.loop-txn.log in
    let then = c.due_again.new.log in
    let old = c.loop-txn.pages in
    let told = c.due_again.ensures in
    let e = c.in_err-due.field-0.0 in
    rounds_refused kept.so_far old then c.from_residual.result e (search rules) (not_told g (goal.at.returns-in_err-due-clause-rounds g c).In_err-due)
    (λ truly. told_stops old.sizes log.records old c.loop-txn.analysis kept.found g.L.LogDevice log.device then.device _ e c.in_err-due.ensures.err truly.1)
    (λ h f so. (read_way g.P.PageDevice g.L.LogDevice g.met.P.PageDevice.only_now g.met.P.PageDevice.counts_now g.met.L.LogDevice.counts_now g.met.L.LogDevice.only_now old log then told.same told.read f so).stands.on.path)

-- ---- and is taken back

pub undo_due-requires-clause-first : goal.undo_due-requires-clause-first
undo_due-requires-clause-first g c =
    let due = c.in-Some.ensures in
    let told = c.in_ok-due.ensures in
    (due.0, due.1, due.2, due.3 ∙ sym told.like.0, due.4 ∙ sym told.like.1, λ h. told.is h due.0 (subst (In due.0) (sym due.2) (inl refl)) due.3 due.4)

pub undo_due-requires-clause-held : goal.undo_due-requires-clause-held
undo_due-requires-clause-held g c = c.loop-txn.invariant.so_far.carried.goes.held c.requires.held

pub undo_due-requires-clause-more : goal.undo_due-requires-clause-more
undo_due-requires-clause-more g c = subst (λ n. 1 < n) (sym c.loop-txn.invariant.so_far.carried.goes.count) c.requires.more

pub returns-in_err-undo_due-clause-rounds : goal.returns-in_err-undo_due-clause-rounds
returns-in_err-undo_due-clause-rounds g c =
    let made = c.in_err-undo_due.ensures.rounds.carries in
    rounds_refused (told_to g (goal.at.returns-in_err-undo_due-clause-rounds g c).In_ok-due) c.undo_due.new.pages c.undo_due.new.log c.from_residual-in_err-undo_due.result c.in_err-undo_due.field-0.0 (search rules) made.goes_on made.stops (λ h f so. (made.way h f so).1)

pub loop-txn-smaller : goal.loop-txn-smaller
loop-txn-smaller g c = (let e = ap length c.in_ok-undo_due.ensures.rest.1 in omega (arith, e))

pub loop-txn-preserved : goal.loop-txn-preserved
loop-txn-preserved g c =
    let kept = c.loop-txn.invariant in
    let made = c.in_ok-undo_due.ensures in
    let due = c.in-Some.ensures in
    let h = c.undo_due.new.analysis in
    let at = goal.at.loop-txn-preserved g c in
    let owes : any_due due.0.txn h.dues ≡ true = subst (λ t. any_due t h.dues ≡ true) (sym due.3) (sym (c.if-not-owes.ensures)) in
    record {
      found = made.found;
      none = ap (least_free h.dues) made.active ∙ none_then due.0 h.dues c.loop-txn.analysis.open_work.active owes (none_first g at.In_ok-undo_due);
      follow = made.follow;
      so_far = rounds_join (told_to g at.In_ok-due) c.undo_due.new.pages c.undo_due.new.log (taken g at.In_ok-undo_due);
      running = made.running;
      room = made.room ∙ ap (λ (x : Logged _). x.reserved) c.in_ok-due.ensures.same ∙ kept.room;
      cells = made.cells;
    }

-- ---- its transaction has nothing more, and ends

pub append-requires-clause-range : goal.append-requires-clause-range
append-requires-clause-range g c = λ are.
    let due = c.in-Some.ensures in
    let there : In due.0 (dues c.loop-txn.log.records) = subst (In due.0) (sym due.2 ∙ c.loop-txn.invariant.found.dues) (inl refl) in
    subst IsTxnInRange due.3 (due_range c.loop-txn.log.records c.shows_kept.ensures.log.spelled due.0 there).0

pub append-requires-clause-stands : goal.append-requires-clause-stands
append-requires-clause-stands g c = λ page w. absurd w.is

pub loop-txn-smaller-in-Continue-branch-3 : goal.loop-txn-smaller-in-Continue-branch-3
loop-txn-smaller-in-Continue-branch-3 g c =
    let before = ap length c.in_ok-undo_due.ensures.rest.1 in
    let behind = ap length (left g (goal.at.loop-txn-smaller-in-Continue-branch-3 g c).In_ok-append).0 in
    omega (arith, before, behind)

pub loop-txn-preserved-in-Continue-branch-3 : goal.loop-txn-preserved-in-Continue-branch-3
loop-txn-preserved-in-Continue-branch-3 g c =
    let made = c.in_ok-undo_due.ensures in
    let last = c.in_ok-append.ensures in
    let now = c.undo_due.new.pages in
    let older = c.undo_due.new.log in
    let new = c.append.new.pages in
    let due = c.in-Some.ensures in
    let d = due.0 in
    let f = c.loop-txn.analysis in
    let h = c.undo_due.new.analysis in
    let at = goal.at.loop-txn-preserved-in-Continue-branch-3 g c in
    let none = none_first g at.In_ok-undo_due in
    let rest = left g at.In_ok-append in
    record {
      found = last.found;
      none = ap (λ ds. least_free ds c.append.new.analysis.open_work.active) rest.0 ∙ ap (least_free h.dues) (rest.1 ∙ ap (λ t. without_txn t h.open_work.active) (sym due.3) ∙ ap (without_txn d.txn) made.active) ∙ none_behind d h.dues f.open_work.active none;
      follow = last.follow;
      so_far = rounds_join (rounds_join (told_to g at.In_ok-due) now older (taken g at.In_ok-undo_due)) new c.append.new.log (end_to g at.In_ok-append (turn g at.After-append none));
      running = last.running;
      room = last.room ∙ made.room ∙ ap (λ (x : Logged _). x.reserved) c.in_ok-due.ensures.same ∙ c.loop-txn.invariant.room;
      cells = cells_same now new c.undo_due.new.planner c.append.new.planner (last.same refl) last.planner made.cells;
    }

pub returns-in_err-append-clause-rounds : goal.returns-in_err-append-clause-rounds
returns-in_err-append-clause-rounds g c =
    let last = c.in_err-append.ensures in
    let now = c.undo_due.new.pages in
    let older = c.undo_due.new.log in
    let e = c.in_err-append.field-0.0 in
    let at = goal.at.returns-in_err-append-clause-rounds g c in
    rounds_refused (rounds_join (told_to g at.In_ok-due) now older (taken g at.In_ok-undo_due)) c.append.new.pages c.append.new.log c.from_residual-in_err-append.result e (search rules) last.goes_on
    (λ told. end_stops now.sizes older.records now c.undo_due.new.analysis c.in_ok-undo_due.ensures.found c.in-Some.txn (turn g at.After-append (none_first g at.In_ok-undo_due) told.1) e (last.stops told.1))
    (λ h f so. kept_alike g.P.PageDevice g.L.LogDevice f now.device c.append.new.pages.device older.device c.append.new.log.device last.pages_device last.device so.stands.on.path)

pub returns-clause-rounds : goal.returns-clause-rounds
returns-clause-rounds g c = rounds_done c.loop-txn.invariant.so_far

pub returns-clause-ended : goal.returns-clause-ended
returns-clause-ended g c = all_ended c.loop-txn.log.records c.loop-txn.analysis c.loop-txn.invariant.found c.in_default.ensures c.loop-txn.invariant.none
