-- Worked histories: that they are legal, and what they come to; and that others are not.
use Rattle.std.proofs.Common.{rules, refl, inl, inr, [], ◌∷◌, arith, ap}
use Rattle.rq_model.specs.declared.txn.Txn.{Txn}
use Rattle.rq_model.specs.declared.message.Message.{Message}
use Rattle.rq_model.specs.History.Entry.{Begun, Committed}
use Rattle.rq_model.specs.Ledger.{ledger}
use Rattle.rq_model.specs.Promises.{crash_to}
use Rattle.rq_model.proofs.Bridges.{crash_goes_on, restart_goes_on}
use Rattle.rq_model.specs.Worked.{txn, small, opened, first_log, AreWorked}

pub worked : AreWorked
worked = record {
  one_send_legal = search rules;
  unseen_legal = search rules;
  bounds_legal = search rules;
  both_undone_legal = search rules;
  both_undone_content = refl;
  open_busy = refl;
  open_crashed = refl;
  open_committed = refl;
  nothing_left = refl;
  all_lost_content = refl;
  all_lost_legal = search rules;
  forced_content = refl;
  cut_content = refl;
  filled_legal = search rules;
  closes_legal = search rules;
  closes_content = refl;
  held_ends_legal = search rules;
  undoing_legal = search rules;
  crash_twice = search rules;
  crash_after_failure = search rules;
  checkpoint_legal = search rules;
  checkpoint_opened = search rules;
  checkpoint_content = refl;
  checkpoint_stopped = search rules;
  checkpoint_stopped_with_one_more = λ a. elim a.0.2 [ inl e ↦ omega (arith, e) | inr e ↦ (let one = e.1 in omega (arith, one)) ];
  checkpoint_stopped_over_a_full_log = λ a. elim a.0.2 [ inl e ↦ omega (arith, e) | inr e ↦ (let room = e.0.room in cc room) ];
  checkpoint_not_quiet = search rules;
  checkpoint_for_nothing = λ a. (let e = a.0 in cc e);
  checkpoint_of_open = λ a. (let e = a.0.0.1.0 in cc e);
  checkpoint_elsewhere = λ a. (let e = a.0.1 in omega (arith, e));
  checkpoint_lost = λ a. (let e = a.0.0.forced in omega (arith, e));
  checkpoint_stopped_of_open = λ a. elim a.0.2 [ inl e ↦ omega (arith, e) | inr e ↦ (let none = e.0.none_open in cc none) ];
  checkpoint_inside = search rules;
  checkpoint_behind_another_failure = λ a. elim a.0.2 [ inl e ↦ omega (arith, e) | inr e ↦ (let run = e.0.cut_off in cc run) ];
  checkpoint_over_a_full_log = λ a. elim a.0.2 [ inl e ↦ omega (arith, e) | inr e ↦ (let room = e.0.room in cc room) ];
  checkpoint_up_to_a_full_log = search rules;
  keeps_lost_commit = λ a. (let e = a.0.0.exact in cc e);
  loses_kept_commit = λ a. (let e = a.0.0.exact in cc e);
  loses_forced_commit = λ a. (let e = a.0.0.forced in omega (arith, e));
  leaves_more_than_there_was = λ a. elim a.0.2 [ inl e ↦ omega (arith, e) | inr e ↦ (let one = e.1 in omega (arith, one)) ];
  takes_what_was_kept = λ a. (let e = a.0.0.forced in omega (arith, e));
  opened_twice = λ a. (let e = a.0.shut in cc e);
  opened_without_crash = λ a. (let e = a.0.shut in cc e);
  opened_in_the_same = λ a. (let e = a.0.later in omega (arith, e));
  opened_without_a_record = λ a. (let e = a.0.more in omega (arith, e));
  answered_after_failure = λ a. (let e = a.0.0.0 in cc e);
  out_of_memory_after_failure = λ a. (let e = a.0 in cc e);
  acknowledged_too_early = λ a. (let e = a.0.1 in cc e);
  never_acknowledged = λ a. (let e = a.0.1 in cc e);
  acknowledged_no_more = search rules;
  acknowledged_too_late = λ a. (let e = a.0.1 in cc e);
  begun_next = λ a. (let e = a.0.2 in omega (arith, e));
  started_next = λ a. (let e = a.0.1.0 in omega (arith, e));
  stepped_next = λ a. (let e = a.0.2 in omega (arith, e));
  committed_next = λ a. (let e = a.0.1 in omega (arith, e));
  forced_all = λ a. (let e = a.0.1 in omega (arith, e));
  none_where_one_waits = λ a. (let e = a.0.1 in cc e);
  another_message = λ a. (let e = ap (λ (m : Message). m.tag) a.0.1 in omega (arith, e));
  told_last = search rules;
  told_another = λ a. (let e = a.0.2 in omega (arith, e));
  told_more = λ a. (let e = a.0.1 in omega (arith, e));
  told_fewer = λ a. (let e = a.0.1 in omega (arith, e));
  told_of_another_sender = search rules;
  told_of_no_sender = λ a. (let e = a.0.0.1.0 in cc e);
  told_before_commit = search rules;
  told_too_early = λ a. (let e = a.0.1 in omega (arith, e));
  told_tag_too_early = λ a. (let e = a.0.2 in omega (arith, e));
  told_without_undone = search rules;
  told_undone = λ a. (let e = a.0.1 in omega (arith, e));
  told_tag_of_undone = λ a. (let e = a.0.2 in omega (arith, e));
  told_after_take_and_restart = search rules;
  told_without_taken = λ a. (let e = a.0.1 in omega (arith, e));
  told_after_loss = search rules;
  told_lost = λ a. (let e = a.0.1 in omega (arith, e));
  latched_where_one_waits = search rules;
  latched_for_nothing = λ a. (let e = a.0.1 in cc e);
  not_forced = search rules;
  not_forced_of_no_page = λ a. (let e = a.0.1 in cc e);
  log_is_full = search rules;
  log_is_not_full = λ a. (let e = a.0 in cc e);
  sent_behind_close = λ a. (let e = a.0.0.1.1.1.1.1.1.1.0 in cc e);
  replayed = (ledger (Begun (txn 1 1) ∷ opened), Committed (txn 1 1) 2, (ledger opened, Begun (txn 1 1), refl, refl, search rules, refl), (refl, refl), search rules, refl);
  replayed_wrongly = λ r. (let e = ap (λ (t : Txn). t.count) r.3.0 in omega (arith, e));
  crash_left = crash_goes_on small opened [] first_log (search rules) tt (record { committed = refl; records = refl; incarnation = omega arith }) (tt, (λ t e. cc e), tt) (omega arith) (omega arith);
  crash_left_nothing = λ e. (let f = e.legal.0.0.forced in omega (arith, f));
  restart_left = restart_goes_on small (crash_to first_log opened ∷ opened) first_log first_log (search rules) refl (record { committed = refl; records = refl; incarnation = omega arith }) ([], refl, tt) (refl, tt);
}
