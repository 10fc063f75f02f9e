-- Worked courses.
use Rattle.std.proofs.Common.{rules, ◌≡◌, ℕ, refl, List, ◌∷◌, true, false, ap, arith, ◌≤◌, ◌<◌, sym, ◌∙◌, zero, suc, nat_eq, None}
use Rattle.std.proofs.lemmas.Bool.Decides.{nat_tests}
use Rattle.rq_model.specs.declared.refusal.Refusal.TheVariants.{Failed}
use Rattle.rq_model.specs.Vocabulary.Op.{Send}
use Rattle.rq_model.specs.History.{Entry}
use Rattle.rq_model.specs.History.Call.{Acknowledge}
use Rattle.rq_model.specs.History.Job.{Sending}
use Rattle.rq_model.specs.History.Entry.{Begun, Started, Stepped, Did, Committed, Acknowledged, Forced, Refused as Refused_entry}
use Rattle.rq_model.specs.Ledger.{fresh_one, ledger}
use Rattle.rq_model.specs.Tests.{free_to_receive, holds_for, any_busy}
use Rattle.rq_model.specs.Replay.{Number}
use Rattle.rq_model.specs.Worked.{txn}
use Rattle.rq_core.specs.Happenings.{Tells}
use Rattle.rq_core.specs.Worked.{AreJudged, course, first_entries, hello, history, taking}

told : Tells course history
told = (first_entries 17, (first_entries 16, (first_entries 15, (first_entries 15, (first_entries 15, (first_entries 14, (first_entries 13, (first_entries 12, (first_entries 11, (first_entries 10, (first_entries 10, (first_entries 10, (first_entries 9, (first_entries 8, (first_entries 7, (first_entries 6, (first_entries 5, (first_entries 4, (first_entries 3, (first_entries 2, (first_entries 1, (first_entries 0, refl, (refl, refl)), (Begun (txn 1 1), refl, tt, refl)), (Started (txn 1 1) 1 (Sending hello), (refl, refl), tt, refl)), (Stepped (txn 1 1) 1 2, refl, tt, refl)), (Stepped (txn 1 1) 1 3, refl, tt, refl)), (Did (txn 1 1) 1 (Send hello), (hello, refl), tt, refl)), (Committed (txn 1 1) 5, (refl, refl), tt, refl)), (Acknowledged (txn 1 1) 5 false, refl, tt, refl)), (Forced 5, refl, tt, refl)), (Acknowledged (txn 1 1) 5 true, (refl, refl), tt, refl)), (tt, refl)), (refl, (λ e. cc e), refl)), (Begun (txn 1 2), refl, tt, refl)), (Committed (txn 1 2) 6, (refl, refl), tt, refl)), ((refl, refl), None, tt, refl)), (Refused_entry (Acknowledge (txn 1 1) 5) Failed, refl, tt, refl)), (refl, None, tt, refl)), (tt, refl)), (refl, refl, refl)), (tt, None, tt, refl)), (refl, refl)), (Acknowledged (txn 1 1) 5 false, refl, tt, refl))

-- where the only message is another's, no free group holds one
abbrev taken : List Entry
taken = Begun (txn 1 3) ∷ taking

none_of : (s : ℕ) → s < 15 → free_to_receive (txn 1 3) s (ledger taken).open_ones ≡ true → holds_for (ledger taken) (fresh_one (txn 1 3)) s ≡ false
none_of zero low free = cc free
none_of (suc s) low free = (let e : nat_eq 0 (suc s) ≡ false = grind (arith, nat_tests) in rw e refl)

pub judged : AreJudged
judged = record {
  told = told;
  legal = search rules;
  another_receipt = λ h t. (let e : 4 ≡ 5 = ap (λ (x : Number). x.lsn) t.2.1.0 in omega (arith, e));
  call_left_out = λ h t. t.2.0;
  call_that_crashes = λ h t. t.2.0;
  crash_left_out = λ h t. t.2.0;
  restart_answered_as_a_call = λ h t. t.2;
  running_while_shut = λ h t. t.2.1 (ap (λ (k : List Entry). (ledger k).phase) t.1);
  damaged_while_open = λ h t. t.2.2;
  failed_without_a_write = λ h t. cc t.2.2;
  latched_with_nothing_under_way = λ h t. cc (sym (ap (λ (k : List Entry). any_busy (ledger k).open_ones) t.1.2.1) ∙ t.2.2);
  memory_of_a_step = λ h t. cc t.2.2;
  refused_while_open = λ h t. cc (sym (ap (λ (k : List Entry). (ledger k).phase) t.1.2.1) ∙ t.2.1);
  acknowledged_of_no_commit = λ h t. t.2;
  answered_before_the_first = λ h t. t.2;
  loses_what_was_left = λ h a. (let e : 3 ≤ 1 = a.0.0.forced in omega (arith, e));
  keeps_a_commit_without_its_record = λ a. (let e : 1 ≡ 0 = a.0.0.exact in omega (arith, e));
  opened_while_open = λ a. cc (a.0.shut);
  none_where_one_waits = λ a. cc (a.0.1 0 (omega arith) refl);
  none_where_it_is_taken = ((search rules, none_of), search rules);
  shows_nothing = λ a. cc (a.0.1);
}
