-- What courses may tell, and what they may not.
use Rattle.std.proofs.Common.{rules, ◌≡◌, ℕ, zero, suc, ◌<◌, ◌≤◌, true, false, nat_eq, List, [], ◌∷◌, length, Option, Some, None, refl, sym, ◌∙◌, ap, subst, arith}
use Rattle.std.proofs.lemmas.Bool.Decides.{nat_tests}
use Rattle.std.proofs.lemmas.Bool.{ltb-true, and_parts}
use Rattle.rq_model.specs.declared.txn.Txn.{Txn}
use Rattle.rq_model.specs.declared.refusal.Refusal.TheVariants.{DiskRead, DiskWrite, NoMemory, PoolFull}
use Rattle.rq_model.specs.History.{Entry, rest}
use Rattle.rq_model.specs.History.Call.{Begin, Commit, Force, Show, Start_send, Write_page}
use Rattle.rq_model.specs.History.Entry.{Begun, Forced, Refused}
use Rattle.rq_model.specs.Groups.{group}
use Rattle.rq_model.specs.Ledger.{Open, found, group_in, ledger, own_takes, rest_in}
use Rattle.rq_model.specs.Legal.{At, IsLegal, OnFound}
use Rattle.rq_model.specs.Tests.{Size, free_to_receive, gives, holds_for}
use Rattle.rq_model.specs.Worked.{txn}
use Rattle.rq_core.specs.Always.{GivesTo}
use Rattle.rq_core.specs.Happenings.{Tells}
use Rattle.rq_core.specs.Worked.{first_entries, hello}
use Rattle.rq_cases.specs.Courses.{CausesAreJudged, FindsNothing, NoneIsJudged, StopsAreJudged, opened, opened_history, took}

told_opened : Tells opened opened_history
told_opened = ([], refl, (refl, refl))

pub stops : StopsAreJudged
stops = record {
  in_a_force = (opened_history, told_opened, ((refl, refl), None, tt, refl));
  in_a_hand_over = (opened_history, told_opened, ((refl, refl), None, tt, refl));
  in_a_page_write = (opened_history, told_opened, ((refl, refl), None, tt, refl));
  in_a_send = (opened_history, told_opened, ((refl, refl), None, tt, refl));
  in_a_content = (opened_history, told_opened, ((refl, refl), None, tt, refl));
  in_a_begin = λ h t. cc t.2.0.1;
  in_a_commit = λ h t. cc t.2.0.1;
  in_a_step = λ h t. cc t.2.0.1;
  of_a_store_that_failed = λ h t.
      cc (sym (ap (λ (k : List Entry). (ledger k).phase) (t.1.2.3 ∙ ap (λ (e : Entry). e ∷ t.1.0) t.1.2.1)) ∙ t.2.0.0);
  of_a_store_that_is_shut = λ h t. cc (sym (ap (λ (k : List Entry). (ledger k).phase) t.1) ∙ t.2.0.0);
  in_a_restart_of_an_open_store = λ h t. cc (sym (ap (λ (k : List Entry). (ledger k).phase) t.1.2.1) ∙ t.2.0);
  not_met = (opened_history, told_opened, (Forced 1, refl, tt, refl));
  left_out = λ h t. t.2.0;
  answered_as_a_restart = λ h t. cc t.2.0;
  loses_the_forced = λ a. (let e : 5 ≤ 1 = a.0.0.forced in omega (arith, e));
  keeps_the_forced = search rules;
}

pub causes : CausesAreJudged
causes = record {
  memory_of_a_begin = (opened_history, told_opened, (Refused Begin NoMemory, refl, refl, refl));
  memory_of_a_commit = (opened_history, told_opened, (Refused (Commit (txn 1 1)) NoMemory, refl, refl, refl));
  memory_of_a_content = (opened_history, told_opened, (Refused Show NoMemory, refl, refl, refl));
  memory_of_a_finish = λ h t. cc t.2.2;
  memory_of_a_receipt = λ h t. cc t.2.2;
  memory_of_a_force = λ h t. cc t.2.2;
  memory_of_a_page_write = λ h t. cc t.2.2;
  disk_of_a_force = (opened_history, told_opened, (Refused Force DiskWrite, refl, refl, refl));
  disk_of_a_page_write = (opened_history, told_opened, (Refused (Write_page 1) DiskWrite, refl, refl, refl));
  disk_of_a_commit = λ h t. cc t.2.2;
  disk_of_a_send = (opened_history, told_opened, (Refused (Start_send (txn 1 1) hello) DiskWrite, refl, refl, refl));
  read_of_a_send = (opened_history, told_opened, (Refused (Start_send (txn 1 1) hello) DiskRead, refl, refl, refl));
  read_of_a_content = (opened_history, told_opened, (Refused Show DiskRead, refl, refl, refl));
  read_of_a_commit = λ h t. cc t.2.2;
  read_of_a_page_write = λ h t. cc t.2.2;
  frames_of_a_send = (opened_history, told_opened, (Refused (Start_send (txn 1 1) hello) PoolFull, refl, refl, refl));
  frames_of_a_content = λ h t. cc t.2.2;
  frames_of_a_commit = λ h t. cc t.2.2;
  damage_at_all = λ call d h t. t.2.2;
  latched_by_another = refl;
  latched_by_another_legally = search rules;
  latched_by_nobody = λ e. cc e;
  latched_once_all_is_finished = λ e. cc e;
}

-- what no transaction has committed, what was taken, and what stands at an end that another holds
uncommitted : FindsNothing (first_entries 6) (txn 1 1)
uncommitted s g = (let f : 0 < 0 = g.1 in omega (arith, f))

twice : FindsNothing took (txn 1 2)
twice zero g = (let f : 1 < 1 = g.1 in omega (arith, f))
twice (suc s) g = (let e : nat_eq 0 (suc s) ≡ false = grind (arith, nat_tests) in let f : 0 < 0 = rw e at g.1 in omega (arith, f))

held : FindsNothing (Begun (txn 1 3) ∷ took) (txn 1 3)
held zero g = cc g.0
held (suc s) g = (let e : nat_eq 0 (suc s) ≡ false = grind (arith, nat_tests) in let f : 0 < 0 = rw e at g.1 in omega (arith, f))

taken_once : (s : ℕ) → s < 15 → free_to_receive (txn 1 2) s (ledger took).open_ones ≡ true
    → At (ledger took) (txn 1 2) (λ o. holds_for (ledger took) o s ≡ false)
taken_once zero low free = refl
taken_once (suc s) low free = (let e : nat_eq 0 (suc s) ≡ false = grind (arith, nat_tests) in rw e refl)

-- a group that gives one, by the test
module _ (shown : (z : Size) (h : List Entry) (s : ℕ) → IsLegal z h → group h s ≡ group_in (ledger h).committed s) where
  gives_one : (z : Size) (h : List Entry) (t : Txn) (s : ℕ) (o : Option Open) → IsLegal z h → gives (ledger h) t o s ≡ true
      → OnFound o (λ x. GivesTo h t x s)
  gives_one z h t s None legal e = absurd (cc e)
  gives_one z h t s (Some o) legal e =
      let b = and_parts (free_to_receive t s (ledger h).open_ones) (holds_for (ledger h) o s) e in
      let is : rest h s ≡ rest_in (ledger h).committed s = ap (λ g. g.rest) (shown z h s legal) in (
        b.0,
        subst (λ r. length (own_takes s o) < length r) (sym is)
            (ltb-true (length (own_takes s o)) (length (rest_in (ledger h).committed s)) b.1),
      )

  pub nones : NoneIsJudged
  nones = record {
    gives_what_is_committed = (refl, omega arith);
    gives_nothing_uncommitted = uncommitted;
    gives_nothing_twice = twice;
    gives_nothing_of_a_held_end = held;
    none_once_taken = ((search rules, taken_once), search rules);
    none_from_once_taken = search rules;
    none_from_where_one_waits = λ a. cc a.0.1;
    started_where_none_waits = λ a. cc a.0.1.1;
    started_where_one_waits = search rules;
    latched_for_nothing = λ z h t s a. gives_one z h t s (found t (ledger h).open_ones) a.1 a.0.1;
    frames_for_nothing = λ z h t s a. gives_one z h t s (found t (ledger h).open_ones) a.1 a.0.1;
  }
