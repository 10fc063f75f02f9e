-- Worked histories with marks: that they are legal, and that others are not.
use Rattle.std.proofs.Common.{rules, refl, arith}
use Rattle.rq_model.specs.WorkedMarks.{MarksAreWorked}

pub worked_marks : MarksAreWorked
worked_marks = record {
  told_none = search rules;
  told_one = search rules;
  told_of_another = search rules;
  told_last_client = search rules;
  told_no_client = search rules;
  told_unknown = λ a. (let e = a.0.0.1.0 in cc e);
  told_uncommitted = λ a. (let e = a.0.1 in omega (arith, e));
  told_uncommitted_tag = λ a. (let e = a.0.2 in omega (arith, e));
  told_too_few = λ a. (let e = a.0.1 in omega (arith, e));
  told_no_tag = λ a. (let e = a.0.2 in omega (arith, e));
  told_committed = search rules;
  told_after_loss = search rules;
  told_none_once_lost = search rules;
  told_once_lost = λ a. (let e = a.0.1 in omega (arith, e));
  told_without_undone = search rules;
  told_last = search rules;
  marks_in_order = refl;
  marks_of_ledger = refl;
  client_busy = search rules;
  busy_once_started = search rules;
  busy_once_undone = search rules;
  marks_while_undone = λ a. (let e = a.0.0.1.1.1.1.1.0 in cc e);
  sends_for_its_number = search rules;
  sends_beside_mark = search rules;
  marks_beside_send = search rules;
  none_is_known = search rules;
  none_is_told = search rules;
  marked_while_busy = λ a. (let e = a.0.0.1.1.1.1.1.0 in cc e);
  busy_for_nothing = λ a. (let e = a.0 in cc e);
  busy_for_itself = λ a. (let e = a.0 in cc e);
  marks_another = search rules;
  unknown_client = search rules;
  unknown_for_nothing = λ a. (let e = a.0 in cc e);
  marks_unknown = λ a. (let e = a.0.0.1.1.1.1.0 in cc e);
  marks_as_started = λ a. (let e = a.0.1.1 in omega (arith, e));
  marks_after_write = λ a. (let e = a.0.0.1.1.0 in cc e);
  writes_once = λ a. (let e = a.0.1 in omega (arith, e));
  two_records_fit = search rules;
  one_record_fits = search rules;
  full_for_nothing = λ a. (let e = a.0 in cc e);
  inverse_fits = search rules;
  inverse_full_for_nothing = λ a. (let e = a.0 in cc e);
  inverse_full = search rules;
  inverse_does_not_fit = λ a. (let e = a.0.0.1.1.1.1.0 in cc e);
  no_transaction = search rules;
  no_transaction_busy = λ a. (let e = a.0 in cc e);
  not_open = search rules;
  not_open_busy = λ a. (let e = a.0 in cc e);
  unfinished = search rules;
  unfinished_unknown = λ a. (let e = a.0 in cc e);
  unknown_where_full = search rules;
  busy_where_full = search rules;
  full_where_busy = λ a. (let e = a.0 in cc e);
  full = search rules;
}
