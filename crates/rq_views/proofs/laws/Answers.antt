use Rattle.rq_views.proofs.Views.{turn_law, quiet_views, views}
use Rattle.rq_views.proofs.GroupRule.{settled_view, held}
use Rattle.rq_views.proofs.Content.{committed_is_content}
use Rattle.rq_views.proofs.Stands.{slots_stand}
use Rattle.rq_views.proofs.Counting.{quiet_counts}
use Rattle.rq_views.proofs.Idle.{idle_quiet}
use Rattle.rq_views.proofs.Totals.{log_total}
use Rattle.rq_views.proofs.Settled.{settled_counts}
use Rattle.rq_views.proofs.Claims.{taken_have_cells}
use Rattle.rq_views.proofs.Numbers.{all_begun}
use Rattle.rq_views.proofs.Inverses.{inverses_leave}
use Rattle.rq_views.proofs.Tags.{quiet_tags, idle_tags}
use Rattle.rq_views.proofs.Worked.{worked, refused}
use Rattle.rq_views.proofs.WorkedTags.{worked_marks}
use Rattle.rq_views.proofs.Rules.{rules_groups}
use Rattle.rq_views.specs.Items.{items}
use Rattle.rq_views.proofs.laws.Goals as goal

pub returns : goal.returns
returns c = record {
  plans_change_one_chain = turn_law;
  quiet_slots_show_the_fold = quiet_views;
  idle_slots_show_the_fold = views;
  quiet_slots_show_the_tags = quiet_tags;
  idle_slots_show_the_tags = idle_tags;
  settled_fold_is_committed = settled_view;
  committed_is_content = committed_is_content;
  slots_stand_where_they_may = slots_stand;
  used_cells_are_messages = quiet_counts;
  idle_slots_are_whole = idle_quiet;
  chains_are_bounded = log_total;
  settled_cells_are_committed = settled_counts;
  taken_messages_have_cells = taken_have_cells;
  numbers_have_no_gaps = all_begun;
  inverses_leave_the_others = inverses_leave;
  worked_logs = worked;
  worked_marks = worked_marks;
  refused_records = refused;
  rules_keep_groups = rules_groups;
  views_are_holders = λ z s log legal rules reads tells.
      let h = held s (items z log) (rules_groups z log legal rules reads tells) in
      record { sender = h.sender; taker = h.taker; shown = h.shown; send = h.sender_alone; take = h.taker_alone };
}
