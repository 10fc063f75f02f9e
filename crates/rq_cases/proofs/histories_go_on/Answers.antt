use Rattle.std.proofs.Common.{rules, ◌≡◌, ◌≤◌, ◌<◌, [], ◌∷◌, refl, arith}
use Rattle.rq_model.specs.declared.record.Record.TheVariants.{Restart as Restart_record}
use Rattle.rq_model.specs.Worked.{first_log, opened}
use Rattle.rq_model.specs.Bases.{based}
use Rattle.rq_model.specs.WorkedMarks.{untagged}
use Rattle.rq_cases.specs.Histories.{crashed, migrated, refused_one_record, refused_tag_pages}
use Rattle.rq_cases.proofs.histories_go_on.Goals as goal
use Rattle.rq_cases.specs.Store.{small}

pub returns : goal.returns
returns c = record {
  with_the_record_of_a_restart = c.shut_crash_goes_on.ensures small crashed first_log (Restart_record 2 ∷ first_log) (search rules) refl (record { committed = refl; records = refl; incarnation = omega arith }) (Restart_record 2 ∷ [], refl, (refl, tt)) (search rules) (search rules);
  with_nothing = λ e. (let f : 1 ≤ 0 = e.legal.0.0.forced in omega (arith, f));
  with_one_record = c.checkpoint_crash_goes_on.ensures small refused_one_record first_log (search rules) tt (record { committed = refl; records = refl; incarnation = omega arith }) (search rules) (record { none_open = refl; room = refl; cut_off = tt });
  with_tag_pages = c.growth_goes_on.ensures untagged migrated 1 (based 1 first_log) (search rules) (record { tags = refl; none_open = refl; not_shut = λ e. cc e }) refl (record { committed = refl; records = refl; incarnation = omega arith }) (search rules);
  with_tag_pages_inside = c.growth_goes_on.ensures untagged opened 1 first_log (search rules) (record { tags = refl; none_open = refl; not_shut = λ e. cc e }) (refl, refl) (record { committed = refl; records = refl; incarnation = omega arith }) (search rules);
  with_tag_pages_refused = c.growth_goes_on.ensures untagged refused_tag_pages 1 first_log (search rules) (record { tags = refl; none_open = refl; not_shut = λ e. cc e }) (refl, refl) (record { committed = refl; records = refl; incarnation = omega arith }) (search rules);
  with_tag_pages_over_less = λ e. (let f : 1 ≡ 2 = e.legal.0.2 in omega (arith, f));
  restarted = c.restart_goes_on.ensures small crashed first_log first_log (search rules) refl (record { committed = refl; records = refl; incarnation = omega arith }) ([], refl, tt) (search rules);
  restarted_in_the_same = λ e. (let f : 1 < 1 = e.legal.0.later in omega (arith, f));
  restarted_without_a_record = λ e. (let f : 1 < 1 = e.legal.0.more in omega (arith, f));
}
