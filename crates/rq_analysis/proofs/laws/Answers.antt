use Rattle.rq_analysis.proofs.Undos.{undo_keeps_whole, undo_leaves_less, undo_is_plain, undone_from}
use Rattle.rq_analysis.specs.OpenWorkView.{open_work_of}
use Rattle.std.proofs.Common.{ap, sym, ◌∙◌, length, subst}
use Rattle.std.proofs.lemmas.List.{length-map}
use Rattle.rq_analysis.proofs.Noting.{noted_unfinished, noted_active, pair_of}
use Rattle.rq_analysis.proofs.Marked.{marked_work}
use Rattle.rq_analysis.proofs.Whole.{whole_logs}
use Rattle.rq_analysis.proofs.Telling.{rules_told}
use Rattle.rq_analysis.proofs.Moving.{move_sound, move_extends, move_commits, aborted_sound, aborted_commits}
use Rattle.rq_analysis.proofs.Settled.{none_lost, none_unfinished}
use Rattle.rq_analysis.proofs.Found.{free_of_latches}
use Rattle.rq_analysis.proofs.Store.{lost_sound, some_incarnation}
use Rattle.rq_analysis.proofs.Working.{move_less}
use Rattle.rq_analysis.proofs.Stopping.{lost_restored, may_stop, stop_repeated}
use Rattle.rq_analysis.proofs.Turning.{ends_next, lost_aborting, lost_idle, next_turn, one_back, one_ends, plan_next, starts_next, still_aborting}
use Rattle.rq_model.specs.Vocabulary.{In}
use Rattle.rq_analysis.proofs.Owing.{first_due, none_due, rest_due}
use Rattle.rq_model.specs.Unended.{lost}
use Rattle.rq_sound.proofs.Inverses.{may_be_undone}
use Rattle.rq_analysis.proofs.Choosing.{chosen_back, chosen_done, chosen_ends, lost_first, lost_stay}
use Rattle.rq_analysis.proofs.Numbering.{once, row_number}
use Rattle.rq_analysis.proofs.Walking.{aborts_go_on, aborts_come}
use Rattle.rq_analysis.proofs.Planning.{dues_undone}
use Rattle.rq_analysis.proofs.Logging.{logs_whole}
use Rattle.rq_analysis.proofs.Recovering.{recovered_from, recovering_stops}
use Rattle.rq_analysis.proofs.laws.Goals as goal

pub returns : goal.returns
returns c = record {
  aborts_keep_logs_whole = record {
    sound = move_sound;
    whole = λ s now k m. (move_sound s now k m).log;
    extends = move_extends;
    committed = move_commits;
  };
  settled_stores_have_ended = record { unfinished = none_unfinished; lost = none_lost };
  inverses_are_found = record { found = may_be_undone; unlatched = free_of_latches };
  aborted_logs_are_settled = record {
    sound = aborted_sound;
    committed = aborted_commits;
    unfinished = λ s now k a. none_unfinished now (aborted_sound s now k a) a.none;
    lost = λ s now k a. none_lost now (aborted_sound s now k a) a.none;
  };
  lost_stores_are_sound = record { sound = lost_sound; some = some_incarnation };
  aborts_end = move_less;
  lost_stores_open = lost_restored;
  aborts_may_stop = may_stop;
  aborts_have_turns = record {
    next = next_turn;
    one_ends = λ s r q k. one_ends s k r q;
    one_back = λ s r q rest others f g k. one_back s k r q rest others f g;
    not_both = λ s r q rest f n m. m.some r n.row n.empty;
    ends = λ s r k. ends_next s k r;
    plans = λ s r rest f k. plan_next s k r rest f;
    starts = λ s r rest f u k. starts_next s k r rest f u;
    stay = still_aborting;
    lost = λ z images log forced. lost_aborting z log;
    idle = λ z images log forced. lost_idle z log;
  };
  stops_are_repeated = record {
    repeated = stop_repeated;
    none_new = λ z log cut last t h u i. h.none_new t (subst (In t) (h.again last u).lost i);
    content = λ z log cut last g h u. (h.again last u).content g ∙ h.content g;
    committed = λ z log cut last h u. (h.again last u).committed ∙ h.committed;
  };
  dues_are_next = record {
    first = λ s d ds k e. first_due s k d ds e;
    rest = rest_due;
    none = λ s r k. none_due s k r;
  };
  turns_are_chosen = record {
    ends = λ s t k are e. chosen_ends s k are t e;
    back = λ s d ds k are e first. chosen_back s k are d ds e first;
    done = λ s k are e none. chosen_done s k are e none;
    first = λ z images log forced. lost_first z log (lost log);
    stay = lost_stay;
  };
  numbers_are_kept = record { kept = row_number; once = once };
  aborts_go_on = aborts_go_on;
  aborts_come_to_an_end = aborts_come;
  dues_can_be_undone = dues_undone;
  logs_on_the_way_are_whole = logs_whole;
  recovered_logs_are_whole = record { recovered = recovered_from; stopped = recovering_stops };
  undos_keep_logs_whole = record {
    whole = undo_keeps_whole;
    less = undo_leaves_less;
    plain = λ log r h. undo_is_plain (open_work_of log) r h;
  };
  undone_logs_are_whole = undone_from;
  unended_are_counted = record {
    unfinished = λ z log w. sym (length-map (open_work_of log).unfinished pair_of) ∙ ap length (noted_unfinished z log w.legal);
    lost = λ z log w. noted_active z log w.legal w.reads;
    read = λ z log w. marked_work log w.based;
  };
  whole_logs_follow = whole_logs;
  rules_tell = rules_told;
}
