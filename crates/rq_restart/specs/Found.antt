-- What is kept of a log as it is gone through.
use Rattle.std.specs.Prelude.{◌≡◌, ℕ, ◌+◌, ◌-◌, ◌^◌, min, List, length}
use Rattle.rq_model.specs.declared.record.Record.{Record}
use Rattle.rq_analysis.specs.OpenWorkView.{open_work_of, open_work_after}
use Rattle.rq_analysis.specs.Dues.{dues, dues_after}
use Rattle.rq_analysis.specs.Numbers.{numbers, numbers_after}
use Rattle.rq_analysis.specs.LogTables.{ended, ended_after}
use Rattle.rq_analysis.specs.Rules.{FollowsRules, IsNextIn, IsReadInOrder}
use Rattle.rq_model.specs.Bases.{IsMarked}
use Rattle.rq_log.specs.Spelled.{spelled}
use Rattle.rq_record.specs.Spelling.{spelling}
use Rattle.rq_restart.specs.Places.{places_of, places_after}
use Rattle.rq_restart.specs.declared.analysis.Analysis.{Analysis}

-- the record may come behind these: it is the next of its incarnation, and follows the rules of a log
pub record MayComeNext (older : List Record) (r : Record) : Type 0 where
  pub next : IsNextIn older r
  pub follows : FollowsRules older r

-- what the records of the log come to
pub record IsAnalysisOf (f : Analysis) (log : List Record) : Type 0 where
  pub open_work : f.open_work ≡ open_work_of log
  pub dues : f.dues ≡ dues log
  pub numbers : f.numbers ≡ numbers log
  pub ended : f.ended ≡ ended log
  pub places : f.places ≡ places_of log
  pub size : f.size ≡ length (spelled log)
  pub order : IsReadInOrder log
  pub marked : IsMarked log

-- and with one record more, which has this LSN
abbrev pub analysis_after : ℕ → Record → Analysis → Analysis
analysis_after lsn r f = record {
  open_work = open_work_after lsn r f.open_work;
  dues = dues_after lsn r f.dues;
  numbers = numbers_after r f.numbers;
  ended = ended_after r f.ended;
  places = places_after lsn f.size r f.places;
  size = min (f.size + length (spelling r)) (2 ^ 64 - 1);
}
