use Rattle.std.proofs.Common.{◌≡◌, ◌-◌, ◌^◌, List, [], length}
use Rattle.rq_model.specs.declared.record.Record.{Record}
use Rattle.rq_log.specs.Reading.{IsReading}
use Rattle.rq_inspect.specs.Reports.{Tells}
use Rattle.rq_inspect.proofs.inspecting.strike_all.Given as goal

abbrev pub invariant-loop-report : goal.invariant-loop-report
invariant-loop-report g l = record {
  struck : (older : List Record) → Tells older [] l.fn.report → Tells older l.reader.records l.report;
  reading : IsReading g.L.LogDevice l.reader;
  count : g.L.LogDevice.faults l.reader.device ≡ g.L.LogDevice.faults l.fn.reader.first;
  first : l.reader.first ≡ l.fn.reader.first;
}

abbrev pub decreases-loop-report : goal.decreases-loop-report
decreases-loop-report g l = 2 ^ 64 - length l.reader.records
