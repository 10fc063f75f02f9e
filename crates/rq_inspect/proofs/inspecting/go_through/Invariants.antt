use Rattle.std.proofs.Common.{◌≡◌, ◌-◌, ◌^◌, [], length}
use Rattle.rq_log.specs.Reading.{IsReading}
use Rattle.rq_inspect.specs.Inspections.{IsWrittenBut, lines}
use Rattle.rq_inspect.specs.Reports.{Tells}
use Rattle.rq_inspect.proofs.inspecting.go_through.Given as goal

abbrev pub invariant-loop-refusal : goal.invariant-loop-refusal
invariant-loop-refusal g l = record {
  told : Tells l.reader.records [] l.report;
  text : IsWrittenBut (g.W.Write.contents l.fn.writer) (g.W.Write.contents l.writer) l.piece.items (lines l.reader.records);
  reading : IsReading g.L.LogDevice l.reader;
  count : g.L.LogDevice.faults l.reader.device ≡ g.L.LogDevice.faults l.fn.reader.first;
  first : l.reader.first ≡ l.fn.reader.first;
}

abbrev pub decreases-loop-refusal : goal.decreases-loop-refusal
decreases-loop-refusal g l = 2 ^ 64 - length l.reader.records
