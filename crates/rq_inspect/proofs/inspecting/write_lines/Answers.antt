use Rattle.std.proofs.Common.{ap}
use Rattle.std.proofs.lemmas.Result.{IfErr-weaker}
use Rattle.rq_inspect.proofs.Stopped.{nothing_begun, stopped_weaker}
use Rattle.rq_inspect.proofs.Written.{all_written}
use Rattle.rq_inspect.proofs.inspecting.write_lines.Goals as goal

pub returns-in_default-clause-stopped : goal.returns-in_default-clause-stopped
returns-in_default-clause-stopped g c = (
  ap g.L.LogDevice.faults c.requires.fresh,
  λ h. nothing_begun (g.L.LogDevice.seen c.args.reader.now.first) (g.W.Write.contents c.args.writer.now),
)

pub returns-in-Ok-write_all-clause-stopped : goal.returns-in-Ok-write_all-clause-stopped
returns-in-Ok-write_all-clause-stopped g c =
    IfErr-weaker c.go_through-listed.result _ _ (λ stop s. stopped_weaker g.L.LogDevice stop c.args.reader.now.first c.go_through-listed.new.reader.device _ _
    (λ text w. all_written (g.W.Write.contents c.args.writer.now) (g.W.Write.contents c.go_through-listed.new.writer) (g.W.Write.contents c.write_all.new.self) c.go_through-listed.new.piece.items text w
    (rw c.deref.ensures.value at c.in-Ok-write_all.ensures.bytes)) s) c.go_through-listed.ensures.stopped
