use Rattle.std.proofs.Common.{◌∙◌, sym, subst}
use Rattle.std.proofs.lemmas.Result.{IfErr-weaker, on_ok_weaker}
use Rattle.rq_log.proofs.Keeping.{read_twice}
use Rattle.rq_inspect.specs.Inspections.{listed_text}
use Rattle.rq_log.specs.Spelled.{EndsWith}
use Rattle.rq_inspect.specs.Reports.{report_text}
use Rattle.rq_inspect.proofs.Stopped.{listed_stopped}
use Rattle.rq_inspect.proofs.Written.{appends_joined}
use Rattle.rq_inspect.proofs.inspecting.inspect.Goals as goal

pub returns-in-Ok-clause-whole : goal.returns-in-Ok-clause-whole
returns-in-Ok-clause-whole g c =
    let listed = rw c.in-Ok.is at c.list-log.ensures.whole in
    on_ok_weaker c.report_on.result.1 (λ reported honest.
    let l = listed (c.report_on.ensures.read.honest honest) in
    let r = reported honest l.log l.are_spelled l.marked (subst (EndsWith l.log) (sym c.list-log.ensures.read.same) (l.is.end, l.is.short, l.is.is)) l.told in
    record {
      log = l.log;
      are_spelled = l.are_spelled;
      marked = l.marked;
      left = l.left;
      is = l.is;
      report = r.report;
      told = r.told;
      written = appends_joined (g.W.Write.contents c.args.writer.now) (g.W.Write.contents c.list-log.new.writer) (g.W.Write.contents c.report_on.new.writer) (listed_text l.log l.left) (report_text r.report) l.written r.written;
    }) c.report_on.ensures.whole

pub returns-in-Ok-clause-stopped : goal.returns-in-Ok-clause-stopped
returns-in-Ok-clause-stopped g c =
    let listed = rw c.in-Ok.is at c.list-log.ensures.whole in
    let count = rw c.in-Ok.is at c.list-log.ensures.cause in
    IfErr-weaker c.report_on.result.1 _ _ (λ stop why. listed_stopped g.L.LogDevice stop c.args.log c.list-log.result.0 c.report_on.result.0
    (g.W.Write.contents c.args.writer.now) (g.W.Write.contents c.list-log.new.writer) (g.W.Write.contents c.report_on.new.writer) c.list-log.new.report
    count c.list-log.ensures.read.same (λ honest. listed (c.report_on.ensures.read.honest honest)) why) c.report_on.ensures.unreported

pub returns-in-Ok-clause-cause : goal.returns-in-Ok-clause-cause
returns-in-Ok-clause-cause g c =
    let count = rw c.in-Ok.is at c.list-log.ensures.cause in
    on_ok_weaker c.report_on.result.1 (λ same. same ∙ count) c.report_on.ensures.cause

pub returns-in-Ok-clause-read : goal.returns-in-Ok-clause-read
returns-in-Ok-clause-read g c = read_twice g.L.LogDevice c.args.log c.list-log.result.0 c.report_on.result.0 c.list-log.ensures.read c.report_on.ensures.read
