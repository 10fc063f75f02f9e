use Rattle.std.proofs.lemmas.Result.{IfErr-weaker, on_ok_weaker}
use Rattle.rq_inspect.proofs.Stopped.{unprinted}
use Rattle.rq_inspect.proofs.inspecting.report_on.Goals as goal

pub returns-in-Ok-clause-whole : goal.returns-in-Ok-clause-whole
returns-in-Ok-clause-whole g c =
    let struck = rw c.in-Ok.is at c.strike_out-log.ensures.whole in
    on_ok_weaker c.write_report.result (λ written honest older are marked is told. record {
      report = c.strike_out-log.new.report;
      told = c.shows_told.ensures older (struck honest older are marked is told);
      written = written;
    }) c.write_report.ensures.told

pub returns-in-Ok-clause-unreported : goal.returns-in-Ok-clause-unreported
returns-in-Ok-clause-unreported g c =
    let count = rw c.in-Ok.is at c.strike_out-log.ensures.cause in
    IfErr-weaker c.write_report.result _ _ (λ stop why. unprinted g.L.LogDevice stop c.args.log c.strike_out-log.result.0 _ _ count why) c.write_report.ensures.unprinted
