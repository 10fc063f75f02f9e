use Rattle.std.proofs.Common.{◌-◌, sym, ◌∙◌, ap, arith, option_map}
use Rattle.rq_model.specs.History.Call.{Acknowledge}
use Rattle.rq_core.specs.Views.{commit_told}
use Rattle.rq_core.proofs.Courses.{nth_told}
use Rattle.rq_core.proofs.world.committed.Goals as goal

pub returns : goal.returns
returns c =
    let n = c.args.n in
    let es = c.args.entries.now in
    let some = c.if-n-eq0.false in
    let within = c.if-n-entries.false in
    nth_told es n (n - 1) c.index-entries-n.result (omega (arith, some)) (omega (arith, some, within)) ∙ ap (λ e. option_map (λ k. Acknowledge k.txn k.lsn) (commit_told e)) (sym c.index-entries-n.is)
    ∙ ap (option_map (λ k. Acknowledge k.txn k.lsn)) (sym c.commit_of.ensures)
