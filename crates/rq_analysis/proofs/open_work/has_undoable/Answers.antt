use Rattle.std.proofs.Common.{[], ◌∙◌}
use Rattle.rq_analysis.specs.OpenWorkView.{undoable_by}
use Rattle.rq_analysis.proofs.Stacks.{found_any}
use Rattle.rq_analysis.proofs.open_work.has_undoable.Goals as goal

pub returns : goal.returns
returns c =
    let e = c.newest_of.ensures in
    c.is_some.ensures ∙ found_any (undoable_by c.args.sub) c.args.undoable.now c.newest_of.result (record { lsn = 0; by = c.args.sub; page = 0; slot = 0; before = [] }) e.place e.own e.none
