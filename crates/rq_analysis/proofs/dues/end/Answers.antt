use Rattle.std.proofs.Common.{rules, ap, ◌∙◌, reverse, not}
use Rattle.std.proofs.lemmas.Fn.{filter_same}
use Rattle.rq_analysis.specs.declared.dues.PendingUndo.{PendingUndo}
use Rattle.rq_analysis.specs.Dues.{due_of}
use Rattle.rq_analysis.proofs.dues.end.Goals as goal
use Rattle.rq_analysis.proofs.Stacks.{filter_reverse}

pub returns : goal.returns
returns c =
    let kept = filter_same _ (λ (d : PendingUndo). not (due_of c.args.txn d)) _ (λ x b f' k. search rules) _ _ c.retain.ensures.filtered in
    ap reverse kept ∙ filter_reverse (λ (d : PendingUndo). not (due_of c.args.txn d)) c.args.dues.now.items
