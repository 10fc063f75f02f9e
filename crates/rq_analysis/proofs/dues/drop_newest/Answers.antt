use Rattle.std.proofs.Common.{ap, sym, ◌∙◌, reverse}
use Rattle.rq_analysis.specs.Dues.{any_due, due_of}
use Rattle.rq_analysis.proofs.Stacks.{any_reverse, none_newest, taken_in}
use Rattle.rq_analysis.proofs.dues.drop_newest.Goals as goal

pub returns-in-Some : goal.returns-in-Some
returns-in-Some c =
    let items = c.args.dues.now.items in
    let found = c.in-Some.ensures in
    ap reverse c.remove.ensures.by_index.2
    ∙ taken_in (due_of c.args.txn) c.deref.result.now items c.in-Some.place c.remove.result c.deref.ensures.value found.place (found.own c.remove.result) found.newest

pub returns-in_default : goal.returns-in_default
returns-in_default c =
    let items = c.args.dues.now.items in
    sym (none_newest (due_of c.args.txn) (reverse items)
    (any_reverse (due_of c.args.txn) items ∙ ap (any_due c.args.txn) (sym c.deref.ensures.value) ∙ c.in_default.ensures.none))
