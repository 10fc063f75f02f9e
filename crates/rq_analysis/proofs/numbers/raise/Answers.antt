use Rattle.std.proofs.Common.{ap, ◌∙◌}
use Rattle.std.proofs.lemmas.Bool.{lt-ltb}
use Rattle.rq_model.specs.declared.txn.Sub.{Sub}
use Rattle.rq_analysis.specs.Numbers.{numbers_left}
use Rattle.rq_analysis.proofs.Numbering.{left_behind}
use Rattle.rq_analysis.proofs.numbers.raise.Goals as goal

pub returns : goal.returns
returns c =
    let o : Sub = record { txn = c.args.txn; number = c.args.number } in
    let items = c.args.numbers.now.items in
    c.leave.ensures ∙ ap (numbers_left c.args.txn c.args.number) c.push_reserved.ensures.items ∙ left_behind o items (lt-ltb _ _ c.requires.greater)
