use Rattle.std.proofs.Common.{sym, ◌∙◌}
use Rattle.std.proofs.lemmas.Bool.{false≢true}
use Rattle.rq_analysis.proofs.Judging.{judged_by}
use Rattle.rq_analysis.proofs.checking.follows.Goals as goal

pub returns-then-not-reads : goal.returns-then-not-reads
returns-then-not-reads c = λ log k f w o is back. (λ y. absurd (false≢true y), λ q. absurd (false≢true (sym c.if-not-reads.true ∙ is.1 q.reads)))

pub returns : goal.returns
returns c = λ log k f w o is back.
    let j = judged_by log c.args.record.now c.args.open_work.now c.args.dues.now c.args.numbers.now c.args.ended.now k f w o (is.0 c.if-not-reads.false) in
    let p = c.passes.ensures back in
    (λ y. j.0 (p.0 y), λ q. p.1 (j.1 q))
