use Rattle.rq_restart.specs.Numbers.{NoneBeyond}
use Rattle.rq_restart.specs.Repeating.{paged}
use Rattle.rq_restart.proofs.page_numbers.first_beyond.Given as goal

abbrev pub invariant-loop-page : goal.invariant-loop-page
invariant-loop-page g l = NoneBeyond l.fn.records l.fn.ahead (paged l.fn.pages) l.page
