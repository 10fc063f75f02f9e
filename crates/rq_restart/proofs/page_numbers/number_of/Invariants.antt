use Rattle.std.proofs.Common.{◌≡◌, take}
use Rattle.rq_pool.specs.Numbered.{number_in}
use Rattle.rq_restart.proofs.page_numbers.number_of.Given as goal

abbrev pub invariant-loop-place : goal.invariant-loop-place
invariant-loop-place l = l.greatest ≡ number_in (take l.place l.fn.ahead) l.fn.page
