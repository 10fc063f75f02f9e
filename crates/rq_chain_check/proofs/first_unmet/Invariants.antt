use Rattle.rq_views.specs.Stored.{slots_in}
use Rattle.rq_chain_check.specs.Follows.{IsNextFree}
use Rattle.rq_chain_check.proofs.Followed.{AreSeen}
use Rattle.rq_chain_check.proofs.first_unmet.Given as goal

-- the used cells so far are noted
abbrev pub invariant-loop-place : goal.invariant-loop-place
invariant-loop-place g l = record {
  seen : AreSeen l.fn.pages.sizes (slots_in l.fn.pages.sizes l.fn.pages.images) l.fn.met l.place;
  next : IsNextFree l.fn.pages.sizes (slots_in l.fn.pages.sizes l.fn.pages.images) l.place l.free;
}
