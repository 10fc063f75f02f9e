use Rattle.std.proofs.Common.{◌≡◌, ◌-◌, [], length}
use Rattle.rq_level.specs.Asked.{AreWanted}
use Rattle.rq_level.specs.Given.{AreGiven}
use Rattle.rq_pool.specs.Fetching.{MayHaveRead}
use Rattle.rq_level.specs.Meaning.{kept_at, meaning_of}
use Rattle.rq_planner.specs.Answered.{HasGathered, wants_of}
use Rattle.rq_planner.specs.Asked.{known_from}
use Rattle.rq_planner.specs.Lawful.{AreFreelyGiven}
use Rattle.rq_pool.specs.Fetching.{IsReadAsStored}
use Rattle.rq_planner.proofs.gathering.gather.Given as goal

-- What was given so far was wanted, of the store's slots, of pages that nobody has latched. Where what was read is true, each is as
-- it is.
abbrev pub invariant-loop-at : goal.invariant-loop-at
invariant-loop-at g l = record {
  read : MayHaveRead g.P.PageDevice l.fn.pages l.pages;
  counted : g.P.PageDevice.faults l.pages.device ≡ g.P.PageDevice.faults l.fn.pages.device;
  wanted : AreWanted (wants_of l.levels l.op.level l.op) [] l.slots;
  given : AreGiven l.fn.pages.sizes l.slots;
  free : AreFreelyGiven l.transactions (meaning_of l.op.level) (kept_at l.levels l.op.level) l.slots;
  gathered : IsReadAsStored g.P.PageDevice l.fn.pages l.pages → HasGathered (known_from l.fn.pages l.transactions) (wants_of l.levels l.op.level) l.op l.slots;
}

abbrev pub decreases-loop-at : goal.decreases-loop-at
decreases-loop-at g l = 4 - length l.slots
