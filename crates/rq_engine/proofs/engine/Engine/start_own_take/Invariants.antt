use Rattle.std.specs.Bool.{⊤}
use Rattle.std.proofs.Common.{◌≡◌, true}
use Rattle.rq_groups.specs.Ends.{held_by}
use Rattle.rq_store.specs.Plans.{WaitsFor}
use Rattle.rq_groups.proofs.Tails.{IsWalk, left_from}
use Rattle.rq_engine.specs.KeptUp.{HasReadSoFar}
use Rattle.rq_engine.specs.Sends.{take_latched}
use Rattle.rq_engine.proofs.engine.Engine.start_own_take.Given as goal

-- pages were read, and no more; of the senders so far none has a message to take that no latch keeps, by what an honest device gave
abbrev pub invariant-loop-next : goal.invariant-loop-next
invariant-loop-next g l =
    HasReadSoFar g.P.PageDevice l.initial.self l.self × IsWalk (held_by l.fn.txn l.initial.self.state.ends.receiving) l.next (λ _. ⊤)
    × (g.P.PageDevice.honest l.self.pages → IsWalk (held_by l.fn.txn l.initial.self.state.ends.receiving) l.next (λ s. WaitsFor l.initial.self.state l.fn.txn s → take_latched l.initial.self.state s ≡ true))

abbrev pub decreases-loop-next : goal.decreases-loop-next
decreases-loop-next g l = left_from l.next (held_by l.fn.txn l.initial.self.state.ends.receiving)
