use Rattle.std.proofs.Common.{◌≡◌, ◌-◌, ◌<◌, ℕ, true, false}
use Rattle.rq_page.specs.Sizes.{sender_count}
use Rattle.rq_groups.specs.Ends.{is_held}
use Rattle.rq_store.specs.Plans.{WaitsFor}
use Rattle.rq_engine.specs.KeptUp.{HasReadSoFar}
use Rattle.rq_engine.specs.Sends.{take_latched}
use Rattle.rq_engine.proofs.engine.Engine.start_free_take.Given as goal

-- pages were read, and no more; of the senders so far none has a message to take that no latch keeps, by what an honest device gave
abbrev pub invariant-loop-sender : goal.invariant-loop-sender
invariant-loop-sender g l =
    HasReadSoFar g.P.PageDevice l.initial.self l.self
    × (g.P.PageDevice.honest l.self.pages → (e : ℕ) → e < l.from → is_held e l.initial.self.state.ends.receiving ≡ false → WaitsFor l.initial.self.state l.fn.txn e → take_latched l.initial.self.state e ≡ true)

abbrev pub decreases-loop-sender : goal.decreases-loop-sender
decreases-loop-sender g l = sender_count l.initial.self.state.sizes - l.from
