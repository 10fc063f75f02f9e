use Rattle.std.proofs.Common.{arith, inl, sym, ap, length, ◌∙◌}
use Rattle.rq_log.proofs.Kept.{whole, handed, broken, append_leaves, append_adds, reads_all, nothing_buffered}
use Rattle.rq_log.proofs.Runs.{is_none, is_some}
use Rattle.rq_log.proofs.Moments.{started, one_call}
use Rattle.rq_log.proofs.Log.append_buffer.Goals as goal

pub returns-then-is_empty-clause-ok : goal.returns-then-is_empty-clause-ok
returns-then-is_empty-clause-ok g c =
    let L = g.L.LogDevice in
    let none = sym c.self.inside.buffer.ok.0 ∙ is_none _ _ c.is_empty.ensures c.if-is_empty.true in
    rw (← c.self.view_is) ((rw (← c.self.view_is) at c.requires.running), none, nothing_buffered L _ _ c.self.inside.buffer.items _ c.self.invariant (rw (← c.self.view_is) at c.requires.running) (rw (← c.self.view_is) at c.requires.whole) none)

pub returns-then-is_empty-clause-any_moment : goal.returns-then-is_empty-clause-any_moment
returns-then-is_empty-clause-any_moment g c =
    let L = g.L.LogDevice in
    let d = c.self.inside.device in
    rw (← c.self.view_is) (λ h was. started L d _ (λ b left. c.self.invariant.is_log.leaves h was b (g.met.L.LogDevice.only_now d b left)))

pub append-requires : goal.append-requires
append-requires g c =
    let L = g.L.LogDevice in
    rw c.deref.ensures.value (whole L _ _ c.self.inside.buffer.items _ c.self.invariant (rw (← c.self.view_is) at c.requires.running))

pub invariant_of-self : goal.invariant_of-self
invariant_of-self g c =
    let L = g.L.LogDevice in
    let crash = rw c.deref.ensures.value at c.append.ensures.crash in
    let added = rw c.deref.ensures.value at c.in-Ok.ensures.added in
    handed L _ _ c.self.inside.buffer.items _ c.self.invariant (rw (← c.self.view_is) at c.requires.running) (rw (← c.self.view_is) at c.requires.whole) c.append.new.self c.append.ensures.honest crash added _ (let room = c.self.invariant.room in omega (arith, room, c.clear.ensures.capacity)) _ c.clear.ensures.items

pub invariant_of-self-in-Err : goal.invariant_of-self-in-Err
invariant_of-self-in-Err g c =
    let L = g.L.LogDevice in
    let crash = rw c.deref.ensures.value at c.append.ensures.crash in
    broken L _ _ c.self.inside.buffer.items _ c.self.invariant (rw (← c.self.view_is) at c.requires.running) c.append.new.self
    (λ h. append_leaves L _ _ c.self.inside.buffer.items _ c.self.invariant (rw (← c.self.view_is) at c.requires.running) (rw (← c.self.view_is) at c.requires.whole) c.append.new.self crash (c.append.ensures.honest h))

pub returns-in-Ok-clause-ok : goal.returns-in-Ok-clause-ok
returns-in-Ok-clause-ok g c =
    let L = g.L.LogDevice in
    let added = rw c.deref.ensures.value at c.in-Ok.ensures.added in
    ((rw (← c.self.view_is) at c.requires.running), ap length c.clear.ensures.items, λ h. added ∙ reads_all L _ _ c.self.inside.buffer.items _ c.self.invariant (rw (← c.self.view_is) at c.requires.running) (rw (← c.self.view_is) at c.requires.whole) (c.append.ensures.honest h))

pub returns-in-Ok-clause-idle : goal.returns-in-Ok-clause-idle
returns-in-Ok-clause-idle g c =
    let L = g.L.LogDevice in
    rw (← c.self.view_is) (λ none. absurd (is_some _ _ c.is_empty.ensures c.if-is_empty.false (c.self.inside.buffer.ok.0 ∙ none)))

pub returns-in-Ok-clause-any_moment : goal.returns-in-Ok-clause-any_moment
returns-in-Ok-clause-any_moment g c =
    let L = g.L.LogDevice in
    let d = c.self.inside.device in
    let crash = rw c.deref.ensures.value at c.append.ensures.crash in
    rw (← c.self.view_is)
    (λ h was. one_call L d c.append.new.self _ (L.may_leave d) (L.may_leave c.append.new.self) (g.met.L.LogDevice.only_now d) c.append.ensures.time
    (c.self.invariant.is_log.leaves (c.append.ensures.honest h) was)
    (append_leaves L _ _ c.self.inside.buffer.items _ c.self.invariant (rw (← c.self.view_is) at c.requires.running) (rw (← c.self.view_is) at c.requires.whole) c.append.new.self crash (c.append.ensures.honest h) was))

pub returns-in-Err-clause-idle : goal.returns-in-Err-clause-idle
returns-in-Err-clause-idle g c =
    let L = g.L.LogDevice in
    rw (← c.self.view_is) (λ none. absurd (is_some _ _ c.is_empty.ensures c.if-is_empty.false (c.self.inside.buffer.ok.0 ∙ none)))

pub returns-in-Err-clause-any_moment : goal.returns-in-Err-clause-any_moment
returns-in-Err-clause-any_moment g c =
    let L = g.L.LogDevice in
    let d = c.self.inside.device in
    let crash = rw c.deref.ensures.value at c.append.ensures.crash in
    rw (← c.self.view_is)
    (λ h was. one_call L d c.append.new.self _ (L.may_leave d) (L.may_leave c.append.new.self) (g.met.L.LogDevice.only_now d) c.append.ensures.time
    (c.self.invariant.is_log.leaves (c.append.ensures.honest h) was)
    (append_leaves L _ _ c.self.inside.buffer.items _ c.self.invariant (rw (← c.self.view_is) at c.requires.running) (rw (← c.self.view_is) at c.requires.whole) c.append.new.self crash (c.append.ensures.honest h) was))

pub returns-then-is_empty-clause-left : goal.returns-then-is_empty-clause-left
returns-then-is_empty-clause-left g c =
    let d = c.self.inside.device in
    rw (← c.self.view_is) (λ h. started g.L.LogDevice d _ (λ b left. inl (g.met.L.LogDevice.only_now d b left)))

pub returns-in-Ok-clause-left : goal.returns-in-Ok-clause-left
returns-in-Ok-clause-left g c =
    let L = g.L.LogDevice in
    let d = c.self.inside.device in
    let crash = rw c.deref.ensures.value at c.append.ensures.crash in
    rw (← c.self.view_is)
    (λ h. one_call L d c.append.new.self _ (L.may_leave d) (L.may_leave c.append.new.self) (g.met.L.LogDevice.only_now d) c.append.ensures.time
    (λ b was. inl was)
    (append_adds L _ _ c.self.inside.buffer.items _ c.self.invariant (rw (← c.self.view_is) at c.requires.running) (rw (← c.self.view_is) at c.requires.whole) c.append.new.self crash (c.append.ensures.honest h)))

pub returns-in-Err-clause-left : goal.returns-in-Err-clause-left
returns-in-Err-clause-left g c =
    let L = g.L.LogDevice in
    let d = c.self.inside.device in
    let crash = rw c.deref.ensures.value at c.append.ensures.crash in
    rw (← c.self.view_is)
    (λ h. one_call L d c.append.new.self _ (L.may_leave d) (L.may_leave c.append.new.self) (g.met.L.LogDevice.only_now d) c.append.ensures.time
    (λ b was. inl was)
    (append_adds L _ _ c.self.inside.buffer.items _ c.self.invariant (rw (← c.self.view_is) at c.requires.running) (rw (← c.self.view_is) at c.requires.whole) c.append.new.self crash (c.append.ensures.honest h)))
