use Rattle.std.specs.Bool.{⊤}
use Rattle.std.proofs.Common.{◌≡◌, ◌∷◌, List, ℕ, true, refl, sym, ◌∙◌, ap, subst, Option, None}
use Rattle.rq_groups.specs.Ends.{AreApart, HeldEnds, IsTail, first_of, has_held, held_by}
use Rattle.rq_store.specs.State.{State}
use Rattle.rq_store.specs.Plans.{WaitsFor}
use Rattle.rq_engine.specs.Sends.{take_latched}
use Rattle.rq_groups.proofs.Chained.{none_left}
use Rattle.rq_groups.proofs.Holders.{has_is_number}
use Rattle.rq_groups.proofs.Tails.{IsWalk, walk_begin, walk_next, walk_over, walk_shorter}
use Rattle.rq_engine.specs.Plans.{IsTakeOf}
use Rattle.rq_engine.proofs.KeptUp.{pages_still, read_state, so_far_then, tried_held, tried_latched}
use Rattle.rq_engine.proofs.Leveled.{take_held, take_none, take_other}
use Rattle.rq_engine.proofs.Opened.{state_is}
use Rattle.rq_engine.proofs.TakeCalls.{may_then, takes_tried}
use Rattle.rq_engine.proofs.Wanting.{takes_frames}
use Rattle.rq_engine.proofs.engine.Engine.start_own_take.Goals as goal

pub loop-next-init : goal.loop-next-init
loop-next-init g c =
    let own = held_by c.args.txn c.args.self.now.state.ends.receiving in
    let newest : c.newest_received-next.result ≡ first_of own = c.newest_received-next.ensures.newest ∙ ap (λ (x : State). first_of (held_by c.args.txn x.ends.receiving)) (state_is c.self.view_is) in
    ((pages_still g.P.PageDevice _ _ refl, refl), walk_begin own c.newest_received-next.result _ newest, λ honest. walk_begin own c.newest_received-next.result _ newest)

pub loop-next-smaller : goal.loop-next-smaller
loop-next-smaller g c =
    let s = c.args.self.now.state in
    let own = held_by c.args.txn s.ends.receiving in
    let once : AreApart own = subst (λ (x : State). AreApart (held_by c.args.txn x.ends.receiving)) (state_is c.self.view_is) c.newest_received-next.ensures.once in
    let read = so_far_then g.P.PageDevice _ _ _ c.loop-next.invariant.0 (tried_latched g.P.PageDevice _ _ _ c.start_waiting-answer.result (sym c.if-not-is_latched.ensures) c.start_waiting-answer.ensures.tried) in
    let to : c.self-in-Some.inside.ends ≡ s.ends = ap (λ (x : State). x.ends) (state_is c.self-in-Some.view_is) ∙ ap (λ (x : State). x.ends) read.0.lists in
    let follows : (older : List ℕ) → IsTail own (c.in-Some.sender ∷ older) → c.received_before-next.result ≡ first_of older =
    λ older tail. c.received_before-next.ensures c.args.txn older (subst (λ (x : HeldEnds). IsTail (held_by c.args.txn x.receiving) (c.in-Some.sender ∷ older)) (sym to) tail) in
    rw c.in-Some.is (walk_shorter own c.in-Some.sender c.received_before-next.result (λ _. ⊤) once (subst (λ (o : Option ℕ). IsWalk own o (λ _. ⊤)) c.in-Some.is c.loop-next.invariant.1) follows)

pub loop-next-preserved : goal.loop-next-preserved
loop-next-preserved g c =
    let s = c.args.self.now.state in
    let own = held_by c.args.txn s.ends.receiving in
    let P = λ (e : ℕ). WaitsFor s c.args.txn e → take_latched s e ≡ true in
    let read = so_far_then g.P.PageDevice _ _ _ c.loop-next.invariant.0 (tried_latched g.P.PageDevice _ _ _ c.start_waiting-answer.result (sym c.if-not-is_latched.ensures) c.start_waiting-answer.ensures.tried) in
    let to : c.self-in-Some.inside.ends ≡ s.ends = ap (λ (x : State). x.ends) (state_is c.self-in-Some.view_is) ∙ ap (λ (x : State). x.ends) read.0.lists in
    let follows : (older : List ℕ) → IsTail own (c.in-Some.sender ∷ older) → c.received_before-next.result ≡ first_of older =
    λ older tail. c.received_before-next.ensures c.args.txn older (subst (λ (x : HeldEnds). IsTail (held_by c.args.txn x.receiving) (c.in-Some.sender ∷ older)) (sym to) tail) in (
      read,
      walk_next own c.in-Some.sender c.received_before-next.result (λ _. ⊤) (subst (λ (o : Option ℕ). IsWalk own o (λ _. ⊤)) c.in-Some.is c.loop-next.invariant.1) follows tt,
      λ honest.
          let truly = c.start_waiting-answer.ensures.tried.devices.0.honest honest in
          walk_next own c.in-Some.sender c.received_before-next.result P (subst (λ (o : Option ℕ). IsWalk own o P) c.in-Some.is (c.loop-next.invariant.2 truly)) follows
          (subst (λ (x : State). WaitsFor x c.args.txn c.in-Some.sender → take_latched x c.in-Some.sender ≡ true) (read_state g.P.PageDevice _ _ c.loop-next.invariant.0.0 truly)
          (take_held c.loop-next.self.state c.args.txn c.args.number c.start_waiting-answer.result c.start_waiting-answer.new.self.state (λ e. e ≡ c.in-Some.sender) (sym c.if-not-is_latched.ensures) (c.start_waiting-answer.ensures.taken honest) c.in-Some.sender refl)),
    )

pub start_waiting-answer-requires : goal.start_waiting-answer-requires
start_waiting-answer-requires g c = may_then _ _ c.loop-next.invariant.0.0.lists c.args.txn c.args.number c.requires

pub returns-then-not-is_latched-clause-tried : goal.returns-then-not-is_latched-clause-tried
returns-then-not-is_latched-clause-tried g c = takes_tried g.P.PageDevice c.args.self.now _ _ c.args.txn c.args.number c.loop-next.invariant.0 c.start_waiting-answer.result c.start_waiting-answer.ensures.tried

pub returns-then-not-is_latched-clause-taken : goal.returns-then-not-is_latched-clause-taken
returns-then-not-is_latched-clause-taken g c honest =
    subst (λ (x : State). IsTakeOf x c.args.txn c.args.number (λ e. has_held c.args.txn e x.ends.receiving ≡ true) c.start_waiting-answer.result c.start_waiting-answer.new.self.state)
    (read_state g.P.PageDevice _ _ c.loop-next.invariant.0.0 (c.start_waiting-answer.ensures.tried.devices.0.honest honest))
    (take_other c.loop-next.self.state c.args.txn c.args.number _ c.start_waiting-answer.new.self.state c.start_waiting-answer.result (λ e. e ≡ c.in-Some.sender) (sym c.if-not-is_latched.ensures) (c.start_waiting-answer.ensures.taken honest))

pub returns-clause-tried : goal.returns-clause-tried
returns-clause-tried g c = tried_held g.P.PageDevice c.args.self.now c.loop-next.self _ c.loop-next.invariant.0

pub returns-clause-taken : goal.returns-clause-taken
returns-clause-taken g c honest =
    let s = c.args.self.now.state in
    let own = held_by c.args.txn s.ends.receiving in
    let P = λ (e : ℕ). WaitsFor s c.args.txn e → take_latched s e ≡ true in
    let over : c.loop-next.next ≡ None = none_left c.loop-next.next c.in_default.not-Some in
    take_none s c.args.txn c.args.number (λ e. has_held c.args.txn e s.ends.receiving ≡ true) _
    (λ e held waits. walk_over own P (subst (λ (o : Option ℕ). IsWalk own o P) over (c.loop-next.invariant.2 honest)) e (sym (has_is_number c.args.txn e s.ends.receiving) ∙ held) waits)

pub returns-then-not-is_latched-clause-frames : goal.returns-then-not-is_latched-clause-frames
returns-then-not-is_latched-clause-frames g c =
    takes_frames g.P.PageDevice c.args.self.now c.loop-next.self c.start_waiting-answer.new.self c.args.txn c.args.number c.loop-next.invariant.0 c.start_waiting-answer.result c.start_waiting-answer.ensures.tried.devices c.start_waiting-answer.ensures.frames
