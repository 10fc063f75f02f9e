use Rattle.std.proofs.Common.{◌≡◌, ◌≤◌, ◌<◌, ℕ, true, false, inl, inr, ap, sym, ◌∙◌, subst, arith}
use Rattle.std.proofs.lemmas.Bool.{cases_eq, cases_lt}
use Rattle.rq_groups.specs.Ends.{is_held}
use Rattle.rq_groups.specs.Waiting.{waits}
use Rattle.rq_store.specs.State.{State}
use Rattle.rq_engine.specs.Plans.{IsTakeOf}
use Rattle.rq_engine.specs.Sends.{take_latched}
use Rattle.rq_engine.proofs.Free.{left_none}
use Rattle.rq_engine.proofs.KeptUp.{read_state, so_far_then, tried_held, tried_latched}
use Rattle.rq_engine.proofs.Leveled.{start_held, take_found, take_none}
use Rattle.rq_engine.proofs.TakeCalls.{may_then, take_tried}
use Rattle.rq_engine.proofs.engine.Engine.start_free_take.Goals as goal
use Rattle.rq_engine.proofs.Wanting.{take_frames}
use Rattle.rq_page.specs.Sizes.{sender_count}

pub start_take-answer-requires-clause-may : goal.start_take-answer-requires-clause-may
start_take-answer-requires-clause-may g c = may_then _ _ c.loop-sender.invariant.0.0.lists c.args.txn c.args.number c.requires

pub loop-sender-smaller : goal.loop-sender-smaller
loop-sender-smaller g c =
    let senders : sender_count c.loop-sender.self.state.sizes ≡ sender_count c.args.self.now.state.sizes = ap (λ (x : State). sender_count x.sizes) c.loop-sender.invariant.0.0.lists in
    let below = (c.in-Some.ensures.waits c.args.txn).0 in
    let first = c.in-Some.ensures.first.0 in
    omega (arith, senders, below, first)

pub loop-sender-preserved : goal.loop-sender-preserved
loop-sender-preserved g c = (
  so_far_then g.P.PageDevice _ _ _ c.loop-sender.invariant.0 (tried_latched g.P.PageDevice _ _ _ c.start_take-answer.result (sym c.if-not-is_latched.ensures) c.start_take-answer.ensures.tried),
  λ honest e below free waiting.
      let s = c.args.self.now.state in
      let truly = c.start_take-answer.ensures.tried.devices.0.honest honest in
      let same : c.loop-sender.self.state ≡ s = read_state g.P.PageDevice _ _ c.loop-sender.invariant.0.0 truly in
      let first = subst (λ (x : State). (g' : ℕ) → c.loop-sender.from ≤ g' → g' < c.in-Some.sender → is_held g' x.ends.receiving ≡ false → waits x.waiting g' ≡ 0) same c.in-Some.ensures.first.1 in
      elim (cases_eq e c.in-Some.sender) [
        | inl here ↦
            let latched = start_held c.loop-sender.self.state c.args.txn c.args.number c.start_take-answer.result c.start_take-answer.new.self.state c.in-Some.sender _ (sym c.if-not-is_latched.ensures) (c.start_take-answer.ensures.started honest) in
            ap (take_latched s) here ∙ subst (λ (x : State). take_latched x c.in-Some.sender ≡ true) same latched
        | inr other ↦ elim (cases_lt e c.loop-sender.from) [
          | inl earlier ↦ c.loop-sender.invariant.1 truly e earlier free waiting
          | inr later ↦
              let none = first e later (omega arith) free in
              let some = waiting.2 in
              absurd (omega (arith, none, some))
        ]
      ],
)

pub returns-then-not-is_latched-clause-tried : goal.returns-then-not-is_latched-clause-tried
returns-then-not-is_latched-clause-tried g c = take_tried g.P.PageDevice c.args.self.now _ _ c.args.txn c.args.number c.loop-sender.invariant.0 c.start_take-answer.result c.in-Some.sender (c.in-Some.ensures.waits c.args.txn) c.start_take-answer.ensures.tried

pub returns-then-not-is_latched-clause-taken : goal.returns-then-not-is_latched-clause-taken
returns-then-not-is_latched-clause-taken g c honest =
    subst (λ (x : State). IsTakeOf x c.args.txn c.args.number (λ e. is_held e x.ends.receiving ≡ false) c.start_take-answer.result c.start_take-answer.new.self.state)
    (read_state g.P.PageDevice _ _ c.loop-sender.invariant.0.0 (c.start_take-answer.ensures.tried.devices.0.honest honest))
    (take_found c.loop-sender.self.state c.args.txn c.args.number _ c.start_take-answer.new.self.state c.start_take-answer.result c.in-Some.sender (c.in-Some.ensures.waits c.args.txn) (sym c.if-not-is_latched.ensures) (c.start_take-answer.ensures.started honest))

pub returns-clause-tried : goal.returns-clause-tried
returns-clause-tried g c = tried_held g.P.PageDevice c.args.self.now c.loop-sender.self _ c.loop-sender.invariant.0

pub returns-clause-taken : goal.returns-clause-taken
returns-clause-taken g c honest =
    let s = c.args.self.now.state in
    let from = c.loop-sender.from in
    let none = subst (λ (x : State). (e : ℕ) → from ≤ e → is_held e x.ends.receiving ≡ false → waits x.waiting e ≡ 0) (read_state g.P.PageDevice _ _ c.loop-sender.invariant.0.0 honest) (left_none _ c.next_free.result c.in_default.not-Some c.next_free.ensures.none) in
    take_none s c.args.txn c.args.number (λ e. is_held e s.ends.receiving ≡ false) _ (λ e free waiting. elim (cases_lt e from) [
      | inl earlier ↦ c.loop-sender.invariant.1 honest e earlier free waiting
      | inr later ↦ let no = none e later free in let some = waiting.2 in absurd (omega (arith, no, some))
    ])

pub returns-then-not-is_latched-clause-frames : goal.returns-then-not-is_latched-clause-frames
returns-then-not-is_latched-clause-frames g c =
    take_frames g.P.PageDevice c.args.self.now c.loop-sender.self c.start_take-answer.new.self c.args.txn c.args.number c.loop-sender.invariant.0 c.start_take-answer.result c.in-Some.sender (c.in-Some.ensures.waits c.args.txn) c.start_take-answer.ensures.tried.devices c.start_take-answer.ensures.frames
