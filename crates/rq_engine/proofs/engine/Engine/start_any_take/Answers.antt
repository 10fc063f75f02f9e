use Rattle.std.specs.Bool.{⊤}
use Rattle.std.proofs.Common.{◌≡◌, true, false, refl, sym, subst}
use Rattle.rq_groups.specs.Ends.{has_held, is_held}
use Rattle.rq_store.specs.State.{State}
use Rattle.rq_engine.specs.Plans.{AreHeldUp, IsTakeOf}
use Rattle.rq_engine.proofs.Free.{all_latched}
use Rattle.rq_engine.proofs.KeptUp.{pages_still, read_state, so_far_then, tried_latched}
use Rattle.rq_engine.proofs.Leveled.{take_found, take_held, take_more, take_other}
use Rattle.rq_engine.proofs.TakeCalls.{may_then, take_tried, takes_tried}
use Rattle.rq_engine.proofs.Wanting.{take_frames, takes_frames}
use Rattle.rq_engine.proofs.engine.Engine.start_any_take.Goals as goal

pub start_free_take-answer-requires : goal.start_free_take-answer-requires
start_free_take-answer-requires g c =
    let one = tried_latched g.P.PageDevice _ _ _ c.start_take-answer.result (sym c.if-not-is_latched.ensures) c.start_take-answer.ensures.tried in
    may_then _ _ one.0.lists c.args.txn c.args.number c.requires.may

pub start_own_take-requires : goal.start_own_take-requires
start_own_take-requires g c =
    let one = tried_latched g.P.PageDevice _ _ _ c.start_take-answer.result (sym c.if-not-is_latched.ensures) c.start_take-answer.ensures.tried in
    let two = tried_latched g.P.PageDevice _ _ _ c.start_free_take-answer.result (sym c.if-not-is_latched-2.ensures) c.start_free_take-answer.ensures.tried in
    may_then _ _ (so_far_then g.P.PageDevice _ _ _ one two).0.lists c.args.txn c.args.number c.requires.may

pub returns-then-not-is_latched-clause-tried : goal.returns-then-not-is_latched-clause-tried
returns-then-not-is_latched-clause-tried g c = take_tried g.P.PageDevice c.args.self.now _ _ c.args.txn c.args.number (pages_still g.P.PageDevice _ _ refl, refl) c.start_take-answer.result c.args.first c.requires.waits c.start_take-answer.ensures.tried

pub returns-then-not-is_latched-2-clause-tried : goal.returns-then-not-is_latched-2-clause-tried
returns-then-not-is_latched-2-clause-tried g c =
    let one = tried_latched g.P.PageDevice _ _ _ c.start_take-answer.result (sym c.if-not-is_latched.ensures) c.start_take-answer.ensures.tried in
    takes_tried g.P.PageDevice c.args.self.now _ _ c.args.txn c.args.number one c.start_free_take-answer.result c.start_free_take-answer.ensures.tried

pub returns-clause-tried : goal.returns-clause-tried
returns-clause-tried g c =
    let one = tried_latched g.P.PageDevice _ _ _ c.start_take-answer.result (sym c.if-not-is_latched.ensures) c.start_take-answer.ensures.tried in
    let two = tried_latched g.P.PageDevice _ _ _ c.start_free_take-answer.result (sym c.if-not-is_latched-2.ensures) c.start_free_take-answer.ensures.tried in
    takes_tried g.P.PageDevice c.args.self.now _ _ c.args.txn c.args.number (so_far_then g.P.PageDevice _ _ _ one two) c.start_own_take.result c.start_own_take.ensures.tried

pub returns-then-not-is_latched-clause-taken : goal.returns-then-not-is_latched-clause-taken
returns-then-not-is_latched-clause-taken g c honest = take_found c.args.self.now.state c.args.txn c.args.number (λ _. ⊤) c.start_take-answer.new.self.state c.start_take-answer.result c.args.first c.requires.waits (sym c.if-not-is_latched.ensures) (c.start_take-answer.ensures.started honest)

pub returns-then-not-is_latched-2-clause-taken : goal.returns-then-not-is_latched-2-clause-taken
returns-then-not-is_latched-2-clause-taken g c honest =
    let one = tried_latched g.P.PageDevice _ _ _ c.start_take-answer.result (sym c.if-not-is_latched.ensures) c.start_take-answer.ensures.tried in
    let same = read_state g.P.PageDevice _ _ one.0 (c.start_free_take-answer.ensures.tried.devices.0.honest honest) in
    subst (λ (x : State). IsTakeOf x c.args.txn c.args.number (λ _. ⊤) c.start_free_take-answer.result c.start_free_take-answer.new.self.state) same
    (take_other c.start_take-answer.new.self.state c.args.txn c.args.number (λ _. ⊤) c.start_free_take-answer.new.self.state c.start_free_take-answer.result _ (sym c.if-not-is_latched-2.ensures) (c.start_free_take-answer.ensures.taken honest))

pub returns-clause-taken : goal.returns-clause-taken
returns-clause-taken g c honest =
    let s = c.args.self.now.state in
    let one = tried_latched g.P.PageDevice _ _ _ c.start_take-answer.result (sym c.if-not-is_latched.ensures) c.start_take-answer.ensures.tried in
    let two = tried_latched g.P.PageDevice _ _ _ c.start_free_take-answer.result (sym c.if-not-is_latched-2.ensures) c.start_free_take-answer.ensures.tried in
    let truly = c.start_own_take.ensures.tried.devices.0.honest honest in
    let free : AreHeldUp s c.args.txn (λ e. is_held e s.ends.receiving ≡ false) = subst (λ (x : State). AreHeldUp x c.args.txn (λ e. is_held e x.ends.receiving ≡ false)) (read_state g.P.PageDevice _ _ one.0 (c.start_free_take-answer.ensures.tried.devices.0.honest truly))
    (take_held c.start_take-answer.new.self.state c.args.txn c.args.number c.start_free_take-answer.result c.start_free_take-answer.new.self.state _ (sym c.if-not-is_latched-2.ensures) (c.start_free_take-answer.ensures.taken truly)) in
    let own : IsTakeOf s c.args.txn c.args.number (λ e. has_held c.args.txn e s.ends.receiving ≡ true) c.start_own_take.result c.start_own_take.new.self.state =
    subst (λ (x : State). IsTakeOf x c.args.txn c.args.number (λ e. has_held c.args.txn e x.ends.receiving ≡ true) c.start_own_take.result c.start_own_take.new.self.state) (read_state g.P.PageDevice _ _ (so_far_then g.P.PageDevice _ _ _ one two).0 truly) (c.start_own_take.ensures.taken honest) in
    take_more s c.args.txn c.args.number (λ _. ⊤) c.start_own_take.new.self.state c.start_own_take.result (λ e. has_held c.args.txn e s.ends.receiving ≡ true) (all_latched s c.args.txn free) own

pub returns-then-not-is_latched-clause-frames : goal.returns-then-not-is_latched-clause-frames
returns-then-not-is_latched-clause-frames g c =
    take_frames g.P.PageDevice c.args.self.now c.args.self.now c.start_take-answer.new.self c.args.txn c.args.number (pages_still g.P.PageDevice _ _ refl, refl) c.start_take-answer.result c.args.first c.requires.waits c.start_take-answer.ensures.tried.devices c.start_take-answer.ensures.frames

pub returns-then-not-is_latched-2-clause-frames : goal.returns-then-not-is_latched-2-clause-frames
returns-then-not-is_latched-2-clause-frames g c =
    let one = tried_latched g.P.PageDevice _ _ _ c.start_take-answer.result (sym c.if-not-is_latched.ensures) c.start_take-answer.ensures.tried in
    takes_frames g.P.PageDevice c.args.self.now c.start_take-answer.new.self c.start_free_take-answer.new.self c.args.txn c.args.number one c.start_free_take-answer.result c.start_free_take-answer.ensures.tried.devices c.start_free_take-answer.ensures.frames

pub returns-clause-frames : goal.returns-clause-frames
returns-clause-frames g c =
    let one = tried_latched g.P.PageDevice _ _ _ c.start_take-answer.result (sym c.if-not-is_latched.ensures) c.start_take-answer.ensures.tried in
    let two = tried_latched g.P.PageDevice _ _ _ c.start_free_take-answer.result (sym c.if-not-is_latched-2.ensures) c.start_free_take-answer.ensures.tried in
    takes_frames g.P.PageDevice c.args.self.now c.start_free_take-answer.new.self c.start_own_take.new.self c.args.txn c.args.number (so_far_then g.P.PageDevice _ _ _ one two) c.start_own_take.result c.start_own_take.ensures.tried.devices c.start_own_take.ensures.frames
