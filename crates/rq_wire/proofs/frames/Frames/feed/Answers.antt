use Rattle.std.proofs.Common.{◌≡◌, true, List, ◌++◌, drop, ap, ◌∙◌, subst}
use Rattle.rq_wire.specs.Stream.{Begins, AreRequests}
use Rattle.rq_wire.specs.Notes.{Wire, fed_bytes, given}
use Rattle.rq_wire.proofs.Fronts.{added, fed_on, exact, behind_fault}
use Rattle.rq_wire.proofs.frames.Frames.feed.Goals as goal

pub returns-in-Ok-take_requests-clause-bytes : goal.returns-in-Ok-take_requests-clause-bytes
returns-in-Ok-take_requests-clause-bytes c = λ sound.
    let s = c.self.inside in
    let piece = added c.len-held.result s.unread.items c.args.piece.now c.extend_from_slice.new.self.items
    c.len-held.ensures.value c.in-Ok.ensures.ok in
    c.in-Ok-take_requests.ensures.fed ∙ ap (λ (l : List _). fed_bytes s.notes.items ++ l) piece
    ∙ ap (λ (w : Wire). w.bytes ++ c.args.piece.now) c.self.view_is

pub invariant_of-self-in-Ok-take_requests : goal.invariant_of-self-in-Ok-take_requests
invariant_of-self-in-Ok-take_requests c =
    let s = c.self.inside in
    let held : c.extend_from_slice.new.self.items ≡ s.unread.items ++ c.args.piece.now = c.in-Ok.ensures.ok in
    let piece = added c.len-held.result s.unread.items c.args.piece.now c.extend_from_slice.new.self.items
    c.len-held.ensures.value c.in-Ok.ensures.ok in
    let rest = drop c.in-Ok-take_requests.taken c.extend_from_slice.new.self.items in
    fed_on (fed_bytes s.notes.items) (given s.notes.items) s.fault s.unread.items c.args.piece.now (fed_bytes
    c.take_requests.new.notes.items) (given c.take_requests.new.notes.items) c.self.invariant
    (c.in-Ok-take_requests.ensures.fed ∙ ap (λ (l : List _). fed_bytes s.notes.items ++ l) piece)
    c.in-Ok-take_requests.fed.requests.items rest c.advance.new.self.items c.in-Ok-take_requests.fed.fault
    c.in-Ok-take_requests.ensures.given
    (subst (λ (l : List _). Begins c.in-Ok-take_requests.fed.requests.items l rest) held
    c.in-Ok-take_requests.ensures.requests) c.in-Ok-take_requests.ensures.stop c.advance.ensures.items

pub returns-in-Ok-take_requests-clause-exact : goal.returns-in-Ok-take_requests-clause-exact
returns-in-Ok-take_requests-clause-exact c = exact _ _ _ _ (invariant_of-self-in-Ok-take_requests c)

pub returns-in-Ok-take_requests-clause-behind : goal.returns-in-Ok-take_requests-clause-behind
returns-in-Ok-take_requests-clause-behind c = behind_fault _ _ _ _ (invariant_of-self-in-Ok-take_requests c)

pub returns-then-self-clause-exact : goal.returns-then-self-clause-exact
returns-then-self-clause-exact c =
    subst (λ (w : Wire). AreRequests w.bytes w.given w.fault) c.self.view_is (exact _ _ _ _ c.self.invariant)

pub returns-then-self-clause-behind : goal.returns-then-self-clause-behind
returns-then-self-clause-behind c =
    subst (λ (w : Wire). w.fault ≡ true → (more : List _) → AreRequests (w.bytes ++ more) w.given true) c.self.view_is
    (behind_fault _ _ _ _ c.self.invariant)
