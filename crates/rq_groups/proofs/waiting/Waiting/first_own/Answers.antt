use Rattle.std.proofs.Common.{◌≡◌, ◌≤◌, ℕ, sym, ◌∙◌, subst, Option, None, arith}
use Rattle.rq_groups.specs.Ends.{held_by}
use Rattle.rq_groups.specs.Waiting.{waits}
use Rattle.rq_groups.proofs.Holders.{has_is_number}
use Rattle.rq_groups.proofs.Tails.{IsWalk, walk_begin, walk_in, walk_next, walk_over, walk_shorter}
use Rattle.rq_groups.proofs.Waits.{waits_within}
use Rattle.rq_groups.proofs.Chained.{none_left}
use Rattle.rq_groups.proofs.waiting.Waiting.first_own.Goals as goal

pub loop-next-init : goal.loop-next-init
loop-next-init c = walk_begin (held_by c.args.txn c.args.ends.now.receiving) c.newest_received-next.result (λ s. waits c.args.self.now s ≡ 0) c.newest_received-next.ensures.newest

pub loop-next-preserved : goal.loop-next-preserved
loop-next-preserved c =
    let own = held_by c.args.txn c.args.ends.now.receiving in
    let P = λ (s : ℕ). waits c.args.self.now s ≡ 0 in
    walk_next own c.in-Some.sender c.received_before-next.result P (subst (λ (o : Option ℕ). IsWalk own o P) c.in-Some.is c.loop-next.invariant) (c.received_before-next.ensures c.args.txn) (omega (arith, c.count.ensures, c.if-count-gt0.false))

pub loop-next-smaller : goal.loop-next-smaller
loop-next-smaller c =
    let own = held_by c.args.txn c.args.ends.now.receiving in
    let P = λ (s : ℕ). waits c.args.self.now s ≡ 0 in
    rw c.in-Some.is (walk_shorter own c.in-Some.sender c.received_before-next.result P c.newest_received-next.ensures.once (subst (λ (o : Option ℕ). IsWalk own o P) c.in-Some.is c.loop-next.invariant) (c.received_before-next.ensures c.args.txn))

pub returns-then-count-gt0-clause-some : goal.returns-then-count-gt0-clause-some
returns-then-count-gt0-clause-some c =
    let own = held_by c.args.txn c.args.ends.now.receiving in
    let P = λ (s : ℕ). waits c.args.self.now s ≡ 0 in
    let some : 1 ≤ waits c.args.self.now c.in-Some.sender = omega (arith, c.count.ensures, c.if-count-gt0.true) in (
      waits_within c.args.self.now c.in-Some.sender some,
      some,
      has_is_number c.args.txn c.in-Some.sender c.args.ends.now.receiving ∙ walk_in own c.in-Some.sender P (subst (λ (o : Option ℕ). IsWalk own o P) c.in-Some.is c.loop-next.invariant),
    )

pub returns-clause-none : goal.returns-clause-none
returns-clause-none c s held =
    let own = held_by c.args.txn c.args.ends.now.receiving in
    let P = λ (s : ℕ). waits c.args.self.now s ≡ 0 in
    let over : c.loop-next.next ≡ None = none_left c.loop-next.next c.in_default.not-Some in
    walk_over own P (subst (λ (o : Option ℕ). IsWalk own o P) over c.loop-next.invariant) s (sym (has_is_number c.args.txn s c.args.ends.now.receiving) ∙ held)
