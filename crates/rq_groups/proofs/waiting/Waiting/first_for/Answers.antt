use Rattle.std.proofs.Common.{◌≤◌, inl, inr, arith}
use Rattle.std.proofs.lemmas.Bool.{cases_Bool}
use Rattle.rq_groups.specs.Ends.{is_held}
use Rattle.rq_groups.specs.Waiting.{waits}
use Rattle.rq_groups.proofs.Chained.{free_is_own, free_none}
use Rattle.rq_groups.proofs.Tails.{first_has}
use Rattle.rq_groups.proofs.Waits.{waits_within, none_found, own_found}
use Rattle.rq_groups.proofs.waiting.Waiting.first_for.Goals as goal

pub returns-then-count-gt0-clause-some : goal.returns-then-count-gt0-clause-some
returns-then-count-gt0-clause-some c =
    let some : 1 ≤ waits c.args.self.now c.in-Some.sender = omega (arith, c.count.ensures, c.if-count-gt0.true) in (
      waits_within c.args.self.now c.in-Some.sender some,
      some,
      c.in-Some.ensures.own c.in-Some.sender (first_has c.args.txn c.in-Some.sender c.args.ends.now.receiving c.in-Some.ensures.newest),
    )

pub returns-in-Some-next_free-clause-some : goal.returns-in-Some-next_free-clause-some
returns-in-Some-next_free-clause-some c =
    let e = c.in-Some-next_free.ensures.some in
    (e.1, e.2, free_none c.args.txn c.in-Some-next_free.sender c.args.ends.now.receiving e.3)

pub returns-in-None-clause-some : goal.returns-in-None-clause-some
returns-in-None-clause-some c =
    own_found c.args.txn c.args.self.now c.args.ends.now.receiving c.newest_received.ensures.own c.first_own.result c.first_own.ensures.some

pub returns-in-None-clause-none : goal.returns-in-None-clause-none
returns-in-None-clause-none c =
    none_found c.first_own.result c.first_own.ensures.none (λ none s below free.
    elim (cases_Bool (is_held s c.args.ends.now.receiving)) [
      | inl held ↦ none s (free_is_own c.args.txn s c.args.ends.now.receiving held free)
      | inr vacant ↦ c.in-None.ensures.none s (omega arith) vacant
    ])
