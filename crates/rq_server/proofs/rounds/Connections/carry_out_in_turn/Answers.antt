use Rattle.std.proofs.Common.{◌≤◌, ap, inl, inr, sym, arith}
use Rattle.rq_server.specs.declared.turns.Owed.{Owed}
use Rattle.rq_server.specs.Waiting.{awaited}
use Rattle.rq_server.proofs.Waiting.{left_to_others, owed_reaches}
use Rattle.rq_server.proofs.rounds.Connections.carry_out_in_turn.Goals as goal
use Rattle.rq_server.proofs.rounds.Connections.carry_out_in_turn.Goals.{then-is_due, else-is_due}

pub returns-clause-forced : goal.returns-clause-forced
returns-clause-forced g c e = elim c.if-is_due.branch [
  | then-is_due w ↦ elim w.force_up_to.ensures.reached [
    | inl seen ↦
        let saw = w.force_up_to.new.self.reader.seat.saw in
        let reached : c.is_due-is_due.new.owed.lsn ≤ saw = let at = ap (λ (o : Owed). o.lsn) w.deref.ensures in let low = seen.0 in omega (arith, w.lsn.ensures, at, low) in
        rw w.calls-is (inl (owed_reaches (awaited c.if-is_any_held.self) c.last_awaited.result c.deref_mut.result.now.lsn c.is_due-is_due.new.owed.lsn saw c.last_awaited.ensures c.is_due-is_due.ensures.owed reached))
    | inr made ↦ rw w.calls-is (inr (c.forced-forced.new.self.steps.inner, made.1))
  ]
  | else-is_due w ↦ absurd (let no = w.if-is_due.false in let h = rw no at e in cc h)
]

pub returns-clause-left : goal.returns-clause-left
returns-clause-left g c e = elim c.if-is_due.branch [
  | then-is_due w ↦ absurd (let yes = w.if-is_due.true in let h = rw yes at e in cc h)
  | else-is_due w ↦
      rw (w.calls-is, sym c.forced-forced.ensures.saw)
      (left_to_others (awaited c.if-is_any_held.self) c.last_awaited.result c.deref_mut.result.now.lsn c.is_due-is_due.new.owed.lsn c.forced-forced.result c.args.calls.now.turns.now.most_left c.deref_mut.result.now.left c.is_awaited.result c.is_due-is_due.result c.last_awaited.ensures c.is_due-is_due.ensures.owed c.is_due-is_due.ensures.due w.if-is_due.false)
]
