use Rattle.std.proofs.Common.{◌≡◌, ◌-◌, length, ap, ◌∙◌}
use Rattle.rq_model.specs.Bases.{standing}
use Rattle.rq_log.proofs.Places.{stands_none, told, why_not_told}
use Rattle.rq_log.proofs.Log.record_at.Goals as goal
use Rattle.rq_log.proofs.Log.record_at.Goals.{in-Ok, in-Err}

pub returns-then-place-self-clause-found : goal.returns-then-place-self-clause-found
returns-then-place-self-clause-found g c =
    let k = c.self.invariant in
    rw (← c.self.view_is) (λ h few. stands_none (standing c.self.inside.past) c.args.place k.is_log.spelled (c.if-place-self.true ∙ k.total few))

pub returns-clause-found : goal.returns-clause-found
returns-clause-found g c = elim c.match-record_in.branch [
  | in-Ok w ↦
      let s = c.self.inside in
      let buffer = s.buffer.items in
      let handed : c.saturating_sub-handed.result ≡ s.size - length buffer = c.saturating_sub-handed.ensures ∙ ap (λ n. s.size - n) (c.len.ensures ∙ s.buffer.ok.0) in
      let e = w.in-Ok.ensures in
      rw w.result-is (rw (← c.self.view_is) (λ h few. told g.L.LogDevice _ s.last buffer _ c.self.invariant c.if-self.false c.saturating_sub-handed.result c.args.place handed c.if-place-self.false (c.record_in.ensures.read.honest h) few
      w.saturating_add.result w.in-Ok.record w.in-Ok.used (λ less. e.on_device less h) (rw c.deref.ensures.value at e.buffered) w.saturating_add.ensures))
  | in-Err w ↦ rw w.result-is tt
]

pub returns-clause-err : goal.returns-clause-err
returns-clause-err g c = elim c.match-record_in.branch [
  | in-Ok w ↦ rw w.result-is (λ running. tt)
  | in-Err w ↦
      let s = c.self.inside in
      let buffer = s.buffer.items in
      let handed : c.saturating_sub-handed.result ≡ s.size - length buffer = c.saturating_sub-handed.ensures ∙ ap (λ n. s.size - n) (c.len.ensures ∙ s.buffer.ok.0) in
      let e = w.in-Err.ensures in
      rw w.result-is (rw (← c.self.view_is) (λ running. why_not_told g.L.LogDevice _ s.last buffer _ c.self.invariant c.if-self.false c.saturating_sub-handed.result c.args.place handed c.if-place-self.false
      w.in-Err.refusal c.record_in.new.device c.record_in.ensures.read.honest e.none_on_device (rw c.deref.ensures.value at e.none_buffered)))
]
