use Rattle.std.proofs.Common.{rules, ◌≡◌, ◌+◌, ap, length, sym, ◌∙◌, subst}
use Rattle.std.proofs.lemmas.List.{length-map}
use Rattle.rq_shared.specs.Entries.{Follows, entry_of}
use Rattle.rq_shared.proofs.Leading.{begins_anew}
use Rattle.rq_shared.proofs.guarded.Guarded.take.Goals as goal

-- the audit that is taken leads on from its base to the engine, with which the next begins
pub invariant_of-self : goal.invariant_of-self
invariant_of-self g c =
    let kept = c.self.inside.kept in
    let told = c.take-taken.ensures in
    let count : length kept.audit ≡ length c.entries.result.now =
    sym (ap length told.entries) ∙ (sym (ap length c.entries.ensures) ∙ length-map c.entries.result.now entry_of) in
    let of_result = subst (λ audit. Follows g.P.PageDevice g.L.LogDevice c.take-taken.result.base audit kept.engine) told.entries told.replays in
    let follows = subst (λ base. Follows g.P.PageDevice g.L.LogDevice base kept.audit kept.engine) told.base.0 of_result in (
      search rules,
      told.begun.1 ∙ (ap (λ n. n + length kept.audit) c.self.invariant.1 ∙ (ap (λ n. c.self.inside.taken.total + n) count ∙ sym c.add.ensures.total)),
      search rules,
      begins_anew g.P.PageDevice g.L.LogDevice g.G.Sharing.premise g.G.Sharing.begins kept c.take-taken.new.self c.self.invariant.3
          follows told.engine told.begun.0 told.begun.1,
    )
