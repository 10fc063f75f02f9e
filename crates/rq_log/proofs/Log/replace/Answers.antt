use Rattle.std.proofs.Common.{ap, subst, sym, ◌∙◌, refl}
use Rattle.rq_log.specs.Logged.{Logged, WasDurable}
use Rattle.rq_log.proofs.Log.replace.Goals as goal

pub returns-clause-settled : goal.returns-clause-settled
returns-clause-settled g c =
    let is = c.note_base.ensures.noted in
    let put = c.in_ok-put_base.ensures in
    subst (λ (x : Logged _). WasDurable g.L.LogDevice x) (sym is) ((λ b may. put.durable b may ∙ sym put.reads), refl)

pub returns-clause-untried : goal.returns-clause-untried
returns-clause-untried g c = ap (λ (x : Logged _). x.replacing) c.note_base.ensures.noted ∙ sym (c.shows_kept.ensures.log.running c.requires.running)
