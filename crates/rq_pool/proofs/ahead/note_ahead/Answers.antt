use Rattle.std.proofs.Common.{◌≡◌, ◌≤◌, ◌∙◌, ◌++◌, ◌∷◌, [], ℕ, List, ap, arith, subst, sym}
use Rattle.rq_page.specs.Pages.{lsn_of}
use Rattle.rq_pool.specs.declared.ahead.Ahead.{Ahead}
use Rattle.rq_pool.specs.Numbered.{number_in}
use Rattle.rq_pool.proofs.Numbering.{number_alone, number_told, told_here, told_other}
use Rattle.rq_pool.proofs.ahead.note_ahead.Goals as goal

pub returns-then-greatest-lsn-clause-here : goal.returns-then-greatest-lsn-clause-here
returns-then-greatest-lsn-clause-here c =
    let le : c.greatest_number-greatest.result ≤ lsn_of c.args.page.now = (let low = c.if-greatest-lsn.true in let is = c.lsn.ensures in omega (arith, low, is)) in
    number_alone c.args.layout.now c.args.number c.args.page.now c.greatest_number-greatest.result c.args.ahead.now.items c.greatest_number-greatest.ensures le c.requires

pub returns-in-Ok-clause-here : goal.returns-in-Ok-clause-here
returns-in-Ok-clause-here c =
    let more : Ahead = record { page = c.args.number; number = c.greatest_number-greatest.result } in
    number_told c.args.layout.now c.args.number c.args.page.now c.greatest_number-greatest.result c.push.new.self.items c.greatest_number-greatest.ensures
    (ap (λ (l : List Ahead). number_in l c.args.number) c.in-Ok.ensures.items ∙ told_here c.args.ahead.now.items more c.requires)

pub returns-in-Ok-clause-others : goal.returns-in-Ok-clause-others
returns-in-Ok-clause-others c =
    let more : Ahead = record { page = c.args.number; number = c.greatest_number-greatest.result } in
    λ p other. ap (λ (l : List Ahead). number_in l p) c.in-Ok.ensures.items ∙ told_other c.args.ahead.now.items more p other
