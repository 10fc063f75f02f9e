use Rattle.std.proofs.Common.{subst, sym}
use Rattle.rq_engine.specs.Opened.{OpenStore}
use Rattle.rq_laws.proofs.Making as law
use Rattle.rq_laws.proofs.calls.migrate.Goals as goal

pub returns : goal.returns
returns g c =
    let P = g.P.PageDevice in
    let L = g.L.LogDevice in
    let n = c.args.pages in
    let old = c.args.first.now in
    let x = c.migrate.new.self in
    let y = c.migrate-2.new.self in
    let m : law.Answered P L old n x c.migrate.result = record { may = c.migrate.ensures.may; made = c.migrate.ensures.made; refused = c.migrate.ensures.refused } in
    let k : law.Answered P L old n y c.migrate-2.result =
    subst (λ (o : OpenStore _ _). law.Answered P L o n y c.migrate-2.result) (sym c.requires.same)
    (record { may = c.migrate-2.ensures.may; made = c.migrate-2.ensures.made; refused = c.migrate-2.ensures.refused }) in
    record {
      alike = law.migrations_alike P L old n x y _ _ m k;
      first = law.on_both P L old n x y _ _ _ m k (law.both_first P L old n x y);
      tags = law.on_both P L old n x y _ _ _ m k (law.both_tags P L old n x y);
      beyond = law.on_both P L old n x y _ _ _ m k (law.both_beyond P L old n x y);
    }
