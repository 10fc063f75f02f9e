use Rattle.std.proofs.Common.{arith, ◌<◌, ◌≤◌, map, ap}
use Rattle.std.proofs.lemmas.Grind.{common_steps}
use Rattle.rq_reference.specs.Plain.{done_of, Stand}
use Rattle.rq_model.proofs.Rises.{all_kept, rising_further}
use Rattle.rq_reference.proofs.Reference.restart.Goals as goal

pub invariant_of-self : goal.invariant_of-self
invariant_of-self c =
    let i = c.self.inside in
    let m : i.records < c.args.records = rw (ap (λ (s : Stand). s.ledger.records) c.self.view_is) c.requires.longer in
    let l : i.records ≤ c.args.records = omega (arith, m) in
    let h = all_kept 0 i.records c.args.records (map done_of i.committed.items) c.self.invariant.rising l in
    record { numbered = rw c.clear.ensures.items tt; rising = rising_further 0 i.records c.args.records (map done_of i.committed.items) l c.self.invariant.rising; forced = omega arith; durable = grind (arith, common_steps, h) }
