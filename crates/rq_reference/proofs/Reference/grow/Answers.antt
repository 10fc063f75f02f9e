use Rattle.std.proofs.Common.{arith, map, ◌≤◌}
use Rattle.std.proofs.lemmas.Grind.{common_steps}
use Rattle.rq_model.specs.Ledger.{Ledger}
use Rattle.rq_model.proofs.Follows.{none_lost}
use Rattle.rq_reference.specs.Plain.{done_of, growth_of, open_of, phase_of}
use Rattle.rq_model.proofs.Rises.{all_kept, rising_further}
use Rattle.rq_reference.proofs.Reference.grow.Goals as goal

pub invariant_of-self-in-Some : goal.invariant_of-self-in-Some
invariant_of-self-in-Some c =
    let i = c.self.inside in
    let n = c.records_grown-self-inside.result in
    let done = map done_of i.committed.items in
    let l : Ledger = record {
      committed = done;
      open_ones = map open_of i.open_txns.items;
      phase = phase_of i.state;
      incarnation = i.incarnation;
      begins = i.begins;
      records = i.records;
      forced = i.forced;
      durable = i.durable;
    } in
    let more : i.records ≤ n = (let is = c.records_grown-self-inside.ensures in let none = none_lost (growth_of i.state) l in omega (arith, is, none)) in
    let h = all_kept 0 i.records n done c.self.invariant.rising more in
    record { numbered = c.self.invariant.numbered; rising = rising_further 0 i.records n done more c.self.invariant.rising; forced = omega arith; durable = grind (arith, common_steps, h) }
