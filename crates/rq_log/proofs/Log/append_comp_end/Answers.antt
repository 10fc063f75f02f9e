use Rattle.std.proofs.Common.{sym, refl, rules}
use Rattle.rq_log.proofs.Kept.{with_record}
use Rattle.rq_log.proofs.Log.append_comp_end.Goals as goal

pub invariant_of-self : goal.invariant_of-self
invariant_of-self g c =
    let room = rw (← c.self.view_is) at c.requires.room in
    with_record g.L.LogDevice _ c.self.inside.last c.self.inside.buffer.items _ c.self.invariant (rw (← c.self.view_is) at c.requires.running) _ (c.requires.record, c.shows_fits.ensures) 37 (sym c.shows_size.ensures) room refl c.add_plain.new.self c.add_plain.ensures c.put_comp_end.new.out.items c.put_comp_end.ensures.items _ c.put_comp_end.ensures.capacity _ (search rules)
