use Rattle.std.proofs.Common.{ℕ, ◌+◌, ◌≡◌, length, sym, refl, rules}
use Rattle.rq_log.proofs.Kept.{with_record}
use Rattle.rq_log.proofs.Log.append_op_end.Goals as goal

pub invariant_of-self : goal.invariant_of-self
invariant_of-self g c =
    let room = rw (← c.self.view_is) at c.requires.room in
    let same : c.unwrap.result ≡ c.args.deed.now = search rules in
    let fits = rw same at c.shows_fits.ensures in
    let long = rw same at c.shows_size.ensures in
    let past = rw same at c.add_plain.ensures in
    let size : ℕ = 30 + length c.args.deed.now in
    with_record g.L.LogDevice _ c.self.inside.last c.self.inside.buffer.items _ c.self.invariant (rw (← c.self.view_is) at c.requires.running) _ (c.requires.record, fits) size (sym long) room refl c.add_plain.new.self past c.put_op_end.new.out.items c.put_op_end.ensures.items _ c.put_op_end.ensures.capacity _ (search rules)
