use Rattle.std.proofs.Common.{rules, arith}
use Rattle.rq_log.proofs.Kept.{with_record}
use Rattle.rq_log.proofs.Log.append.Goals as goal

pub invariant_of-self : goal.invariant_of-self
invariant_of-self g c =
    let ok = rw c.unwrap.ensures at c.encode.ensures.ok in
    let room = rw (← c.self.view_is) at c.requires.room in
    with_record g.L.LogDevice _ c.self.inside.last c.self.inside.buffer.items _ c.self.invariant (rw (← c.self.view_is) at c.requires.running) c.args.added.now (c.requires.record, c.shows_fits.ensures) c.spelled_len-spelled.result c.spelled_len-spelled.ensures (omega (arith, room, c.spelled_len-spelled.ensures)) c.requires.plain c.add_plain.new.self c.add_plain.ensures c.encode.new.out.items ok _ c.encode.ensures.capacity _ (search rules)
