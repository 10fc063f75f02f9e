use Rattle.std.proofs.Common.{rules, refl, ap, subst, ◌∙◌}
use Rattle.std.specs.Bool.{IsTrue}
use Rattle.rq_analysis.specs.Growth.{grows, is_page_op}
use Rattle.rq_restart.specs.Places.{ends_after, writes_after}
use Rattle.rq_restart.proofs.Placing.{both_after}
use Rattle.rq_restart.proofs.places.Places.note_with.Goals as goal

pub returns-in-Ok-clause-noted : goal.returns-in-Ok-clause-noted
returns-in-Ok-clause-noted c =
    let lsn = c.args.lsn in
    let place = c.args.place in
    let r = c.args.record.now in
    both_after lsn place r c.args.self.now _ _ _ _ (c.take_write.ensures ∙ ap (writes_after lsn place r) c.make_room.ensures.items) (c.take_end.ensures ∙ ap (ends_after lsn place r) c.make_room-2.ensures.items) c.self.view_is

pub returns-in_err-make_room-clause-grows : goal.returns-in_err-make_room-clause-grows
returns-in_err-make_room-clause-grows c =
    let writes : IsTrue (is_page_op c.args.record.now) = subst IsTrue c.tells_write.ensures c.in_err-make_room.ensures.only in
    let grown : IsTrue (grows c.args.record.now c.args.numbers.now) = rw writes refl in
    search (rules, grown)
