use Rattle.std.proofs.Common.{List, arith, ap, sym, ◌∙◌, length, length-append, map, take}
use Rattle.std.specs.List.{filter_map}
use Rattle.rq_model.specs.Vocabulary.{last_or}
use Rattle.rq_reference.specs.declared.rows.Act.{Act}
use Rattle.rq_reference.specs.Plain.{done_of, op_of, tag_for, tags_in}
use Rattle.rq_reference.proofs.Plainly.{last_or_append, tags_more}
use Rattle.rq_reference.proofs.scans.told.Goals as goal

pub loop-row-preserved : goal.loop-row-preserved
loop-row-preserved c =
    let tags = tags_in c.args.tagged (map done_of (take c.loop-row.row-index c.args.committed.now)) c.args.number in
    let new = filter_map (tag_for c.args.tagged c.args.number) (map op_of c.row-item.result.acts.items) in
    let e = tags_more c.args.tagged c.args.number c.args.committed.now c.loop-row.row-index c.row-item.result c.loop-row-test.true c.row-item.is in
    let same = ap (λ (acts : List Act). filter_map (tag_for c.args.tagged c.args.number) (map op_of acts)) c.deref.ensures.value in
    let last = c.told_with-told.ensures.last ∙ ap (last_or c.loop-row.told.1) same ∙ ap (λ n. last_or n new) c.loop-row.invariant.1 ∙ sym (last_or_append 0 tags new) ∙ ap (last_or 0) (sym e) in
    (omega (arith, c.told_with-told.ensures.count, c.loop-row.invariant.0, ap length same, ap length e, length-append tags new), last)
