use Rattle.std.proofs.Common.{[], ◌∷◌, ◌+◌, get_or, ap, sym, ◌∙◌, ◌≡◌, ◌++◌, map, take, length, length-append, arith}
use Rattle.std.specs.List.{filter_map, cons_option}
use Rattle.rq_model.specs.Vocabulary.{last_or}
use Rattle.rq_reference.specs.Plain.{op_of, tag_for}
use Rattle.rq_reference.proofs.Plainly.{filter_more, last_or_append}
use Rattle.rq_reference.proofs.scans.told_with.Goals as goal
use Rattle.rq_reference.proofs.scans.told_with.Goals.{in-Some, in_default}

pub loop-act-preserved : goal.loop-act-preserved
loop-act-preserved c =
    let tags = filter_map (tag_for c.args.tagged c.args.number) (map op_of (take c.loop-act.act-index c.args.acts.now)) in
    let more = filter_map (tag_for c.args.tagged c.args.number) (map op_of (take (c.loop-act.act-index + 1) c.args.acts.now)) in
    let h = filter_more (tag_for c.args.tagged c.args.number) c.args.acts.now c.loop-act.act-index c.act-item.result c.loop-act-test.true in
    let x : tag_for c.args.tagged c.args.number (op_of (get_or c.args.acts.now c.loop-act.act-index c.act-item.result)) ≡ c.tag_by.result = ap (λ a. tag_for c.args.tagged c.args.number (op_of a)) (sym c.act-item.is) ∙ sym c.tag_by.ensures in
    elim c.match-tag_by.branch [
      | in-Some w ↦
          let e : more ≡ tags ++ w.in-Some.tag ∷ [] = h ∙ ap (λ o. tags ++ cons_option o []) (x ∙ w.in-Some.is) in
          let last = w.last-is ∙ sym (last_or_append c.args.told.1 tags (w.in-Some.tag ∷ [])) ∙ ap (last_or c.args.told.1) (sym e) in
          (omega (arith, w.count-is, w.saturating_add-count.ensures, c.loop-act.invariant.0, length-append tags (w.in-Some.tag ∷ []), ap length e), last)
      | in_default w ↦
          let e : more ≡ tags ++ [] = h ∙ ap (λ o. tags ++ cons_option o []) (x ∙ w.in_default.is) in
          let last = w.last-is ∙ c.loop-act.invariant.1 ∙ sym (last_or_append c.args.told.1 tags []) ∙ ap (last_or c.args.told.1) (sym e) in
          (omega (arith, w.count-is, c.loop-act.invariant.0, length-append tags [], ap length e), last)
    ]
