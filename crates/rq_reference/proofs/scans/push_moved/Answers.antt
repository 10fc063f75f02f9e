use Rattle.std.proofs.Common.{Vec, Global, [], ◌+◌, get_or, ap, sym, ◌∙◌, ◌≡◌, ◌++◌, map, take}
use Rattle.std.specs.List.{filter_map, cons_option}
use Rattle.rq_model.specs.declared.message.Message.{Message}
use Rattle.rq_reference.specs.Plain.{moved_for, op_of}
use Rattle.rq_reference.proofs.Plainly.{filter_more, pushed, pushed_none}
use Rattle.rq_reference.proofs.scans.push_moved.Goals as goal
use Rattle.rq_reference.proofs.scans.push_moved.Goals.{in-Some+in_ok-push, in_default}

pub loop-act-preserved : goal.loop-act-preserved
loop-act-preserved c =
    let h = filter_more (moved_for c.args.way c.args.sender) c.args.acts.now c.loop-act.act-index c.act-item.result c.loop-act-test.true in
    let x : moved_for c.args.way c.args.sender (op_of (get_or c.args.acts.now c.loop-act.act-index c.act-item.result)) ≡ c.moved_by.result = ap (λ a. moved_for c.args.way c.args.sender (op_of a)) (sym c.act-item.is) ∙ sym c.moved_by.ensures in
    let so_far = filter_map (moved_for c.args.way c.args.sender) (map op_of (take c.loop-act.act-index c.args.acts.now)) in
    let more = filter_map (moved_for c.args.way c.args.sender) (map op_of (take (c.loop-act.act-index + 1) c.args.acts.now)) in
    elim c.match-moved_by.branch [
      | in-Some+in_ok-push w ↦ pushed c.args.all.now.items c.loop-act.all.items so_far more c.match-moved_by.all.items w.in-Some.message (ap (λ (v : Vec Message Global). v.items) w.all-is ∙ w.in_ok-push.ensures.items) c.loop-act.invariant (h ∙ ap (λ o. so_far ++ cons_option o []) (x ∙ w.in-Some.is))
      | in_default w ↦ pushed_none c.args.all.now.items c.loop-act.all.items so_far more c.match-moved_by.all.items (ap (λ (v : Vec Message Global). v.items) w.all-is) c.loop-act.invariant (h ∙ ap (λ o. so_far ++ cons_option o []) (x ∙ w.in_default.is))
    ]
