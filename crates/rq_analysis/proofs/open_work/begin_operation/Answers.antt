use Rattle.std.proofs.Common.{◌≡◌, true, ap, sym, ◌∙◌}
use Rattle.std.specs.List.{list_any}
use Rattle.rq_views.specs.Log.{same_op}
use Rattle.rq_analysis.specs.OpenWorkView.{has_sub}
use Rattle.rq_analysis.proofs.Noting.{any_sub, sub_there}
use Rattle.rq_analysis.proofs.open_work.begin_operation.Goals as goal

pub returns-then-contains-clause-ok : goal.returns-then-contains-clause-ok
returns-then-contains-clause-ok c =
    let items = c.args.unfinished.now.items in
    let found : has_sub c.args.begun items ≡ true = sym (any_sub c.args.begun items) ∙ sym (c.contains.ensures.value ∙ ap (list_any (λ u. same_op u c.args.begun)) c.deref.ensures.value) ∙ c.if-contains.true in
    sub_there items c.args.begun found
