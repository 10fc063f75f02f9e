use Rattle.std.specs.List.{list_any}
use Rattle.std.proofs.Common.{ap, ◌∙◌}
use Rattle.rq_views.specs.Log.{same_op}
use Rattle.rq_analysis.specs.OpenWorkView.{OpenWorkView, has_sub}
use Rattle.rq_analysis.proofs.Noting.{any_sub}
use Rattle.rq_analysis.proofs.open_work.OpenWork.is_unfinished.Goals as goal

pub returns : goal.returns
returns c =
    c.contains.ensures.value ∙ ap (list_any (λ u. same_op u c.args.sub)) c.deref.ensures.value
    ∙ any_sub c.args.sub c.self.inside.unfinished.items ∙ ap (λ (h : OpenWorkView). has_sub c.args.sub h.unfinished) c.self.view_is
