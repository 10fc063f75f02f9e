use Rattle.std.proofs.Common.{◌∙◌, ap, sym}
use Rattle.rq_analysis.specs.OpenWorkView.{OpenWorkView}
use Rattle.rq_analysis.proofs.Marked.{marked_work}
use Rattle.rq_restart.proofs.Aborts.{active_lost}
use Rattle.rq_restart.proofs.laws.ended_is_settled.Goals as goal

pub returns : goal.returns
returns c = record {
  whole = λ z log w. ((λ ended. sym (active_lost z log w) ∙ ended), λ none. active_lost z log w ∙ none);
  read = λ z log w.
      let same = ap (λ (h : OpenWorkView). h.active) (marked_work log w.based) ∙ active_lost z log w in
      ((λ ended. sym same ∙ ended), λ none. same ∙ none);
}
