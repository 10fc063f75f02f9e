use Rattle.std.proofs.Common.{Some, ap, subst, sym, ◌∙◌}
use Rattle.rq_model.specs.Vocabulary.{In}
use Rattle.rq_restart.proofs.ReadAgain.{newest_is_kept, none_map, some_map, writes_of_rise}
use Rattle.rq_restart.proofs.again.place_of_newest.Goals as goal

pub place_with-requires : goal.place_with-requires
place_with-requires c = writes_of_rise c.args.analysis.now c.requires.0 c.requires.1 c.writes.result.now c.writes.ensures

pub returns-then-newest-undone-clause-some : goal.returns-then-newest-undone-clause-some
returns-then-newest-undone-clause-some c =
    some_map c.place_with.result _ _ (λ p h. (subst (In p) c.writes.ensures h.0, h.1, sym c.in-Some.ensures ∙ ap Some c.if-newest-undone.true)) c.place_with.ensures.some

pub returns-then-newest-undone-clause-none : goal.returns-then-newest-undone-clause-none
returns-then-newest-undone-clause-none c =
    none_map c.place_with.result _ _ (λ none older are e. newest_is_kept c.args.analysis.now older are c.args.by c.args.undone e (λ q i. none q (subst (In q) (sym c.writes.ensures) i))) c.place_with.ensures.none
