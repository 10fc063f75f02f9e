use Rattle.std.proofs.Common.{Ok, ap, subst, sym, ◌∙◌}
use Rattle.rq_restart.specs.Again.{NotMadeFor, undo_told}
use Rattle.rq_restart.proofs.ReadAgain.{not_put_back, put_back_told}
use Rattle.rq_restart.proofs.again.undone_as.Goals as goal

pub returns-in-Ok-clause-told : goal.returns-in-Ok-clause-told
returns-in-Ok-clause-told g c = put_back_told c.args.kept.now c.args.told.now c.in-Ok.write c.in-Ok.ensures.back ∙ ap Ok (sym c.page_undo.ensures)

pub returns-in-Err-clause-err : goal.returns-in-Err-clause-err
returns-in-Err-clause-err g c =
    subst (NotMadeFor (undo_told c.args.kept.now c.args.told.now)) (sym c.blamed.ensures)
    (not_put_back c.args.kept.now c.args.told.now c.in-Err.refusal c.in-Err.ensures.err)
