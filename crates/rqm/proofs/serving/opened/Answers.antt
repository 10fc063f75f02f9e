use Rattle.rqm.proofs.Soundness.{was_sound}
use Rattle.rqm.proofs.serving.opened.Goals as goal

pub returns-in-Ok-restart-clause-sound : goal.returns-in-Ok-restart-clause-sound
returns-in-Ok-restart-clause-sound g c =
    was_sound _ _ c.in-Ok.files.0 c.in-Ok.files.1 c.args.frames.count g.S.FileContents.pages g.S.FileContents.bytes c.in-Ok-restart.opened.0 c.in-Ok-restart.opened.1 c.in-Ok.ensures.pages
    c.in-Ok.ensures.log c.in-Ok-restart.ensures.opened
