use Rattle.std.proofs.Common.{◌∙◌, ap, []}
use Rattle.rq_model.specs.Bases.{standing}
use Rattle.rq_model.proofs.Bases.{next_stands}
use Rattle.rq_laws.proofs.records.reads_again.Goals as goal

pub returns-in-Ok : goal.returns-in-Ok
returns-in-Ok g c = λ h.
    let some = rw c.in-Ok-Some.field-0-is at c.in-Ok-Some.ensures.some in
    let oldest = rw c.in-Ok-Some.field-0-is at c.in-Ok-Some.ensures.oldest in
    let older = c.args.reader.now.records in
    c.in-Ok.ensures.found h c.in-Ok-Some.first ([], standing older, ap standing some ∙ next_stands c.in-Ok-Some.first older oldest, c.place-place.ensures)
