use Rattle.rq_page.proofs.Spellings.{spelling_tells, slot_is_spelling}
use Rattle.rq_page.proofs.layout.Layout.slots_are_spellings.Goals as goal

pub returns : goal.returns
returns c = record { tells = spelling_tells; spells = slot_is_spelling }
