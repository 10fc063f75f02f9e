use Rattle.std.proofs.Common.{ap, ◌∙◌}
use Rattle.std.proofs.Math.Seq.{map-set_same}
use Rattle.rq_pool.specs.Frames.{image_of, place_in, was_changed}
use Rattle.rq_pool.specs.Places.{Placed}
use Rattle.rq_pool.proofs.Tabled.{set_at}
use Rattle.rq_pool.proofs.table.set_place.Goals as goal

pub returns-clause-images : goal.returns-clause-images
returns-clause-images c = map-set_same image_of c.args.entries.now.items c.args.number _ c.index_mut-entry.result.now (ap image_of c.index_mut-entry.ensures.value)

pub returns-clause-changed : goal.returns-clause-changed
returns-clause-changed c = map-set_same was_changed c.args.entries.now.items c.args.number _ c.index_mut-entry.result.now (ap (λ (p : Placed). p.changed) c.new-entry.ensures ∙ c.changed.ensures ∙ ap was_changed c.index_mut-entry.ensures.value)

pub returns-clause-places : goal.returns-clause-places
returns-clause-places c = set_at place_in c.args.entries.now.items c.args.number _ _ (ap (λ (p : Placed). p.frame) c.new-entry.ensures)
