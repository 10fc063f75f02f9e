use Rattle.std.proofs.Common.{ap}
use Rattle.std.proofs.Math.Seq.{map-set_same}
use Rattle.rq_pool.specs.Frames.{image_of, place_in, was_changed}
use Rattle.rq_pool.proofs.Tabled.{set_at}
use Rattle.rq_pool.proofs.table.set_image.Goals as goal

pub returns-clause-images : goal.returns-clause-images
returns-clause-images c = set_at image_of c.args.entries.now.items c.args.number _ _ c.of.ensures

pub returns-clause-changed : goal.returns-clause-changed
returns-clause-changed c = map-set_same was_changed c.args.entries.now.items c.args.number _ c.index_mut-entry.result.now (ap was_changed c.index_mut-entry.ensures.value)

pub returns-clause-places : goal.returns-clause-places
returns-clause-places c = map-set_same place_in c.args.entries.now.items c.args.number _ c.index_mut-entry.result.now (ap place_in c.index_mut-entry.ensures.value)
