use Rattle.std.proofs.Common.{◌∙◌, refl}
use Rattle.rq_pool.specs.Frames.{held_of, page_in}
use Rattle.rq_pool.proofs.Tabled.{set_at}
use Rattle.rq_pool.proofs.frames.put.Goals as goal

pub returns-clause-frames : goal.returns-clause-frames
returns-clause-frames c = set_at held_of c.args.frames.now.items c.args.place _ _ refl

pub returns-clause-pages : goal.returns-clause-pages
returns-clause-pages c = set_at page_in c.args.frames.now.items c.args.place _ _ (c.from_image-frame.ensures ∙ c.image.ensures.bytes)
