use Rattle.rq_laws.proofs.Broken.{named_alike}
use Rattle.rq_laws.proofs.pages.names_broken.Goals as goal

pub returns : goal.returns
returns g c truly also = named_alike _ _ _ _ _ _ c.requires.sizes c.requires.images (c.first_broken.ensures.whole truly) (c.first_broken.ensures.fault truly) (c.first_broken-2.ensures.whole also) (c.first_broken-2.ensures.fault also)
