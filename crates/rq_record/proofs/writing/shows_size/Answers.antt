use Rattle.rq_record.proofs.Sizes.{each_length}
use Rattle.rq_record.proofs.writing.shows_size.Goals as goal

pub returns : goal.returns
returns c = each_length c.args.«record».now c.shows_fits.ensures
