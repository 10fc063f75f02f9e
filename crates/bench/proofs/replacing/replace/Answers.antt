use Rattle.bench.proofs.Zeros.{zeros}
use Rattle.bench.proofs.replacing.replace.Goals as goal

pub replace-requires : goal.replace-requires
replace-requires g c = (150, zeros 150)
