use Rattle.bench.proofs.Zeros.{zeros}
use Rattle.bench.proofs.files.append.Goals as goal

pub append-requires : goal.append-requires
append-requires g c = (150, zeros 150)
