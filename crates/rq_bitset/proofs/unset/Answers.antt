use Rattle.std.proofs.Common.{◌+◌, ◌/◌}
use Rattle.rq_bitset.proofs.Flagged.{flag_at-unset}
use Rattle.rq_bitset.proofs.unset.Goals as goal

pub returns-in-Ok-clause-none : goal.returns-in-Ok-clause-none
returns-in-Ok-clause-none c k = flag_at-unset c.in-Ok.words.items (c.args.places / 64 + 1) k (c.in-Ok.ensures.items_if_clones_equal (λ y e. e))
