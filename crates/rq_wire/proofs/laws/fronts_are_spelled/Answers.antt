use Rattle.rq_wire.proofs.Streams.{to_frames, from_frames}
use Rattle.rq_wire.proofs.laws.fronts_are_spelled.Goals as goal

pub returns : goal.returns
returns c = λ rs bytes rest are. (λ begins. to_frames rs bytes rest are begins, λ h. from_frames rs bytes rest h.0 h.1)
