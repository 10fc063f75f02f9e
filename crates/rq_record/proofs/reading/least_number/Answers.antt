use Rattle.std.proofs.Common.{ℕ, List, length, ap, ◌∙◌, arith}
use Rattle.byteorder.specs.Endian.{big_number}
use Rattle.rq_record.proofs.UpTo.{laid_length, laid_number}
use Rattle.rq_record.proofs.reading.least_number.Goals as goal

pub read_u64-requires : goal.read_u64-requires
read_u64-requires c =
    let long = laid_length c.min-count.result c.args.bytes.now c.copy_from_slice.new.self c.min-count.ensures c.copy_from_slice.ensures.after in
    omega (arith, ap length c.as_slice.ensures, long)

pub returns : goal.returns
returns c =
    c.read_u64.ensures
    ∙ ap (λ (t : List ℕ). big_number 8 t) c.as_slice.ensures
    ∙ laid_number c.min-count.result c.args.bytes.now c.copy_from_slice.new.self c.min-count.ensures c.copy_from_slice.ensures.after
