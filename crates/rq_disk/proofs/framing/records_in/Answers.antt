use Rattle.std.proofs.Common.{ℕ, arith, length, take, inl, inr}
use Rattle.std.proofs.lemmas.Bool.{cases_lt}
use Rattle.std.proofs.lemmas.List.{length-drop, length-take-le}
use Rattle.rq_disk.proofs.Records.{records_long}
use Rattle.rq_disk.proofs.framing.records_in.Goals as goal

pub returns : goal.returns
returns c =
    let b = c.args.bytes.now in
    let first = c.first_records-count in
    let count : ℕ = first.result.1 in
    let end : ℕ = first.result.0 in
    let long = records_long count (take end b) first.ensures.whole in
    let short = length-take-le end b first.ensures.within in
    let within = first.ensures.within in
    record {
      holds = record {
        end = end;
        within = within;
        whole = first.ensures.whole;
        last = λ has. elim (cases_lt count (length b)) [
          | inl more ↦ first.ensures.last (omega (arith, more)) has
          | inr all ↦ let behind = length-drop end b in absurd (omega (arith, long, short, within, all, behind, has.0))
        ];
      };
      few = omega (arith, long, short, within);
    }
