use Rattle.std.proofs.Common.{rules, ◌+◌, ⊎_elim, refl}
use Rattle.rq_log.specs.Counted.{IsCounted}
use Rattle.rq_log.proofs.Counted.{counted_last}
use Rattle.rq_log.proofs.counting.last_lsn.Goals as goal

pub returns-in-Record : goal.returns-in-Record
returns-in-Record c =
    let counted : IsCounted c.args.bytes.now (c.records_in-records.result + c.before-in-Record.result) = search rules in
    record { log = counted_last c.args.bytes.now (c.records_in-records.result + c.before-in-Record.result) counted; counted = counted }

pub returns-in-Short : goal.returns-in-Short
returns-in-Short c =
    let counted : IsCounted c.args.bytes.now c.records_in-records.result = record {
      records = c.records_in-records.result;
      holds = c.records_in-records.ensures.holds;
      first = λ h.
          let e = c.decode.ensures.found h.0 h.1 h.2 h.3 in
          absurd (⊎_elim (λ short. cc) (λ bad. cc) c.in-Short.is);
      none = λ none. refl;
    } in
    record { log = counted_last c.args.bytes.now c.records_in-records.result counted; counted = counted }
