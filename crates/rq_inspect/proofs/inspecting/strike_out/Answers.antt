use Rattle.std.proofs.Common.{◌≡◌, List, ap, sym, subst, ◌∙◌}
use Rattle.rq_model.specs.declared.record.Record.{Record}
use Rattle.rq_inspect.specs.Reports.{Tells}
use Rattle.rq_log.specs.Spelled.{EndsWith}
use Rattle.rq_log.proofs.Parsing.{one_read}
use Rattle.rq_inspect.proofs.Written.{on_ok_both}
use Rattle.rq_inspect.proofs.inspecting.strike_out.Goals as goal

pub returns-in-Ok-clause-whole : goal.returns-in-Ok-clause-whole
returns-in-Ok-clause-whole g c =
    let L = g.L.LogDevice in
    let reader = c.strike_all-struck.new.reader in
    let first : reader.first ≡ c.args.log = c.strike_all-struck.ensures.first ∙ ap (λ r. r.first) c.in-Ok.ensures.ok in
    on_ok_both c.strike_all-struck.result (λ struck whole honest older are marked is told.
    let h = subst L.honest c.give_back.ensures honest in
    let same : older ≡ reader.records = one_read older reader.records (L.seen c.args.log) are marked c.shows_read.ensures.reading.are_spelled c.shows_read.ensures.reading.marked is
    (let w = whole h in subst (λ d. EndsWith reader.records (L.seen d)) first (w.end, w.short, w.is)) in
    subst (λ (rs : List Record). Tells older rs c.strike_all-struck.new.report) (sym same) (struck older told))
    c.strike_all-struck.ensures.struck c.strike_all-struck.ensures.whole
