use Rattle.std.proofs.Common.{◌≡◌, [], Ok, Err, refl, sym, ◌∙◌, ap, subst}
use Rattle.rq_model.specs.declared.refusal.Refusal.{Refusal}
use Rattle.rq_log.specs.Logged.{Logged}
use Rattle.rq_log.specs.Reading.{BeginsWith, IsRead, LogRead}
use Rattle.rq_restart.specs.Refused.{IsStoppedBehind}
use Rattle.rq_restart.specs.Repeating.{paged}
use Rattle.rq_restart.specs.Restarting.{IsLogRead}
use Rattle.rq_restart.specs.Standing.{StandsRead}
use Rattle.rq_restart.specs.Undoing.{GoesOn, HaveToldTruly, IsRepeatedOn, NamesNoDevice}
use Rattle.rq_restart.specs.declared.analysis.Analysis.{Analysis}
use Rattle.rq_restart.proofs.GoingOn.{goes_nowhere, goes_then, goes_through_log}
use Rattle.rq_restart.proofs.Moments.{stopped_at_once}
use Rattle.rq_restart.proofs.Paths.{all_read, reader_reads}
use Rattle.rq_restart.proofs.Undos.{still}
use Rattle.rq_restart.proofs.restart.read_and_redo.Goals as goal

-- ---- memory was wanting before anything was read

pub returns-in-Err-clause-stopped : goal.returns-in-Err-clause-stopped
returns-in-Err-clause-stopped g c =
    let err = c.in-Err.ensures.err in
    λ told. stopped_at_once g.L.LogDevice g.met.L.LogDevice.only_now c.args.pages.now.sizes (paged c.args.pages.now) c.in-Err.stopped.refusal c.args.log c.in-Err.stopped.device err.0 err.1

pub returns-in-Err-clause-stops : goal.returns-in-Err-clause-stops
returns-in-Err-clause-stops g c =
    let P = g.P.PageDevice in
    let L = g.L.LogDevice in
    let pages = c.args.pages.now in
    let err = c.in-Err.ensures.err in (
      [],
      (λ h. (L.seen c.args.log, refl)),
      subst (λ (d : _). GoesOn {X = Analysis} P L pages c.args.log [] (Err c.in-Err.stopped.refusal) pages d []) (sym err.1)
          (goes_nowhere P L g.met.L.LogDevice.only_now pages c.args.log [] (Err c.in-Err.stopped.refusal) (subst (λ (e : Refusal). NamesNoDevice e) (sym err.0) tt)),
    )

-- ---- the log could not be forced

pub returns-in-Err-make_durable-clause-way_back : goal.returns-in-Err-make_durable-clause-way_back
returns-in-Err-make_durable-clause-way_back g c =
    let P = g.P.PageDevice in
    let L = g.L.LogDevice in
    let pages = c.args.pages.now in
    let now = c.make_durable.new.reader.device in
    rw c.give_back.ensures
    (λ h f so. (reader_reads P L g.met.P.PageDevice.only_now g.met.P.PageDevice.counts_now g.met.L.LogDevice.counts_now f pages c.in-Ok.reader (subst (StandsRead P L f pages) (sym c.in-Ok.ensures.ok) so) now c.make_durable.ensures.read).on.path)

-- ---- history was repeated

pub returns-in-Ok-repeat_history-clause-read : goal.returns-in-Ok-repeat_history-clause-read
returns-in-Ok-repeat_history-clause-read g c =
    let l = g.L.LogDevice in
    let start = c.in-Ok.reader in
    let ready = c.make_durable.new.reader in
    let reader = c.repeat_history.new.reader in
    let reading = c.shows_read.ensures.reading in
    let made = c.in-Ok-repeat_history.ensures in
    let first : reader.first ≡ c.args.log = c.repeat_history.ensures.first ∙ ap (λ (r : LogRead _). r.first) c.make_durable.ensures.same ∙ ap (λ (r : LogRead _). r.first) c.in-Ok.ensures.ok in
    subst (IsLogRead l c.args.log) (sym c.into_log.ensures.log) (record {
      marks = made.found.marked;
      are_spelled = reading.are_spelled;
      reads = λ honest. (let ends = made.whole honest in (ends.end, ends.short, ap l.seen (sym first) ∙ ends.is));
      only = subst (λ d. IsRead l d reader.device) first reading.read;
      counted = made.goes_on.counted.1 ∙ c.in-Ok-make_durable.ensures.cause.ok ∙ ap (λ (r : LogRead _). l.faults r.device) c.in-Ok.ensures.ok;
      unreserved = refl;
      running = refl;
    })

pub returns-in-Ok-repeat_history-clause-repeated : goal.returns-in-Ok-repeat_history-clause-repeated
returns-in-Ok-repeat_history-clause-repeated g c =
    let pages = c.args.pages.now in
    let new = c.repeat_history.new.pages in
    subst (λ (log : Logged _). HaveToldTruly g.P.PageDevice g.L.LogDevice pages new log.device → IsRepeatedOn pages.sizes [] (paged pages) log.records (paged new)) (sym c.into_log.ensures.log) c.in-Ok-repeat_history.ensures.repeated

pub returns-in-Ok-repeat_history-clause-went : goal.returns-in-Ok-repeat_history-clause-went
returns-in-Ok-repeat_history-clause-went g c =
    let P = g.P.PageDevice in
    let L = g.L.LogDevice in
    let pages = c.args.pages.now in
    let new = c.repeat_history.new.pages in
    let ready = c.make_durable.new.reader.device in
    let reader = c.repeat_history.new.reader in
    let analysis = c.in-Ok-repeat_history.analysis in
    let read : IsRead L c.args.log ready = subst (λ (r : LogRead _). IsRead L r.device ready) c.in-Ok.ensures.ok c.make_durable.ensures.read in
    let counted : L.faults ready ≡ L.faults c.args.log = c.in-Ok-make_durable.ensures.cause.ok ∙ ap (λ (r : LogRead _). L.faults r.device) c.in-Ok.ensures.ok in
    subst (λ (log : Logged _). GoesOn {X = Analysis} P L pages c.args.log [] (Ok analysis) new log.device log.records) (sym c.into_log.ensures.log)
    (goes_then {X = Unit {0}} P L pages pages new c.args.log ready reader.device [] [] reader.records (Ok tt) (Ok analysis)
    (goes_through_log P L g.met.L.LogDevice.only_now pages c.args.log ready [] [] [] (Ok tt) read counted tt refl) (refl, counted) (λ told first r. r) c.in-Ok-repeat_history.ensures.goes_on)

pub returns-in-Ok-repeat_history-clause-way : goal.returns-in-Ok-repeat_history-clause-way
returns-in-Ok-repeat_history-clause-way g c =
    let P = g.P.PageDevice in
    let L = g.L.LogDevice in
    let pages = c.args.pages.now in
    let new = c.repeat_history.new.pages in
    let start = c.in-Ok.reader in
    let ready = c.make_durable.new.reader in
    let reader = c.repeat_history.new.reader in
    let log = c.into_log.result in
    let device : log.device ≡ reader.device = ap (λ (k : Logged _). k.device) c.into_log.ensures.log in
    let pages_now = g.met.P.PageDevice.only_now in
    let pages_count = g.met.P.PageDevice.counts_now in
    let log_count = g.met.L.LogDevice.counts_now in
    λ h f so.
    let honest = subst L.honest device h.1 in
    let first : StandsRead P L f pages start = subst (StandsRead P L f pages) (sym c.in-Ok.ensures.ok) so in
    let then : StandsRead P L f pages ready = subst (StandsRead P L f pages) (sym c.make_durable.ensures.same) (reader_reads P L pages_now pages_count log_count f pages start first ready.device c.make_durable.ensures.read) in
    let there : StandsRead P L f new reader = (c.in-Ok-repeat_history.ensures.way (h.0, honest) f then c.in-Ok-make_durable.ensures.durable).0 in
    let ends = c.in-Ok-repeat_history.ensures.whole honest in
    all_read P L pages_now pages_count log_count f new reader there log (ap (λ (k : Logged _). k.records) c.into_log.ensures.log) device c.in-Ok-repeat_history.ensures.found.marked c.shows_read.ensures.reading.are_spelled (ends.end, ends.short, ends.is)

-- ---- or it was not

pub returns-in-Err-repeat_history-clause-stopped : goal.returns-in-Err-repeat_history-clause-stopped
returns-in-Err-repeat_history-clause-stopped g c =
    let L = g.L.LogDevice in
    let pages = c.args.pages.now in
    let reader = c.repeat_history.new.reader in
    let e = c.in-Err-repeat_history.refusal in
    let first : reader.first ≡ c.args.log = c.repeat_history.ensures.first ∙ ap (λ (r : LogRead _). r.first) c.make_durable.ensures.same ∙ ap (λ (r : LogRead _). r.first) c.in-Ok.ensures.ok in
    rw c.give_back-in-Err-repeat_history.ensures
    (λ told. subst (λ (d : _). IsStoppedBehind L pages.sizes (paged pages) e d reader.device) first (c.in-Err-repeat_history.ensures.stopped told))

pub returns-in-Err-repeat_history-clause-stops : goal.returns-in-Err-repeat_history-clause-stops
returns-in-Err-repeat_history-clause-stops g c =
    let P = g.P.PageDevice in
    let L = g.L.LogDevice in
    let pages = c.args.pages.now in
    let new = c.repeat_history.new.pages in
    let ready = c.make_durable.new.reader.device in
    let reader = c.repeat_history.new.reader in
    let e = c.in-Err-repeat_history.refusal in
    let first : reader.first ≡ c.args.log = c.repeat_history.ensures.first ∙ ap (λ (r : LogRead _). r.first) c.make_durable.ensures.same ∙ ap (λ (r : LogRead _). r.first) c.in-Ok.ensures.ok in
    let read : IsRead L c.args.log ready = subst (λ (r : LogRead _). IsRead L r.device ready) c.in-Ok.ensures.ok c.make_durable.ensures.read in
    let counted : L.faults ready ≡ L.faults c.args.log = c.in-Ok-make_durable.ensures.cause.ok ∙ ap (λ (r : LogRead _). L.faults r.device) c.in-Ok.ensures.ok in
    rw c.give_back-in-Err-repeat_history.ensures (
      reader.records,
      (λ h. subst (λ (d : _). BeginsWith reader.records (L.seen d)) first (c.shows_read-in-Err-repeat_history.ensures.reading.begins h)),
      goes_then {X = Unit {0}} P L pages pages new c.args.log ready reader.device [] [] reader.records (Ok tt) (Err e)
          (goes_through_log P L g.met.L.LogDevice.only_now pages c.args.log ready [] [] [] (Ok tt) read counted tt refl) (refl, counted) (λ told first r. r) c.in-Err-repeat_history.ensures.goes_on,
    )

pub returns-in-Err-repeat_history-clause-way_back : goal.returns-in-Err-repeat_history-clause-way_back
returns-in-Err-repeat_history-clause-way_back g c =
    let P = g.P.PageDevice in
    let L = g.L.LogDevice in
    let pages = c.args.pages.now in
    let start = c.in-Ok.reader in
    let ready = c.make_durable.new.reader in
    let pages_now = g.met.P.PageDevice.only_now in
    let pages_count = g.met.P.PageDevice.counts_now in
    let log_count = g.met.L.LogDevice.counts_now in
    rw c.give_back-in-Err-repeat_history.ensures
    (λ h f so.
    let first : StandsRead P L f pages start = subst (StandsRead P L f pages) (sym c.in-Ok.ensures.ok) so in
    let then : StandsRead P L f pages ready = subst (StandsRead P L f pages) (sym c.make_durable.ensures.same) (reader_reads P L pages_now pages_count log_count f pages start first ready.device c.make_durable.ensures.read) in
    (c.in-Err-repeat_history.ensures.way h f then c.in-Ok-make_durable.ensures.durable).1)

-- ---- the log was only read

pub returns-in-Err-clause-only : goal.returns-in-Err-clause-only
returns-in-Err-clause-only g c = (let err = c.in-Err.ensures.err in subst (IsRead g.L.LogDevice c.args.log) (sym err.1) (still g.L.LogDevice g.met.L.LogDevice.only_now c.args.log))

pub returns-in-Err-make_durable-clause-only : goal.returns-in-Err-make_durable-clause-only
returns-in-Err-make_durable-clause-only g c =
    let now = c.make_durable.new.reader.device in
    rw c.give_back.ensures (subst (λ (r : LogRead _). IsRead g.L.LogDevice r.device now) c.in-Ok.ensures.ok c.make_durable.ensures.read)

pub returns-in-Err-repeat_history-clause-only : goal.returns-in-Err-repeat_history-clause-only
returns-in-Err-repeat_history-clause-only g c =
    let reader = c.repeat_history.new.reader in
    let first : reader.first ≡ c.args.log = c.repeat_history.ensures.first ∙ ap (λ (r : LogRead _). r.first) c.make_durable.ensures.same ∙ ap (λ (r : LogRead _). r.first) c.in-Ok.ensures.ok in
    rw c.give_back-in-Err-repeat_history.ensures (subst (λ d. IsRead g.L.LogDevice d reader.device) first c.repeat_history.ensures.read)
