use Rattle.std.proofs.Common.{ℕ, rules, ◌≡◌, ⊎_elim, ◌+◌, ◌^◌, ◌<◌, ◌++◌, true, false, [], ◌∷◌, List, Ok, Err, length, refl, ap, subst, sym, ◌∙◌, arith}
use Rattle.std.specs.Prelude.{IfErr, OnErr, OnOk}
use Rattle.std.proofs.lemmas.List.{append-nil}
use Rattle.std.proofs.lemmas.Result.{IfErr-weaker}
use Rattle.rq_model.specs.Bases.{is_base, marks, with_next}
use Rattle.rq_model.proofs.Bases.{next_plain}
use Rattle.rq_model.specs.declared.record.Record.{Record}
use Rattle.rq_model.specs.declared.record.Record.TheVariants as records
use Rattle.rq_page.specs.Sizes.{Sizes}
use Rattle.rq_pool.specs.Fetching.{AreAllFramed}
use Rattle.rq_pool.specs.Pooled.{Pooled}
use Rattle.rq_log.specs.Reading.{IsRead, LogRead}
use Rattle.rq_log.specs.Spelled.{AreSpelled, spelled}
use Rattle.rq_log.proofs.Keeping.{read_twice}
use Rattle.rq_record.specs.Spelling.{spelling}
use Rattle.rq_record.proofs.Whole.{short_spelling}
use Rattle.rq_store.specs.Fitting.{image_in}
use Rattle.rq_analysis.specs.Rules.{FollowAll}
use Rattle.rq_restart.specs.Found.{IsAnalysisOf, analysis_after}
use Rattle.rq_restart.specs.Refused.{IsStoppedBehind, NotRepeated}
use Rattle.rq_restart.specs.Repeating.{AreMarked, IsRecordRedone, Repeats, paged}
use Rattle.rq_restart.specs.Standing.{Found, KeepsStore, NoneHeld, StandsRead}
use Rattle.rq_restart.specs.Underway.{IsOnWay}
use Rattle.rq_restart.specs.Undoing.{GoesOn, HaveBeenHonest, HaveToldTruly, IsDurable, IsRepeatedOn, IsToBeWritten, failures}
use Rattle.rq_restart.proofs.Going.{base_is, base_repeated, found_base, stopped_here, stopped_next, stopped_without}
use Rattle.rq_restart.proofs.GoingOn.{goes_in_memory, goes_kept, goes_through_log, going_from, going_kept, going_made, going_read, going_refused, going_then, IsGoingOn, named_device, not_brought_fails, not_brought_names, not_read_fails, stops_fails, told_behind, told_first}
use Rattle.rq_restart.proofs.ReadAgain.{few_spelled}
use Rattle.rq_restart.proofs.Repeated.{before_from, counted_over, repeated_read}
use Rattle.rq_restart.proofs.Standing.{brought_on, read_on, stands_read, stays_durable}
use Rattle.rq_restart.proofs.Undos.{still}
use Rattle.rq_restart.proofs.redo.repeat_history.Given.{Over}
use Rattle.rq_restart.proofs.redo.repeat_history.Goals.{After-bring_in}
use Rattle.rq_restart.proofs.redo.repeat_history.Goals as goal

-- ---- a record was read that is no Base, and its page brought in, or not

module _ (g : Over) (c : After-bring_in g) where
  plain : is_base c.next_into.new.into ≡ false
  plain = sym c.stands_for_others.ensures ∙ c.if-stands_for_others.false

  same_records : c.puts_back.new.reader.records ≡ c.next_into.new.self.records
  same_records = ap (λ (x : LogRead _). x.records) c.in-Ok-puts_back.ensures.same

  grown : c.puts_back.new.reader.records ≡ c.next_into.new.into ∷ c.loop-analysis.reader.records
  grown = same_records ∙ (rw c.if-branch.true at c.in_ok-next_into.ensures.some) ∙ next_plain c.next_into.new.into c.loop-analysis.reader.records plain

  place : c.last-lsn.result ≡ length c.loop-analysis.reader.records + 1
  place = (let e = ap length (sym same_records ∙ grown) in let is = c.last-lsn.ensures in omega (arith, e, is))

  newest : c.last-lsn.result ≡ length c.puts_back.new.reader.records
  newest = (let e = ap length grown in let is = place in omega (arith, e, is))

  log_read : IsRead g.L.LogDevice c.loop-analysis.reader.device c.puts_back.new.reader.device
  log_read = read_twice g.L.LogDevice c.loop-analysis.reader.device c.next_into.new.self.device c.puts_back.new.reader.device c.next_into.ensures.read c.in-Ok-puts_back.ensures.read

  same_first : c.puts_back.new.reader.first ≡ c.next_into.new.self.first
  same_first = ap (λ (x : LogRead _). x.first) c.in-Ok-puts_back.ensures.same

  log_counted : g.L.LogDevice.faults c.puts_back.new.reader.device ≡ g.L.LogDevice.faults c.loop-analysis.reader.device
  log_counted = c.in-Ok-puts_back.ensures.cause ∙ c.in_ok-next_into.ensures.cause

  none_counted : g.L.LogDevice.faults c.puts_back.new.reader.device ≡ g.L.LogDevice.faults c.puts_back.new.reader.first
  none_counted = log_counted ∙ c.loop-analysis.invariant.counted ∙ ap g.L.LogDevice.faults (sym (same_first ∙ c.next_into.ensures.first ∙ c.loop-analysis.invariant.first))

  at_read : IsGoingOn g.P.PageDevice g.L.LogDevice c.args.pages.now c.args.reader.now.device [] c.loop-analysis.pages c.puts_back.new.reader.device c.loop-analysis.reader.records
  at_read = going_read g.P.PageDevice g.L.LogDevice g.met.L.LogDevice.only_now c.args.pages.now c.loop-analysis.pages c.args.reader.now.device c.loop-analysis.reader.device c.puts_back.new.reader.device [] c.loop-analysis.reader.records c.loop-analysis.reader.records c.loop-analysis.invariant.going log_read log_counted refl

  stood : AreAllFramed c.loop-analysis.pages → c.bring_in.new.pages ≡ c.loop-analysis.pages
  stood all = (c.bring_in.ensures.stood all).1

  step : GoesOn g.P.PageDevice g.L.LogDevice c.loop-analysis.pages c.puts_back.new.reader.device c.loop-analysis.reader.records c.bring_in.result c.bring_in.new.pages c.puts_back.new.reader.device c.loop-analysis.reader.records
  step =
      let p = g.P.PageDevice in
      let l = g.L.LogDevice in
      let old = c.loop-analysis.pages in
      let mid = c.bring_in.new.pages in
      let log = c.puts_back.new.reader.device in
      let brought = c.bring_in.ensures in
      goes_kept p l g.met.L.LogDevice.only_now old mid log c.loop-analysis.reader.records c.bring_in.result brought.pool brought.marks brought.kept stood brought.count brought.held brought.counted
      (IfErr-weaker c.bring_in.result _ _ (λ e f. not_brought_fails p f.0 old mid (failures l.faults log log) e refl f.2) brought.fails)

  at_mid : g.P.PageDevice.faults c.bring_in.new.pages.device ≡ g.P.PageDevice.faults c.loop-analysis.pages.device → IsGoingOn g.P.PageDevice g.L.LogDevice c.args.pages.now c.args.reader.now.device [] c.bring_in.new.pages c.puts_back.new.reader.device c.loop-analysis.reader.records
  at_mid none =
      let log = c.puts_back.new.reader.device in
      let front = c.loop-analysis.reader.records in
      going_kept g.P.PageDevice g.L.LogDevice c.args.pages.now c.loop-analysis.pages c.bring_in.new.pages c.args.reader.now.device log log [] front front c.bring_in.result at_read step (none, refl)
      (⊎_elim (λ all. ap (λ (x : Pooled _). x.images) (stood all)) (λ h. c.bring_in.ensures.kept.images h)) refl

  -- the store stood before, and is on its way
  on_way : HaveBeenHonest g.P.PageDevice g.L.LogDevice c.bring_in.new.pages.device c.puts_back.new.reader.device → (f : Found _ _) → StandsRead g.P.PageDevice g.L.LogDevice f c.args.pages.now c.args.reader.now → IsDurable g.L.LogDevice c.args.pages.now c.args.reader.now.device
      → StandsRead g.P.PageDevice g.L.LogDevice f c.loop-analysis.pages c.loop-analysis.reader × IsOnWay g.P.PageDevice g.L.LogDevice f.pages f.log f.sizes f.read f.read c.bring_in.new.pages.device c.puts_back.new.reader.device
  on_way h f so durable =
      let l = g.L.LogDevice in
      let kept = c.loop-analysis.invariant in
      let first = c.args.reader.now.device in
      let old = c.loop-analysis.pages in
      let reader = c.loop-analysis.reader in
      let log = c.puts_back.new.reader.device in
      let brought = c.bring_in.ensures in
      let stands = kept.way (brought.kept.honest h.0, log_read.honest h.1) f so durable in
      let stays = stays_durable l c.args.pages.now old first log durable (λ all. (kept.going.goes.stood all).framed) h.1 (read_twice l first reader.device log kept.only log_read) in (
        stands,
        brought_on g.P.PageDevice l g.met.P.PageDevice.only_now g.met.P.PageDevice.counts_now g.met.L.LogDevice.counts_now f old reader stands log log_read c.bring_in.new.pages stood brought.kept brought.pool kept.reading.marked kept.reading.are_spelled (kept.reading.begins (log_read.honest h.1)) stays,
      )

-- ---- no more could be read

pub returns-in_err-next_into-clause-stopped : goal.returns-in_err-next_into-clause-stopped
returns-in_err-next_into-clause-stopped g c =
    let p = g.P.PageDevice in
    let l = g.L.LogDevice in
    let kept = c.loop-analysis.invariant in
    let start = c.args.pages.now in
    let old = c.loop-analysis.pages in
    let next = c.next_into.new.self in
    let e = c.in_err-next_into.field-0.0 in
    let read = c.next_into.ensures in
    let stopped : HaveToldTruly p l start old next.device → IsStoppedBehind l start.sizes (paged start) e next.first next.device = λ t.
    stopped_here l start.sizes (paged start) next read.reading c.loop-analysis.reader.records (paged old) ((kept.going.repeated (t.0, read.read.honest t.1)).repeated (paged start) refl) c.in_err-next_into.ensures.same c.loop-analysis.reader.device
    (kept.reading.read.same ∙ ap l.seen (sym read.first)) (kept.counted ∙ ap l.faults (sym (read.first ∙ kept.first))) e c.in_err-next_into.ensures.err in
    let is : c.from_residual.result ≡ Err e = search rules in
    subst (λ r. IfErr r (λ x. HaveToldTruly p l start old next.device → IsStoppedBehind l start.sizes (paged start) x next.first next.device)) (sym is) stopped

pub returns-in_err-next_into-clause-goes_on : goal.returns-in_err-next_into-clause-goes_on
returns-in_err-next_into-clause-goes_on g c =
    let p = g.P.PageDevice in
    let l = g.L.LogDevice in
    let old = c.loop-analysis.pages in
    let log = c.loop-analysis.reader.device in
    let front = c.loop-analysis.reader.records in
    let next = c.next_into.new.self in
    let e = c.in_err-next_into.field-0.0 in
    let is : c.from_residual.result ≡ Err e = search rules in
    let read = goes_through_log p l g.met.L.LogDevice.only_now old log next.device front [] next.records c.next_into.result c.next_into.ensures.read c.next_into.ensures.cause
    (IfErr-weaker c.next_into.result _ _ (λ e f. stops_fails l p old.device old.device front log next.device e refl f) c.next_into.ensures.err) c.in_err-next_into.ensures.same in
    going_refused p l c.args.pages.now old old c.args.reader.now.device log next.device [] front next.records c.next_into.result c.loop-analysis.invariant.going read c.from_residual.result e [] next.records c.in_err-next_into.was is refl

pub returns-in_err-next_into-clause-way : goal.returns-in_err-next_into-clause-way
returns-in_err-next_into-clause-way g c =
    λ hh f so durable.
    let p = g.P.PageDevice in
    let l = g.L.LogDevice in
    let old = c.loop-analysis.pages in
    let next = c.next_into.new.self in
    let read = c.next_into.ensures.read in
    let stands = c.loop-analysis.invariant.way (hh.0, read.honest hh.1) f so durable in
    let is : c.from_residual.result ≡ Err c.in_err-next_into.field-0.0 = search rules in
    subst (λ r. OnOk r (StandsRead p l f old next) × OnErr r (KeepsStore p l f old.device next.device)) (sym is) (tt, (read_on p l g.met.P.PageDevice.only_now g.met.P.PageDevice.counts_now g.met.L.LogDevice.counts_now f old c.loop-analysis.reader stands next.device read).path)

-- ---- a Base was read

pub loop-analysis-preserved-in-Ok : goal.loop-analysis-preserved-in-Ok
loop-analysis-preserved-in-Ok g c =
    let p = g.P.PageDevice in
    let l = g.L.LogDevice in
    let kept = c.loop-analysis.invariant in
    let start = c.args.pages.now in
    let first = c.args.reader.now.device in
    let z = start.sizes in
    let old = c.loop-analysis.pages in
    let reader = c.loop-analysis.reader in
    let front = reader.records in
    let next = c.next_into.new.self in
    let r = c.next_into.new.into in
    let base : is_base r ≡ true = sym c.stands_for_others.ensures ∙ c.if-stands_for_others.true in
    let is = base_is r base in
    let none : front ≡ [] = ⊎_elim (λ plain. absurd (let bad : true ≡ false = sym base ∙ plain in cc bad)) (λ e. e) (rw c.if-branch.true at c.in_ok-next_into.ensures.oldest) in
    let all : List Record = records.Base is.0 is.1 ∷ marks is.0 in
    let grown : next.records ≡ all = (rw c.if-branch.true at c.in_ok-next_into.ensures.some) ∙ ap (with_next r) none ∙ ap (λ q. with_next q []) is.2 in
    let told : AreSpelled all = subst AreSpelled grown c.next_into.ensures.reading.are_spelled in
    let some = told.0.0.2 in
    let within = told.0.0.3 in
    let few : length (spelling (records.Base is.0 is.1)) < 2 ^ 64 = (let k = short_spelling (records.Base is.0 is.1) told.0 in omega (arith, k)) in
    let empty : c.loop-analysis.analysis.size ≡ 0 = kept.found.size ∙ ap (λ (rs : List Record). length (spelled rs)) none in
    let noted = c.in-Ok.ensures.noted ∙ ap (λ q. analysis_after c.last.result q c.loop-analysis.analysis) is.2 in
    let read = c.next_into.ensures.read in
    let cause = c.in_ok-next_into.ensures.cause in
    let more : next.records ≡ next.records ++ front = subst (λ (rs : List Record). next.records ≡ next.records ++ rs) (sym none) (sym (append-nil next.records)) in
    record {
      found = subst (IsAnalysisOf c.note.new.self) (sym grown) (found_base c.loop-analysis.analysis c.note.new.self is.0 is.1 c.last.result some within empty few noted);
      follow = λ h. subst FollowAll (sym grown) (repeated_read z all (paged old) (paged old) (base_repeated z is.0 is.1 some within (paged old) (paged old) refl)).1;
      going = record {
        goes = going_then p l start old old first reader.device next.device [] front next.records (Ok tt) kept.going (goes_through_log p l g.met.L.LogDevice.only_now old reader.device next.device front next.records next.records (Ok tt) read cause tt more);
        repeated = λ t. subst (λ (rs : List Record). IsRepeatedOn z [] (paged start) rs (paged old)) (sym grown) (let before = kept.going.repeated (t.0, read.honest t.1) in record {
          repeated = λ images from. base_repeated z is.0 is.1 some within images (paged old) (subst (λ (rs : List Record). Repeats z rs images (paged old)) none (before.repeated images from));
          counted = λ b. counted_over z (length front) (length all) (paged old) (let few = ap (λ (rs : List Record). length rs) none in omega (arith, few)) (before.counted b);
        });
      };
      reading = c.next_into.ensures.reading;
      only = read_twice l first reader.device next.device kept.only read;
      first = c.next_into.ensures.first ∙ kept.first;
      counted = cause ∙ kept.counted;
      held = kept.held;
      way = λ hh f so durable. (let stands = kept.way (hh.0, read.honest hh.1) f so durable in
          stands_read p l f old old reader next stands refl c.next_into.ensures.first (read_on p l g.met.P.PageDevice.only_now g.met.P.PageDevice.counts_now g.met.L.LogDevice.counts_now f old reader stands next.device read)
          (subst (λ (rs : List Record). Repeats f.sizes rs f.images (paged old)) (sym grown) (base_repeated f.sizes is.0 is.1 some within f.images (paged old) (subst (λ (rs : List Record). Repeats f.sizes rs f.images (paged old)) none stands.repeated))));
    }

-- ---- the record of a write could not be read again

pub returns-in-Err-puts_back-clause-goes_on : goal.returns-in-Err-puts_back-clause-goes_on
returns-in-Err-puts_back-clause-goes_on g c =
    let p = g.P.PageDevice in
    let l = g.L.LogDevice in
    let old = c.loop-analysis.pages in
    let reader = c.loop-analysis.reader in
    let next = c.next_into.new.self.device in
    let r = c.next_into.new.into in
    let last = c.puts_back.new.reader in
    let looked = c.in-Err-puts_back.ensures in
    let grown = ap (λ (x : LogRead _). x.records) looked.same ∙ (rw c.if-branch.true at c.in_ok-next_into.ensures.some) ∙ next_plain r reader.records (sym c.stands_for_others.ensures ∙ c.if-stands_for_others.false) in
    let e = c.in-Err-puts_back.refusal in
    going_then p l c.args.pages.now old old c.args.reader.now.device reader.device last.device [] reader.records last.records (Err e) c.loop-analysis.invariant.going
    (goes_through_log p l g.met.L.LogDevice.only_now old reader.device last.device reader.records (r ∷ []) last.records (Err e) (read_twice l reader.device next last.device c.next_into.ensures.read looked.read) tt (not_read_fails l p old.device old.device c.last-lsn.result reader.device next last.device e refl c.in_ok-next_into.ensures.cause looked.err) grown)

pub returns-in-Err-puts_back-clause-way : goal.returns-in-Err-puts_back-clause-way
returns-in-Err-puts_back-clause-way g c =
    λ hh f so durable.
    let p = g.P.PageDevice in
    let l = g.L.LogDevice in
    let old = c.loop-analysis.pages in
    let reader = c.loop-analysis.reader in
    let last = c.puts_back.new.reader.device in
    let read = read_twice l reader.device c.next_into.new.self.device last c.next_into.ensures.read c.in-Err-puts_back.ensures.read in
    (tt, (read_on p l g.met.P.PageDevice.only_now g.met.P.PageDevice.counts_now g.met.L.LogDevice.counts_now f old reader (c.loop-analysis.invariant.way (hh.0, read.honest hh.1) f so durable) last read).path)

-- ---- its page could not be had

pub returns-in-Err-bring_in-clause-stopped : goal.returns-in-Err-bring_in-clause-stopped
returns-in-Err-bring_in-clause-stopped g c =
    λ t.
    let k = (goal.at.returns-in-Err-bring_in-clause-stopped g c).After-bring_in in
    let p = g.P.PageDevice in
    let l = g.L.LogDevice in
    let going = c.loop-analysis.invariant.going in
    let start = c.args.pages.now in
    let old = c.loop-analysis.pages in
    let mid = c.bring_in.new.pages in
    let front = c.loop-analysis.reader.records in
    let r = c.next_into.new.into in
    let last = c.puts_back.new.reader in
    let f = c.in-Err-bring_in.ensures.fails in
    let e = c.in-Err-bring_in.refusal in
    let before = told_first p l start old mid c.loop-analysis.reader.device last.device c.bring_in.ensures.kept.honest (log_read g k).honest t in
    let here = told_behind p l start old mid c.args.reader.now.device c.loop-analysis.reader.device last.device [] front (Ok tt) going.goes t in
    stopped_without l start.sizes (paged start) last c.shows_read-else-stands_for_others.ensures.reading front (paged old) ((going.repeated before).repeated (paged start) refl) r (plain g k) (grown g k) (none_counted g k) f.0
    (subst (λ (y : Sizes). IsToBeWritten y r f.0) going.goes.sizes f.1) e (named_device e (not_brought_names p f.0 old mid e f.1.low f.1.high here.0 f.2))

pub returns-in-Err-bring_in-clause-goes_on : goal.returns-in-Err-bring_in-clause-goes_on
returns-in-Err-bring_in-clause-goes_on g c =
    let k = (goal.at.returns-in-Err-bring_in-clause-goes_on g c).After-bring_in in
    let front = c.loop-analysis.reader.records in
    let last = c.puts_back.new.reader in
    let e = c.in-Err-bring_in.refusal in
    going_refused g.P.PageDevice g.L.LogDevice c.args.pages.now c.loop-analysis.pages c.bring_in.new.pages c.args.reader.now.device last.device last.device [] front front c.bring_in.result (at_read g k) (step g k) (Err e) e (c.next_into.new.into ∷ []) last.records c.in-Err-bring_in.is refl (grown g k)

pub returns-in-Err-bring_in-clause-way : goal.returns-in-Err-bring_in-clause-way
returns-in-Err-bring_in-clause-way g c = λ hh f so durable. (tt, (on_way g (goal.at.returns-in-Err-bring_in-clause-way g c).After-bring_in hh f so durable).1.path)

-- ---- it was checked and repeated

pub loop-analysis-preserved : goal.loop-analysis-preserved
loop-analysis-preserved g c =
    let k = (goal.at.loop-analysis-preserved g c).After-bring_in in
    let p = g.P.PageDevice in
    let l = g.L.LogDevice in
    let kept = c.loop-analysis.invariant in
    let first = c.args.reader.now.device in
    let reader = c.loop-analysis.reader in
    let front = reader.records in
    let r = c.next_into.new.into in
    let last = c.puts_back.new.reader in
    let mid = c.bring_in.new.pages in
    let up = c.bring_in.ensures.kept in
    let new = c.check_and_redo.new.pages in
    let made = c.in-Ok-check_and_redo.ensures in
    let shown = c.shows_read-else-stands_for_others.ensures in
    let told = subst AreSpelled (grown g k) shown.reading.are_spelled in
    let few : length (spelled (r ∷ front)) < 2 ^ 64 = few_spelled (r ∷ front) told (let count = shown.count in let e = ap length (grown g k) in omega (arith, count, e)) in
    let follow : l.honest last.device → FollowAll front = λ h. kept.follow ((log_read g k).honest h) in
    let redone : l.honest last.device → IsRecordRedone mid.sizes front r (paged mid) (paged new) = λ h. made.repeated front (place g k) kept.found (follow h) (c.in-Ok-puts_back.ensures.told h) in
    record {
      found = subst (IsAnalysisOf c.check_and_redo.new.analysis) (sym (grown g k)) (made.found front (place g k) kept.found few);
      follow = λ h. subst FollowAll (sym (grown g k)) (made.follows front (place g k) kept.found (follow h) (c.in-Ok-puts_back.ensures.told h), follow h);
      going = going_made p l c.args.pages.now mid new first last.device last.device [] front last.records (Ok tt) (at_mid g k c.in-Ok-bring_in.ensures.counted)
          (goes_in_memory p l g.met.L.LogDevice.only_now {X = Unit {0}} mid new last.device last.device front (r ∷ []) last.records (Ok tt) tt made.sizes made.device made.frames refl (subst (λ n. AreMarked n mid new) (newest g k) made.marked) (grown g k)) (ap p.faults made.device, refl) r (plain g k) (grown g k) (λ t. redone t.1);
      reading = shown.reading;
      only = read_twice l first reader.device last.device kept.only (log_read g k);
      first = same_first g k ∙ c.next_into.ensures.first ∙ kept.first;
      counted = log_counted g k ∙ kept.counted;
      held = subst NoneHeld (sym made.frames) c.bring_in.ensures.held;
      way = λ hh f so durable.
          let pages_mid : p.honest mid.device = subst p.honest made.device hh.0 in
          let stands = on_way g k (pages_mid, hh.1) f so durable in
          stands_read p l f c.loop-analysis.pages new reader last stands.0 (made.sizes ∙ up.sizes) (same_first g k ∙ c.next_into.ensures.first) (subst (λ d. IsOnWay p l f.pages f.log f.sizes f.read f.read d last.device) (sym made.device) stands.1)
          (subst (λ (rs : List Record). Repeats f.sizes rs f.images (paged new)) (sym (grown g k)) (
            paged mid,
            before_from (paged mid ≡ f.images) r (plain g k) (subst (λ (i : List (List ℕ)). Repeats f.sizes front f.images (image_in i)) (sym (up.images pages_mid)) stands.0.repeated),
            subst (λ (y : Sizes). IsRecordRedone y front r (paged mid) (paged new)) (up.sizes ∙ stands.0.sizes) (redone hh.1),
          ));
    }

-- ---- or not

pub returns-in-Err-check_and_redo-clause-stopped : goal.returns-in-Err-check_and_redo-clause-stopped
returns-in-Err-check_and_redo-clause-stopped g c =
    λ t.
    let k = (goal.at.returns-in-Err-check_and_redo-clause-stopped g c).After-bring_in in
    let p = g.P.PageDevice in
    let l = g.L.LogDevice in
    let kept = c.loop-analysis.invariant in
    let start = c.args.pages.now in
    let front = c.loop-analysis.reader.records in
    let r = c.next_into.new.into in
    let last = c.puts_back.new.reader in
    let mid = c.bring_in.new.pages in
    let going = at_mid g k c.in-Ok-bring_in.ensures.counted in
    let made = c.in-Err-check_and_redo.ensures in
    let e = c.in-Err-check_and_redo.stops in
    let before = told_first p l start mid c.check_and_redo.new.pages last.device last.device (subst p.honest made.device) (λ h. h) t in
    stopped_next l start.sizes (paged start) last c.shows_read-else-stands_for_others.ensures.reading front (paged mid) ((going.repeated before).repeated (paged start) refl) r (plain g k) (grown g k) (none_counted g k) e
    (subst (λ (y : Sizes). NotRepeated y front r (paged mid) e) going.goes.sizes (made.not front (place g k) kept.found (kept.follow ((log_read g k).honest t.1)) (c.in-Ok-puts_back.ensures.told t.1)))

pub returns-in-Err-check_and_redo-clause-goes_on : goal.returns-in-Err-check_and_redo-clause-goes_on
returns-in-Err-check_and_redo-clause-goes_on g c =
    let k = (goal.at.returns-in-Err-check_and_redo-clause-goes_on g c).After-bring_in in
    let p = g.P.PageDevice in
    let l = g.L.LogDevice in
    let front = c.loop-analysis.reader.records in
    let last = c.puts_back.new.reader in
    let mid = c.bring_in.new.pages in
    let new = c.check_and_redo.new.pages in
    let made = c.in-Err-check_and_redo.ensures in
    let e = c.in-Err-check_and_redo.stops in
    going_then p l c.args.pages.now mid new c.args.reader.now.device last.device last.device [] front last.records (Err e) (at_mid g k c.in-Ok-bring_in.ensures.counted)
    (goes_in_memory p l g.met.L.LogDevice.only_now mid new last.device last.device front (c.next_into.new.into ∷ []) last.records (Err e) made.err made.sizes made.device made.frames refl (subst (λ n. AreMarked n mid new) (newest g k) made.marked) (grown g k))

pub returns-in-Err-check_and_redo-clause-way : goal.returns-in-Err-check_and_redo-clause-way
returns-in-Err-check_and_redo-clause-way g c =
    λ hh f so durable.
    let k = (goal.at.returns-in-Err-check_and_redo-clause-way g c).After-bring_in in
    let device = c.check_and_redo.ensures.device in
    let stands = on_way g k (subst g.P.PageDevice.honest device hh.0, hh.1) f so durable in
    (tt, subst (λ d. KeepsStore g.P.PageDevice g.L.LogDevice f d c.puts_back.new.reader.device) (sym device) stands.1.path)

-- ---- all is read

pub returns-clause-repeated : goal.returns-clause-repeated
returns-clause-repeated g c =
    λ t.
    let start = c.args.pages.now in
    let same = (rw c.if-branch.false at c.in_ok-next_into.ensures.none).0 in
    subst (λ (rs : List Record). IsRepeatedOn start.sizes [] (paged start) rs (paged c.loop-analysis.pages)) (sym same) (c.loop-analysis.invariant.going.repeated (t.0, c.next_into.ensures.read.honest t.1))

pub returns-clause-goes_on : goal.returns-clause-goes_on
returns-clause-goes_on g c =
    let p = g.P.PageDevice in
    let l = g.L.LogDevice in
    let old = c.loop-analysis.pages in
    let reader = c.loop-analysis.reader in
    let next = c.next_into.new.self in
    let same : next.records ≡ reader.records = (rw c.if-branch.false at c.in_ok-next_into.ensures.none).0 in
    going_then p l c.args.pages.now old old c.args.reader.now.device reader.device next.device [] reader.records next.records _ c.loop-analysis.invariant.going
    (goes_through_log p l g.met.L.LogDevice.only_now old reader.device next.device reader.records [] next.records (Ok c.loop-analysis.analysis) c.next_into.ensures.read c.in_ok-next_into.ensures.cause tt same)

pub returns-clause-way : goal.returns-clause-way
returns-clause-way g c =
    λ hh f so durable.
    let p = g.P.PageDevice in
    let l = g.L.LogDevice in
    let old = c.loop-analysis.pages in
    let reader = c.loop-analysis.reader in
    let next = c.next_into.new.self in
    let same : next.records ≡ reader.records = (rw c.if-branch.false at c.in_ok-next_into.ensures.none).0 in
    let read = c.next_into.ensures.read in
    let stands = c.loop-analysis.invariant.way (hh.0, read.honest hh.1) f so durable in (
      stands_read p l f old old reader next stands refl c.next_into.ensures.first (read_on p l g.met.P.PageDevice.only_now g.met.P.PageDevice.counts_now g.met.L.LogDevice.counts_now f old reader stands next.device read)
          (subst (λ (rs : List Record). Repeats f.sizes rs f.images (paged old)) (sym same) stands.repeated),
      tt,
    )

pub loop-analysis-init : goal.loop-analysis-init
loop-analysis-init g c =
    let p = g.P.PageDevice in
    let l = g.L.LogDevice in
    let none = c.requires.none_read in
    let start = c.args.pages.now in
    let reader = c.args.reader.now in
    record {
      found = subst (IsAnalysisOf c.new-analysis.result) (sym none) c.new-analysis.ensures;
      follow = λ h. subst FollowAll (sym none) tt;
      going = subst (λ (rs : List Record). IsGoingOn p l start reader.device [] start reader.device rs) (sym none) (going_from p l g.met.L.LogDevice.only_now start reader.device []);
      reading = c.shows_read.ensures.reading;
      only = still l g.met.L.LogDevice.only_now reader.device;
      first = refl;
      counted = c.requires.counted;
      held = c.requires.held;
      way = λ h f so durable. so;
    }
