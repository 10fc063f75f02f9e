-- What rounds behind a log leave, from call to call.
use Rattle.std.proofs.Common.{◌≡◌, ◌≤◌, ◌∷◌, ℕ, List, [], Some, Result, Ok, Err, refl, sym, ap, subst}
use Rattle.std.specs.Prelude.{OnOk}
use Rattle.rq_model.specs.declared.record.Record.{Record}
use Rattle.rq_model.specs.declared.record.Record.TheVariants.{AbortEnd}
use Rattle.rq_model.specs.declared.refusal.Refusal.{Refusal}
use Rattle.rq_model.specs.declared.txn.Txn.{Txn}
use Rattle.rq_disk.specs.Device.{Images, Leaves}
use Rattle.rq_disk.specs.declared.device.LogDevice as log_device
use Rattle.rq_disk.specs.declared.device.PageDevice as page_device
use Rattle.rq_log.specs.Logged.{Logged}
use Rattle.rq_log.specs.Reading.{IsRead}
use Rattle.rq_page.specs.Sizes.{Sizes}
use Rattle.rq_pool.specs.Pooled.{Pooled}
use Rattle.rq_analysis.specs.Choices.{least_free}
use Rattle.rq_restart.specs.declared.analysis.Analysis.{Analysis}
use Rattle.rq_restart.specs.Aborted.{Aborts}
use Rattle.rq_restart.specs.Aborting.{AbortingStops, AbortsBehind, AbortsFrom, HasAborted, IsAbortingFrom, IsShown, RepeatedSince}
use Rattle.rq_restart.specs.Found.{IsAnalysisOf}
use Rattle.rq_restart.specs.Repeating.{IsRecordRedone, paged}
use Rattle.rq_restart.specs.Standing.{Found, KeepsStore, StandsOver}
use Rattle.rq_restart.specs.Undoing.{GoesOn, HaveBeenHonest, HaveToldTruly}
use Rattle.rq_restart.proofs.Aborts.{aborting_join, aborts_join, aborts_none, behind_end, behind_join, behind_none, nothing_gone}
use Rattle.rq_restart.proofs.Carrying.{IsCarriedTo, carried_done, carried_join, carried_made, carried_nowhere, carried_one, carried_refused}
use Rattle.rq_restart.proofs.GoingOn.{goes_through_log}
use Rattle.rq_restart.proofs.Rounds.{end_gone, least_of}
use Rattle.rq_restart.proofs.StandingOver.{over_log}

-- Rounds of undoing came behind the log of the start, and were repeated on the pages. A store that was shown then is shown now.
pub record IsAbortedTo {P L : Type 0} (p : page_device.Ghosts P) (l : log_device.Ghosts L) (start : Pooled P) (first : Logged L) (old : Pooled P) (log : Logged L) : Type 0 where
  pub behind : l.honest log.device → AbortsBehind first.records log.records
  pub carried : IsCarriedTo p l (AbortsFrom start.sizes first.records start log.records) start first (IsShown first.records start) old log (IsShown log.records old)

module _ {P L : Type 0} {p : page_device.Ghosts P} {l : log_device.Ghosts L} {start old : Pooled P} {first log : Logged L} where
  -- so it is where a call went well
  pub rounds_made : Aborts p l start first (Ok tt) old log → IsAbortedTo p l start first old log
  rounds_made made = record { behind = made.behind; carried = carried_made made.carries }

module _ {P L : Type 0} {p : page_device.Ghosts P} {l : log_device.Ghosts L} {start old : Pooled P} {first log : Logged L} (k : IsAbortedTo p l start first old log) where
  -- a call went well that left them
  pub rounds_done : Aborts p l start first (Ok tt) old log
  rounds_done = record { behind = k.behind; carries = carried_done k.carried }

  -- a call that came behind them was refused
  pub rounds_refused : (new : Pooled P) (now : Logged L) (r : Result Unit Refusal) (e : Refusal) → r ≡ Err e → {X : Type 0} → GoesOn {X = X} p l old log.device log.records (Err e) new now.device now.records → (HaveToldTruly p l old new now.device → AbortingStops old.sizes log.records old e)
      → (HaveBeenHonest p l new.device now.device → (f : Found P L) → StandsOver p l f (IsShown log.records old) old log → KeepsStore p l f new.device now.device) → Aborts p l start first r new now
  rounds_refused new now r e is goes stops way = record {
    behind = subst (λ (x : Result Unit Refusal). OnOk x (l.honest now.device → AbortsBehind first.records now.records)) (sym is) tt;
    carries = carried_refused k.carried new now (Err e) goes (IsAbortingFrom old.sizes log.records old) (IsAbortingFrom start.sizes first.records start)
        (λ told came rs next. aborting_join start.sizes first.records log.records (paged start) (paged old) (k.carried.gone told).repeated rs came (subst (λ (z : Sizes). IsAbortingFrom z log.records old rs) k.carried.goes.sizes next)) e refl r is stops way;
  }

  -- rounds more came
  pub rounds_join : (new : Pooled P) (now : Logged L) → IsAbortedTo p l old log new now → IsAbortedTo p l start first new now
  rounds_join new now a = record {
    behind = λ h. behind_join first.records log.records now.records (k.behind (a.carried.goes.log_honest h)) (a.behind h);
    carried = carried_join k.carried (AbortsFrom start.sizes first.records start now.records) new now
        (λ told came more. aborts_join start.sizes first.records log.records (paged start) (paged old) (k.carried.gone told).repeated now.records came (subst (λ (z : Sizes). AbortsFrom z log.records old now.records) k.carried.goes.sizes more)) a.carried;
  }

module _ {P L : Type 0} (p : page_device.Ghosts P) (l : log_device.Ghosts L) (only_now : (d : L) (c : List ℕ) → l.left_since d (l.moment d) c → l.may_leave d c) where
  pub no_rounds : (start : Pooled P) (first : Logged L) → IsAbortedTo p l start first start first
  no_rounds start first = record {
    behind = λ h. behind_none first.records;
    carried = carried_nowhere p l only_now start first (AbortsFrom start.sizes first.records start first.records) (IsShown first.records start) (aborts_none start.sizes (RepeatedSince start.sizes first.records (paged start)) first.records);
  }

module _ {P L : Type 0} (p : page_device.Ghosts P) (l : log_device.Ghosts L) (pages_now : (d : P) (c : Images) → p.left_since d (p.moment d) c → Leaves (p.may_be d) c) (pages_count : (d : P) (t : ℕ) (c : Images) → t ≤ p.moment d → Leaves (p.may_be d) c → p.left_since d t c) (log_count : (d : L) (t : ℕ) (c : List ℕ) → t ≤ l.moment d → l.may_leave d c → l.left_since d t c) where
  -- a transaction ended in its turn, and no device was called
  pub rounds_end : (old : Pooled P) (log : Logged L) (f : Analysis) → IsAnalysisOf f log.records → (t : Txn) (new : Pooled P) (now : Logged L) → (l.honest now.device → least_free f.dues f.open_work.active ≡ Some t) → new ≡ old → now.records ≡ AbortEnd t ∷ log.records → now.device ≡ log.device
      → (l.honest now.device → IsRecordRedone old.sizes log.records (AbortEnd t) (paged old) (paged new)) → GoesOn {X = Unit {0}} p l old log.device log.records (Ok tt) new now.device now.records → IsAbortedTo p l old log new now
  rounds_end old log f found t new now turn same grown device redone goes = record {
    behind = λ h. subst (AbortsBehind log.records) (sym grown) (behind_end log.records t (least_of log.records f found (Some t) (turn h)));
    carried = carried_one p l pages_now pages_count log_count (AbortsFrom old.sizes log.records old) (AbortEnd t) old log (IsShown log.records old) new now (λ rs. IsShown rs new) refl (λ e. refl) grown (ap (λ (x : Pooled P). x.sizes) same) (ap (λ (x : Pooled P). x.device) same) device goes
        (λ h. end_gone old.sizes log.records old f found t (turn h) new same (redone h));
  }

  -- the log is read
  module _ (only_now : (d : L) (c : List ℕ) → l.left_since d (l.moment d) c → l.may_leave d c) (old : Pooled P) (log now : Logged L) (same : now ≡ record log { device = now.device }) (read : IsRead l log.device now.device) where
    are : now.records ≡ log.records
    are = ap (λ (x : Logged L). x.records) same

    pub read_way : (f : Found P L) → StandsOver p l f (IsShown log.records old) old log → StandsOver p l f (IsShown now.records old) old now
    read_way f so = subst (λ (rs : List Record). StandsOver p l f (IsShown rs old) old now) (sym are) (over_log p l f (IsShown log.records old) old.sizes old log refl so pages_now pages_count log_count now same read)

    pub rounds_read : l.faults now.device ≡ l.faults log.device → IsAbortedTo p l old log old now
    rounds_read counted = record {
      behind = λ h. subst (AbortsBehind log.records) (sym are) (behind_none log.records);
      carried = record {
        gone = λ told. subst (λ (rs : List Record). HasAborted old.sizes log.records old rs old) (sym are) (nothing_gone old.sizes log.records old (IsShown log.records old));
        goes = goes_through_log p l only_now old log.device now.device log.records [] now.records (Ok tt) read counted tt are;
        way = λ h f so. read_way f so;
      };
    }
