-- What records behind a log leave of pages, log and a store that they show, from call to call.
use Rattle.std.proofs.Common.{◌≡◌, ◌≤◌, ◌∷◌, true, ℕ, List, Result, Ok, Err, inr, refl, subst, sym}
use Rattle.rq_model.specs.declared.record.Record.{Record}
use Rattle.rq_model.specs.declared.refusal.Refusal.{Refusal}
use Rattle.rq_model.specs.Incarnations.{is_plain}
use Rattle.rq_disk.specs.Device.{Images, Leaves}
use Rattle.rq_disk.specs.declared.device.LogDevice as log_device
use Rattle.rq_disk.specs.declared.device.PageDevice as page_device
use Rattle.rq_log.specs.Logged.{Logged}
use Rattle.rq_page.specs.Sizes.{Sizes}
use Rattle.rq_pool.specs.Fetching.{MayHaveRead}
use Rattle.rq_pool.specs.Pooled.{Pooled}
use Rattle.rq_pool.proofs.Fetched.{stored_images}
use Rattle.rq_store.specs.State.{State}
use Rattle.rq_engine.specs.Earlier.{rebased}
use Rattle.rq_restart.specs.Aborted.{Carries}
use Rattle.rq_restart.specs.Aborting.{AbortStops, HasGoneOn, IsOnItsWay, OfStore}
use Rattle.rq_restart.specs.Standing.{Found, KeepsStore, StandsOver}
use Rattle.rq_restart.specs.Undoing.{GoesOn, HaveBeenHonest, HaveToldTruly, MakesWay}
use Rattle.rq_restart.proofs.Aborts.{alike_gone, gone_join, stops_join}
use Rattle.rq_restart.proofs.GoingOn.{goes_making_way, goes_nowhere, goes_reading, goes_refused, goes_then, told_behind, told_first}
use Rattle.rq_restart.proofs.StandingOver.{over_gone, over_read, over_then, over_way, way_images}

-- Records came behind the log of the start, as is said of them, and were repeated on the pages. A store of which the one was so then is one of
-- which the other is now.
pub record IsCarriedTo {P L : Type 0} (p : page_device.Ghosts P) (l : log_device.Ghosts L) (came : Type 0) (start : Pooled P) (first : Logged L) (before : List Record → State → Type 0) (old : Pooled P) (log : Logged L) (after : List Record → State → Type 0) : Type 0 where
  pub gone : HaveToldTruly p l start old log.device → HasGoneOn start.sizes came first.records log.records start old before after
  pub goes : GoesOn {P = P} {L = L} {X = Unit {0}} p l start first.device first.records (Ok tt) old log.device log.records
  pub way : HaveBeenHonest p l old.device log.device → (f : Found P L) → StandsOver p l f before start first → StandsOver p l f after old log

-- so it is where a call went well
module _ {P L : Type 0} {p : page_device.Ghosts P} {l : log_device.Ghosts L} {came : Type 0} {on_way : List Record → Type 0} {start old : Pooled P} {first log : Logged L} {before after : List Record → State → Type 0} where
  pub carried_made : Carries p l came on_way before after start first (Ok tt) old log → IsCarriedTo p l came start first before old log after
  carried_made made = record { gone = made.gone_on; goes = made.goes_on; way = λ h f so. (made.way h f so).0 }

  pub carried_done : IsCarriedTo p l came start first before old log after → Carries p l came on_way before after start first (Ok tt) old log
  carried_done k = record { gone_on = k.gone; stops = tt; goes_on = k.goes; way = λ h f so. (k.way h f so, tt) }

-- what comes behind that
module _ {P L : Type 0} {p : page_device.Ghosts P} {l : log_device.Ghosts L} {came : Type 0} {start old : Pooled P} {first log : Logged L} {before between : List Record → State → Type 0} (k : IsCarriedTo p l came start first before old log between) where
  module _ {X : Type 0} (new : Pooled P) (now : Logged L) (r : Result X Refusal) (step : GoesOn p l old log.device log.records r new now.device now.records) where
    -- a call came
    pub carried_on : GoesOn p l start first.device first.records r new now.device now.records
    carried_on = goes_then p l start old new first.device log.device now.device first.records log.records now.records (Ok tt) r k.goes k.goes.counted (λ told. (k.gone told).repeated) step

    told_old : HaveToldTruly p l start new now.device → HaveToldTruly p l start old log.device
    told_old = told_first p l start old new log.device now.device step.pages_honest step.log_honest

    told_new : HaveToldTruly p l start new now.device → HaveToldTruly p l old new now.device
    told_new = told_behind p l start old new first.device log.device now.device first.records log.records (Ok tt) k.goes

    -- that was refused
    pub carried_stops : (one other : List Record → Type 0) → (HaveToldTruly p l start old log.device → came → (rs : List Record) → one rs → other rs) → (e : Refusal) → (HaveToldTruly p l old new now.device → AbortStops old.sizes one log.records old between e) → HaveToldTruly p l start new now.device → AbortStops start.sizes other first.records start before e
    carried_stops one other j e stops told =
        stops_join start.sizes came first.records log.records start old before between (k.gone (told_old told)) one other (j (told_old told)) e (subst (λ (z : Sizes). AbortStops z one log.records old between e) k.goes.sizes (stops (told_new told)))

    -- as is told
    pub carried_refused : {all : Type 0} {after : List Record → State → Type 0} (one other : List Record → Type 0) → (HaveToldTruly p l start old log.device → came → (rs : List Record) → one rs → other rs) → (e : Refusal) → r ≡ Err e → (t : Result Unit Refusal) → t ≡ Err e → (HaveToldTruly p l old new now.device → AbortStops old.sizes one log.records old between e)
        → (HaveBeenHonest p l new.device now.device → (f : Found P L) → StandsOver p l f between old log → KeepsStore p l f new.device now.device) → Carries p l all other before after start first t new now
    carried_refused {all = all} {after = after} one other j e was t is stops way = subst (λ (x : Result Unit Refusal). Carries p l all other before after start first x new now) (sym is) (record {
      gone_on = tt;
      stops = carried_stops one other j e stops;
      goes_on = goes_refused r (Err e) e was refl carried_on;
      way = λ h f so. (tt, way h f (k.way (step.pages_honest h.0, step.log_honest h.1) f so));
    })

  -- records more came
  pub carried_join : {more : Type 0} {after : List Record → State → Type 0} (all : Type 0) (new : Pooled P) (now : Logged L) → (HaveToldTruly p l start old log.device → came → more → all) → IsCarriedTo p l more old log between new now after → IsCarriedTo p l all start first before new now after
  carried_join {more = more} {after = after} all new now j a = record {
    gone = λ told.
        let then = told_old new now (Ok tt) a.goes told in
        gone_join start.sizes came first.records log.records start old before between (k.gone then) more all now.records new after (j then) (subst (λ (z : Sizes). HasGoneOn z more log.records now.records old new between after) k.goes.sizes (a.gone (told_new new now (Ok tt) a.goes told)));
    goes = carried_on new now (Ok tt) a.goes;
    way = λ h f so. a.way h f (k.way (a.goes.pages_honest h.0, a.goes.log_honest h.1) f so);
  }

module _ {P L : Type 0} (p : page_device.Ghosts P) (l : log_device.Ghosts L) where
  module _ (only_now : (d : L) (c : List ℕ) → l.left_since d (l.moment d) c → l.may_leave d c) (old : Pooled P) (log : Logged L) where
    -- no record came
    pub carried_nowhere : (came : Type 0) (before : List Record → State → Type 0) → came → IsCarriedTo p l came old log before old log before
    carried_nowhere came before is = record {
      gone = λ told. record { aborting = is; repeated = λ images k. k; counted = λ k. k; shown = λ e base k same b. b };
      goes = goes_nowhere p l only_now old log.device log.records (Ok tt) tt;
      way = λ h f so. so;
    }

    -- a page was brought into a frame
    pub carried_way : (here there : List Record → State → Type 0) (mid : Pooled P) (then : Logged L) → (mid.images ≡ old.images → OfStore old.sizes here there) → OfStore old.sizes here (λ e base. IsOnItsWay base (rebased e log.records)) → MakesWay p l old log (Ok tt) mid then → IsCarriedTo p l (Unit {0}) old log here mid then there
    carried_way here there mid then shown on_way way = record {
      gone = λ told. (let images = way_images p l old mid log then (Ok tt) then.device way told in alike_gone old.sizes log.records then.records old mid here there way.records images (shown images));
      goes = goes_making_way p l only_now old mid log then (Ok tt) way;
      way = λ h f so. over_then p l f here old.sizes old log refl so there mid then (shown (way.kept.images h.0)) (way.way h f so.stands (over_way p l f here old.sizes old log refl so on_way)).0;
    }

  module _ (pages_now : (d : P) (c : Images) → p.left_since d (p.moment d) c → Leaves (p.may_be d) c) (pages_count : (d : P) (t : ℕ) (c : Images) → t ≤ p.moment d → Leaves (p.may_be d) c → p.left_since d t c) (log_count : (d : L) (t : ℕ) (c : List ℕ) → t ≤ l.moment d → l.may_leave d c → l.left_since d t c) where
    -- pages were read
    pub carried_read : (only_now : (d : L) (c : List ℕ) → l.left_since d (l.moment d) c → l.may_leave d c) (old : Pooled P) (log : Logged L) (here there : List Record → State → Type 0) (new : Pooled P) → (HaveToldTruly p l old new log.device → OfStore old.sizes here there) → MayHaveRead p old new → p.faults new.device ≡ p.faults old.device → IsCarriedTo p l (Unit {0}) old log here new log there
    carried_read only_now old log here there new shown read counted = record {
      gone = λ told. alike_gone old.sizes log.records log.records old new here there refl (stored_images p old new read told.0) (shown told);
      goes = goes_reading p l only_now old new log.device log.records (Ok tt) (record { read = read; counted = counted; refused = tt }) tt;
      way = λ h f so. over_read p l f here old.sizes old log refl so pages_now pages_count log_count there new (shown (inr h.0, h.1)) read h.0;
    }

    -- a record came, and no device was called
    pub carried_one : (came : List Record → Type 0) (r : Record) (old : Pooled P) (log : Logged L) (here : List Record → State → Type 0) (new : Pooled P) (now : Logged L) (after : List Record → List Record → State → Type 0) → is_plain r ≡ true → ((e : List Record) → r ∷ rebased e log.records ≡ rebased e (r ∷ log.records)) → now.records ≡ r ∷ log.records
        → new.sizes ≡ old.sizes → new.device ≡ old.device → now.device ≡ log.device → GoesOn {X = Unit {0}} p l old log.device log.records (Ok tt) new now.device now.records → (l.honest now.device → HasGoneOn old.sizes (came (r ∷ log.records)) log.records (r ∷ log.records) old new here (after (r ∷ log.records)))
        → IsCarriedTo p l (came now.records) old log here new now (after now.records)
    carried_one came r old log here new now after plain there grown sizes pages_device log_device goes step = record {
      gone = λ told. subst (λ (rs : List Record). HasGoneOn old.sizes (came rs) log.records rs old new here (after rs)) (sym grown) (step told.1);
      goes = goes;
      way = λ h f so. subst (λ (rs : List Record). StandsOver p l f (after rs) new now) (sym grown)
          (over_gone p l f here old.sizes old log refl so pages_now pages_count log_count (came (r ∷ log.records)) r (after (r ∷ log.records)) new now plain (there _) grown sizes pages_device log_device (step h.1));
    }
