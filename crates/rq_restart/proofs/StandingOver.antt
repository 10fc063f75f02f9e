-- A store on its way whose lost transactions are being undone, from call to call.
use Rattle.std.proofs.Common.{◌≡◌, ℕ, ◌≤◌, true, List, ◌∷◌, Result, ⊎_elim, sym, ◌∙◌, ap, subst}
use Rattle.rq_model.specs.declared.refusal.Refusal.{Refusal}
use Rattle.rq_restart.specs.Undoing.{HaveToldTruly, MakesWay}
use Rattle.rq_model.specs.declared.record.Record.{Record}
use Rattle.rq_model.specs.Incarnations.{is_plain}
use Rattle.rq_disk.specs.Device.{Images, Leaves}
use Rattle.rq_disk.specs.declared.device.LogDevice as log_device
use Rattle.rq_disk.specs.declared.device.PageDevice as page_device
use Rattle.rq_log.specs.Logged.{Logged}
use Rattle.rq_log.specs.Reading.{IsRead}
use Rattle.rq_page.specs.Sizes.{Sizes}
use Rattle.rq_pool.specs.Fetching.{MayHaveRead}
use Rattle.rq_pool.specs.Pooled.{Pooled}
use Rattle.rq_store.specs.State.{State}
use Rattle.rq_analysis.specs.Recovered.{IsRecovering}
use Rattle.rq_engine.specs.Earlier.{rebased}
use Rattle.rq_restart.specs.Aborting.{HasGoneOn, IsOnItsWay, OfStore}
use Rattle.rq_restart.specs.Repeating.{Repeats, paged}
use Rattle.rq_restart.specs.Standing.{Found, Stands, StandsOver, before}
use Rattle.rq_restart.proofs.Pasts.{IsAddedOn, added_one}
use Rattle.rq_restart.proofs.Standing.{log_stands, pages_stand, records_stand}

-- the images stay where a page is brought into a frame
pub way_images : {P L : Type 0} (p : page_device.Ghosts P) (l : log_device.Ghosts L) (old new : Pooled P) (log now : Logged L) (r : Result Unit Refusal) (d : L) → MakesWay p l old log r new now → HaveToldTruly p l old new d → new.images ≡ old.images
way_images p l old new log now r d way told = ⊎_elim (λ all. ap (λ (x : Pooled _). x.images) (way.stood all).0) way.kept.images told.0

module _ {P L : Type 0} (p : page_device.Ghosts P) (l : log_device.Ghosts L) (f : Found P L) (one : List Record → State → Type 0) (z : Sizes) (old : Pooled P) (log : Logged L) (is : old.sizes ≡ z) (so : StandsOver p l f one old log) where
  sizes_are : z ≡ f.sizes
  sizes_are = sym is ∙ so.stands.sizes

  -- pages and log are others by now, and show the same store
  pub over_then : (other : List Record → State → Type 0) (new : Pooled P) (now : Logged L) → OfStore z one other → Stands p l f new now → StandsOver p l f other new now
  over_then other new now shown stands = record {
    stands = stands;
    base = so.base;
    sound = so.sound;
    same = so.same;
    is = shown (before p l f) so.base so.sound (so.same ∙ sym sizes_are) so.is;
    ways = so.ways;
  }

  -- its log is one on its way to be recovered
  pub over_way : OfStore z one (λ e base. IsOnItsWay base (rebased e log.records)) → IsRecovering f.sizes f.read (rebased (before p l f) log.records)
  over_way way = so.ways (rebased (before p l f) log.records) (way (before p l f) so.base so.sound (so.same ∙ sym sizes_are) so.is)

  -- from call to call
  module _ (pages_now : (d : P) (c : Images) → p.left_since d (p.moment d) c → Leaves (p.may_be d) c) (pages_count : (d : P) (t : ℕ) (c : Images) → t ≤ p.moment d → Leaves (p.may_be d) c → p.left_since d t c) (log_count : (d : L) (t : ℕ) (c : List ℕ) → t ≤ l.moment d → l.may_leave d c → l.left_since d t c) where
    -- pages were read
    pub over_read : (other : List Record → State → Type 0) (new : Pooled P) → OfStore z one other → MayHaveRead p old new → p.honest new.device → StandsOver p l f other new log
    over_read other new shown read honest = over_then other new log shown (pages_stand p l pages_now pages_count log_count f old log so.stands new (read.kept 0).sizes ((read.kept 0).images honest) read.device)

    -- the log was
    pub over_log : (now : Logged L) → now ≡ record log { device = now.device } → IsRead l log.device now.device → StandsOver p l f one old now
    over_log now same read = over_then one old now (λ e base sound sizes b. b) (log_stands p l pages_now pages_count log_count f old log so.stands now (ap (λ (x : Logged L). x.records) same) read)

    -- a record came behind it and was repeated on the pages, and no device was called
    pub over_gone : (behind : Type 0) (r : Record) (other : List Record → State → Type 0) (new : Pooled P) (now : Logged L) → is_plain r ≡ true → r ∷ rebased (before p l f) log.records ≡ rebased (before p l f) (r ∷ log.records) → now.records ≡ r ∷ log.records → new.sizes ≡ old.sizes → new.device ≡ old.device → now.device ≡ log.device
        → HasGoneOn z behind log.records (r ∷ log.records) old new one other → StandsOver p l f other new now
    over_gone behind r other new now plain there records sizes device log_device gone =
        let e : List Record = before p l f in
        over_then other new now gone.shown
        (records_stand p l pages_now pages_count log_count f old log so.stands new now sizes device log_device
        (subst (IsAddedOn e log.records) (sym records) (added_one e log.records r plain there))
        (λ h. subst (λ (rs : List Record). Repeats f.sizes rs f.images (paged new)) (sym records)
        (subst (λ (y : Sizes). Repeats y (r ∷ log.records) f.images (paged new)) sizes_are
        (gone.repeated f.images (subst (λ (y : Sizes). Repeats y log.records f.images (paged old)) (sym sizes_are) h)))))
