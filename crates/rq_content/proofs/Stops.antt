-- Why reading pages stopped.
use Rattle.std.proofs.Common.{◌≡◌, ℕ, ◌<◌, ◌≤◌, ◌/◌, List, Result, Ok, Err, IfErr, refl, sym, subst, arith, ◌∙◌, inl, inr}
use Rattle.std.proofs.lemmas.Bool.{false≢true}
use Rattle.rq_model.specs.declared.refusal.Refusal.{Refusal}
use Rattle.rq_model.specs.declared.refusal.Refusal.TheVariants.{NoMemory, DiskRead, Damaged}
use Rattle.rq_model.specs.declared.refusal.Damage.TheVariants.{Page}
use Rattle.rq_disk.specs.declared.device.PageDevice.{Ghosts}
use Rattle.rq_page.specs.Sizes.{Sizes, directory_at, page_count, sender_count}
use Rattle.rq_page.proofs.Addresses.{senders_have_slots}
use Rattle.rq_pool.specs.Pooled.{Pooled}
use Rattle.rq_pool.specs.Fetching.{Fetches, MayHaveRead}
use Rattle.rq_pool.proofs.Fetched.{fails_then, over_stored, still_read}
use Rattle.rq_content.specs.Read.{damaged_for, ReadStops}

module _ {P : Type 0} (g : Ghosts P) where
  -- what is so of pages that were read was so before, where their device is honest
  pub over_read : (B : Sizes → List (List ℕ) → Type 0) (old new : Pooled P) → MayHaveRead g old new → g.honest new.device → B new.sizes new.images → B old.sizes old.images
  over_read B old new read h b = over_stored g B old new read (inr h) b

  -- a page could not be read
  pub unread : {X : Type 0} (Broken : Refusal → Type 0) (page : ℕ) (e : Refusal) (old new : Pooled P) → 1 ≤ page → page < page_count old.sizes → Fetches {X = X} g page old (Err e) new → ReadStops g Broken old e new
  unread Broken page DiskRead old new low lt f = (record { page = page; behind = low; within = lt; outside = λ framed. absurd (false≢true (f.stood (inl framed)).0) }, f.refused)
  unread Broken page (Damaged (Page n)) old new low lt f = (subst (λ (q : ℕ). q < page_count old.sizes) (sym f.refused.0) lt, λ h. absurd (f.refused.1 h), f.refused.2)
  unread Broken page _ old new low lt f = absurd f.refused

  -- a chain was found broken
  pub told_damaged : (Broken : Refusal → Type 0) (s : ℕ) (e : Refusal) (old new : Pooled P) → s < sender_count old.sizes → e ≡ damaged_for s → (g.honest new.device → Broken e) → g.faults new.device ≡ g.faults old.device → ReadStops g Broken old e new
  told_damaged Broken s e old new lt is broken same =
      let within : directory_at s / 16 < page_count old.sizes = (let below = (senders_have_slots old.sizes s lt).1 in omega (arith, below)) in
      subst (λ (r : Refusal). ReadStops g Broken old r new) (sym is) (within, λ h. subst Broken is (broken h), same)

  -- some pages were read, and then reading stopped
  pub stopped_then : (Later Broken : Refusal → Type 0) (e : Refusal) (old mid new : Pooled P) → MayHaveRead g old mid → g.faults mid.device ≡ g.faults old.device → (g.honest new.device → (r : Refusal) → Later r → Broken r) → ReadStops g Later mid e new → ReadStops g Broken old e new
  stopped_then Later Broken NoMemory old mid new read same over stops = stops ∙ same
  stopped_then Later Broken DiskRead old mid new read same over stops = fails_then g DiskRead old mid new read same stops
  stopped_then Later Broken (Damaged (Page n)) old mid new read same over stops =
      (subst (λ (z : Sizes). n < page_count z) (read.kept 0).sizes stops.0, λ h. over h (Damaged (Page n)) (stops.1 h), stops.2 ∙ same)
  stopped_then Later Broken _ old mid new read same over stops = absurd stops

  -- it stopped for a reason that is one of another kind too
  pub stops_as : (Some Broken : Refusal → Type 0) (e : Refusal) (old new : Pooled P) → (g.honest new.device → (r : Refusal) → Some r → Broken r) → ReadStops g Some old e new → ReadStops g Broken old e new
  stops_as Some Broken e old new over stops = stopped_then Some Broken e old old new (still_read g old) refl over stops

  -- some pages were read, and then it is answered so
  pub answered_then : {X : Type 0} (Later Broken : Refusal → Type 0) (r : Result X Refusal) (old mid new : Pooled P) → MayHaveRead g old mid → g.faults mid.device ≡ g.faults old.device → (g.honest new.device → (e : Refusal) → Later e → Broken e)
      → IfErr r (λ e. ReadStops g Later mid e new) → IfErr r (λ e. ReadStops g Broken old e new)
  answered_then Later Broken (Ok x) old mid new read same over stops = tt
  answered_then Later Broken (Err e) old mid new read same over stops = stopped_then Later Broken e old mid new read same over stops
