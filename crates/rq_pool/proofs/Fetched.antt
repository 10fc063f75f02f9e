-- Pages that all stand in frames, and pages that were read again one after the other.
use Rattle.std.proofs.Common.{Some, false, ◌≡◌, ◌≢◌, ℕ, ◌+◌, ◌%◌, ◌^◌, ◌<◌, ◌≤◌, List, Result, refl, sym, ap, subst, arith, ◌∙◌, inl, inr, Ok, Err, ⊎_elim}
use Rattle.std.proofs.lemmas.Bool.{cases_eq, false≢true}
use Rattle.rq_model.specs.declared.refusal.Damage.TheVariants as damage
use Rattle.rq_model.specs.declared.refusal.Refusal.{Refusal}
use Rattle.rq_model.specs.declared.refusal.Refusal.TheVariants as why
use Rattle.rq_page.specs.Pages.{lsn_of}
use Rattle.rq_page.specs.Sizes.{Sizes, page_count}
use Rattle.rq_disk.specs.Device.{PageAsk}
use Rattle.rq_disk.specs.declared.device.PageDevice.{Ghosts}
use Rattle.rq_pool.specs.Indexed.{AreFlaggedAlike, AreNotedOn, closed_groups, free_cells}
use Rattle.rq_pool.specs.Pooled.{Pooled, image_at, is_changed}
use Rattle.rq_pool.specs.Held.{Held, IsFramed}
use Rattle.rq_pool.specs.Reading.{IsSoundPage, OnlyRead}
use Rattle.rq_pool.specs.Fetching.{AreAllFramed, Fetches, HasFailed, HasOutside, HasReadFor, IsAtHand, IsReadAsStored, IsUnread, MayHaveRead, NotFetched, NotReadAgain, ReadFails, ReadsTruly}
use Rattle.rq_pool.proofs.KeptUp.{flagged_alike, kept_read, kept_still, kept_then}
use Rattle.rq_pool.proofs.Readings.{only_read_on}

module _ {P : Type 0} (g : Ghosts P) where
  -- a device that was not called was only read
  pub read_none : (d : P) → OnlyRead g d d
  read_none d = record {
    same = refl;
    honest = λ h. h;
    crash = λ p c may. may;
    time = record { later = omega arith; nothing_else = λ t c before since. inl since; keeps = λ t c before past. past };
  }

  -- none was read
  pub still_read : (old : Pooled P) → MayHaveRead g old old
  still_read old = record { kept = λ forced. kept_still g forced old old refl refl refl refl; frames = refl; changed = refl; device = read_none old.device; stood = λ all. refl; held = λ p framed. refl }

  -- some were read, and then some
  pub read_then : (old mid new : Pooled P) → MayHaveRead g old mid → MayHaveRead g mid new → MayHaveRead g old new
  read_then old mid new a b = record {
    kept = λ forced. kept_then g forced old mid new (a.kept forced) (b.kept forced);
    frames = b.frames ∙ a.frames;
    changed = b.changed ∙ a.changed;
    device = only_read_on g old.device mid.device new.device a.device b.device;
    stood = λ all. let same : mid ≡ old = a.stood all in b.stood (subst (λ (s : Pooled P). AreAllFramed s) (sym same) all) ∙ same;
    held = λ p framed. b.held p (subst (λ (f : List Held). IsFramed f p) (sym a.frames) framed) ∙ a.held p framed;
  }

  -- a page that stands in a frame is at hand, and nothing happens
  pub fetched_still : {X : Type 0} (n : ℕ) (x : X) (old new : Pooled P) → new ≡ old → IsFramed old.frames n → Fetches g n old (Ok x) new
  fetched_still n x old new same framed = subst (λ (s : Pooled P). Fetches g n old (Ok x) s) (sym same) (record {
    stood = λ at. (refl, refl);
    hand = inl framed;
    refused = tt;
    counted = refl;
    read = still_read old;
    others = λ p other. refl;
  })

  -- A page that is not at hand is read apart, or is not.
  module _ (n : ℕ) (old new : Pooled P) (behind : 1 ≤ n) (within : n < page_count old.sizes) (outside : IsFramed old.frames n → ⊥) (away : old.apart ≢ Some n) (clean : is_changed old.changed n ≡ false) (frames : new.frames ≡ old.frames) (changed : new.changed ≡ old.changed) (sizes : new.sizes ≡ old.sizes) (device : OnlyRead g old.device new.device) where
    may_read : (g.honest new.device → new.images ≡ old.images) → lsn_of (image_at new.images n) ≡ lsn_of (image_at old.images n) → AreFlaggedAlike old.sizes old.images new.images → ((p : ℕ) → p ≢ n → image_at new.images p ≡ image_at old.images p) → MayHaveRead g old new
    may_read images lsn flags others = record {
      kept = λ forced. kept_read g forced old new device sizes images (λ p. elim (cases_eq p n) [ inl here ↦ subst (λ q. lsn_of (image_at new.images q) ≡ lsn_of (image_at old.images q)) (sym here) lsn | inr other ↦ ap lsn_of (others p other) ]) flags changed n clean others;
      frames = frames;
      changed = changed;
      device = device;
      stood = λ all. absurd (outside (all n behind within));
      held = λ p framed. others p (λ (is : p ≡ n). outside (subst (λ (q : ℕ). IsFramed old.frames q) is framed));
    }

    pub fetched_apart : {X : Type 0} (x : X) → new.apart ≡ Some n → (g.honest new.device → new.images ≡ old.images) → lsn_of (image_at new.images n) ≡ lsn_of (image_at old.images n) → AreFlaggedAlike old.sizes old.images new.images → ((p : ℕ) → p ≢ n → image_at new.images p ≡ image_at old.images p)
        → g.faults new.device ≡ g.faults old.device → Fetches g n old (Ok x) new
    fetched_apart x apart images lsn flags others faults = record {
      stood = λ at. absurd (⊎_elim outside away at);
      hand = inr apart;
      refused = tt;
      counted = faults;
      read = may_read images lsn flags others;
      others = others;
    }

    pub not_fetched : {X : Type 0} (e : Refusal) → new.images ≡ old.images → NotFetched g n e old.device new.device → Fetches {X = X} g n old (Err e) new
    not_fetched e images refused =
        let others : (p : ℕ) → p ≢ n → image_at new.images p ≡ image_at old.images p = λ p ne. ap (λ (l : List (List ℕ)). image_at l p) images in
        record {
          stood = λ at. absurd (⊎_elim outside away at);
          hand = tt;
          refused = refused;
          counted = tt;
          read = may_read (λ h. images) (ap (λ (l : List (List ℕ)). lsn_of (image_at l n)) images) (flagged_alike old.sizes old.images new.images images) others;
          others = others;
        }

  -- of a store that an honest device holds no page is damaged, and the table and the indexes tell of each
  pub not_read_again : (z : Sizes) (free closed : List ℕ) (n lsn : ℕ) (e : Refusal) (old new : P) → (g.honest new → lsn_of (g.seen old n) ≡ lsn) → (g.honest new → IsSoundPage z n (g.seen old n)) → (g.honest new → AreNotedOn (free_cells z) z n (g.seen old n) free) → (g.honest new → AreNotedOn (closed_groups z) z n (g.seen old n) closed)
      → NotReadAgain g z free closed n lsn e old new → NotFetched g n e old new
  not_read_again z free closed n lsn why.DiskRead old new stamped sound frees closes not = not
  not_read_again z free closed n lsn (why.Damaged (damage.Page m)) old new stamped sound frees closes not = (not.0, (λ h. not.1 h (stamped h) (sound h) (frees h) (closes h)), not.2)
  not_read_again z free closed n lsn _ old new stamped sound frees closes not = absurd not

  -- what is told of the page then is no matter
  pub fetched_as : {X Y : Type 0} (n m : ℕ) (x : X) (y : Y) (old new : Pooled P) → n ≡ m → Fetches g n old (Ok x) new → Fetches g m old (Ok y) new
  fetched_as n m x y old new is f = subst (λ (k : ℕ). Fetches g k old (Ok y) new) is (record {
    stood = λ at. (refl, (f.stood at).1);
    hand = f.hand;
    refused = tt;
    counted = f.counted;
    read = f.read;
    others = f.others;
  })

  -- A page that was not read stood in no frame.
  fails_to_read : (n : ℕ) (old new : Pooled P) (e : Refusal) → (IsAtHand old n → ⊥) → 1 ≤ n → n < page_count old.sizes → NotFetched g n e old.device new.device → ReadFails g e old new
  fails_to_read n old new why.DiskRead away low high failed = (record { page = n; behind = low; within = high; outside = λ framed. away (inl framed) }, failed)
  fails_to_read n old new (why.Damaged (damage.Page m)) away low high lied = lied.2
  fails_to_read n old new _ away low high not = absurd not

  -- a page was read, or was not, on the way of a call
  pub fetched_reads : {X Y : Type 0} (n : ℕ) (old new : Pooled P) (x : X) (y : Y) → Fetches g n old (Ok x) new → HasReadFor g old (Ok y) new
  fetched_reads n old new x y f = record { read = f.read; counted = f.counted; refused = tt }

  pub unfetched_reads : {X Y : Type 0} (n : ℕ) (old new : Pooled P) (e : Refusal) → 1 ≤ n → n < page_count old.sizes → Fetches {X = X} g n old (Err e) new → HasReadFor {X = Y} g old (Err e) new
  unfetched_reads n old new e low high f = record { read = f.read; counted = tt; refused = fails_to_read n old new e (λ at. false≢true (f.stood at).0) low high f.refused }

  -- ---- pages that were read as they are stored

  pub stored_images : (old new : Pooled P) → MayHaveRead g old new → IsReadAsStored g old new → new.images ≡ old.images
  stored_images old new read stored = ⊎_elim (λ all. ap (λ (p : Pooled P). p.images) (read.stood all)) (λ h. (read.kept 0).images h) stored

  -- what is so of them as they were read is so of the store
  pub over_stored : (B : Sizes → List (List ℕ) → Type 0) (old new : Pooled P) → MayHaveRead g old new → IsReadAsStored g old new → B new.sizes new.images → B old.sizes old.images
  over_stored B old new read stored b = subst (λ (z : Sizes). B z old.images) (read.kept 0).sizes (subst (λ (i : List (List ℕ)). B new.sizes i) (stored_images old new read stored) b)

  -- each was the store's up to a moment in between
  pub stored_before : (old mid new : Pooled P) → MayHaveRead g mid new → IsReadAsStored g old new → IsReadAsStored g old mid
  stored_before old mid new read stored = ⊎_elim (λ all. inl all) (λ h. inr (read.device.honest h)) stored

  -- and from there on
  pub stored_after : (old mid new : Pooled P) → MayHaveRead g old mid → IsReadAsStored g old new → IsReadAsStored g mid new
  stored_after old mid new read stored = ⊎_elim (λ all. inl (subst (λ (p : Pooled P). AreAllFramed p) (sym (read.stood all)) all)) (λ h. inr h) stored

  -- ---- some pages were read, and then some on the way of a call

  -- a device that had not failed has failed since
  pub failed_then : {ask : PageAsk} (mid old new : P) → g.faults mid ≡ g.faults old → HasFailed g ask mid new → HasFailed g ask old new
  failed_then mid old new same f = record {
    once = subst (λ (n : ℕ). g.faults new ≡ (n + 1) % 2 ^ 64) same f.once;
    before = f.before;
    none = f.none ∙ same;
    excused = f.excused;
  }

  -- a page that stands in no frame stood in none
  outside_then : (old mid : Pooled P) → MayHaveRead g old mid → HasOutside mid → HasOutside old
  outside_then old mid read out = record {
    page = out.page;
    behind = out.behind;
    within = subst (λ (z : Sizes). out.page < page_count z) (read.kept 0).sizes out.within;
    outside = λ framed. out.outside (subst (λ (l : List Held). IsFramed l out.page) (sym read.frames) framed);
  }

  pub fails_then : (e : Refusal) (old mid new : Pooled P) → MayHaveRead g old mid → g.faults mid.device ≡ g.faults old.device → ReadFails g e mid new → ReadFails g e old new
  unfolding outside_then
  fails_then why.DiskRead old mid new read same fails = (outside_then old mid read fails.0, failed_then mid.device old.device new.device same fails.1)
  fails_then _ old mid new read same fails = fails ∙ same

  -- the call answers something else then, or passes a refusal on
  pub reads_on : {X Y : Type 0} (x : X) (y : Y) (old mid new : Pooled P) → MayHaveRead g old mid → g.faults mid.device ≡ g.faults old.device → HasReadFor g mid (Ok x) new → HasReadFor g old (Ok y) new
  reads_on x y old mid new read same f = record { read = read_then old mid new read f.read; counted = f.counted ∙ same; refused = tt }

  pub stops_on : {X Y : Type 0} (e : Refusal) (old mid new : Pooled P) → MayHaveRead g old mid → g.faults mid.device ≡ g.faults old.device → HasReadFor {X = X} g mid (Err e) new → HasReadFor {X = Y} g old (Err e) new
  stops_on e old mid new read same f = record { read = read_then old mid new read f.read; counted = tt; refused = fails_then e old mid new read same f.refused }

  pub reads_then : {X : Type 0} (r : Result X Refusal) (old mid new : Pooled P) → MayHaveRead g old mid → g.faults mid.device ≡ g.faults old.device → HasReadFor g mid r new → HasReadFor g old r new
  reads_then (Ok x) old mid new read same f = reads_on x x old mid new read same f
  reads_then (Err e) old mid new read same f = stops_on e old mid new read same f

  -- what is told of a page that was not read
  pub is_unread : {X : Type 0} (n : ℕ) (e : Refusal) (old new : Pooled P) → 1 ≤ n → n < page_count old.sizes → Fetches {X = X} g n old (Err e) new → IsUnread g old e new
  is_unread n why.DiskRead old new low high f = tt
  is_unread n (why.Damaged (damage.Page m)) old new low high f =
      (subst (λ (q : ℕ). q < page_count old.sizes) (sym f.refused.0) high, λ stored. ⊎_elim (λ all. false≢true (f.stood (inl (all n low high))).0) (λ h. f.refused.1 h) stored)
  is_unread n _ old new low high f = absurd f.refused

  -- some were read, and then one was not
  pub unread_then : (e : Refusal) (old mid new : Pooled P) → MayHaveRead g old mid → IsUnread g mid e new → IsUnread g old e new
  unread_then why.DiskRead old mid new read is = tt
  unread_then (why.Damaged (damage.Page n)) old mid new read is = (subst (λ (z : Sizes). n < page_count z) (read.kept 0).sizes is.0, λ stored. is.1 (stored_after old mid new read stored))
  unread_then _ old mid new read is = absurd is

  -- none is where each is read as it is stored
  pub unread_truly : {X : Type 0} (e : Refusal) (old new : Pooled P) → IsUnread g old e new → ReadsTruly {X = X} g old (Err e) new → ⊥
  unread_truly why.DiskRead old new is truly = truly.1 refl
  unread_truly (why.Damaged (damage.Page n)) old new is truly = is.1 truly.0
  unread_truly _ old new is truly = absurd is
