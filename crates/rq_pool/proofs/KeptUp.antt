-- What keeps pages up: no call of their device, and a write of one.
use Rattle.std.proofs.Common.{◌≡◌, ◌≢◌, refl, ℕ, ◌≤◌, ◌==◌, Bool, true, false, List, slice_set, sym, ap, subst, arith, ◌∙◌, inl, inr, ⊎_elim, Result, Ok, Err}
use Rattle.std.proofs.lemmas.Bool.{cases_Bool, cases_eq, cond-true, eq-eqb, true≢false}
use Rattle.std.proofs.lemmas.List.{get_or-set_other}
use Rattle.rq_disk.specs.Device.{Leaves, Elapses}
use Rattle.rq_disk.specs.declared.device.PageDevice.{Ghosts}
use Rattle.rq_page.specs.Pages.{lsn_of}
use Rattle.rq_model.specs.declared.refusal.Refusal.{Refusal}
use Rattle.rq_model.specs.declared.refusal.Refusal.TheVariants as why
use Rattle.rq_page.specs.Sizes.{Sizes}
use Rattle.rq_views.specs.Stored.{slots_in}
use Rattle.rq_pool.specs.Indexed.{AreFlaggedAlike, closed_flag, free_flag}
use Rattle.rq_pool.specs.Pooled.{Pooled, image_at, is_changed}
use Rattle.rq_pool.specs.Reading.{OnlyRead}
use Rattle.rq_pool.specs.Writing.{AnswersWhen, DeviceAfter, MayHaveWritten, changed_after}
use Rattle.rq_pool.specs.declared.Written.{Written}
use Rattle.rq_pool.specs.declared.Written.TheVariants.{Done, Nothing}
use Rattle.rq_pool.specs.KeptUp.{HaveSameLsns, IsForced, IsKeptUp, IsWrittenOut, MayBeKept}

-- slots of the same images
pub flagged_alike : (z : Sizes) (old new : List (List ℕ)) → new ≡ old → AreFlaggedAlike z old new
flagged_alike z old new same a = (
  ap (λ (l : List (List ℕ)). free_flag (slots_in z l a)) same,
  ap (λ (l : List (List ℕ)). closed_flag (slots_in z l a)) same,
)

pub stamped_alike : (old new : List (List ℕ)) → new ≡ old → HaveSameLsns old new
stamped_alike old new same p = ap (λ (l : List (List ℕ)). lsn_of (image_at l p)) same

module _ {P : Type 0} (g : Ghosts P) (forced : ℕ) where
  -- nothing happened to the device
  pub kept_still : (old new : Pooled P) → new.device ≡ old.device → new.sizes ≡ old.sizes → new.images ≡ old.images → new.changed ≡ old.changed → IsKeptUp g forced old new
  kept_still old new device sizes images changed = record {
    sizes = sizes;
    images = λ h. images;
    lsns = stamped_alike old.images new.images images;
    flags = flagged_alike old.sizes old.images new.images images;
    changed = λ p c. record { was = ap (λ (l : List Bool). is_changed l p) (sym changed) ∙ c; same = ap (λ (l : List (List ℕ)). image_at l p) images };
    written = λ p was is. absurd (true≢false (sym was ∙ ap (λ (l : List Bool). is_changed l p) (sym changed) ∙ is));
    others = λ p clean. ap (λ (d : P). g.seen d p) device;
    honest = subst (λ (d : P). g.honest d → g.honest old.device) (sym device) (λ h. h);
    crash = λ p c. subst (λ (d : P). g.may_be d p c → MayBeKept g forced old p c) (sym device) (λ may. inl may);
    time = subst (λ (d : P). Elapses (g.moment old.device) (g.moment d) (g.left_since old.device) (g.left_since d) (Leaves (MayBeKept g forced old))) (sym device)
        (record { later = omega arith; nothing_else = λ t c before since. inl since; keeps = λ t c before past. past });
  }

  -- a page was read that was not changed, and no other image changed
  pub kept_read : (old new : Pooled P) → OnlyRead g old.device new.device → new.sizes ≡ old.sizes → (g.honest new.device → new.images ≡ old.images) → HaveSameLsns old.images new.images → AreFlaggedAlike old.sizes old.images new.images → new.changed ≡ old.changed
      → (n : ℕ) → is_changed old.changed n ≡ false → ((p : ℕ) → p ≢ n → image_at new.images p ≡ image_at old.images p) → IsKeptUp g forced old new
  kept_read old new read sizes images lsns flags changed n clean others = record {
    sizes = sizes;
    images = images;
    lsns = lsns;
    flags = flags;
    changed = λ p c.
        let was : is_changed old.changed p ≡ true = ap (λ (l : List Bool). is_changed l p) (sym changed) ∙ c in
        record { was = was; same = others p (λ e. true≢false (sym was ∙ ap (is_changed old.changed) e ∙ clean)) };
    written = λ p was is. absurd (true≢false (sym was ∙ ap (λ (l : List Bool). is_changed l p) (sym changed) ∙ is));
    others = λ p _. ap (λ (s : ℕ → List ℕ). s p) read.same;
    honest = read.honest;
    crash = λ p c may. inl (read.crash p c may);
    time = record {
      later = read.time.later;
      nothing_else = λ t c le left. ⊎_elim (λ was. inl was) (λ now. inr (λ p. inl (now p))) (read.time.nothing_else t c le left);
      keeps = read.time.keeps;
    };
  }

  -- a page whose LSN is forced was written, or was to be
  pub kept_written : (old new : Pooled P) (n : ℕ) → MayHaveWritten g n (image_at old.images n) old.device new.device → is_changed old.changed n ≡ true → lsn_of (image_at old.images n) ≤ forced
      → new.sizes ≡ old.sizes → new.images ≡ old.images → ((p : ℕ) → is_changed new.changed p ≡ true → is_changed old.changed p ≡ true)
      → ((p : ℕ) → is_changed old.changed p ≡ true → is_changed new.changed p ≡ false → (p ≡ n) × (g.seen new.device n ≡ image_at old.images n)) → IsKeptUp g forced old new
  kept_written old new n wrote was lsn sizes images fewer off = record {
    sizes = sizes;
    images = λ h. images;
    lsns = stamped_alike old.images new.images images;
    flags = flagged_alike old.sizes old.images new.images images;
    changed = λ p c. record { was = fewer p c; same = ap (λ (l : List (List ℕ)). image_at l p) images };
    written = λ p changed is.
        let o = off p changed is in
        record {
          lsn = subst (λ (q : ℕ). lsn_of (image_at old.images q) ≤ forced) (sym o.0) lsn;
          reads = subst (λ (q : ℕ). g.seen new.device q ≡ image_at old.images q) (sym o.0) o.1;
        };
    others = λ p clean. wrote.others p (λ (here : p ≡ n). true≢false (sym was ∙ ap (is_changed old.changed) (sym here) ∙ clean));
    honest = wrote.honest;
    crash = left;
    time = record {
      later = wrote.time.later;
      nothing_else = λ t c le since. ⊎_elim (λ past. inl past) (λ now. inr (λ p. left p (c p) (now p))) (wrote.time.nothing_else t c le since);
      keeps = wrote.time.keeps;
    };
  } where
    left : (p : ℕ) (c : List ℕ) → g.may_be new.device p c → MayBeKept g forced old p c
    left p c may = ⊎_elim (λ past. inl past) (λ (e : (p ≡ n) × (c ≡ image_at old.images n)).
        inr (record { changed = ap (is_changed old.changed) e.0 ∙ was; is = e.1 ∙ ap (image_at old.images) (sym e.0); lsn = subst (λ (b : List ℕ). lsn_of b ≤ forced) (sym e.1) lsn })) (wrote.crash p c may)

-- pages that are kept up twice are kept up
module _ {P : Type 0} (g : Ghosts P) (forced : ℕ) (old mid new : Pooled P) (a : IsKeptUp g forced old mid) (b : IsKeptUp g forced mid new) where
  left_before : (p : ℕ) (c : List ℕ) → MayBeKept g forced mid p c → MayBeKept g forced old p c
  left_before p c may = ⊎_elim (λ m. a.crash p c m) (λ (f : IsForced g forced mid p c).
      let s = a.changed p f.changed in
      inr (record { changed = s.was; is = f.is ∙ s.same; lsn = f.lsn })) may

  written_of : (p : ℕ) → is_changed old.changed p ≡ true → is_changed new.changed p ≡ false → IsWrittenOut g forced old new p
  written_of p was is = elim (cases_Bool (is_changed mid.changed p)) [
    | inl still ↦
        let s = a.changed p still in
        let w = b.written p still is in
        record { lsn = subst (λ (i : List ℕ). lsn_of i ≤ forced) s.same w.lsn; reads = w.reads ∙ s.same }
    | inr gone ↦
        let w = a.written p was gone in
        record { lsn = w.lsn; reads = b.others p gone ∙ w.reads }
  ]

  others_of : (p : ℕ) → is_changed old.changed p ≡ false → g.seen new.device p ≡ g.seen old.device p
  others_of p clean = elim (cases_Bool (is_changed mid.changed p)) [
    | inl marked ↦ absurd (true≢false (sym (a.changed p marked).was ∙ clean))
    | inr still ↦ b.others p still ∙ a.others p clean
  ]

  pub kept_then : IsKeptUp g forced old new
  kept_then = record {
    sizes = b.sizes ∙ a.sizes;
    images = λ h. b.images h ∙ a.images (b.honest h);
    lsns = λ p. b.lsns p ∙ a.lsns p;
    flags = λ at.
        let before = a.flags at in
        let then_on = subst (λ (z : Sizes). AreFlaggedAlike z mid.images new.images) a.sizes b.flags at in
        (then_on.0 ∙ before.0, then_on.1 ∙ before.1);
    changed = λ p c.
        let s = b.changed p c in
        let r = a.changed p s.was in
        record { was = r.was; same = s.same ∙ r.same };
    written = written_of;
    others = others_of;
    honest = λ h. a.honest (b.honest h);
    crash = λ p c may. left_before p c (b.crash p c may);
    time = record {
      later = (let x = a.time.later in let y = b.time.later in omega (arith, x, y));
      nothing_else = λ t c le since. ⊎_elim (λ past. a.time.nothing_else t c le past) (λ now. inr (λ p. left_before p (c p) (now p)))
          (b.time.nothing_else t c (let x = a.time.later in omega (arith, x, le)) since);
      keeps = λ t c le past. b.time.keeps t c (let x = a.time.later in omega (arith, x, le)) (a.time.keeps t c le past);
    };
  }

-- a page was to be written: it was, or it has no change, or it may not be, or the device failed
pub kept_after : {P : Type 0} (g : Ghosts P) (forced : ℕ) (old new : Pooled P) (n : ℕ) (r : Result Written Refusal) → AnswersWhen old n forced r → DeviceAfter g n (image_at old.images n) old.device new.device r
    → new.changed ≡ changed_after old.changed n r → new.images ≡ old.images → new.sizes ≡ old.sizes → IsKeptUp g forced old new
kept_after g forced old new n (Ok Done) when after changed images sizes =
    kept_written g forced old new n after.1 when.0.changed when.1 sizes images (λ p c. fewer p (sym (ap (λ (l : List Bool). is_changed l p) changed) ∙ c))
    (λ p was is. off p was (sym (ap (λ (l : List Bool). is_changed l p) changed) ∙ is)) where
      fewer : (p : ℕ) → is_changed (slice_set old.changed n false) p ≡ true → is_changed old.changed p ≡ true
      fewer p c = elim (cases_eq p n) [
        | inl here ↦ ap (is_changed old.changed) here ∙ when.0.changed
        | inr other ↦ sym (get_or-set_other old.changed n p false false other) ∙ c
      ]

      off : (p : ℕ) → is_changed old.changed p ≡ true → is_changed (slice_set old.changed n false) p ≡ false → (p ≡ n) × (g.seen new.device n ≡ image_at old.images n)
      off p was is = elim (cases_eq p n) [
        | inl here ↦ (here, after.0 n ∙ cond-true (n == n) (image_at old.images n) (g.seen old.device n) (eq-eqb n n refl))
        | inr other ↦ absurd (true≢false (sym was ∙ sym (get_or-set_other old.changed n p false false other) ∙ is))
      ]
kept_after g forced old new n (Ok Nothing) when after changed images sizes = kept_still g forced old new after sizes images changed
kept_after g forced old new n (Err why.NotForced) when after changed images sizes = kept_still g forced old new after sizes images changed
kept_after g forced old new n (Err why.DiskWrite) when after changed images sizes =
    kept_written g forced old new n after.0 when.0.changed when.1 sizes images (λ p c. sym (ap (λ (l : List Bool). is_changed l p) changed) ∙ c)
    (λ p was is. absurd (true≢false (sym was ∙ ap (λ (l : List Bool). is_changed l p) (sym changed) ∙ is)))
kept_after g forced old new n (Err _) when after changed images sizes = absurd when

pub forced_more : {P : Type 0} (g : Ghosts P) (few many : ℕ) (old : Pooled P) (p : ℕ) (c : List ℕ) → few ≤ many → IsForced g few old p c → IsForced g many old p c
forced_more g few many old p c le f = record { changed = f.changed; is = f.is; lsn = (let low = f.lsn in omega (arith, low, le)) }

-- what is kept up behind fewer records is so behind more
pub kept_more : {P : Type 0} (g : Ghosts P) (few many : ℕ) (old new : Pooled P) → few ≤ many → IsKeptUp g few old new → IsKeptUp g many old new
kept_more g few many old new le up = record {
  sizes = up.sizes;
  images = up.images;
  lsns = up.lsns;
  flags = up.flags;
  changed = λ p c. (let s = up.changed p c in record { was = s.was; same = s.same });
  written = λ p was is. (let w = up.written p was is in record { lsn = (let low = w.lsn in omega (arith, low, le)); reads = w.reads });
  others = up.others;
  honest = up.honest;
  crash = λ p c may. more p c (up.crash p c may);
  time = record {
    later = up.time.later;
    nothing_else = λ t c before since. ⊎_elim (λ past. inl past) (λ kept. inr (λ p. more p (c p) (kept p))) (up.time.nothing_else t c before since);
    keeps = up.time.keeps;
  };
} where
  more : (p : ℕ) (c : List ℕ) → MayBeKept g few old p c → MayBeKept g many old p c
  more p c = ⊎_elim (λ may. inl may) (λ f. inr (forced_more g few many old p c le f))
