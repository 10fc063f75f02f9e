-- How far the pages of a device are read.
use Rattle.std.proofs.Common.{◌≡◌, ℕ, ◌+◌, ◌%◌, ◌^◌, ◌<◌, ◌≤◌, List, [], ◌∷◌, ◌++◌, length, sym, ◌∙◌, ap, subst, arith, inl, inr, ⊎_elim, length-append}
use Rattle.std.proofs.lemmas.Bool.{cases_eq}
use Rattle.std.proofs.lemmas.List.{get_or_append_left}
use Rattle.std.proofs.Math.Seq.{get_or-append_seam}
use Rattle.rq_disk.specs.Device.{Images}
use Rattle.rq_disk.specs.declared.device.PageDevice.{Ghosts}
use Rattle.rq_model.specs.declared.refusal.Refusal.{Refusal}
use Rattle.rq_model.specs.declared.refusal.Refusal.TheVariants as why
use Rattle.rq_model.specs.declared.refusal.Damage.TheVariants as damage
use Rattle.rq_page.specs.Sizes.{Sizes}
use Rattle.rq_pool.specs.Pooled.{image_at}
use Rattle.rq_pool.specs.Reading.{IsSoundPage, IsDamaged, AreSeen, OnlyRead, StopsFor, TellsSizes}

-- the first n pages are read, and those behind the first are sound
pub record AreRead (z : Sizes) (images : List (List ℕ)) (n : ℕ) : Type 0 where
  pub count : length images ≡ n
  pub sound : (p : ℕ) → 1 ≤ p → p < n → IsSoundPage z p (image_at images p)

-- one page more is read
module _ (images new : List (List ℕ)) (n : ℕ) (page : List ℕ) (grown : new ≡ images ++ page ∷ []) (count : length images ≡ n) where
  pub earlier : (p : ℕ) → p < n → image_at new p ≡ image_at images p
  earlier p lt = ap (λ (l : List (List ℕ)). image_at l p) grown ∙ get_or_append_left images (page ∷ []) [] p (omega (arith, lt, count))

  pub here : image_at new n ≡ page
  here = ap (λ (l : List (List ℕ)). image_at l n) grown ∙ ap (image_at (images ++ page ∷ [])) (sym count) ∙ get_or-append_seam images page [] []

  pub seen_more : (seen : Images) → AreSeen seen images n → page ≡ seen n → AreSeen seen new (n + 1)
  seen_more seen before is p lt = elim (cases_eq p n) [
    | inl last ↦ ap (image_at new) last ∙ here ∙ is ∙ ap seen (sym last)
    | inr other ↦ let low : p < n = omega (arith, lt, other) in earlier p low ∙ before p low
  ]

  pub read_more : (z : Sizes) → AreRead z images n → IsSoundPage z n page → AreRead z new (n + 1)
  read_more z before is = record {
    count = ap length grown ∙ length-append images (page ∷ []) ∙ ap (λ (k : ℕ). k + 1) count;
    sound = λ p low lt. elim (cases_eq p n) [
      | inl last ↦ subst (λ (q : ℕ). IsSoundPage z q (image_at new q)) (sym last) (subst (IsSoundPage z n) (sym here) is)
      | inr other ↦ let within : p < n = omega (arith, lt, other) in subst (IsSoundPage z p) (sym (earlier p within)) (before.sound p low within)
    ];
  }

-- why reading stopped, of a device that was only read before
pub stops_later : {P : Type 0} (g : Ghosts P) (old mid new : P) (e : Refusal) → g.seen mid ≡ g.seen old → g.faults mid ≡ g.faults old → StopsFor g e mid new → StopsFor g e old new
stops_later g old mid new why.NoMemory seen faults h = (λ honest. subst (λ (s : Images). TellsSizes s) seen (h.0 honest), h.1 ∙ faults)
stops_later g old mid new why.DiskRead seen faults h = subst (λ (n : ℕ). g.faults new ≡ (n + 1) % 2 ^ 64) faults h
stops_later g old mid new (why.Damaged (damage.Page page)) seen faults h = (λ honest. subst (λ (s : Images). IsDamaged s page) seen (h.0 honest), h.1 ∙ faults)
stops_later g old mid new _ seen faults h = absurd h

-- a device that was only read, twice
pub only_read_on : {P : Type 0} (g : Ghosts P) (old mid new : P) → OnlyRead g old mid → OnlyRead g mid new → OnlyRead g old new
only_read_on g old mid new a b = record {
  same = b.same ∙ a.same;
  honest = λ h. a.honest (b.honest h);
  crash = λ p c may. a.crash p c (b.crash p c may);
  time = record {
    later = omega (arith, a.time.later, b.time.later);
    nothing_else = λ t c le left. ⊎_elim (λ was. a.time.nothing_else t c le was) (λ now. inr (λ p. a.crash p (c p) (now p))) (b.time.nothing_else t c (omega (arith, le, a.time.later)) left);
    keeps = λ t c le left. b.time.keeps t c (omega (arith, le, a.time.later)) (a.time.keeps t c le left);
  };
}
