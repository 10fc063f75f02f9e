-- Pages that count as changed are newer, and LSNs are of the log.
use Rattle.std.proofs.Common.{◌≡◌, ◌≢◌, ℕ, ◌<◌, ◌≤◌, Bool, true, false, List, slice_set, Option, Some, None, inl, inr, refl, sym, ◌∙◌, ap, subst, arith, ⊎_elim}
use Rattle.std.proofs.lemmas.Bool.{cases_eq}
use Rattle.std.proofs.lemmas.Bool.Decides.{nat_tests}
use Rattle.std.proofs.lemmas.List.{get_or-set_other}
use Rattle.rq_disk.specs.declared.device.PageDevice.{Ghosts}
use Rattle.rq_page.specs.Pages.{lsn_of}
use Rattle.rq_page.specs.Sizes.{Sizes}
use Rattle.rq_level.specs.Meaning.{AppliesOnce, Redo}
use Rattle.rq_pool.specs.KeptUp.{IsKeptUp}
use Rattle.rq_pool.specs.Pooled.{Pooled, image_at, is_changed}
use Rattle.rq_restart.specs.Repeating.{AreMarked, HaveLsnsWithin, paged}

pub same_marked : {P : Type 0} (n : ℕ) (old new : Pooled P) → new ≡ old → AreMarked n old new
same_marked {P} n old new same = subst (AreMarked n old) (sym same) (record { later = λ p. omega arith; within = λ p. inl refl; newer = λ p e. inl e })

-- pages that are kept up have the LSNs that they had, and none counts as changed that did not
pub kept_marked : {P : Type 0} (g : Ghosts P) (forced n : ℕ) (old new : Pooled P) → IsKeptUp g forced old new → AreMarked n old new
kept_marked g forced n old new up = record {
  later = λ p. (let e = up.lsns p in omega (arith, e));
  within = λ p. inl (up.lsns p);
  newer = λ p now. inl (up.changed p now).was;
}

-- beside a log that is longer
pub marked_longer : {P : Type 0} (m n : ℕ) (old new : Pooled P) → m ≤ n → AreMarked m old new → AreMarked n old new
marked_longer m n old new more h = record {
  later = h.later;
  within = λ p. ⊎_elim (λ same. inl same) (λ low. inr (omega (arith, low, more))) (h.within p);
  newer = h.newer;
}

pub marked_twice : {P : Type 0} (m n : ℕ) (a b c : Pooled P) → m ≤ n → AreMarked m a b → AreMarked n b c → AreMarked n a c
marked_twice m n a b c more h k = record {
  within = λ p. ⊎_elim (λ same. ⊎_elim (λ first. inl (same ∙ first)) (λ low. inr (omega (arith, same, low, more))) (h.within p)) (λ low. inr low) (k.within p);
  later = λ p. (let first = h.later p in let then = k.later p in omega (arith, first, then));
  newer = λ p e. elim (k.newer p e) [
    | inr newer ↦ inr (let first = h.later p in omega (arith, first, newer))
    | inl was ↦ elim (h.newer p was) [
      | inl first ↦ inl first
      | inr newer ↦ inr (let then = k.later p in omega (arith, then, newer))
    ]
  ];
}

-- a record was applied to its page, where that is older
pub applied_marked : {P : Type 0} (old new : Pooled P) (w : Option Redo) (page lsn : ℕ) (made : Bool) → AppliesOnce w (image_at old.images page) lsn made (image_at new.images page)
    → ((p : ℕ) → p ≢ page → image_at new.images p ≡ image_at old.images p) → (made ≡ true → new.changed ≡ slice_set old.changed page true) → (made ≡ false → new.changed ≡ old.changed) → AreMarked lsn old new
applied_marked old new w page lsn true applied others changed same = record {
  later = λ p. elim (cases_eq p page) [
    | inl here ↦ subst (λ (q : ℕ). lsn_of (image_at old.images q) ≤ lsn_of (image_at new.images q)) (sym here) (let n = newer w applied in omega (arith, n))
    | inr there ↦ (let e = ap lsn_of (others p there) in omega (arith, e))
  ];
  within = λ p. elim (cases_eq p page) [
    | inl here ↦ inr (subst (λ (q : ℕ). lsn_of (image_at new.images q) ≤ lsn) (sym here) (written w applied))
    | inr there ↦ inl (ap lsn_of (others p there))
  ];
  newer = λ p e. elim (cases_eq p page) [
    | inl here ↦ inr (subst (λ (q : ℕ). lsn_of (image_at old.images q) < lsn_of (image_at new.images q)) (sym here) (newer w applied))
    | inr there ↦ inl (sym (ap (λ (c : List Bool). is_changed c p) (changed refl) ∙ get_or-set_other old.changed page p true false there) ∙ e)
  ];
} where
  newer : (w : Option Redo) → AppliesOnce w (image_at old.images page) lsn true (image_at new.images page) → lsn_of (image_at old.images page) < lsn_of (image_at new.images page)
  newer None a = absurd (let bad : true ≡ false = a.0 in cc bad)
  newer (Some w) a =
      let answer = a.answer in
      let low : lsn_of (image_at old.images page) < lsn = grind (arith, nat_tests) in
      let is = (a.done refl).lsn in
      omega (arith, low, is)

  written : (w : Option Redo) → AppliesOnce w (image_at old.images page) lsn true (image_at new.images page) → lsn_of (image_at new.images page) ≤ lsn
  written None a = absurd (let bad : true ≡ false = a.0 in cc bad)
  written (Some w) a = (let is = (a.done refl).lsn in omega (arith, is))
applied_marked old new w page lsn false applied others changed same = record {
  later = λ p. (let e = ap lsn_of (all p) in omega (arith, e));
  within = λ p. inl (ap lsn_of (all p));
  newer = λ p e. inl (sym (ap (λ (c : List Bool). is_changed c p) (same refl)) ∙ e);
} where
  all : (p : ℕ) → image_at new.images p ≡ image_at old.images p
  all p = elim (cases_eq p page) [
    | inl here ↦ subst (λ (q : ℕ). image_at new.images q ≡ image_at old.images q) (sym here) (kept w applied)
    | inr there ↦ others p there
  ] where
    kept : (w : Option Redo) → AppliesOnce w (image_at old.images page) lsn false (image_at new.images page) → image_at new.images page ≡ image_at old.images page
    kept None a = a.1
    kept (Some w) a = a.kept refl

-- LSNs are within a log, where they were within one that is not longer
pub marked_within : {P : Type 0} (z : Sizes) (m n : ℕ) (old new : Pooled P) → m ≤ n → AreMarked n old new → HaveLsnsWithin z m (paged old) → HaveLsnsWithin z n (paged new)
marked_within z m n old new more h within p low high = ⊎_elim (λ same. (let there = within p low high in omega (arith, same, there, more))) (λ new. new) (h.within p)
