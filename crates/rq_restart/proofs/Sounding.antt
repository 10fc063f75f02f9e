-- What is written of pages over any devices, from call to call: pages of a store alone.
use Rattle.std.proofs.Common.{◌≡◌, ◌⊎◌, ⊎_elim, ℕ, ◌<◌, true, false, List, length, inl, inr, sym, ◌∙◌, ap, subst, arith}
use Rattle.std.proofs.Math.ListN.{get_or-eq_default}
use Rattle.std.proofs.lemmas.Bool.{cases_lt, true≢false}
use Rattle.rq_disk.specs.declared.device.PageDevice.{Ghosts}
use Rattle.rq_page.specs.Formatted.{IsFormatted}
use Rattle.rq_page.specs.Sizes.{Sizes, page_count}
use Rattle.rq_pool.specs.KeptUp.{IsKeptUp, MayBeKept}
use Rattle.rq_pool.specs.Pooled.{IsPool, Pooled, image_at, is_changed}
use Rattle.rq_pool.specs.Reading.{IsSoundPage, OnlyRead}
use Rattle.rq_pool.proofs.Over.{page_sound}
use Rattle.rq_restart.specs.Leaving.{IsPageOf, LeavesSound}

module _ {P : Type 0} (p : Ghosts P) (z : Sizes) where
  -- they were read
  pub sound_read : (old new : P) → OnlyRead p old new → LeavesSound p z old new
  sound_read old new only = record {
    now = λ page c may. inl (only.crash page c may);
    time = record {
      later = only.time.later;
      nothing_else = λ t c le since. ⊎_elim (λ past. inl past) (λ may. inr (λ page. inl (may page))) (only.time.nothing_else t c le since);
      keeps = only.time.keeps;
    };
  }

  -- or left alone
  pub sound_same : (old new : P) → new ≡ old → LeavesSound p z old new
  sound_same old new same = subst (λ (d : P). LeavesSound p z old d) (sym same) (record {
    now = λ page c may. inl may;
    time = record { later = omega arith; nothing_else = λ t c le since. inl since; keeps = λ t c le was. was };
  })

  -- they are kept up, and some written out
  pub sound_kept : (forced : ℕ) (old new : Pooled P) → IsPool z old.images → length old.changed ≡ page_count z → IsKeptUp p forced old new → LeavesSound p z old.device new.device
  sound_kept forced old new pool marks up = record {
    now = λ page c may. there page c (up.crash page c may);
    time = record {
      later = up.time.later;
      nothing_else = λ t c le since. ⊎_elim (λ past. inl past) (λ may. inr (λ page. there page (c page) (may page))) (up.time.nothing_else t c le since);
      keeps = up.time.keeps;
    };
  } where
    marked_within : (page : ℕ) → is_changed old.changed page ≡ true → page < page_count z
    marked_within page e = elim (cases_lt page (page_count z)) [
      | inl lt ↦ lt
      | inr ge ↦ absurd (true≢false (sym e ∙ get_or-eq_default old.changed false (omega (arith, marks, ge))))
    ]

    there : (page : ℕ) (c : List ℕ) → MayBeKept p forced old page c → p.may_be old.device page c ⊎ IsPageOf z page c
    there page c = ⊎_elim (λ was. inl was) (λ f. inr (record {
      within = marked_within page f.changed;
      superblock = λ first. subst (IsFormatted z 0) (sym (f.is ∙ ap (image_at old.images) first)) pool.superblock;
      sound = λ low high. subst (IsSoundPage z page) (sym f.is) (page_sound z old.images page pool low high);
    }))

  -- one run of calls after the other
  pub sound_then : (a b c : P) → LeavesSound p z a b → LeavesSound p z b c → LeavesSound p z a c
  sound_then a b c one two = record {
    now = λ page bytes may. from page bytes (two.now page bytes may);
    time = record {
      later = omega (arith, one.time.later, two.time.later);
      nothing_else = λ t images le since. ⊎_elim
          (λ past. one.time.nothing_else t images le past)
          (λ may. inr (λ page. from page (images page) (may page)))
          (two.time.nothing_else t images (omega (arith, le, one.time.later)) since);
      keeps = λ t images le was. two.time.keeps t images (omega (arith, le, one.time.later)) (one.time.keeps t images le was);
    };
  } where
    from : (page : ℕ) (bytes : List ℕ) → p.may_be b page bytes ⊎ IsPageOf z page bytes → p.may_be a page bytes ⊎ IsPageOf z page bytes
    from page bytes = ⊎_elim (λ was. one.now page bytes was) (λ is. inr is)

  -- they were read before
  pub sound_since : (a b c : P) → OnlyRead p a b → LeavesSound p z b c → LeavesSound p z a c
  sound_since a b c only two = sound_then a b c (sound_read a b only) two
