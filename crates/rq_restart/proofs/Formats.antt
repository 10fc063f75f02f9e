-- The pages behind the first, and then the first.
use Rattle.std.proofs.Common.{◌⊎◌, ℕ, ◌+◌, ◌≤◌, ◌<◌, ◌==◌, ◌∙◌, List, zero, suc, inl, inr, ⊎_elim, sym, subst, arith}
use Rattle.std.proofs.lemmas.Bool.{cases_eq, cond-false, cond-true, eq-eqb, ne_eqb}
use Rattle.rq_views.proofs.Chains.{no_eq}
use Rattle.rq_page.specs.Sizes.{Sizes, page_count}
use Rattle.rq_page.specs.Formatted.{IsFormatted}
use Rattle.rq_disk.specs.Device.{Images, Holds, Written, NoMore, Leaves, Elapses, Only}
use Rattle.rq_disk.specs.declared.device.PageDevice.{Ghosts}
use Rattle.rq_restart.specs.Formatting.{IsBeforeOrFormatted, SuperblockIsLast, WritesItsPages}

pub formatted_all : (z : Sizes) (old new : ℕ → List ℕ) (image : List ℕ) → ((p : ℕ) → 1 ≤ p → p < page_count z → IsFormatted z p (old p)) → Holds old 0 image new → IsFormatted z 0 image → (p : ℕ) → p < page_count z → IsFormatted z p (new p)
formatted_all z old new image h holds first zero lt = subst (IsFormatted z 0) (sym (holds 0)) first
formatted_all z old new image h holds first (suc p) lt = subst (IsFormatted z (suc p)) (sym (holds (suc p) ∙ cond-false (suc p == 0) image (old (suc p)) (no_eq (suc p) 0 (λ e. absurd (omega (arith, e)))))) (h (suc p) (omega arith) lt)

-- one page more is formatted
pub formatted_more : (z : Sizes) (n : ℕ) (old new : ℕ → List ℕ) (image : List ℕ) → ((p : ℕ) → 1 ≤ p → p < n → IsFormatted z p (old p)) → Holds old n image new → IsFormatted z n image
    → (p : ℕ) → 1 ≤ p → p < n + 1 → IsFormatted z p (new p)
formatted_more z n old new image h holds is p low lt = elim (cases_eq p n) [
  | inl same ↦ subst (IsFormatted z p) (sym (holds p ∙ cond-true (p == n) image (old p) (eq-eqb p n same))) (subst (λ k. IsFormatted z k image) (sym same) is)
  | inr off ↦ subst (IsFormatted z p) (sym (holds p ∙ cond-false (p == n) image (old p) (ne_eqb p n off))) (h p low (omega (arith, lt, off)))
]

module _ {P : Type 0} (p : Ghosts P) (z : Sizes) (old : P) where
  -- time goes on
  goes_on : (mid new : P) → SuperblockIsLast p z old mid → Elapses (p.moment mid) (p.moment new) (p.left_since mid) (p.left_since new) (Leaves (p.may_be new)) → ((images : Images) → Leaves (p.may_be new) images → IsBeforeOrFormatted p z old images)
      → SuperblockIsLast p z old new
  goes_on mid new run time now = record {
    later = omega (arith, run.later, time.later);
    each = λ images since. ⊎_elim (run.each images) (now images) (time.nothing_else (p.moment old) images run.later since);
  }

  -- the superblock is as before
  pub record IsUntold (now : P) : Type 0 where
    pub run : SuperblockIsLast p z old now
    pub first : (c : List ℕ) → p.may_be now 0 c → p.may_be old 0 c

  -- every other page is formatted
  pub record IsTold (now : P) : Type 0 where
    pub run : SuperblockIsLast p z old now
    pub others : (q : ℕ) (c : List ℕ) → 1 ≤ q → q < page_count z → p.may_be now q c → IsFormatted z q c
    pub first : (c : List ℕ) → p.may_be now 0 c → p.may_be old 0 c ⊎ IsFormatted z 0 c

  -- nothing more may be left of the superblock
  still_untold : (mid new : P) → IsUntold mid → ((c : List ℕ) → p.may_be new 0 c → p.may_be mid 0 c) → Elapses (p.moment mid) (p.moment new) (p.left_since mid) (p.left_since new) (Leaves (p.may_be new)) → IsUntold new
  still_untold mid new u less time = record {
    run = goes_on mid new u.run time (λ images all. inl (u.first (images 0) (less (images 0) (all 0))));
    first = λ c may. u.first c (less c may);
  }

  -- another page is written
  pub other_written : (mid new : P) (n : ℕ) (image : List ℕ) → IsUntold mid → 1 ≤ n → Written n image (p.may_be mid) (p.may_be new) → Elapses (p.moment mid) (p.moment new) (p.left_since mid) (p.left_since new) (Leaves (p.may_be new)) → IsUntold new
  other_written mid new n image u low crash = still_untold mid new u (λ c may. ⊎_elim (λ was. was) (λ is. absurd (let e = is.0 in omega (arith, e, low))) (crash 0 c may))

  pub others_synced : (mid new : P) → IsUntold mid → NoMore (p.may_be mid) (p.may_be new) → Elapses (p.moment mid) (p.moment new) (p.left_since mid) (p.left_since new) (Leaves (p.may_be new)) → IsUntold new
  others_synced mid new u crash = still_untold mid new u (crash 0)

  formatted_now : (now : P) (images : Images) → ((q : ℕ) (c : List ℕ) → 1 ≤ q → q < page_count z → p.may_be now q c → IsFormatted z q c) → Leaves (p.may_be now) images → IsFormatted z 0 (images 0) → (q : ℕ) → q < page_count z → IsFormatted z q (images q)
  formatted_now now images others all first zero lt = first
  formatted_now now images others all first (suc q) lt = others (suc q) (images (suc q)) (omega arith) lt (all (suc q))

  told : (now : P) → ((q : ℕ) (c : List ℕ) → 1 ≤ q → q < page_count z → p.may_be now q c → IsFormatted z q c) → ((c : List ℕ) → p.may_be now 0 c → p.may_be old 0 c ⊎ IsFormatted z 0 c)
      → (images : Images) → Leaves (p.may_be now) images → IsBeforeOrFormatted p z old images
  told now others first images all = ⊎_elim (λ was. inl was) (λ is. inr (formatted_now now images others all is)) (first (images 0) (all 0))

  -- the superblock is written, where the others are synced
  pub first_written : (mid new : P) (seen : Images) (image : List ℕ) → IsUntold mid → ((q : ℕ) → Only (seen q) (p.may_be mid q)) → ((q : ℕ) → 1 ≤ q → q < page_count z → IsFormatted z q (seen q)) → IsFormatted z 0 image
      → Written 0 image (p.may_be mid) (p.may_be new) → Elapses (p.moment mid) (p.moment new) (p.left_since mid) (p.left_since new) (Leaves (p.may_be new)) → IsTold new
  first_written mid new seen image u only formatted is crash time = record { run = goes_on mid new u.run time (told new others first); others = others; first = first } where
    others : (q : ℕ) (c : List ℕ) → 1 ≤ q → q < page_count z → p.may_be new q c → IsFormatted z q c
    others q c low lt may = ⊎_elim (λ was. subst (IsFormatted z q) (sym (only q c was)) (formatted q low lt)) (λ here. absurd (let e = here.0 in omega (arith, e, low))) (crash q c may)

    first : (c : List ℕ) → p.may_be new 0 c → p.may_be old 0 c ⊎ IsFormatted z 0 c
    first c may = ⊎_elim (λ was. inl (u.first c was)) (λ here. inr (subst (IsFormatted z 0) (sym here.1) is)) (crash 0 c may)

  pub first_synced : (mid new : P) → IsTold mid → NoMore (p.may_be mid) (p.may_be new) → Elapses (p.moment mid) (p.moment new) (p.left_since mid) (p.left_since new) (Leaves (p.may_be new)) → IsTold new
  first_synced mid new t crash time = record { run = goes_on mid new t.run time (told new others first); others = others; first = first } where
    others : (q : ℕ) (c : List ℕ) → 1 ≤ q → q < page_count z → p.may_be new q c → IsFormatted z q c
    others q c low lt may = t.others q c low lt (crash q c may)

    first : (c : List ℕ) → p.may_be new 0 c → p.may_be old 0 c ⊎ IsFormatted z 0 c
    first c may = t.first c (crash 0 c may)

  -- each page is as before or formatted
  pub record IsWithin (now : P) : Type 0 where
    pub run : WritesItsPages p z old now
    pub each : (q : ℕ) (c : List ℕ) → p.may_be now q c → p.may_be old q c ⊎ ((q < page_count z) × IsFormatted z q c)

  within_on : (mid new : P) → IsWithin mid → ((q : ℕ) (c : List ℕ) → p.may_be new q c → p.may_be old q c ⊎ ((q < page_count z) × IsFormatted z q c)) → Elapses (p.moment mid) (p.moment new) (p.left_since mid) (p.left_since new) (Leaves (p.may_be new)) → IsWithin new
  within_on mid new w each time = record {
    run = record {
      later = let a = w.run.later in let b = time.later in omega (arith, a, b);
      each = λ images since. ⊎_elim (w.run.each images) (λ all q. each q (images q) (all q)) (time.nothing_else (p.moment old) images w.run.later since);
    };
    each = each;
  }

  -- a page of the store is written
  pub within_written : (mid new : P) (n : ℕ) (image : List ℕ) → IsWithin mid → n < page_count z → IsFormatted z n image → Written n image (p.may_be mid) (p.may_be new) → Elapses (p.moment mid) (p.moment new) (p.left_since mid) (p.left_since new) (Leaves (p.may_be new)) → IsWithin new
  within_written mid new n image w below is crash =
      within_on mid new w (λ q c may. ⊎_elim (w.each q c) (λ here. inr (subst (λ (k : ℕ). (k < page_count z) × IsFormatted z k c) (sym here.0) (below, subst (IsFormatted z n) (sym here.1) is))) (crash q c may))

  pub within_synced : (mid new : P) → IsWithin mid → NoMore (p.may_be mid) (p.may_be new) → Elapses (p.moment mid) (p.moment new) (p.left_since mid) (p.left_since new) (Leaves (p.may_be new)) → IsWithin new
  within_synced mid new w crash = within_on mid new w (λ q c may. w.each q c (crash q c may))
