-- One call more of a file of pages.
use Rattle.std.proofs.Common.{◌≡◌, ◌⊎◌, ◌↔◌, ℕ, Bool, true, false, List, [], ◌∷◌, length, subst, sym, ap, inl, inr, ⊎_elim}
use Rattle.std.specs.Prelude.{if◌then◌else◌}
use Rattle.rq_disk.specs.Device.{Images, Leaves, NoMore, Elapses, Stays}
use Rattle.rq_disk.specs.FileCalls.{FileCall, has_failed, after_sync}
use Rattle.rq_disk.specs.FileCalls.FileCall.{Gave, Denied, Took, Tried, Cut, Uncut, Replaced, Unreplaced, Synced, Missed}
use Rattle.rq_disk.specs.PageFile.{images_now, page_may_be, PagesLeftSince, page_seen, before_sync, WasWrittenSince, PageFilesLeave}
use Rattle.rq_disk.proofs.SinceCalls.{goes_on}

module _ (held : Images) (calls later : List FileCall) where
  pub page_time : (call : FileCall) → later ≡ call ∷ calls → Elapses (length calls) (length later) (PagesLeftSince held calls) (PagesLeftSince held later) (Leaves (page_may_be held later))
  page_time call is = goes_on (λ (cs : List FileCall). Leaves (page_may_be held cs)) calls later call is

  -- a read that failed changes nothing
  pub denied_stays : (at : ℕ) → later ≡ Denied at ∷ calls
      → Stays (images_now held calls) (images_now held later) (Leaves (page_may_be held calls)) (Leaves (page_may_be held later))
  denied_stays at is = record {
    reads = ap (images_now held) is;
    left = λ c may. subst (λ (cs : List FileCall). Leaves (page_may_be held cs) c) is may;
    still_left = λ c may. subst (λ (cs : List FileCall). Leaves (page_may_be held cs) c) (sym is) may;
  }

  module _ (is : later ≡ Synced ∷ calls) (runs : has_failed calls ≡ false) where
    pub synced_only : (p : ℕ) (c : List ℕ) → page_may_be held later p c → c ≡ images_now held calls p
    synced_only p c may =
        let synced = subst (λ (cs : List FileCall). page_may_be held cs p c) is may in
        subst (λ (b : Bool). after_sync b (page_may_be held calls p c) (c ≡ images_now held calls p)) runs synced

    pub synced_crash : NoMore (page_may_be held calls) (page_may_be held later)
    synced_crash p c may = subst (page_may_be held calls p) (sym (synced_only p c may)) (page_seen held calls p)

-- one write more, or a sync
one_more : {A B C W : Type 0} → A ↔ (B ⊎ C) → (A ⊎ W) ↔ (B ⊎ (W ⊎ C))
one_more {A} {B} {C} {W} iff = (
  ⊎_elim (λ (a : A). ⊎_elim (λ (b : B). inl b) (λ (c : C). inr (inr c)) (iff.0 a)) (λ (w : W). inr (inl w)),
  ⊎_elim (λ (b : B). inl (iff.1 (inl b))) (⊎_elim (λ (w : W). inr w) (λ (c : C). inl (iff.1 (inr c)))),
)

nothing_more : {A : Type 0} → A ↔ (A ⊎ ⊥)
nothing_more {A} = ((λ (a : A). inl a), ⊎_elim (λ (a : A). a) (λ (f : ⊥). absurd f))

synced : (held : Images) (calls : List FileCall) (p : ℕ) (c : List ℕ) (b : Bool)
    → page_may_be held calls p c ↔ ((c ≡ images_now held (before_sync calls) p) ⊎ WasWrittenSince calls p c)
    → after_sync b (page_may_be held calls p c) (c ≡ images_now held calls p)
    ↔ ((c ≡ images_now held (if b then before_sync calls else calls) p) ⊎ after_sync b (WasWrittenSince calls p c) ⊥)
synced held calls p c true iff = iff
synced held calls p c false iff = nothing_more

pub page_files_leave : PageFilesLeave
page_files_leave held [] p c = nothing_more
page_files_leave held (Took at bytes ∷ calls) p c = one_more (page_files_leave held calls p c)
page_files_leave held (Tried at bytes ∷ calls) p c = one_more (page_files_leave held calls p c)
page_files_leave held (Synced ∷ calls) p c = synced held calls p c (has_failed calls) (page_files_leave held calls p c)
page_files_leave held (_ ∷ calls) p c = page_files_leave held calls p c
