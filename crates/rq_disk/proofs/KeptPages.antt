-- One call more joins those that pages in memory keep.
use Rattle.std.proofs.Common.{◌≡◌, inl, inr, ℕ, ◌<◌, List, [], ◌∷◌, ◌++◌, length, get_or, refl, sym, ◌∙◌, ap, subst, if◌then◌else◌, ◌==◌}
use Rattle.std.proofs.lemmas.Bool.{cases_eq}
use Rattle.std.proofs.lemmas.List.{get_or-set_same, get_or-set_other}
use Rattle.std.specs.Prelude.{Box, slice_set}
use Rattle.std.specs.declared.alloc.Global.{Global}
use Rattle.rq_disk.specs.Device.{Leaves, Written, NoMore, Elapses}
use Rattle.rq_disk.specs.Memory.{PageState, reads, MayBe, after_page_call, after_page_calls, fresh_pages, pages_after, PagesSince, pages_seen, if_yes, if_no}
use Rattle.rq_disk.specs.declared.mem_pages.PageCall.{PageCall}
use Rattle.rq_disk.specs.declared.mem_pages.PageCall.TheVariants.{Write, Sync}
use Rattle.rq_disk.proofs.KeptCalls.{elapses_to, elapses_same}

pub page_push : (s : PageState) (calls : List PageCall) (call : PageCall) → after_page_calls s (calls ++ call ∷ []) ≡ after_page_call (after_page_calls s calls) call
page_push s [] call = refl
page_push s (c ∷ calls) call = page_push (after_page_call s c) calls call

-- pages after one call more
pub page_pushed : (images : List (List ℕ)) (calls later : List PageCall) (call : PageCall) → later ≡ calls ++ call ∷ [] → pages_after images later ≡ after_page_call (pages_after images calls) call
page_pushed images calls later call is = ap (pages_after images) is ∙ page_push (fresh_pages images) calls call

-- no image but the one written
one_more : (s : PageState) (page : ℕ) (kept : Box (List ℕ) Global) → Written page kept.value (MayBe s) (MayBe (after_page_call s (Write page kept)))
one_more s page kept p c (inl synced) = inl (inl synced)
one_more s page kept p c (inr (inl new)) = inr new
one_more s page kept p c (inr (inr old)) = inl (inr old)

synced_only : (s : PageState) (p : ℕ) (c : List ℕ) → MayBe (after_page_call s Sync) p c → c ≡ reads s p
synced_only s p c (inl is) = is
synced_only s p c (inr none) = absurd none

module _ (images : List (List ℕ)) (calls later : List PageCall) where
  abbrev was : PageState
  was = pages_after images calls

  pub written_to : (page : ℕ) (kept : Box (List ℕ) Global) (image : List ℕ) → kept.value ≡ image → later ≡ calls ++ Write page kept ∷ [] → Written page image (MayBe was) (MayBe (pages_after images later))
  written_to page kept image same is =
      subst (λ (i : List ℕ). Written page i (MayBe was) (MayBe (pages_after images later))) same
      (subst (λ (t : PageState). Written page kept.value (MayBe was) (MayBe t)) (sym (page_pushed images calls later (Write page kept) is)) (one_more was page kept))

  -- what reads give after a write
  pub write_reads : (page : ℕ) (kept : Box (List ℕ) Global) (image : List ℕ) → kept.value ≡ image → later ≡ calls ++ Write page kept ∷ [] → (p : ℕ) → reads (pages_after images later) p ≡ (if p == page then image else reads was p)
  write_reads page kept image same is p =
      ap (λ (t : PageState). reads t p) (page_pushed images calls later (Write page kept) is) ∙ ap (λ (i : List ℕ). if p == page then i else reads was p) same

  -- an image written over in the list of the newest
  pub write_cached : (now : List (List ℕ)) (page : ℕ) (kept : Box (List ℕ) Global) (image : List ℕ) → kept.value ≡ image → later ≡ calls ++ Write page kept ∷ [] → page < length now
      → ((p : ℕ) → get_or now p [] ≡ reads was p) → (p : ℕ) → get_or (slice_set now page image) p [] ≡ reads (pages_after images later) p
  write_cached now page kept image same is lt cached p = elim (cases_eq p page) [
    | inl here ↦ ap (λ q. get_or (slice_set now page image) q []) here ∙ get_or-set_same now page image [] lt ∙ sym (if_yes p page image (reads was p) here) ∙ sym (write_reads page kept image same is p)
    | inr other ↦ get_or-set_other now page p image [] other ∙ cached p ∙ sym (if_no p page image (reads was p) other) ∙ sym (write_reads page kept image same is p)
  ]

  pub synced_to : later ≡ calls ++ Sync ∷ [] → (p : ℕ) (c : List ℕ) → MayBe (pages_after images later) p c → c ≡ reads was p
  synced_to is p c may = synced_only was p c (subst (λ (t : PageState). MayBe t p c) (page_pushed images calls later Sync is) may)

  pub same_to : later ≡ calls ++ Sync ∷ [] → reads (pages_after images later) ≡ reads was
  same_to is = ap reads (page_pushed images calls later Sync is)

  pub fewer_to : later ≡ calls ++ Sync ∷ [] → NoMore (MayBe was) (MayBe (pages_after images later))
  fewer_to is p c may = subst (MayBe was p) (sym (synced_to is p c may)) (pages_seen was p)

  pub pages_elapses : (call : PageCall) → later ≡ calls ++ call ∷ [] → Elapses (length calls) (length later) (PagesSince images calls) (PagesSince images later) (Leaves (MayBe (pages_after images later)))
  pages_elapses call is = elapses_to (λ (cs : List PageCall). Leaves (MayBe (pages_after images cs))) calls later call is

  pub pages_stay : later ≡ calls → Elapses (length calls) (length later) (PagesSince images calls) (PagesSince images later) (Leaves (MayBe (pages_after images later)))
  pages_stay is = elapses_same (λ (cs : List PageCall). Leaves (MayBe (pages_after images cs))) calls later is
