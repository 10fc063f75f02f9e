-- Devices in memory: what each was at first, and each call since.
use Rattle.std.specs.Prelude.{◌≡◌, ◌⊎◌, ℕ, ◌≤◌, ◌+◌, ◌==◌, List, [], ◌∷◌, ◌++◌, length, take, refl, get_or, if◌then◌else◌, nat_lt, Bool, true, Option, Some, None}
use Rattle.std.proofs.Common.{◌≢◌, inl, inr, ⊎_elim, sym, subst, ◌∙◌, ap, arith}
use Rattle.std.proofs.lemmas.Bool.{cases_eq}
use Rattle.std.proofs.lemmas.Bool.Decides.{nat_tests}
use Rattle.std.proofs.Math.Seq.{take-length}
use Rattle.rq_disk.specs.Device.{Images, Leaves}
use Rattle.rq_disk.specs.Records.{torn_records}
use Rattle.rq_disk.specs.declared.mem_log.LogCall.{LogCall}
use Rattle.rq_disk.specs.declared.mem_log.LogCall.TheVariants.{Append, Force, Cut, Replace}
use Rattle.rq_disk.specs.declared.mem_pages.PageCall.{PageCall}
use Rattle.rq_disk.specs.declared.mem_pages.PageCall.TheVariants.{Write, Sync}

-- the images at the last sync, and those written since, the newest first
pub record PageState : Type 0 where
  pub synced : Images
  pub since : List (ℕ × List ℕ)

-- of a page the last image written, or the one that was there before
abbrev pub newest_image : List (ℕ × List ℕ) → ℕ → List ℕ → List ℕ
newest_image [] page image = image
newest_image (w ∷ ws) page image = if page == w.0 then w.1 else newest_image ws page image

abbrev pub reads : PageState → Images
reads s page = newest_image s.since page (s.synced page)

abbrev pub WasWritten : List (ℕ × List ℕ) → ℕ → List ℕ → Type 0
WasWritten [] page image = ⊥
WasWritten (w ∷ ws) page image = ((page ≡ w.0) × (image ≡ w.1)) ⊎ WasWritten ws page image

-- what a crash may leave of a page: its image at the last sync, or any written since
abbrev pub MayBe : PageState → ℕ → List ℕ → Type 0
MayBe s page image = (image ≡ s.synced page) ⊎ WasWritten s.since page image

abbrev pub after_page_call : PageState → PageCall → PageState
after_page_call s (Write page image) = record { synced = s.synced; since = (page, image.value) ∷ s.since }
after_page_call s Sync = record { synced = reads s; since = [] }

abbrev pub after_page_calls : PageState → List PageCall → PageState
after_page_calls s [] = s
after_page_calls s (call ∷ calls) = after_page_calls (after_page_call s call) calls

-- these images, all of them synced; past the last there is no byte
abbrev pub fresh_pages : List (List ℕ) → PageState
fresh_pages images = record { synced = λ page. get_or images page []; since = [] }

-- pages with these images, after these calls
abbrev pub pages_after : List (List ℕ) → List PageCall → PageState
pages_after images calls = after_page_calls (fresh_pages images) calls

-- what a crash may have left at some moment from t on: after k of the calls
abbrev pub PagesSince : List (List ℕ) → List PageCall → ℕ → Images → Type 0
PagesSince images calls t c = (k : ℕ) × (t ≤ k) × (k ≤ length calls)
    × Leaves (MayBe (pages_after images (take k calls))) c

-- how often a page was written
abbrev pub times_written : ℕ → List (ℕ × List ℕ) → ℕ
times_written page [] = 0
times_written page (w ∷ ws) = if page == w.0 then times_written page ws + 1 else times_written page ws

-- whether the image that was written after `count` others is at most at this place: no place is beyond all
abbrev pub reaches : Option ℕ → ℕ → Bool
reaches None count = true
reaches (Some place) count = nat_lt count place

-- Of a page the image at a place. Place 0 is the synced one, and those written since follow in order. Where none stands at that
-- place, it is the newest.
abbrev pub image_after : List (ℕ × List ℕ) → List ℕ → ℕ → Option ℕ → List ℕ
image_after [] synced page place = synced
image_after (w ∷ ws) synced page place =
    if page == w.0 then (if reaches place (times_written page ws) then w.1 else image_after ws synced page place) else
    image_after ws synced page place

-- what is left of a page where the image at this place outlives a crash
abbrev pub crashed_page : Option ℕ → PageState → ℕ → List ℕ
crashed_page place s page = image_after s.since (s.synced page) page place

-- the forced bytes, and the records handed over since
pub record LogState : Type 0 where
  pub forced : List ℕ
  pub handed : List ℕ

-- a log of these bytes, all of them forced
abbrev pub fresh_log : List ℕ → LogState
fresh_log bytes = record { forced = bytes; handed = [] }

abbrev pub log_reads : LogState → List ℕ
log_reads s = s.forced ++ s.handed

-- what is left where the first `keep` records that are not forced outlive a crash, and `torn` bytes of the next
abbrev pub crashed_log : (keep torn : ℕ) → LogState → List ℕ
crashed_log keep torn s = s.forced ++ torn_records keep torn s.handed

-- what a crash may leave: the forced bytes, and the first few of the bytes behind them
abbrev pub MayLeave : LogState → List ℕ → Type 0
MayLeave s c = (n : ℕ) × (c ≡ s.forced ++ take n s.handed)

abbrev pub after_log_call : LogState → LogCall → LogState
after_log_call s (Append run) = record { forced = s.forced; handed = s.handed ++ run.items }
after_log_call s Force = record { forced = log_reads s; handed = [] }
after_log_call s (Cut len) = record { forced = take len (log_reads s); handed = [] }
after_log_call s (Replace run) = fresh_log run.items

abbrev pub after_log_calls : LogState → List LogCall → LogState
after_log_calls s [] = s
after_log_calls s (call ∷ calls) = after_log_calls (after_log_call s call) calls

-- a log of these bytes, after these calls
abbrev pub log_after : List ℕ → List LogCall → LogState
log_after bytes calls = after_log_calls (fresh_log bytes) calls

-- what a crash may have left at some moment from t on: after k of the calls
abbrev pub LogSince : List ℕ → List LogCall → ℕ → List ℕ → Type 0
LogSince bytes calls t c = (k : ℕ) × (t ≤ k) × (k ≤ length calls) × MayLeave (log_after bytes (take k calls)) c

-- the laws of a log device
pub log_seen : (s : LogState) → MayLeave s (log_reads s)
log_seen s = (
  length s.handed,
  ap (λ (l : List ℕ). s.forced ++ l) (sym (take-length s.handed)),
)

pub log_count : (bytes : List ℕ) (calls : List LogCall) (t : ℕ) (c : List ℕ) → t ≤ length calls
    → MayLeave (log_after bytes calls) c → LogSince bytes calls t c
log_count bytes calls t c le now = (
  length calls,
  le,
  omega arith,
  subst (λ (cs : List LogCall). MayLeave (log_after bytes cs) c) (sym (take-length calls)) now,
)

pub log_only : (bytes : List ℕ) (calls : List LogCall) (c : List ℕ) → LogSince bytes calls (length calls) c
    → MayLeave (log_after bytes calls) c
log_only bytes calls c since =
    let here : since.0 ≡ length calls = omega (arith, since.1, since.2) in
    subst (λ (cs : List LogCall). MayLeave (log_after bytes cs) c)
    (ap (λ (k : ℕ). take k calls) here ∙ take-length calls) since.3

-- the laws of a page device
pub if_yes : (p q : ℕ) (a b : List ℕ) → p ≡ q → (if p == q then a else b) ≡ a
if_yes p q a b is = grind (arith, nat_tests)

pub if_no : (p q : ℕ) (a b : List ℕ) → p ≢ q → (if p == q then a else b) ≡ b
if_no p q a b other = grind (arith, nat_tests)

newest_was : (ws : List (ℕ × List ℕ)) (page : ℕ) (image : List ℕ) → (newest_image ws page image ≡ image)
    ⊎ WasWritten ws page (newest_image ws page image)
newest_was [] page image = inl refl
newest_was (w ∷ ws) page image = elim (cases_eq page w.0) [
  | inl same ↦ inr (inl (same, if_yes page w.0 w.1 (newest_image ws page image) same))
  | inr other ↦
      let is = if_no page w.0 w.1 (newest_image ws page image) other in
      ⊎_elim (λ e. inl (is ∙ e)) (λ was. inr (inr (subst (WasWritten ws page) (sym is) was))) (newest_was ws page image)
]

pub pages_seen : (s : PageState) (page : ℕ) → MayBe s page (reads s page)
pages_seen s page = newest_was s.since page (s.synced page)

pub pages_count : (images : List (List ℕ)) (calls : List PageCall) (t : ℕ) (c : Images) → t ≤ length calls
    → Leaves (MayBe (pages_after images calls)) c → PagesSince images calls t c
pages_count images calls t c le now = (
  length calls,
  le,
  omega arith,
  subst (λ (cs : List PageCall). Leaves (MayBe (pages_after images cs)) c) (sym (take-length calls)) now,
)

pub pages_only : (images : List (List ℕ)) (calls : List PageCall) (c : Images)
    → PagesSince images calls (length calls) c → Leaves (MayBe (pages_after images calls)) c
pages_only images calls c since =
    let here : since.0 ≡ length calls = omega (arith, since.1, since.2) in
    subst (λ (cs : List PageCall). Leaves (MayBe (pages_after images cs)) c)
    (ap (λ (k : ℕ). take k calls) here ∙ take-length calls) since.3
