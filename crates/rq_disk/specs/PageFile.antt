-- Pages in a file, by what it held at first and its calls since, the newest first.
use Rattle.std.specs.Prelude.{◌≡◌, ◌⊎◌, ◌↔◌, ℕ, ◌+◌, ◌*◌, ◌≤◌, ◌/◌, ◌%◌, ◌^◌, ◌==◌, if◌then◌else◌, List, [], ◌∷◌, length, drop, refl, ⊤, Bool, true, false, ◌&&◌}
use Rattle.std.proofs.Common.{inl, inr, sym, subst}
use Rattle.std.proofs.lemmas.Bool.{cases_eq}
use Rattle.rq_disk.specs.Device.{Images, Leaves, PageAsk}
use Rattle.rq_disk.specs.FileCalls.{FileCall, HasErred, has_failed, after_sync, after_sync_now}
use Rattle.rq_disk.specs.FileCalls.FileCall.{Gave, Denied, Took, Tried, Cut, Uncut, Replaced, Unreplaced, Synced, Missed}
use Rattle.rq_disk.specs.Memory.{if_yes, if_no}

-- The page that begins at a place. A place where none begins counts as a page that no device has.
abbrev pub page_at : ℕ → ℕ
page_at at = if at % 4096 == 0 then at / 4096 else 2 ^ 64

-- these bytes from there on are one page
abbrev pub is_page : ℕ → List ℕ → Bool
is_page at bytes = (at % 4096 == 0) && (length bytes == 4096)

-- each read and each write was of one page, one that failed too, and nothing was cut or replaced
abbrev pub are_whole : List FileCall → Bool
are_whole [] = true
are_whole (Gave at bytes ∷ calls) = is_page at bytes && are_whole calls
are_whole (Denied at ∷ calls) = (at % 4096 == 0) && are_whole calls
are_whole (Took at bytes ∷ calls) = is_page at bytes && are_whole calls
are_whole (Tried at bytes ∷ calls) = is_page at bytes && are_whole calls
are_whole (Cut len ∷ calls) = false
are_whole (Uncut len ∷ calls) = false
are_whole (Replaced bytes ∷ calls) = false
are_whole (Unreplaced bytes ∷ calls) = false
are_whole (Synced ∷ calls) = are_whole calls
are_whole (Missed ∷ calls) = are_whole calls

-- the image of each page that was written last
abbrev pub images_now : Images → List FileCall → Images
images_now held [] = held
images_now held (Gave at bytes ∷ calls) = images_now held calls
images_now held (Denied at ∷ calls) = images_now held calls
images_now held (Took at bytes ∷ calls) = λ p. if p == page_at at then bytes else images_now held calls p
images_now held (Tried at bytes ∷ calls) = images_now held calls
images_now held (Cut len ∷ calls) = images_now held calls
images_now held (Uncut len ∷ calls) = images_now held calls
images_now held (Replaced bytes ∷ calls) = images_now held calls
images_now held (Unreplaced bytes ∷ calls) = images_now held calls
images_now held (Synced ∷ calls) = images_now held calls
images_now held (Missed ∷ calls) = images_now held calls

-- What a crash may leave of a page: its image at the last sync, or any that was written since, or was to be. A sync behind
-- a write or a sync that failed is none.
abbrev pub page_may_be : Images → List FileCall → ℕ → List ℕ → Type 0
page_may_be held [] p c = c ≡ held p
page_may_be held (Gave at bytes ∷ calls) p c = page_may_be held calls p c
page_may_be held (Denied at ∷ calls) p c = page_may_be held calls p c
page_may_be held (Took at bytes ∷ calls) p c = page_may_be held calls p c ⊎ ((p ≡ page_at at) × (c ≡ bytes))
page_may_be held (Tried at bytes ∷ calls) p c = page_may_be held calls p c ⊎ ((p ≡ page_at at) × (c ≡ bytes))
page_may_be held (Cut len ∷ calls) p c = page_may_be held calls p c
page_may_be held (Uncut len ∷ calls) p c = page_may_be held calls p c
page_may_be held (Replaced bytes ∷ calls) p c = page_may_be held calls p c
page_may_be held (Unreplaced bytes ∷ calls) p c = page_may_be held calls p c
page_may_be held (Synced ∷ calls) p c =
    after_sync (has_failed calls) (page_may_be held calls p c) (c ≡ images_now held calls p)
page_may_be held (Missed ∷ calls) p c = page_may_be held calls p c

-- the calls before the last sync that made all durable; none where there was no such sync
abbrev pub before_sync : List FileCall → List FileCall
before_sync [] = []
before_sync (Gave at bytes ∷ calls) = before_sync calls
before_sync (Denied at ∷ calls) = before_sync calls
before_sync (Took at bytes ∷ calls) = before_sync calls
before_sync (Tried at bytes ∷ calls) = before_sync calls
before_sync (Cut len ∷ calls) = before_sync calls
before_sync (Uncut len ∷ calls) = before_sync calls
before_sync (Replaced bytes ∷ calls) = before_sync calls
before_sync (Unreplaced bytes ∷ calls) = before_sync calls
before_sync (Synced ∷ calls) = if has_failed calls then before_sync calls else calls
before_sync (Missed ∷ calls) = before_sync calls

-- since that sync this image was written to this page, or was to be
abbrev pub WasWrittenSince : List FileCall → ℕ → List ℕ → Type 0
WasWrittenSince [] p c = ⊥
WasWrittenSince (Gave at bytes ∷ calls) p c = WasWrittenSince calls p c
WasWrittenSince (Denied at ∷ calls) p c = WasWrittenSince calls p c
WasWrittenSince (Took at bytes ∷ calls) p c = ((p ≡ page_at at) × (c ≡ bytes)) ⊎ WasWrittenSince calls p c
WasWrittenSince (Tried at bytes ∷ calls) p c = ((p ≡ page_at at) × (c ≡ bytes)) ⊎ WasWrittenSince calls p c
WasWrittenSince (Cut len ∷ calls) p c = WasWrittenSince calls p c
WasWrittenSince (Uncut len ∷ calls) p c = WasWrittenSince calls p c
WasWrittenSince (Replaced bytes ∷ calls) p c = WasWrittenSince calls p c
WasWrittenSince (Unreplaced bytes ∷ calls) p c = WasWrittenSince calls p c
WasWrittenSince (Synced ∷ calls) p c = after_sync (has_failed calls) (WasWrittenSince calls p c) ⊥
WasWrittenSince (Missed ∷ calls) p c = WasWrittenSince calls p c

-- A crash may leave of a page its image at the last sync that made all durable. It may leave each one that was written since,
-- or was to be. It leaves nothing else.
abbrev pub PageFilesLeave : Type 0
PageFilesLeave =
    (held : Images) (calls : List FileCall) (p : ℕ) (c : List ℕ) → page_may_be held calls p c
    ↔ ((c ≡ images_now held (before_sync calls) p) ⊎ WasWrittenSince calls p c)

-- each read gave the image that was written last
abbrev pub PagesAgree : Images → List FileCall → Type 0
PagesAgree held [] = ⊤
PagesAgree held (Gave at bytes ∷ calls) = (bytes ≡ images_now held calls (page_at at)) × PagesAgree held calls
PagesAgree held (Denied at ∷ calls) = PagesAgree held calls
PagesAgree held (Took at bytes ∷ calls) = PagesAgree held calls
PagesAgree held (Tried at bytes ∷ calls) = PagesAgree held calls
PagesAgree held (Cut len ∷ calls) = PagesAgree held calls
PagesAgree held (Uncut len ∷ calls) = PagesAgree held calls
PagesAgree held (Replaced bytes ∷ calls) = PagesAgree held calls
PagesAgree held (Unreplaced bytes ∷ calls) = PagesAgree held calls
PagesAgree held (Synced ∷ calls) = PagesAgree held calls
PagesAgree held (Missed ∷ calls) = PagesAgree held calls

-- what a crash may have left at some moment from t on: before the newest k of the calls
abbrev pub PagesLeftSince : Images → List FileCall → ℕ → Images → Type 0
PagesLeftSince held calls t c = (k : ℕ) × (k + t ≤ length calls) × Leaves (page_may_be held (drop k calls)) c

-- Why such a file's device of so many pages may err. There is no such page, it is over, or its own call of the file failed.
abbrev pub PageErred : ℕ → PageAsk → (old new : List FileCall) → Type 0
PageErred count (PageAsk.Reads page) old new =
    ((count ≤ page) × (new ≡ old)) ⊎ HasErred (Denied (page * 4096)) old new
PageErred count (PageAsk.Writes page image) old new =
    ((count ≤ page) × (new ≡ old)) ⊎ HasErred (Tried (page * 4096) image) old new
PageErred count PageAsk.Syncs old new = HasErred Missed old new

-- a crash may leave what was written last
pub page_seen : (held : Images) (calls : List FileCall) (p : ℕ) → page_may_be held calls p (images_now held calls p)
page_seen held [] p = refl
page_seen held (Gave at bytes ∷ calls) p = page_seen held calls p
page_seen held (Denied at ∷ calls) p = page_seen held calls p
page_seen held (Took at bytes ∷ calls) p = elim (cases_eq p (page_at at)) [
  | inl same ↦ inr (same, if_yes p (page_at at) bytes (images_now held calls p) same)
  | inr other ↦
      let is = if_no p (page_at at) bytes (images_now held calls p) other in
      inl (subst (page_may_be held calls p) (sym is) (page_seen held calls p))
]
page_seen held (Tried at bytes ∷ calls) p = inl (page_seen held calls p)
page_seen held (Cut len ∷ calls) p = page_seen held calls p
page_seen held (Uncut len ∷ calls) p = page_seen held calls p
page_seen held (Replaced bytes ∷ calls) p = page_seen held calls p
page_seen held (Unreplaced bytes ∷ calls) p = page_seen held calls p
page_seen held (Synced ∷ calls) p =
    after_sync_now (has_failed calls) (page_may_be held calls p (images_now held calls p))
    (images_now held calls p ≡ images_now held calls p) (page_seen held calls p) refl
page_seen held (Missed ∷ calls) p = page_seen held calls p
