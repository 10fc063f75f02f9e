-- Calls of pages in memory, made again after a crash.
use Rattle.std.proofs.Common.{◌≡◌, ◌≢◌, ◌⊎◌, inl, inr, ⊎_elim, ℕ, ◌+◌, ◌<◌, ◌≤◌, List, [], ◌∷◌, ◌++◌, length, take, drop, get_or, refl, sym, ◌∙◌, ap, subst, arith, if◌then◌else◌, ◌==◌, Bool, true, false}
use Rattle.std.proofs.lemmas.Bool.{cases_eq, cases_lt}
use Rattle.std.proofs.lemmas.Bool.Decides.{nat_tests}
use Rattle.std.proofs.lemmas.List.{get_or-set_same, get_or-set_other, length-set, take_more, drop-append-le, take-append-drop, length-take-le, drop_all, drop_more, get_or_past}
use Rattle.std.specs.Prelude.{Box, slice_set, Option, Some, None}
use Rattle.std.specs.declared.alloc.Global.{Global}
use Rattle.rq_disk.specs.Memory.{PageState, newest_image, reads, WasWritten, MayBe, after_page_call, after_page_calls, fresh_pages, pages_after, times_written, reaches, image_after, crashed_page, pages_seen, if_yes, if_no}
use Rattle.rq_disk.specs.Choice.{place_after}
use Rattle.rq_disk.specs.Replay.{AllWrites, StartsFresh, replayed, writes_and, page_writes}
use Rattle.rq_disk.specs.declared.mem_pages.PageCall.{PageCall}
use Rattle.rq_disk.specs.declared.mem_pages.PageCall.TheVariants.{Write, Sync}
use Rattle.rq_disk.proofs.KeptPages.{page_push}

-- how many calls there are up to the last sync
pub writes_push : (calls : List PageCall) (page : ℕ) (kept : Box (List ℕ) Global) → AllWrites calls → AllWrites (calls ++ Write page kept ∷ [])
writes_push [] page kept all = tt
writes_push (Write q image ∷ calls) page kept all = writes_push calls page kept all
writes_push (Sync ∷ calls) page kept all = absurd all

pub fresh_sync : (calls : List PageCall) → StartsFresh (calls ++ Sync ∷ [])
fresh_sync calls s none = ap (λ (t : PageState). t.since) (page_push s calls Sync)

pub fresh_step : (calls : List PageCall) (i : ℕ) (d : PageCall) → i < length calls → get_or calls i d ≡ Sync → StartsFresh (take (i + 1) calls)
fresh_step calls i d lt is = subst StartsFresh (sym (take_more calls i d lt ∙ ap (λ (c : PageCall). take i calls ++ c ∷ []) is)) (fresh_sync (take i calls))

pub writes_step : (calls : List PageCall) (n i : ℕ) (d : PageCall) (page : ℕ) (kept : Box (List ℕ) Global) → i < length calls → n ≤ i → get_or calls i d ≡ Write page kept → AllWrites (drop n (take i calls)) → AllWrites (drop n (take (i + 1) calls))
writes_step calls n i d page kept lt le is all =
    let long : length (take i calls) ≡ i = length-take-le i calls (omega (arith, lt)) in
    let more : drop n (take (i + 1) calls) ≡ drop n (take i calls) ++ Write page kept ∷ [] =
    ap (drop n) (take_more calls i d lt ∙ ap (λ (c : PageCall). take i calls ++ c ∷ []) is) ∙ drop-append-le n (take i calls) (Write page kept ∷ []) (omega (arith, le, long)) in
    subst AllWrites (sym more) (writes_push (drop n (take i calls)) page kept all)

pub writes_none : (calls : List PageCall) (i : ℕ) → i < length calls → AllWrites (drop (i + 1) (take (i + 1) calls))
writes_none calls i lt = subst AllWrites (sym (drop_all (i + 1) (take (i + 1) calls) (omega (arith, length-take-le (i + 1) calls (omega (arith, lt)))))) tt

-- images with each write made are what reads give
pub replayed-set : (images : List (List ℕ)) (calls : List PageCall) (s : PageState) → ((p : ℕ) → p < length images → get_or images p [] ≡ reads s p)
    → (p : ℕ) → p < length images → get_or (replayed images calls) p [] ≡ reads (after_page_calls s calls) p
replayed-set images [] s are p lt = are p lt
replayed-set images (Write page kept ∷ calls) s are p lt =
    replayed-set (slice_set images page kept.value) calls (after_page_call s (Write page kept))
    (λ q small. elim (cases_eq q page) [
      | inl here ↦
          let inside : page < length images = omega (arith, small, here, length-set images page kept.value) in
          ap (λ k. get_or (slice_set images page kept.value) k []) here ∙ get_or-set_same images page kept.value [] inside ∙ sym (if_yes q page kept.value (reads s q) here)
      | inr other ↦ get_or-set_other images page q kept.value [] other ∙ are q (omega (arith, small, length-set images page kept.value)) ∙ sym (if_no q page kept.value (reads s q) other)
    ])
    p (omega (arith, lt, length-set images page kept.value))
replayed-set images (Sync ∷ calls) s are p lt = replayed-set images calls (after_page_call s Sync) are p lt

pub length-replayed : (images : List (List ℕ)) (calls : List PageCall) → length (replayed images calls) ≡ length images
length-replayed images [] = refl
length-replayed images (Write page kept ∷ calls) = length-replayed (slice_set images page kept.value) calls ∙ length-set images page kept.value
length-replayed images (Sync ∷ calls) = length-replayed images calls

-- one call more of those that are made again
pub replayed_step : (images next : List (List ℕ)) (calls : List PageCall) (i : ℕ) (d : PageCall) (page : ℕ) (kept : Box (List ℕ) Global) → i < length calls → get_or calls i d ≡ Write page kept → next ≡ slice_set images page kept.value
    → replayed next (drop (i + 1) calls) ≡ replayed images (drop i calls)
replayed_step images next calls i d page kept lt is put =
    ap (λ (l : List (List ℕ)). replayed l (drop (i + 1) calls)) put ∙ sym (ap (replayed images) (drop_more calls i d lt ∙ ap (λ (c : PageCall). c ∷ drop (i + 1) calls) is))

pub replayed_sync : (images next : List (List ℕ)) (calls : List PageCall) (i : ℕ) (d : PageCall) → i < length calls → get_or calls i d ≡ Sync → next ≡ images → replayed next (drop (i + 1) calls) ≡ replayed images (drop i calls)
replayed_sync images next calls i d lt is same =
    ap (λ (l : List (List ℕ)). replayed l (drop (i + 1) calls)) same ∙ sym (ap (replayed images) (drop_more calls i d lt ∙ ap (λ (c : PageCall). c ∷ drop (i + 1) calls) is))

-- calls in two parts
pub calls-append : (s : PageState) (a b : List PageCall) → after_page_calls s (a ++ b) ≡ after_page_calls (after_page_calls s a) b
calls-append s [] b = refl
calls-append s (c ∷ a) b = calls-append (after_page_call s c) a b

-- writes alone leave the synced images as they are
pub writes_synced : (s : PageState) (calls : List PageCall) → AllWrites calls → after_page_calls s calls ≡ record { synced = s.synced; since = writes_and s.since calls }
writes_synced s [] all = refl
writes_synced s (Write page kept ∷ calls) all = writes_synced (after_page_call s (Write page kept)) calls all
writes_synced s (Sync ∷ calls) all = absurd all

-- one call more
abbrev pub and_call : List (ℕ × List ℕ) → PageCall → List (ℕ × List ℕ)
and_call ws (Write page kept) = (page, kept.value) ∷ ws
and_call ws Sync = ws

writes_and-push : (ws : List (ℕ × List ℕ)) (calls : List PageCall) (call : PageCall) → writes_and ws (calls ++ call ∷ []) ≡ and_call (writes_and ws calls) call
writes_and-push ws [] (Write page kept) = refl
writes_and-push ws [] Sync = refl
writes_and-push ws (Write page kept ∷ calls) call = writes_and-push ((page, kept.value) ∷ ws) calls call
writes_and-push ws (Sync ∷ calls) call = writes_and-push ws calls call

pub writes-step : (calls : List PageCall) (i : ℕ) (d call : PageCall) → i < length calls → get_or calls i d ≡ call → page_writes (take (i + 1) calls) ≡ and_call (page_writes (take i calls)) call
writes-step calls i d call lt is = ap page_writes (take_more calls i d lt ∙ ap (λ (c : PageCall). take i calls ++ c ∷ []) is) ∙ writes_and-push [] (take i calls) call

choose : (b : Bool) (w rest image synced : List ℕ) (P : List ℕ → Type 0) → P w → (rest ≡ synced) ⊎ P rest → image ≡ (if b then w else rest) → (image ≡ synced) ⊎ P image
choose true w rest image synced P here later is = inr (subst P (sym is) here)
choose false w rest image synced P here later is = ⊎_elim (λ e. inl (is ∙ e)) (λ was. inr (subst P (sym is) was)) later

-- an image at a place is one that was written, or the synced one
pub image_at_may : (ws : List (ℕ × List ℕ)) (synced : List ℕ) (page : ℕ) (place : Option ℕ) → (image_after ws synced page place ≡ synced) ⊎ WasWritten ws page (image_after ws synced page place)
image_at_may [] synced page place = inl refl
image_at_may (w ∷ ws) synced page place =
    let later = image_after ws synced page place in
    let now = if reaches place (times_written page ws) then w.1 else later in
    let rest = ⊎_elim (λ e. inl e) (λ was. inr (inr was)) (image_at_may ws synced page place) in
    elim (cases_eq page w.0) [
      | inl same ↦ choose (reaches place (times_written page ws)) w.1 later (image_after (w ∷ ws) synced page place) synced (WasWritten (w ∷ ws) page) (inl (same, refl)) rest (if_yes page w.0 now later same)
      | inr other ↦ ⊎_elim (λ e. inl (if_no page w.0 now later other ∙ e)) (λ was. inr (subst (WasWritten (w ∷ ws) page) (sym (if_no page w.0 now later other)) was)) rest
    ]

-- what is reached, as counted from here
pub reaches-after : (place : Option ℕ) (count : ℕ) → reaches (place_after place count) 0 ≡ reaches place count
reaches-after None count = refl
reaches-after (Some place) count = grind (arith, nat_tests)

pub place_after-one : (place : Option ℕ) (count : ℕ) → place_after (place_after place count) 1 ≡ place_after place (count + 1)
place_after-one None count = refl
place_after-one (Some place) count = ap Some (omega arith)

-- one write more, which reaches its place or not
pub image_step : (ws : List (ℕ × List ℕ)) (page : ℕ) (image : List ℕ) (p : ℕ) (was now base : List ℕ) (place : Option ℕ) (taken : Bool) → was ≡ image_after ws base p place → (p ≡ page → taken ≡ reaches place (times_written p ws))
    → (p ≡ page → now ≡ (if taken then image else was)) → (p ≢ page → now ≡ was) → now ≡ image_after ((page, image) ∷ ws) base p place
image_step ws page image p was now base place taken so_far reached here other = elim (cases_eq p page) [
  | inl same ↦
      here same ∙ ap (λ (b : Bool). if b then image else was) (reached same) ∙ ap (λ (l : List ℕ). if reaches place (times_written p ws) then image else l) so_far
      ∙ sym (if_yes p page (if reaches place (times_written p ws) then image else image_after ws base p place) (image_after ws base p place) same)
  | inr apart ↦
      other apart ∙ so_far ∙ sym (if_no p page (if reaches place (times_written p ws) then image else image_after ws base p place) (image_after ws base p place) apart)
]

nat_yes : (p q a b : ℕ) → p ≡ q → (if p == q then a else b) ≡ a
nat_yes p q a b is = grind (arith, nat_tests)

nat_no : (p q a b : ℕ) → p ≢ q → (if p == q then a else b) ≡ b
nat_no p q a b other = grind (arith, nat_tests)

place_yes : (p q : ℕ) (a b : Option ℕ) → p ≡ q → (if p == q then a else b) ≡ a
place_yes p q a b is = grind (arith, nat_tests)

place_no : (p q : ℕ) (a b : Option ℕ) → p ≢ q → (if p == q then a else b) ≡ b
place_no p q a b other = grind (arith, nat_tests)

pub place_step : (ws : List (ℕ × List ℕ)) (page : ℕ) (image : List ℕ) (p : ℕ) (was now place : Option ℕ) → was ≡ place_after place (times_written p ws) → now ≡ (if p == page then place_after was 1 else was)
    → now ≡ place_after place (times_written p ((page, image) ∷ ws))
place_step ws page image p was now place so_far is = elim (cases_eq p page) [
  | inl same ↦
      is ∙ place_yes p page (place_after was 1) was same ∙ ap (λ (o : Option ℕ). place_after o 1) so_far ∙ place_after-one place (times_written p ws)
      ∙ ap (place_after place) (sym (nat_yes p page (times_written p ws + 1) (times_written p ws) same))
  | inr apart ↦
      is ∙ place_no p page (place_after was 1) was apart ∙ so_far
      ∙ ap (place_after place) (sym (nat_no p page (times_written p ws + 1) (times_written p ws) apart))
]

-- what outlives a crash, so far
pub record Survives (images base : List (List ℕ)) (ws : List (ℕ × List ℕ)) (now first : ℕ → Option ℕ) : Type 0 where
  pub images_are : (p : ℕ) → p < length images → get_or images p [] ≡ image_after ws (get_or base p []) p (first p)
  pub places_are : (p : ℕ) → now p ≡ place_after (first p) (times_written p ws)

module _ (images base : List (List ℕ)) (ws : List (ℕ × List ℕ)) (now first : ℕ → Option ℕ) (so_far : Survives images base ws now first) (page : ℕ) (image : List ℕ) (later : ℕ → Option ℕ) where
  reached : (taken : Bool) → taken ≡ reaches (now page) 0 → (p : ℕ) → p ≡ page → taken ≡ reaches (first p) (times_written p ws)
  reached taken is p same =
      is ∙ ap (λ (o : Option ℕ). reaches o 0) (so_far.places_are page) ∙ reaches-after (first page) (times_written page ws) ∙ ap (λ q. reaches (first q) (times_written q ws)) (sym same)

  pub survive_taken : (next : List (List ℕ)) → next ≡ slice_set images page image → true ≡ reaches (now page) 0 → ((p : ℕ) → later p ≡ (if p == page then place_after (now p) 1 else now p)) → Survives next base ((page, image) ∷ ws) later first
  survive_taken next put is left = record {
    images_are = λ p lt.
        let inside : p < length images = omega (arith, lt, ap length put, length-set images page image) in
        image_step ws page image p (get_or images p []) (get_or next p []) (get_or base p []) (first p) true (so_far.images_are p inside) (reached true is p)
        (λ same. ap (λ (l : List (List ℕ)). get_or l p []) put ∙ ap (λ q. get_or (slice_set images page image) q []) same ∙ get_or-set_same images page image [] (let here : page < length images = omega (arith, inside, same) in here))
        (λ other. ap (λ (l : List (List ℕ)). get_or l p []) put ∙ get_or-set_other images page p image [] other);
    places_are = λ p. place_step ws page image p (now p) (later p) (first p) (so_far.places_are p) (left p);
  }

  pub survive_left : (next : List (List ℕ)) → next ≡ images → false ≡ reaches (now page) 0 → ((p : ℕ) → later p ≡ (if p == page then place_after (now p) 1 else now p)) → Survives next base ((page, image) ∷ ws) later first
  survive_left next same_images is left = record {
    images_are = λ p lt.
        let inside : p < length images = omega (arith, lt, ap length same_images) in
        image_step ws page image p (get_or images p []) (get_or next p []) (get_or base p []) (first p) false (so_far.images_are p inside) (reached false is p)
        (λ same. ap (λ (l : List (List ℕ)). get_or l p []) same_images)
        (λ other. ap (λ (l : List (List ℕ)). get_or l p []) same_images);
    places_are = λ p. place_step ws page image p (now p) (later p) (first p) (so_far.places_are p) (left p);
  }

-- what a crash leaves, made from what pages in memory keep
module _ (first : List (List ℕ)) (calls : List PageCall) (n : ℕ) (fresh : StartsFresh (take n calls)) (writes : AllWrites (drop n calls)) where
  abbrev at_sync : PageState
  at_sync = pages_after first (take n calls)

  crash_state : pages_after first calls ≡ record { synced = at_sync.synced; since = page_writes (drop n calls) }
  crash_state =
      ap (pages_after first) (sym (take-append-drop n calls)) ∙ calls-append (fresh_pages first) (take n calls) (drop n calls) ∙ writes_synced at_sync (drop n calls) writes
      ∙ ap (λ (ws : List (ℕ × List ℕ)). record { synced = at_sync.synced; since = writes_and ws (drop n calls) }) (fresh (fresh_pages first) refl)

  crash_base : (p : ℕ) → p < length first → get_or (replayed first (take n calls)) p [] ≡ at_sync.synced p
  crash_base p lt =
      replayed-set first (take n calls) (fresh_pages first) (λ q small. refl) p lt
      ∙ ap (λ (ws : List (ℕ × List ℕ)). newest_image ws p (at_sync.synced p)) (fresh (fresh_pages first) refl)

  pub crash_pages : (left : List (List ℕ)) (place : ℕ → Option ℕ)
      → ((p : ℕ) → p < length first → get_or left p [] ≡ image_after (page_writes (drop n calls)) (get_or (replayed first (take n calls)) p []) p (place p))
      → (p : ℕ) → p < length first → get_or left p [] ≡ crashed_page (place p) (pages_after first calls) p
  crash_pages left place are p lt =
      are p lt ∙ ap (λ (image : List ℕ). image_after (page_writes (drop n calls)) image p (place p)) (crash_base p lt) ∙ sym (ap (λ (s : PageState). crashed_page (place p) s p) crash_state)

-- each image that is left is one that may be
pub crash_may : (first left newest_images : List (List ℕ)) (s : PageState) (place : ℕ → Option ℕ) → length left ≡ length first → length newest_images ≡ length first
    → ((p : ℕ) → get_or newest_images p [] ≡ reads s p) → ((p : ℕ) → p < length first → get_or left p [] ≡ crashed_page (place p) s p)
    → (p : ℕ) → MayBe s p (get_or left p [])
crash_may first left newest_images s place long same cached are p = ⊎_elim
    (λ (inside : p < length first). subst (MayBe s p) (sym (are p inside)) (image_at_may s.since (s.synced p) p (place p)))
    (λ (past : length first ≤ p). subst (MayBe s p) (sym (cached p) ∙ get_or_past newest_images p [] (omega (arith, past, same)) ∙ sym (get_or_past left p [] (omega (arith, past, long)))) (pages_seen s p))
    (cases_lt p (length first))
