-- Tables that are filled from slots, the page of each slot being read for it.
use Rattle.std.proofs.Common.{◌≡◌, ℕ, zero, suc, ◌+◌, ◌-◌, ◌/◌, ◌%◌, ◌<◌, ◌≤◌, nat_lt, cond, List, Result, Err, ◌⊎◌, ⊎_elim, refl, sym, ◌∙◌, ap, subst, inl, inr, arith}
use Rattle.std.proofs.lemmas.Bool.{cases_eq, cases_lt, false≢true}
use Rattle.rq_model.specs.declared.refusal.Refusal.{Refusal}
use Rattle.rq_model.specs.declared.refusal.Refusal.TheVariants as why
use Rattle.rq_model.specs.declared.refusal.Damage.TheVariants as damage
use Rattle.rq_disk.specs.declared.device.PageDevice.{Ghosts}
use Rattle.rq_page.specs.Pages.{slot_of}
use Rattle.rq_page.specs.Sizes.{Sizes, client_slot_at, directory_at, page_count, sender_count, tags_from}
use Rattle.rq_page.specs.Slots.{held_in}
use Rattle.rq_page.specs.Slots.Slot.{Free}
use Rattle.rq_views.specs.Stored.{slots_in}
use Rattle.rq_pool.specs.Pooled.{Pooled, image_at}
use Rattle.rq_pool.specs.Fetching.{Fetches, IsAtHand, IsReadAsStored, MayHaveRead}
use Rattle.rq_pool.proofs.Fetched.{stored_after, stored_before, stored_images}
use Rattle.rq_groups.specs.Sent.{SentBy}
use Rattle.rq_store.specs.Fitting.{image_in}
use Rattle.rq_store.specs.Opening.{IsCounted, messages_told, place_slot, sent_told, tag_told}
use Rattle.rq_restart.specs.Repeating.{ArePagesCounted, paged}
use Rattle.rq_restart.specs.Tables.{AreSentTo, AreWaitingTo, IsToldTo, NotTabled}
use Rattle.rq_restart.specs.Undoing.{IsOfReads}
use Rattle.rq_restart.proofs.Counting.{client_place, sender_place}

-- what is told of the first n is so of what tells the same of these
told_same : (told now : ℕ → ℕ) (n : ℕ) (numbers : List ℕ) → ((i : ℕ) → i < n → now i ≡ told i) → IsToldTo told n numbers → IsToldTo now n numbers
told_same told now n numbers same t = record { told_so = λ i lt. t.told_so i lt ∙ sym (same i lt); rest = t.rest }

module _ (z : Sizes) where
  -- a slot tells what it told where its page has the image that it had
  same_slot : (old new : List (List ℕ)) (a : ℕ) → image_at new (a / 16) ≡ image_at old (a / 16) → slots_in z new a ≡ slots_in z old a
  same_slot old new a same = ap (λ image. cond (nat_lt 0 (a % 16)) (held_in z (a / 16) (slot_of (a % 16) image)) Free) same

  -- the page of a place
  abbrev pub page_of : ℕ → ℕ
  page_of i = place_slot z i / 16

  page_of_sender : (s : ℕ) → s < sender_count z → page_of s ≡ 1 + s / 15
  page_of_sender s lt = ap (λ a. a / 16) (sender_place z s lt) ∙ (let e : directory_at s / 16 ≡ 1 + s / 15 = omega arith in e)

  page_of_client : (c : ℕ) → page_of (sender_count z + c) ≡ tags_from z + c / 15
  page_of_client c = ap (λ a. a / 16) (client_place z c) ∙ (let e : client_slot_at z c / 16 ≡ tags_from z + c / 15 = omega arith in e)

  page_behind : (i : ℕ) → sender_count z ≤ i → page_of i ≡ tags_from z + (i - sender_count z) / 15
  page_behind i le = subst (λ (k : ℕ). page_of k ≡ tags_from z + (i - sender_count z) / 15) (let e : sender_count z + (i - sender_count z) ≡ i = omega (arith, le) in e) (page_of_client (i - sender_count z))

  -- places rise with their pages
  rising : (i j : ℕ) → i ≤ j → page_of i ≤ page_of j
  rising i j le = elim (cases_lt i (sender_count z)) [
    | inl low ↦
        let a = page_of_sender i low in
        elim (cases_lt j (sender_count z)) [
          | inl both ↦ (let b = page_of_sender j both in omega (arith, a, b, le))
          | inr high ↦ (let b = page_behind j high in omega (arith, a, b, low))
        ]
    | inr high ↦ (let a = page_behind i high in let b = page_behind j (omega (arith, high, le)) in omega (arith, a, b, le))
  ]

  module _ {P : Type 0} where
    -- where the page of a place is that of the one before, it is at hand
    abbrev pub IsNextAtHand : Pooled P → ℕ → Type 0
    IsNextAtHand pages n = (m : ℕ) → suc m ≡ n → page_of m ≡ page_of n → IsAtHand pages (page_of n)

    pub next_at_hand : (pages : Pooled P) (n k : ℕ) → k ≡ n + 1 → IsAtHand pages (page_of n) → IsNextAtHand pages k
    next_at_hand pages n k next hand m is same = subst (IsAtHand pages) (ap page_of (let e : n ≡ m = omega (arith, next, is) in e) ∙ same) hand

    -- no client's slot is on the page of a sender's
    pub clients_begin : (pages : Pooled P) → IsNextAtHand pages (sender_count z)
    clients_begin pages m is same =
        let a = page_of_sender m (omega (arith, is)) in
        let b = page_behind (sender_count z) (omega arith) in
        absurd (omega (arith, a, b, is, same))

    -- what was told before tells the same once a page is read
    pub told_stays : {X : Type 0} (g : Ghosts P) (n : ℕ) (r : Result X Refusal) (old new : Pooled P) → Fetches g (page_of n) old r new → IsNextAtHand old n → (i : ℕ) → i < n → slots_in z new.images (place_slot z i) ≡ slots_in z old.images (place_slot z i)
    told_stays g zero r old new f next i lt = absurd (omega (arith, lt))
    told_stays g (suc m) r old new f next i lt = elim (cases_eq (page_of i) (page_of (suc m))) [
      | inl same ↦
          let low = rising i m (omega (arith, lt)) in
          let high = rising m (suc m) (omega arith) in
          ap (λ (p : Pooled P). slots_in z p.images (place_slot z i)) (f.stood (next m refl (omega (arith, low, high, same)))).1
      | inr off ↦ same_slot old.images new.images (place_slot z i) (f.others (page_of i) off)
    ]

  module _ (old new : List (List ℕ)) (n : ℕ) where
    pub sent_stays : (sent : SentBy) → ((i : ℕ) → i < n → slots_in z new (place_slot z i) ≡ slots_in z old (place_slot z i)) → AreSentTo z old n sent → AreSentTo z new n sent
    sent_stays sent same k = record {
      counts = k.counts;
      tags = k.tags;
      numbers = told_same _ _ n sent.counts (λ i lt. ap sent_told (same i lt)) k.numbers;
      last = told_same _ _ n sent.tags (λ i lt. ap tag_told (same i lt)) k.last;
    }

    pub waiting_stays : (waiting : List ℕ) → ((s : ℕ) → s < n → slots_in z new (directory_at s) ≡ slots_in z old (directory_at s)) → AreWaitingTo z old n waiting → AreWaitingTo z new n waiting
    waiting_stays waiting same k = record { senders = k.senders; counted = told_same _ _ n waiting (λ s lt. ap messages_told (same s lt)) k.counted }

    -- a sender's place is its directory slot
    pub of_senders : n ≤ sender_count z → ((i : ℕ) → i < n → slots_in z new (place_slot z i) ≡ slots_in z old (place_slot z i)) → (s : ℕ) → s < n → slots_in z new (directory_at s) ≡ slots_in z old (directory_at s)
    of_senders few same s lt = subst (λ (a : ℕ). slots_in z new a ≡ slots_in z old a) (sender_place z s (omega (arith, few, lt))) (same s lt)

-- ---- why a table was not filled

module _ {P : Type 0} (g : Ghosts P) (records : ℕ) where
  -- a page was not read
  pub unfetched_tabled : {X : Type 0} (n : ℕ) (e : Refusal) (old new : Pooled P) → 1 ≤ n → n < page_count old.sizes → Fetches {X = X} g n old (Err e) new → NotTabled g records old e new
  unfetched_tabled n why.DiskRead old new low high f = tt
  unfetched_tabled n (why.Damaged (damage.Page m)) old new low high f = (
    subst (λ (q : ℕ). 1 ≤ q) (sym f.refused.0) low,
    subst (λ (q : ℕ). q < page_count old.sizes) (sym f.refused.0) high,
    λ stored counted. ⊎_elim (λ all. false≢true (f.stood (inl (all n low high))).0) (λ h. f.refused.1 h) stored,
  )
  unfetched_tabled n _ old new low high f = absurd f.refused

  -- it has a number beyond the records
  pub beyond_tabled : (n : ℕ) (old new : Pooled P) → 1 ≤ n → n < page_count old.sizes → MayHaveRead g old new → (IsCounted old.sizes records n (paged new n) → ⊥) → NotTabled g records old (why.Damaged (damage.Page n)) new
  beyond_tabled n old new low high read beyond = (low, high, λ stored counted. beyond (subst (λ (i : List (List ℕ)). IsCounted old.sizes records n (image_in i n)) (sym (stored_images g old new read stored)) counted))

  -- some were read before
  pub tabled_then : (e : Refusal) (old mid new : Pooled P) → MayHaveRead g old mid → MayHaveRead g mid new → NotTabled g records mid e new → NotTabled g records old e new
  tabled_then why.DiskRead old mid new one two is = tt
  tabled_then (why.Damaged (damage.Page n)) old mid new one two is = (
    is.0,
    subst (λ (z : Sizes). n < page_count z) (one.kept 0).sizes is.1,
    λ stored counted. is.2 (stored_after g old mid new one stored)
        (subst (λ (z : Sizes). IsCounted z records n (paged mid n)) (sym (one.kept 0).sizes)
        (subst (λ (i : List (List ℕ)). IsCounted old.sizes records n (image_in i n)) (sym (stored_images g old mid one (stored_before g old mid new two stored))) counted)),
  )
  tabled_then _ old mid new one two is = absurd is

  -- so memory was wanting, or a read failed, where none has
  pub tabled_stops : (e : Refusal) (old new : Pooled P) → NotTabled g records old e new → IsReadAsStored g old new → ArePagesCounted old.sizes records (paged old) → (e ≡ why.NoMemory) ⊎ (e ≡ why.DiskRead)
  tabled_stops why.DiskRead old new is stored counted = inr refl
  tabled_stops (why.Damaged (damage.Page n)) old new is stored counted = absurd (is.2 stored (counted n is.0 is.1))
  tabled_stops _ old new is stored counted = absurd is

  pub tabled_reads : (e : Refusal) (old new : Pooled P) → NotTabled g records old e new → IsOfReads e
  tabled_reads why.DiskRead old new is = tt
  tabled_reads (why.Damaged (damage.Page n)) old new is = tt
  tabled_reads _ old new is = absurd is
