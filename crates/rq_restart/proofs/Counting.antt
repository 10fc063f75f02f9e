-- What waits of each sender, and what each sender sent and how each client was marked, where nothing is open: as the slots tell.
use Rattle.std.proofs.Common.{◌≡◌, ℕ, zero, suc, ◌+◌, ◌-◌, ◌/◌, ◌%◌, ◌<◌, ◌≤◌, List, [], ◌∷◌, length, map, get_or, refl, sym, ◌∙◌, ap, subst, Some, inl, inr, arith}
use Rattle.std.proofs.lemmas.Bool.{cases_lt, cases_eq, le-ltb, lt-ltb}
use Rattle.std.specs.Prelude.{slice_index, slice_set}
use Rattle.std.proofs.lemmas.List.{length-set, get_or-set_same, get_or-set_other, length-map, get_or-map, get_or_append_left, get_or-append_right, ext_get_or}
use Rattle.rq_model.specs.Tests.{below}
use Rattle.rq_groups.specs.Waiting.{waits, more_waiting}
use Rattle.rq_groups.proofs.Waits.{length-more_waiting, waits-more_waiting_same, waits-more_waiting_other}
use Rattle.rq_page.specs.declared.layout.PageKind.TheVariants as kind
use Rattle.rq_page.specs.Clients.{client_in}
use Rattle.rq_page.specs.Sizes.{Sizes, client_count, client_slot_at, page_count, sender_count, tags_from, directory_at}
use Rattle.rq_page.specs.Directories.{directory_in}
use Rattle.rq_page.specs.Slots.{Slot, held_in, held_for}
use Rattle.rq_page.specs.Slots.Slot.{Free, Used, Sender, Client}
use Rattle.rq_page.specs.Formatted.{count_in, count_for}
use Rattle.rq_page.proofs.Addresses.{clients_have_slots, senders_have_slots, kind_directory, kind_tags}
use Rattle.rq_views.specs.Stored.{slot_at, slots_in}
use Rattle.rq_pool.proofs.Slots.{slots_here}
use Rattle.rq_groups.specs.Sent.{SentBy, sent_count, with_last}
use Rattle.rq_store.specs.Opening.{IsCounted, messages_told, place_slot, sent_told, sent_in_slots, tag_told}
use Rattle.rq_store.specs.Sends.{place_count}
use Rattle.rq_store.specs.Fitting.{image_in}
use Rattle.rq_store.proofs.Opening.{length_below}
use Rattle.rq_restart.specs.Restarting.{AreTold}
use Rattle.rq_restart.specs.Tables.{AreSentTo, AreWaitingTo, IsToldTo}

get_or-below : (n i : ℕ) → i < n → get_or (below n) i 0 ≡ i
get_or-below zero i lt = absurd (omega (arith, lt))
get_or-below (suc n) i lt = elim (cases_lt i n) [
  | inl front ↦ get_or_append_left (below n) (n ∷ []) 0 i (let a = length_below n in omega (arith, a, front)) ∙ get_or-below n i front
  | inr end ↦
      let same : i ≡ n = omega (arith, lt, end) in
      let none : i - n ≡ 0 = omega (arith, same) in
      get_or-append_right (below n) (n ∷ []) n i 0 (length_below n) end ∙ ap (λ k. get_or (n ∷ []) k 0) none ∙ sym same
]

-- one sender more
pub one_counted : (told : ℕ → ℕ) (n count : ℕ) (ws : List ℕ) → n < length ws → count ≡ told n → IsToldTo told n ws → IsToldTo told (n + 1) (more_waiting n count ws)
one_counted told n count ws here same c = record {
  told_so = λ s lt. elim (cases_eq s n) [
    | inl e ↦
        let was = c.rest n (omega arith) in
        let now = waits-more_waiting_same n count ws here in
        ap (waits (more_waiting n count ws)) e ∙ (let sum : waits (more_waiting n count ws) n ≡ told n = omega (arith, was, now, same) in sum) ∙ ap told (sym e)
    | inr other ↦ waits-more_waiting_other n count ws s other ∙ c.told_so s (omega (arith, lt, other))
  ];
  rest = λ s high. waits-more_waiting_other n count ws s (λ e. omega (arith, e, high)) ∙ c.rest s (omega (arith, high));
}

-- one sender more is told of
pub one_told : (told : ℕ → ℕ) (n count : ℕ) (ws : List ℕ) → n < length ws → count ≡ told n → IsToldTo told n ws → IsToldTo told (n + 1) (slice_set ws n count)
one_told told n count ws here same c = record {
  told_so = λ s lt. elim (cases_eq s n) [
    | inl e ↦ ap (waits (slice_set ws n count)) e ∙ get_or-set_same ws n count 0 here ∙ same ∙ ap told (sym e)
    | inr other ↦ get_or-set_other ws n s count 0 other ∙ c.told_so s (omega (arith, lt, other))
  ];
  rest = λ s high. get_or-set_other ws n s count 0 (λ e. omega (arith, e, high)) ∙ c.rest s (omega (arith, high));
}

-- then every sender is
pub all_counted : (told : ℕ → ℕ) (n : ℕ) (ws : List ℕ) → length ws ≡ n → IsToldTo told n ws → ws ≡ map told (below n)
all_counted told n ws count c =
    let k : length (map told (below n)) ≡ n = length-map (below n) told ∙ length_below n in
    ext_get_or 0 ws (map told (below n)) (count ∙ sym k)
    (λ i lt.
    let low : i < n = omega (arith, lt, count) in
    let there : i < length (below n) = (let a = length_below n in omega (arith, a, low)) in
    c.told_so i low ∙ sym (get_or-map told (below n) i 0 0 there ∙ ap told (get_or-below n i low)))

-- no sender's directory slot tells of more messages than the number that its page is within
sent_within : (z : Sizes) (n page : ℕ) (bytes : List ℕ) → 1 ≤ page → page ≤ z.directory → count_in z page bytes ≤ n → sent_told (held_for (Some kind.Directory) bytes) ≤ n
unfolding directory_in
sent_within z n page bytes low high h =
    subst (λ k. count_for k bytes ≤ n) (kind_directory z page low high) h

-- nor a client's slot of more marks
marks_within : (z : Sizes) (n page : ℕ) (bytes : List ℕ) → tags_from z ≤ page → page < page_count z → count_in z page bytes ≤ n → sent_told (held_for (Some kind.Tags) bytes) ≤ n
unfolding client_in
marks_within z n page bytes low high h =
    subst (λ k. count_for k bytes ≤ n) (kind_tags z page low high) h

-- the slot at the place of a sender, and at that of a client
pub sender_place : (z : Sizes) (s : ℕ) → s < sender_count z → place_slot z s ≡ directory_at s
sender_place z s lt = rw (lt-ltb s (sender_count z) lt) refl

pub client_place : (z : Sizes) (c : ℕ) → place_slot z (sender_count z + c) ≡ client_slot_at z c
client_place z c = rw (le-ltb (sender_count z + c) (sender_count z) (omega arith)) (let e : sender_count z + c - sender_count z ≡ c = omega arith in ap (client_slot_at z) e)

-- those that wait were sent
waits_were_sent : (x : Slot) → messages_told x ≤ sent_told x
waits_were_sent Free = omega arith
waits_were_sent (Used c) = omega arith
waits_were_sent (Sender s d) = omega arith
waits_were_sent (Client k) = omega arith

module _ (z : Sizes) (images : List (List ℕ)) where
  abbrev directory_of : ℕ → Slot
  directory_of s = slots_in z images (directory_at s)

  -- how many messages wait of a sender
  abbrev pub told : ℕ → ℕ
  told s = messages_told (directory_of s)

  -- how many a sender sent, or how often a client was marked, and the last one's tag, by place
  abbrev pub told_sent : ℕ → ℕ
  told_sent i = sent_told (slots_in z images (place_slot z i))

  abbrev pub told_tag : ℕ → ℕ
  told_tag i = tag_told (slots_in z images (place_slot z i))

  -- a slot's count is at most a number that its page is within
  pub sender_within : (n s : ℕ) → s < sender_count z → IsCounted z n (directory_at s / 16) (image_in images (directory_at s / 16)) → sent_told (directory_of s) ≤ n
  sender_within n s lt counted =
      let place = senders_have_slots z s lt in
      let a : ℕ = directory_at s in
      let is : slots_in z images a ≡ held_in z (a / 16) (slot_at images a) = slots_here z images a place.2 in
      let on : held_in z (a / 16) (slot_at images a) ≡ held_for (Some kind.Directory) (slot_at images a) = ap (λ k. held_for k (slot_at images a)) (kind_directory z (a / 16) place.0 place.1) in
      subst (λ (x : Slot). sent_told x ≤ n) (sym (is ∙ on)) (sent_within z n (a / 16) (slot_at images a) place.0 place.1 (counted.slots (a % 16) place.2 (omega arith)))

  pub client_within : (n c : ℕ) → c < client_count z → IsCounted z n (client_slot_at z c / 16) (image_in images (client_slot_at z c / 16)) → sent_told (slots_in z images (client_slot_at z c)) ≤ n
  client_within n c lt counted =
      let place = clients_have_slots z c lt in
      let a : ℕ = client_slot_at z c in
      let is : slots_in z images a ≡ held_in z (a / 16) (slot_at images a) = slots_here z images a place.2 in
      let on : held_in z (a / 16) (slot_at images a) ≡ held_for (Some kind.Tags) (slot_at images a) = ap (λ k. held_for k (slot_at images a)) (kind_tags z (a / 16) place.0 place.1) in
      subst (λ (x : Slot). sent_told x ≤ n) (sym (is ∙ on)) (marks_within z n (a / 16) (slot_at images a) place.0 place.1 (counted.slots (a % 16) place.2 (omega arith)))

  -- what the slots tell is told of each sender and client, and within the records of the log
  pub are_told : (n : ℕ) (ws : List ℕ) (sent : SentBy) → AreWaitingTo z images (sender_count z) ws → AreSentTo z images (place_count z) sent → ((i : ℕ) → sent_count sent i ≤ n) → AreTold z images n ws sent
  are_told n ws sent waiting are few = record {
    told = all_counted told (sender_count z) ws waiting.senders waiting.counted;
    senders = waiting.senders;
    few = λ s. elim (cases_lt s (sender_count z)) [
      | inl lt ↦
          let a = waiting.counted.told_so s lt in
          let b = waits_were_sent (directory_of s) in
          let c : told_sent s ≡ sent_told (directory_of s) = ap (λ at. sent_told (slots_in z images at)) (sender_place z s lt) in
          let d = are.numbers.told_so s (omega (arith, lt)) in
          let e = few s in
          omega (arith, a, b, c, d, e)
      | inr past ↦ (let none = waiting.counted.rest s past in omega (arith, none))
    ];
    told_sent = both sent.counts sent.tags (all_counted told_sent (place_count z) sent.counts are.counts are.numbers) (all_counted told_tag (place_count z) sent.tags are.tags are.last);
    counts = are.counts;
    tags = are.tags;
    few_sent = few;
  } where
    both : (xs ys : List ℕ) → xs ≡ (sent_in_slots z images).counts → ys ≡ (sent_in_slots z images).tags → ◌≡◌ {A = SentBy} (record { counts = xs; tags = ys }) (sent_in_slots z images)
    both xs ys a b = ap (λ (l : List ℕ). let x : SentBy = record { counts = l; tags = ys } in x) a ∙ ap (λ (l : List ℕ). let x : SentBy = record { counts = (sent_in_slots z images).counts; tags = l } in x) b

  -- one sender's messages more
  pub one_more_waiting : (n count : ℕ) (ws : List ℕ) → n < sender_count z → count ≡ told n → AreWaitingTo z images n ws → AreWaitingTo z images (n + 1) (more_waiting n count ws)
  one_more_waiting n count ws below a k =
      let l = k.senders in
      record {
        senders = length-more_waiting n count ws ∙ k.senders;
        counted = one_counted told n count ws (omega (arith, below, l)) a k.counted;
      }

  -- one place more
  pub one_more_sent : (n number tag : ℕ) (sent : SentBy) → n < place_count z → number ≡ told_sent n → tag ≡ told_tag n → AreSentTo z images n sent → AreSentTo z images (n + 1) (with_last n number tag sent)
  one_more_sent n number tag sent below b d k =
      let m = k.counts in
      let o = k.tags in
      record {
        counts = length-set sent.counts n number ∙ k.counts;
        tags = length-set sent.tags n tag ∙ k.tags;
        numbers = one_told told_sent n number sent.counts (omega (arith, below, m)) b k.numbers;
        last = one_told told_tag n tag sent.tags (omega (arith, below, o)) d k.last;
      }

-- of one place more no more is told
pub few_more : (records n number tag : ℕ) (sent : SentBy) → n < length sent.counts → number ≤ records → ((i : ℕ) → sent_count sent i ≤ records) → (i : ℕ) → sent_count (with_last n number tag sent) i ≤ records
few_more records n number tag sent here low few i = elim (cases_eq i n) [
  | inl e ↦ (let is : slice_index (slice_set sent.counts n number) i ≡ number = ap (slice_index (slice_set sent.counts n number)) e ∙ get_or-set_same sent.counts n number 0 here in omega (arith, is, low))
  | inr other ↦ (let is : slice_index (slice_set sent.counts n number) i ≡ slice_index sent.counts i = get_or-set_other sent.counts n i number 0 other in let k = few i in omega (arith, is, k))
]
