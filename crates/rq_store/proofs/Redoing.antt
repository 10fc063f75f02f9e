-- Going through a log: pages that fit it become those that the whole log leaves.
use Rattle.std.proofs.Common.{◌≡◌, ◌≢◌, ℕ, zero, suc, ◌+◌, ◌-◌, ◌/◌, ◌%◌, ◌<◌, ◌≤◌, List, [], ◌∷◌, length, drop, refl, sym, ◌∙◌, ap, subst, Option, Some, None, inl, inr, nat_lt, arith}
use Rattle.std.proofs.lemmas.Bool.{cases_Bool, cases_eq, cases_lt, cond-true, cond-false, ltb-true, lt-ltb}
use Rattle.rq_model.specs.declared.txn.Txn.{Txn}
use Rattle.rq_model.specs.declared.record.Record.{Record}
use Rattle.rq_model.specs.declared.record.Record.TheVariants as records
use Rattle.rq_model.specs.Bases.{base_lsn}
use Rattle.rq_page.specs.declared.layout.PageKind.{PageKind}
use Rattle.rq_page.specs.declared.layout.PageKind.TheVariants as kind
use Rattle.rq_page.specs.Sizes.{Sizes, page_count, address}
use Rattle.rq_page.specs.Kinds.{kind_of}
use Rattle.rq_page.specs.Pages.{lsn_of, slot_of, IsWritten}
use Rattle.rq_page.specs.Slots.{Slot, held_in, held_for, slot_bytes, IsSlotOf}
use Rattle.rq_page.specs.Slots.Slot.{Free, Used, Sender, Client}
use Rattle.rq_page.proofs.Spellings.{slot_is_spelling}
use Rattle.rq_views.specs.Log.{Slots, put}
use Rattle.rq_views.specs.Legal.{IsLegalLog}
use Rattle.rq_views.specs.Items.{items, layout_of}
use Rattle.rq_views.specs.InStore.{InStore, InStoreOne, IsInPlace, AllStand}
use Rattle.rq_views.specs.Stored.{IsStoreSlot, slots_in, slot_at}
use Rattle.rq_views.proofs.Overlay.{put_at, put_off}
use Rattle.rq_views.proofs.Stands.{slots_stand, page_of_cells, page_of_directory, page_of_tags}
use Rattle.rq_store.specs.Fitting.{left_by, oldest, ToldWrite, told_by, IsOfPage, IsStamp, HoldsPage, HoldsBase, AllHoldBase, FitsLog, image_in}
use Rattle.rq_store.specs.Whole.{BeforesAreSlots}
use Rattle.rq_store.specs.Opening.{FitsPageUpTo, FitsUpTo, Redoes}
use Rattle.rq_store.proofs.Fitting.{oldest_all}
use Rattle.rq_store.proofs.Owing.{address_is}

-- what is so of each end of a log is so of the first records
pub oldest_legal : (z : Sizes) (log : List Record) (n : ℕ) → IsLegalLog (layout_of z) (items z log) → IsLegalLog (layout_of z) (items z (oldest n log))
oldest_legal z log n h = dropped (length log - n) log h where
  dropped : (k : ℕ) (log : List Record) → IsLegalLog (layout_of z) (items z log) → IsLegalLog (layout_of z) (items z (drop k log))
  dropped zero log h = h
  dropped (suc k) [] h = h
  dropped (suc k) (r ∷ log) h = dropped k log h.1

pub oldest_store : (z : Sizes) (log : List Record) (n : ℕ) → InStore z log → InStore z (oldest n log)
oldest_store z log n h = dropped (length log - n) log h where
  dropped : (k : ℕ) (log : List Record) → InStore z log → InStore z (drop k log)
  dropped zero log h = h
  dropped (suc k) [] h = h
  dropped (suc k) (r ∷ log) h = dropped k log h.1

pub oldest_befores : (z : Sizes) (log : List Record) (n : ℕ) → BeforesAreSlots z log → BeforesAreSlots z (oldest n log)
oldest_befores z log n h = dropped (length log - n) log h where
  dropped : (k : ℕ) (log : List Record) → BeforesAreSlots z log → BeforesAreSlots z (drop k log)
  dropped zero log h = h
  dropped (suc k) [] h = h
  dropped (suc k) (r ∷ log) h = dropped k log h.1

-- the slots that a record leaves
slots_untold : (z : Sizes) (r : Record) (log : List Record) (a : ℕ) → told_by r ≡ None → (left_by z (r ∷ log)).slots a ≡ (left_by z log).slots a
slots_untold z (records.PageOp t n page slot before after) log a e = cc
slots_untold z (records.PageUndo t n undone page slot after) log a e = cc
slots_untold z _ log a e = refl

abbrev told_slots : Sizes → ToldWrite → Slots → Slots
told_slots z w q = put q (address w.page w.slot) (held_in z w.page w.after)

slots_told : (z : Sizes) (r : Record) (log : List Record) (a : ℕ) (w : ToldWrite) → told_by r ≡ Some w → (left_by z (r ∷ log)).slots a ≡ told_slots z w (left_by z log).slots a
slots_told z (records.PageOp t n page slot before after) log a w e = let s : record { page = page; slot = slot; after = after } ≡ w = cc in ap (λ (v : ToldWrite). told_slots z v (left_by z log).slots a) s
slots_told z (records.PageUndo t n undone page slot after) log a w e = let s : record { page = page; slot = slot; after = after } ≡ w = cc in ap (λ (v : ToldWrite). told_slots z v (left_by z log).slots a) s
slots_told z _ log a w e = cc

-- and they are slots of the store
told_store : (z : Sizes) (r : Record) (w : ToldWrite) → told_by r ≡ Some w → InStoreOne z r → IsSlotOf z w.page w.slot w.after
told_store z (records.PageOp t n page slot before after) w e h = let s : record { page = page; slot = slot; after = after } ≡ w = cc in subst (λ (v : ToldWrite). IsSlotOf z v.page v.slot v.after) s h
told_store z (records.PageUndo t n undone page slot after) w e h = let s : record { page = page; slot = slot; after = after } ≡ w = cc in subst (λ (v : ToldWrite). IsSlotOf z v.page v.slot v.after) s h
told_store z _ w e h = cc

module _ (z : Sizes) (log : List Record) (k : ℕ) (r : Record) (grows : oldest (k + 1) log ≡ r ∷ oldest k log) (within : k + 1 ≤ length log) (store : InStoreOne z r) where
  abbrev older : List Record
  older = oldest k log

  -- a page that the record doesn't write, or that is newer than it
  stays : (p : ℕ) (image : List ℕ) → FitsPageUpTo z log k p image → ((j : ℕ) → 1 ≤ j → j ≤ 15 → (left_by z (r ∷ older)).slots (address p j) ≡ (left_by z older).slots (address p j)) → FitsPageUpTo z log (k + 1) p image
  stays p image f same = record {
    fits = f.fits;
    caught_up = λ le. elim (cases_lt k (lsn_of image)) [
      | inl newer ↦ let e : lsn_of image ≡ k + 1 = omega (arith, newer, le) in subst (λ n. HoldsPage z p image (oldest n log)) e f.fits.held
      | inr old ↦ subst (λ l. HoldsPage z p image l) (sym grows) (λ j low high. f.caught_up old j low high ∙ sym (same j low high))
    ];
  }

  newer : (p : ℕ) (image : List ℕ) → FitsPageUpTo z log k p image → k + 1 ≤ lsn_of image → FitsPageUpTo z log (k + 1) p image
  newer p image f ge = record {
    fits = f.fits;
    caught_up = λ le. let e : lsn_of image ≡ k + 1 = omega (arith, ge, le) in subst (λ n. HoldsPage z p image (oldest n log)) e f.fits.held;
  }

  other_page : (w : ToldWrite) → told_by r ≡ Some w → (p j : ℕ) → 1 ≤ j → j ≤ 15 → p ≢ w.page → (left_by z (r ∷ older)).slots (address p j) ≡ (left_by z older).slots (address p j)
  other_page w e p j low high ne =
      let is : IsSlotOf z w.page w.slot w.after = told_store z r w e store in
      let a = is.low in let b = is.high in
      slots_told z r older (address p j) w e ∙ put_off (left_by z older).slots (address w.page w.slot) (held_in z w.page w.after) (address p j) (λ s. ne (omega (arith, s, low, high, a, b)))

  -- the page that it writes, where that is older
  written_page : (w : ToldWrite) → told_by r ≡ Some w → (old new : List ℕ) → FitsPageUpTo z log k w.page old → lsn_of old < k + 1 → IsWritten old new w.slot w.after (k + 1) → FitsPageUpTo z log (k + 1) w.page new
  written_page w e old new f lt written = record {
    fits = record {
      slots = slots;
      within = subst (λ n. n ≤ length log) (sym written.lsn) within;
      stamped = subst (λ n. IsStamp w.page (oldest n log)) (sym written.lsn) (subst (λ l. IsStamp w.page l) (sym grows) stamped);
      held = subst (λ n. HoldsPage z w.page new (oldest n log)) (sym written.lsn) now;
    };
    caught_up = λ le. now;
  } where
    is : IsSlotOf z w.page w.slot w.after
    is = told_store z r w e store

    stamped : IsStamp w.page (r ∷ older)
    stamped = subst (λ o. IsOfPage w.page o) (sym e) refl

    slots : (n : ℕ) → 1 ≤ n → n ≤ 15 → IsSlotOf z w.page n (slot_of n new)
    slots n low high = elim (cases_eq n w.slot) [
      | inl same ↦ subst (λ m. IsSlotOf z w.page m (slot_of m new)) (sym same) (subst (λ bytes. IsSlotOf z w.page w.slot bytes) (sym written.slot) is)
      | inr other ↦ subst (λ bytes. IsSlotOf z w.page n bytes) (sym (written.others n low high other)) (f.fits.slots n low high)
    ]

    holds : HoldsPage z w.page new (r ∷ older)
    holds j low high = elim (cases_eq j w.slot) [
      | inl same ↦
          ap (λ m. held_in z w.page (slot_of m new)) same ∙ ap (held_in z w.page) written.slot
          ∙ sym (put_at (left_by z older).slots (address w.page w.slot) (held_in z w.page w.after) (address w.page j) (ap (address w.page) same))
          ∙ sym (slots_told z r older (address w.page j) w e)
      | inr other ↦
          ap (held_in z w.page) (written.others j low high other) ∙ f.caught_up (omega (arith, lt)) j low high
          ∙ sym (put_off (left_by z older).slots (address w.page w.slot) (held_in z w.page w.after) (address w.page j) (λ s. other (omega (arith, s))))
          ∙ sym (slots_told z r older (address w.page j) w e)
    ]

    now : HoldsPage z w.page new (oldest (k + 1) log)
    now = subst (λ l. HoldsPage z w.page new l) (sym grows) holds

  -- going through one more record
  pub redo_one : (old new : ℕ → List ℕ) → Redoes (told_by r) (k + 1) old new → FitsUpTo z old log k → FitsUpTo z new log (k + 1)
  redo_one old new redo h p low high = by (told_by r) refl redo where
    by : (o : Option ToldWrite) → told_by r ≡ o → Redoes o (k + 1) old new → FitsPageUpTo z log (k + 1) p (new p)
    by None e same = subst (λ image. FitsPageUpTo z log (k + 1) p image) (sym (same p)) (stays p (old p) (h p low high) (λ j a b. slots_untold z r older (address p j) e))
    by (Some w) e one = elim (cases_eq p w.page) [
      | inr ne ↦ subst (λ image. FitsPageUpTo z log (k + 1) p image) (sym (one.others p ne)) (stays p (old p) (h p low high) (λ j a b. other_page w e p j a b ne))
      | inl same ↦
          let f : FitsPageUpTo z log k w.page (old w.page) = subst (λ q. FitsPageUpTo z log k q (old q)) same (h p low high) in
          subst (λ q. FitsPageUpTo z log (k + 1) q (new q)) (sym same) (elim (cases_lt (lsn_of (old w.page)) (k + 1)) [
            | inl lt ↦ written_page w e (old w.page) (new w.page) f lt (one.made lt)
            | inr ge ↦ subst (λ image. FitsPageUpTo z log (k + 1) w.page image) (sym (one.kept ge)) (newer w.page (old w.page) f ge)
          ])
    ]

-- behind the newest Base, if pages hold what that stands for
pub redo_base : (z : Sizes) (log : List Record) (image : ℕ → List ℕ) → FitsLog z image log → AllHoldBase z image log → FitsUpTo z image log (base_lsn log)
redo_base z log image f h p low high = record { fits = f.pages p low high; caught_up = h p low high }

-- a newer record leaves that so
pub redo_keeps_base : (z : Sizes) (log : List Record) (o : Option ToldWrite) (lsn : ℕ) (old new : ℕ → List ℕ) → base_lsn log < lsn → Redoes o lsn old new → AllHoldBase z old log → AllHoldBase z new log
redo_keeps_base z log None lsn old new newer same h p low high = subst (HoldsBase z log p) (sym (same p)) (h p low high)
redo_keeps_base z log (Some w) lsn old new newer one h p low high = elim (cases_eq p w.page) [
  | inr ne ↦ subst (HoldsBase z log p) (sym (one.others p ne)) (h p low high)
  | inl same ↦ elim (cases_lt (lsn_of (old w.page)) lsn) [
    | inl lt ↦ λ le. absurd (let at = (one.made lt).lsn in let here = ap (λ q. lsn_of (new q)) same in omega (arith, le, newer, at, here))
    | inr ge ↦ subst (HoldsBase z log p) (sym (ap new same ∙ one.kept ge ∙ sym (ap old same))) (h p low high)
  ]
]

-- after the last each page is as the whole log leaves it
pub redo_all : (z : Sizes) (log : List Record) (image : ℕ → List ℕ) → FitsUpTo z image log (length log) → (p : ℕ) → 1 ≤ p → p < page_count z → HoldsPage z p (image p) log
redo_all z log image h p low high =
    let f : FitsPageUpTo z log (length log) p (image p) = h p low high in
    subst (λ l. HoldsPage z p (image p) l) (oldest_all log) (f.caught_up f.fits.within)

-- what stands at no slot of the store
elsewhere : (z : Sizes) (q : Slots) (a : ℕ) (x : Slot) → q a ≡ x → AllStand z q → (IsStoreSlot z a → ⊥) → x ≡ Free
elsewhere z q a Free e h none = refl
elsewhere z q a (Used c) e h none = let s = subst (IsInPlace z a) e (h a) in let low = s.above in let high = s.below in let n = s.slot in absurd (none (record { page_low = omega (arith, low); page_high = omega (arith, high); slot = n }))
elsewhere z q a (Sender s d) e h none = let s = subst (IsInPlace z a) e (h a) in let low = s.low in let high = s.high in let n = s.slot in absurd (none (record { page_low = low; page_high = omega (arith, high); slot = n }))
elsewhere z q a (Client k) e h none = let s = subst (IsInPlace z a) e (h a) in let low = s.low in let n = s.slot in absurd (none (record { page_low = omega (arith, low); page_high = s.high; slot = n }))

none_held : (z : Sizes) (page : ℕ) (bytes : List ℕ) → ((1 ≤ page) → page < page_count z → ⊥) → held_in z page bytes ≡ Free
none_held z page bytes h = by (kind_of z page) refl where
  by : (k : Option PageKind) → kind_of z page ≡ k → held_for k bytes ≡ Free
  by None e = refl
  by (Some kind.Superblock) e = refl
  by (Some kind.Directory) e = let p = page_of_directory z page e in let low = p.0 in let high = p.1 in absurd (h low (omega (arith, high)))
  by (Some kind.Cells) e = let p = page_of_cells z page e in let low = p.0 in let high = p.1 in absurd (h (omega (arith, low)) (omega (arith, high)))
  by (Some kind.Tags) e = let p = page_of_tags z page e in let low = p.0 in absurd (h (omega (arith, low)) p.1)

-- so the slots of such pages are those of the log
pub redone_slots : (z : Sizes) (log : List Record) (images : List (List ℕ)) → InStore z log → FitsUpTo z (image_in images) log (length log) → (a : ℕ) → slots_in z images a ≡ (left_by z log).slots a
redone_slots z log images store h a = elim (cases_lt 0 (a % 16)) [
  | inl slot ↦
      let there : slots_in z images a ≡ held_in z (a / 16) (slot_at images a) = cond-true (nat_lt 0 (a % 16)) (held_in z (a / 16) (slot_at images a)) Free (lt-ltb 0 (a % 16) slot) in
      elim (cases_lt 0 (a / 16)) [
        | inl low ↦ elim (cases_lt (a / 16) (page_count z)) [
          | inl high ↦
              there ∙ redo_all z log (image_in images) h (a / 16) low high (a % 16) slot (omega arith)
              ∙ ap (left_by z log).slots (address_is a)
          | inr out ↦ there ∙ none_held z (a / 16) (slot_at images a) (λ l g. absurd (omega (arith, g, out))) ∙ sym (free (λ s. let g = s.page_high in absurd (omega (arith, g, out))))
        ]
        | inr first ↦ there ∙ none_held z (a / 16) (slot_at images a) (λ l g. absurd (omega (arith, l, first))) ∙ sym (free (λ s. let l = s.page_low in absurd (omega (arith, l, first))))
      ]
  | inr header ↦
      cond-false (nat_lt 0 (a % 16)) (held_in z (a / 16) (slot_at images a)) Free (elim (cases_Bool (nat_lt 0 (a % 16))) [ inl y ↦ let l : 0 < a % 16 = ltb-true 0 (a % 16) y in absurd (omega (arith, l, header)) | inr n ↦ n ])
      ∙ sym (free (λ s. let l = s.slot in absurd (omega (arith, l, header))))
] where
  free : (IsStoreSlot z a → ⊥) → (left_by z log).slots a ≡ Free
  free none = elsewhere z (left_by z log).slots a ((left_by z log).slots a) refl (slots_stand z log store) none

-- where a record writes an older page, that page's slot holds the record's before-image
pub before_held : (z : Sizes) (log : List Record) (k : ℕ) (t : Txn) (m page slot : ℕ) (before after image : List ℕ) → IsLegalLog (layout_of z) (items z log) → InStore z log
    → oldest (k + 1) log ≡ records.PageOp t m page slot before after ∷ oldest k log → FitsPageUpTo z log k page image → lsn_of image < k + 1
    → held_in z page (slot_of slot image) ≡ held_in z page before
before_held z log k t m page slot before after image legal store grows f lt =
    let here : IsLegalLog (layout_of z) (items z (records.PageOp t m page slot before after ∷ oldest k log)) = subst (λ l. IsLegalLog (layout_of z) (items z l)) grows (oldest_legal z log (k + 1) legal) in
    let in_store : InStore z (records.PageOp t m page slot before after ∷ oldest k log) = subst (λ l. InStore z l) grows (oldest_store z log (k + 1) store) in
    f.caught_up (omega (arith, lt)) slot in_store.0.low in_store.0.high ∙ sym here.0.write.before

-- and these bytes
pub before_is : (z : Sizes) (log : List Record) (k : ℕ) (t : Txn) (m page slot : ℕ) (before after image : List ℕ) → IsLegalLog (layout_of z) (items z log) → InStore z log → BeforesAreSlots z log
    → oldest (k + 1) log ≡ records.PageOp t m page slot before after ∷ oldest k log → FitsPageUpTo z log k page image → lsn_of image < k + 1
    → slot_of slot image ≡ before
before_is z log k t m page slot before after image legal store befores grows f lt =
    let there : BeforesAreSlots z (records.PageOp t m page slot before after ∷ oldest k log) = subst (λ l. BeforesAreSlots z l) grows (oldest_befores z log (k + 1) befores) in
    let is : IsSlotOf z page slot before = there.0 in
    let was : IsSlotOf z page slot (slot_of slot image) = f.fits.slots slot is.low is.high in
    sym (slot_is_spelling z page slot (slot_of slot image) was).1
    ∙ ap slot_bytes (before_held z log k t m page slot before after image legal store grows f lt)
    ∙ (slot_is_spelling z page slot before is).1
