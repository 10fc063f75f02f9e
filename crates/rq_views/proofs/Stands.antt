-- Of a log of a store, only cells hold messages, and only directory slots hold what is said of senders.
use Rattle.std.proofs.Common.{◌≡◌, ℕ, ◌/◌, ◌%◌, ◌<◌, ◌≤◌, inl, inr, List, [], ◌∷◌, Bool, true, false, cond, nat_lt, nat_le, ◌&&◌, refl, sym, ap, subst, ◌∙◌, arith, Option, None, Some}
use Rattle.std.proofs.lemmas.Bool.{cases_Bool, cases_eq, cases_lt, and_parts, ltb-true, leb-true}
use Rattle.std.proofs.lemmas.Bool.Decides.{nat_tests}
use Rattle.rq_model.specs.declared.record.Record.{Record}
use Rattle.rq_model.specs.declared.record.Record.TheVariants as records
use Rattle.rq_model.specs.declared.txn.Sub.{Sub}
use Rattle.rq_page.specs.declared.cell.CellSlot.{CellSlot}
use Rattle.rq_page.specs.declared.cell.CellSlot.TheVariants as cells
use Rattle.rq_page.specs.declared.layout.PageKind.{PageKind}
use Rattle.rq_page.specs.declared.layout.PageKind.TheVariants as kind
use Rattle.rq_page.specs.declared.directory.Directory.{Directory}
use Rattle.rq_page.specs.declared.cell.Cell.{Cell}
use Rattle.rq_page.specs.Cells.{cell_slot_in}
use Rattle.rq_page.specs.Directories.{new_directory}
use Rattle.rq_page.specs.Kinds.{kind_of}
use Rattle.rq_page.specs.Sizes.{Sizes, IsCellAddress, page_count, tags_from, address, sender_at, directory_at, client_at}
use Rattle.rq_page.specs.Slots.{Slot, IsSlotOf, IsSlotFor, held_for, held_in, of_cell_slot}
use Rattle.rq_page.specs.Slots.Slot.{Used, Sender}
use Rattle.rq_page.proofs.Addresses.{kind_directory, kind_cells, kind_tags, senders_have_slots}
use Rattle.rq_views.specs.Log.{Slots, Write, put, applied, same_op, rest_of, state_of}
use Rattle.rq_views.specs.Legal.{IsLayout}
use Rattle.rq_views.specs.Items.{items, operation, layout_of, formatted_at, formatted_tag}
use Rattle.rq_views.specs.InStore.{InStore, IsDirectoryAddress, IsInPlace, AllStand, WritesStand}
use Rattle.rq_views.proofs.Overlay.{put_at, put_off}

no_kind : (z : Sizes) (page : ℕ) → page_count z ≤ page → kind_of z page ≡ None
no_kind z page h = grind (arith, nat_tests)

first_kind : (z : Sizes) (page : ℕ) → page ≤ 0 → kind_of z page ≡ Some kind.Superblock
first_kind z page h = grind (arith, nat_tests)

-- a page of a kind stands among the pages of that kind
pub page_of_cells : (z : Sizes) (page : ℕ) → kind_of z page ≡ Some kind.Cells → (z.directory < page) × (page < tags_from z)
page_of_cells z page e = elim (cases_lt z.directory page) [
  | inl above ↦ elim (cases_lt page (tags_from z)) [
    | inl below ↦ (above, below)
    | inr out ↦ elim (cases_lt page (page_count z)) [
      | inl within ↦ let bad : ◌≡◌ {A = Option PageKind} (Some kind.Tags) (Some kind.Cells) = sym (kind_tags z page out within) ∙ e in absurd (cc)
      | inr beyond ↦ let bad : ◌≡◌ {A = Option PageKind} None (Some kind.Cells) = sym (no_kind z page beyond) ∙ e in absurd (cc)
    ]
  ]
  | inr within ↦ elim (cases_lt 0 page) [
    | inl low ↦ let bad : ◌≡◌ {A = Option PageKind} (Some kind.Directory) (Some kind.Cells) = sym (kind_directory z page low within) ∙ e in absurd (cc)
    | inr none ↦ let bad : ◌≡◌ {A = Option PageKind} (Some kind.Superblock) (Some kind.Cells) = sym (first_kind z page none) ∙ e in absurd (cc)
  ]
]

pub page_of_directory : (z : Sizes) (page : ℕ) → kind_of z page ≡ Some kind.Directory → (1 ≤ page) × (page ≤ z.directory)
page_of_directory z page e = elim (cases_lt 0 page) [
  | inl low ↦ elim (cases_lt z.directory page) [
    | inl above ↦ elim (cases_lt page (tags_from z)) [
      | inl below ↦ let bad : ◌≡◌ {A = Option PageKind} (Some kind.Cells) (Some kind.Directory) = sym (kind_cells z page above below) ∙ e in absurd (cc)
      | inr out ↦ elim (cases_lt page (page_count z)) [
        | inl tag ↦ let bad : ◌≡◌ {A = Option PageKind} (Some kind.Tags) (Some kind.Directory) = sym (kind_tags z page out tag) ∙ e in absurd (cc)
        | inr beyond ↦ let bad : ◌≡◌ {A = Option PageKind} None (Some kind.Directory) = sym (no_kind z page beyond) ∙ e in absurd (cc)
      ]
    ]
    | inr within ↦ (low, within)
  ]
  | inr none ↦ let bad : ◌≡◌ {A = Option PageKind} (Some kind.Superblock) (Some kind.Directory) = sym (first_kind z page none) ∙ e in absurd (cc)
]

pub page_of_tags : (z : Sizes) (page : ℕ) → kind_of z page ≡ Some kind.Tags → (tags_from z ≤ page) × (page < page_count z)
page_of_tags z page e = elim (cases_lt page (page_count z)) [
  | inl within ↦ elim (cases_lt page (tags_from z)) [
    | inl below ↦ elim (cases_lt z.directory page) [
      | inl above ↦ let bad : ◌≡◌ {A = Option PageKind} (Some kind.Cells) (Some kind.Tags) = sym (kind_cells z page above below) ∙ e in absurd (cc)
      | inr directory ↦ elim (cases_lt 0 page) [
        | inl low ↦ let bad : ◌≡◌ {A = Option PageKind} (Some kind.Directory) (Some kind.Tags) = sym (kind_directory z page low directory) ∙ e in absurd (cc)
        | inr none ↦ let bad : ◌≡◌ {A = Option PageKind} (Some kind.Superblock) (Some kind.Tags) = sym (first_kind z page none) ∙ e in absurd (cc)
      ]
    ]
    | inr out ↦ (out, within)
  ]
  | inr beyond ↦ let bad : ◌≡◌ {A = Option PageKind} None (Some kind.Tags) = sym (no_kind z page beyond) ∙ e in absurd (cc)
]

-- a slot of the store is on a page behind the first
pub page_of_slot : (z : Sizes) (page slot : ℕ) (bytes : List ℕ) → IsSlotOf z page slot bytes → (1 ≤ page) × (page < page_count z)
page_of_slot z page slot bytes h = by (kind_of z page) refl h.held where
  by : (k : Option PageKind) → kind_of z page ≡ k → IsSlotFor k z page slot bytes → (1 ≤ page) × (page < page_count z)
  by None e f = absurd f
  by (Some kind.Superblock) e f = absurd f
  by (Some kind.Directory) e f = let p = page_of_directory z page e in let low = p.0 in let high = p.1 in (low, omega (arith, high))
  by (Some kind.Cells) e f = let p = page_of_cells z page e in let low = p.0 in let high = p.1 in (omega (arith, low), omega (arith, high))
  by (Some kind.Tags) e f = let p = page_of_tags z page e in let low = p.0 in (omega (arith, low), p.1)

cell_stands : (z : Sizes) (a : ℕ) (x : CellSlot) → IsCellAddress z a → IsInPlace z a (of_cell_slot x)
cell_stands z a cells.Free h = tt
cell_stands z a (cells.Used c) h = h

held_stands : (z : Sizes) (k : Option PageKind) (page slot : ℕ) (bytes : List ℕ) → 1 ≤ slot → slot ≤ 15 → kind_of z page ≡ k → IsSlotFor k z page slot bytes → IsInPlace z (address page slot) (held_for k bytes)
held_stands z None page slot bytes low high e h = absurd h
held_stands z (Some kind.Superblock) page slot bytes low high e h = absurd h
held_stands z (Some kind.Directory) page slot bytes low high e h =
    let at = page_of_directory z page e in
    let p : address page slot / 16 ≡ page = omega arith in
    let n : address page slot % 16 ≡ slot = omega arith in
    let one : 1 ≤ page = at.0 in
    let two : page ≤ z.directory = at.1 in
    record { own = h.held.own ∙ sym (ap (λ k. sender_at k slot) p) ∙ ap (sender_at (address page slot / 16)) (sym n); low = omega arith; high = omega arith; slot = omega arith }
held_stands z (Some kind.Cells) page slot bytes low high e h =
    let at = page_of_cells z page e in
    let one : z.directory < page = at.0 in
    let two : page < tags_from z = at.1 in
    cell_stands z (address page slot) (cell_slot_in bytes) (record { above = omega arith; below = omega arith; slot = omega arith })
held_stands z (Some kind.Tags) page slot bytes low high e h =
    let at = page_of_tags z page e in
    let p : address page slot / 16 ≡ page = omega arith in
    let n : address page slot % 16 ≡ slot = omega arith in
    let one : tags_from z ≤ page = at.0 in
    let two : page < page_count z = at.1 in
    record { own = h.held.own ∙ sym (ap (λ k. client_at z k slot) p) ∙ ap (client_at z (address page slot / 16)) (sym n); low = omega arith; high = omega arith; slot = omega arith }

-- a slot of the store stands where it may
pub slot_stands : (z : Sizes) (page slot : ℕ) (bytes : List ℕ) → IsSlotOf z page slot bytes → IsInPlace z (address page slot) (held_in z page bytes)
slot_stands z page slot bytes h = held_stands z (kind_of z page) page slot bytes h.low h.high refl h.held

tag_stands : (z : Sizes) (a : ℕ) → IsInPlace z a (formatted_tag z a)
tag_stands z a = elim (cases_Bool (nat_lt 0 (a % 16) && nat_le (tags_from z) (a / 16) && nat_lt (a / 16) (page_count z))) [
  | inl y ↦
      let p = and_parts (nat_lt 0 (a % 16) && nat_le (tags_from z) (a / 16)) (nat_lt (a / 16) (page_count z)) y in
      let r = and_parts (nat_lt 0 (a % 16)) (nat_le (tags_from z) (a / 16)) p.0 in
      rw y (record { own = refl; low = leb-true (tags_from z) (a / 16) r.1; high = ltb-true (a / 16) (page_count z) p.1; slot = ltb-true 0 (a % 16) r.0 })
  | inr n ↦ rw n tt
]

-- so does each slot of a formatted store
pub formatted_stands : (z : Sizes) → AllStand z (formatted_at z)
formatted_stands z a = elim (cases_Bool (nat_lt 0 (a / 16) && nat_le (a / 16) z.directory && nat_lt 0 (a % 16))) [
  | inl y ↦
      let p = and_parts (nat_lt 0 (a / 16) && nat_le (a / 16) z.directory) (nat_lt 0 (a % 16)) y in
      let r = and_parts (nat_lt 0 (a / 16)) (nat_le (a / 16) z.directory) p.0 in
      rw y (record { own = refl; low = ltb-true 0 (a / 16) r.0; high = leb-true (a / 16) z.directory r.1; slot = ltb-true 0 (a % 16) p.1 })
  | inr n ↦ rw n (tag_stands z a)
]

put_stands : (z : Sizes) (q : Slots) (at : ℕ) (x : Slot) → AllStand z q → IsInPlace z at x → AllStand z (put q at x)
put_stands z q at x h k a = elim (cases_eq a at) [
  | inl e ↦ subst (IsInPlace z a) (sym (put_at q at x a e)) (subst (λ b. IsInPlace z b x) (sym e) k)
  | inr ne ↦ subst (IsInPlace z a) (sym (put_off q at x a ne)) (h a)
]

-- writes that stand where they may leave slots that do
pub applied_stands : (z : Sizes) (ws : List Write) (q : Slots) → AllStand z q → WritesStand z ws → AllStand z (applied ws q)
applied_stands z [] q h k = h
applied_stands z (w ∷ ws) q h k = put_stands z (applied ws q) w.at w.after (applied_stands z ws q h k.1) k.0

rest_stands : (z : Sizes) (ws : List Write) → WritesStand z ws → WritesStand z (rest_of ws)
rest_stands z [] h = tt
rest_stands z (w ∷ ws) h = h.1

choose_stands : (z : Sizes) (b : Bool) (xs ys : List Write) → WritesStand z xs → WritesStand z ys → WritesStand z (cond b xs ys)
choose_stands z true xs ys h k = h
choose_stands z false xs ys h k = k

-- what each operation under way has written stands where it may
pub writes_stand : (z : Sizes) (log : List Record) (o : Sub) → InStore z log → WritesStand z ((state_of (layout_of z) (items z log)).writes o)
writes_stand z [] o h = tt
writes_stand z (records.PageOp t n page slot before after ∷ log) o h =
    let ws = (state_of (layout_of z) (items z log)).writes o in
    let w : Write = record { at = address page slot; before = held_in z page before; after = held_in z page after } in
    let ih = writes_stand z log o h.1 in
    choose_stands z (same_op (operation t n) o) (w ∷ ws) ws (slot_stands z page slot after h.0, ih) ih
writes_stand z (records.PageUndo t n undone page slot after ∷ log) o h =
    let ih = writes_stand z log o h.1 in
    let ws = (state_of (layout_of z) (items z log)).writes o in
    choose_stands z (same_op (operation t n) o) (rest_of ws) ws (rest_stands z ws ih) ih
writes_stand z (records.OpEnd t n level deed ∷ log) o h = choose_stands z (same_op (operation t n) o) [] ((state_of (layout_of z) (items z log)).writes o) tt (writes_stand z log o h.1)
writes_stand z (records.OpVoid t n ∷ log) o h = choose_stands z (same_op (operation t n) o) [] ((state_of (layout_of z) (items z log)).writes o) tt (writes_stand z log o h.1)
writes_stand z (records.CompEnd t n undone ∷ log) o h = choose_stands z (same_op (operation t n) o) [] ((state_of (layout_of z) (items z log)).writes o) tt (writes_stand z log o h.1)
writes_stand z (_ ∷ log) o h = writes_stand z log o h.1

-- the slots of a log of the store stand where they may
pub slots_stand : (z : Sizes) (log : List Record) → InStore z log → AllStand z (state_of (layout_of z) (items z log)).slots
slots_stand z [] h = formatted_stands z
slots_stand z (records.PageOp t n page slot before after ∷ log) h = put_stands z _ _ _ (slots_stand z log h.1) (slot_stands z page slot after h.0)
slots_stand z (records.PageUndo t n undone page slot after ∷ log) h = put_stands z _ _ _ (slots_stand z log h.1) (slot_stands z page slot after h.0)
slots_stand z (_ ∷ log) h = slots_stand z log h.1

-- and so do those that whole operations alone have written
pub quiet_stand : (z : Sizes) (log : List Record) → InStore z log → AllStand z (state_of (layout_of z) (items z log)).quiet
quiet_stand z [] h = formatted_stands z
quiet_stand z (records.OpEnd t n level deed ∷ log) h = applied_stands z _ _ (quiet_stand z log h.1) (writes_stand z log _ h.1)
quiet_stand z (records.CompEnd t n undone ∷ log) h = applied_stands z _ _ (quiet_stand z log h.1) (writes_stand z log _ h.1)
quiet_stand z (_ ∷ log) h = quiet_stand z log h.1

-- only cells are used
pub used_is_cell : (z : Sizes) (q : Slots) (a : ℕ) (c : Cell) → AllStand z q → q a ≡ Used c → IsCellAddress z a
used_is_cell z q a c h e = subst (IsInPlace z a) e (h a)

-- only a sender's directory slot tells of it
pub sender_is_directory : (z : Sizes) (q : Slots) (a s : ℕ) (d : Directory) → AllStand z q → q a ≡ Sender s d → IsDirectoryAddress z s a
sender_is_directory z q a s d h e = subst (IsInPlace z a) e (h a)

-- a store's layout is one
pub store_is_layout : (z : Sizes) → IsLayout (layout_of z)
store_is_layout z s lt =
    let p = senders_have_slots z s lt in
    let b : (nat_lt 0 (directory_at s / 16) && nat_le (directory_at s / 16) z.directory && nat_lt 0 (directory_at s % 16)) ≡ true =
    (let p0 = p.0 in let p1 = p.1 in let p2 = p.2 in grind (arith, nat_tests)) in
    rw b (ap (λ k. Sender k new_directory) p.3)
