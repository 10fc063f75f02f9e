-- What the numbers in slots are bounded by: no sender has sent more than the log has records. So a legal log passes the checks of a restart.
use Rattle.std.proofs.Common.{◌≡◌, ℕ, suc, ◌+◌, ◌-◌, ◌/◌, ◌%◌, ◌≤◌, ◌&&◌, List, [], ◌∷◌, length, refl, sym, ◌∙◌, ap, subst, Bool, true, false, Option, Some, None, inl, inr, cond, nat_lt, nat_le, arith}
use Rattle.std.proofs.lemmas.Bool.{cases_Bool, cases_eq}
use Rattle.std.proofs.lemmas.List.{length-map, length-drop}
use Rattle.rq_model.specs.declared.txn.Sub.{Sub}
use Rattle.rq_model.specs.declared.record.Deed.TheVariants.{Append, UnlinkHead, Close, Mark}
use Rattle.rq_model.specs.declared.record.Record.{Record}
use Rattle.rq_model.specs.declared.record.Record.TheVariants as records
use Rattle.rq_page.specs.declared.cell.Cell.{Cell}
use Rattle.rq_page.specs.declared.layout.PageKind.{PageKind}
use Rattle.rq_page.specs.declared.layout.PageKind.TheVariants as kind
use Rattle.rq_page.specs.Sizes.{Sizes, page_count, tags_from, address}
use Rattle.rq_page.specs.Kinds.{kind_of}
use Rattle.rq_page.specs.Directories.{directory_in}
use Rattle.rq_page.specs.Clients.{client_in}
use Rattle.rq_page.specs.Pages.{lsn_of, slot_of}
use Rattle.rq_page.specs.Slots.{Slot, held_in, held_for, IsSlotOf}
use Rattle.rq_page.specs.Slots.Slot.{Free, Used, Sender, Client}
use Rattle.rq_page.specs.Formatted.{count_in, count_for}
use Rattle.rq_views.specs.Log.{Item, Places, Slots, Write, put, rest_of, IsNewest, same_op, state_of}
use Rattle.rq_views.specs.Log.Item.{PageOp, PageUndo, OpEnd, OpVoid, CompEnd}
use Rattle.rq_views.specs.Plans.{Turn, IsPlan, relinked}
use Rattle.rq_views.specs.Plans.Turn.{Did, Undid}
use Rattle.rq_views.specs.Legal.{IsLegalLog, onto}
use Rattle.rq_views.specs.Items.{items, item_of, layout_of, formatted_at}
use Rattle.rq_views.specs.InStore.{InStore, InStoreOne}
use Rattle.rq_views.proofs.Overlay.{put_at, put_off}
use Rattle.rq_views.proofs.Stands.{page_of_slot}
use Rattle.rq_store.specs.Fitting.{left_by, oldest, told_by, FitsPage}
use Rattle.rq_store.specs.Whole.{BeforesAreSlots}
use Rattle.rq_store.specs.Opening.{FitsUpTo, IsBeforeIn, IsSoundTold, IsSoundWrite, MayRedo, IsCounted}
use Rattle.rq_store.proofs.Redoing.{oldest_legal, oldest_store, before_is}

-- a directory slot tells of no more that was sent than this, and a client's of no more that it marked
abbrev SentWithin : ℕ → Slot → Type 0
SentWithin n Free = Unit {0}
SentWithin n (Used c) = Unit {0}
SentWithin n (Sender s d) = d.sent ≤ n
SentWithin n (Client k) = k.count ≤ n

more : (n : ℕ) (x : Slot) → SentWithin n x → SentWithin (suc n) x
more n Free h = tt
more n (Used c) h = tt
more n (Sender s d) h = omega (arith, h)
more n (Client k) h = omega (arith, h)

-- a write adds one at most to what was sent
abbrev AddsOne : Write → Type 0
AddsOne w = (n : ℕ) → SentWithin n w.before → SentWithin (suc n) w.after

abbrev AllAddOne : List Write → Type 0
AllAddOne [] = Unit {0}
AllAddOne (w ∷ ws) = AddsOne w × AllAddOne ws

relinked_adds : (at : ℕ) (o : Option Cell) (f : Cell → Cell) (ws : List Write) → AllAddOne ws → AllAddOne (relinked at o f ws)
relinked_adds at None f ws h = h
relinked_adds at (Some c) f ws h = ((λ n k. tt), h)

-- so does each write of an operation
plan_adds : (l : Places) (t : Turn) (ws : List Write) → IsPlan l t ws → AllAddOne ws
plan_adds l (Did (Append s n tag previous body)) ws p = subst AllAddOne (sym p.writes) ((λ n k. omega (arith, k)), relinked_adds p.directory.tail p.old _ _ ((λ n k. tt), tt))
plan_adds l (Did (UnlinkHead s n tag body)) ws p = subst AllAddOne (sym p.writes) ((λ n k. omega (arith, k)), relinked_adds p.cell.next p.next _ _ ((λ n k. tt), tt))
plan_adds l (Did (Close s)) ws p = subst AllAddOne (sym p.writes) ((λ n k. omega (arith, k)), tt)
plan_adds l (Undid (Append s n tag previous body)) ws p = subst AllAddOne (sym p.writes) ((λ n k. omega (arith, k)), relinked_adds p.cell.prev p.front _ _ ((λ n k. tt), tt))
plan_adds l (Undid (UnlinkHead s n tag body)) ws p = subst AllAddOne (sym p.writes) ((λ n k. omega (arith, k)), relinked_adds p.directory.head p.old _ _ ((λ n k. tt), tt))
plan_adds l (Undid (Close s)) ws p = subst AllAddOne (sym p.writes) ((λ n k. omega (arith, k)), tt)
plan_adds l (Did (Mark c tag previous)) ws p = subst AllAddOne (sym p.writes) ((λ n k. omega (arith, k)), tt)
plan_adds l (Undid (Mark c tag previous)) ws p = subst AllAddOne (sym p.writes) ((λ n k. omega (arith, k)), tt)

part_adds : (owed ws : List Write) → AllAddOne (onto owed ws) → AllAddOne ws
part_adds [] ws h = h
part_adds (w ∷ owed) ws h = (part_adds owed (w ∷ ws) h).1

-- each of these writes was over a slot within the bound
abbrev BeforesWithin : ℕ → List Write → Type 0
BeforesWithin n [] = Unit {0}
BeforesWithin n (w ∷ ws) = SentWithin n w.before × BeforesWithin n ws

befores_more : (n : ℕ) (ws : List Write) → BeforesWithin n ws → BeforesWithin (suc n) ws
befores_more n [] h = tt
befores_more n (w ∷ ws) h = (more n w.before h.0, befores_more n ws h.1)

befores_rest : (n : ℕ) (ws : List Write) → BeforesWithin n ws → BeforesWithin n (rest_of ws)
befores_rest n [] h = tt
befores_rest n (w ∷ ws) h = h.1

choose : (n : ℕ) (b : Bool) (xs ys : List Write) → BeforesWithin n xs → BeforesWithin n ys → BeforesWithin n (cond b xs ys)
choose n true xs ys h k = h
choose n false xs ys h k = k

newest_within : (n : ℕ) (ws : List Write) (at : ℕ) (x : Slot) → IsNewest ws at x → BeforesWithin n ws → SentWithin n x
newest_within n [] at x h k = absurd h
newest_within n (w ∷ ws) at x h k = subst (SentWithin n) h.1 k.0

put_within : (n : ℕ) (q : Slots) (at : ℕ) (x : Slot) → ((a : ℕ) → SentWithin n (q a)) → SentWithin n x → (a : ℕ) → SentWithin n (put q at x a)
put_within n q at x h k a = elim (cases_eq a at) [
  | inl e ↦ subst (SentWithin n) (sym (put_at q at x a e)) k
  | inr ne ↦ subst (SentWithin n) (sym (put_off q at x a ne)) (h a)
]

abbrev Bounded : Places → List Item → Type 0
Bounded l log = ((a : ℕ) → SentWithin (length log) ((state_of l log).slots a)) × ((o : Sub) → BeforesWithin (length log) ((state_of l log).writes o))

over : (l : Places) (log : List Item) (b : Sub → Bool) → Bounded l log → ((a : ℕ) → SentWithin (suc (length log)) ((state_of l log).slots a)) × ((o : Sub) → BeforesWithin (suc (length log)) (cond (b o) [] ((state_of l log).writes o)))
over l log b h = (λ a. more (length log) ((state_of l log).slots a) (h.0 a), λ o. choose (suc (length log)) (b o) [] ((state_of l log).writes o) tt (befores_more (length log) ((state_of l log).writes o) (h.1 o)))

same : (l : Places) (log : List Item) → Bounded l log → ((a : ℕ) → SentWithin (suc (length log)) ((state_of l log).slots a)) × ((o : Sub) → BeforesWithin (suc (length log)) ((state_of l log).writes o))
same l log h = (λ a. more (length log) ((state_of l log).slots a) (h.0 a), λ o. befores_more (length log) ((state_of l log).writes o) (h.1 o))

-- no slot of a legal log tells of more messages sent than there are records
bounded : (l : Places) (log : List Item) → ((a : ℕ) → SentWithin 0 (l.formatted a)) → IsLegalLog l log → Bounded l log
bounded l [] start k = (start, λ o. tt)
bounded l (PageOp p w ∷ log) start k =
    let n : ℕ = length log in
    let ih = bounded l log start k.1 in
    let adds : AddsOne w = (part_adds k.0.begins.owed (w ∷ (state_of l log).writes p) (plan_adds l k.0.begins.turn (onto k.0.begins.owed (w ∷ (state_of l log).writes p)) k.0.begins.plan)).0 in
    let was : SentWithin n w.before = subst (SentWithin n) (sym k.0.write.before) (ih.0 w.at) in (
      put_within (suc n) (state_of l log).slots w.at w.after (λ a. more n ((state_of l log).slots a) (ih.0 a)) (adds n was),
      λ o. choose (suc n) (same_op p o) (w ∷ (state_of l log).writes o) ((state_of l log).writes o) (more n w.before was, befores_more n ((state_of l log).writes o) (ih.1 o)) (befores_more n ((state_of l log).writes o) (ih.1 o)),
    )
bounded l (PageUndo p u at after ∷ log) start k =
    let n : ℕ = length log in
    let ih = bounded l log start k.1 in
    let was : SentWithin n after = newest_within n ((state_of l log).writes p) at after k.0.newest (ih.1 p) in (
      put_within (suc n) (state_of l log).slots at after (λ a. more n ((state_of l log).slots a) (ih.0 a)) (more n after was),
      λ o. let ws = (state_of l log).writes o in choose (suc n) (same_op p o) (rest_of ws) ws (befores_more n (rest_of ws) (befores_rest n ws (ih.1 o))) (befores_more n ws (ih.1 o)),
    )
bounded l (OpEnd p d ∷ log) start k = over l log (λ o. same_op p o) (bounded l log start k.1)
bounded l (OpVoid p ∷ log) start k = over l log (λ o. same_op p o) (bounded l log start k.1)
bounded l (CompEnd p u ∷ log) start k = over l log (λ o. same_op p o) (bounded l log start k.1)
bounded l (_ ∷ log) start k = same l log (bounded l log start k.1)

formatted_within : (z : Sizes) (a : ℕ) → SentWithin 0 (formatted_at z a)
formatted_within z a = elim (cases_Bool (nat_lt 0 (a / 16) && nat_le (a / 16) z.directory && nat_lt 0 (a % 16))) [
  | inl y ↦ rw y (omega arith)
  | inr n ↦ rw n (elim (cases_Bool (nat_lt 0 (a % 16) && nat_le (tags_from z) (a / 16) && nat_lt (a / 16) (page_count z))) [ inl y ↦ rw y (omega arith) | inr m ↦ rw m tt ])
]

slots_within : (z : Sizes) (log : List Record) → IsLegalLog (layout_of z) (items z log) → (a : ℕ) → SentWithin (length log) ((left_by z log).slots a)
slots_within z log k a = subst (λ n. SentWithin n ((left_by z log).slots a)) (length-map log (item_of z)) ((bounded (layout_of z) (items z log) (formatted_within z) k).0 a)

-- the number in a slot that holds so much
counted_for : (n : ℕ) (k : Option PageKind) (bytes : List ℕ) → SentWithin n (held_for k bytes) → count_for k bytes ≤ n
unfolding directory_in client_in
counted_for n None bytes h = omega arith
counted_for n (Some kind.Superblock) bytes h = omega arith
counted_for n (Some kind.Directory) bytes h = h
counted_for n (Some kind.Cells) bytes h = omega arith
counted_for n (Some kind.Tags) bytes h = h

counted : (z : Sizes) (n page : ℕ) (bytes : List ℕ) → SentWithin n (held_in z page bytes) → count_in z page bytes ≤ n
counted z n page bytes h = counted_for n (kind_of z page) bytes h

-- no number of a page that fits a legal log is beyond its end
pub fits_counted : (z : Sizes) (log : List Record) (p : ℕ) (image : List ℕ) → IsLegalLog (layout_of z) (items z log) → FitsPage z log p image → IsCounted z (length log) p image
fits_counted z log p image k f = record {
  lsn = f.within;
  slots = λ n low high.
      let first : List Record = oldest (lsn_of image) log in
      let h : SentWithin (length first) (held_in z p (slot_of n image)) = subst (SentWithin (length first)) (sym (f.held n low high)) (slots_within z first (oldest_legal z log (lsn_of image) k) (address p n)) in
      let c : count_in z p (slot_of n image) ≤ length first = counted z (length first) p (slot_of n image) h in
      let d : length first ≡ length log - (length log - lsn_of image) = length-drop (length log - lsn_of image) log in
      omega (arith, c, d);
}

sound_told : (z : Sizes) (r : Record) (log : List Record) (page slot : ℕ) (after : List ℕ) → IsLegalLog (layout_of z) (items z (r ∷ log)) → IsSlotOf z page slot after → (left_by z (r ∷ log)).slots ≡ put (left_by z log).slots (address page slot) (held_in z page after) → IsSoundTold z (length log + 1) (record { page = page; slot = slot; after = after })
sound_told z r log page slot after k is e =
    let here : (left_by z (r ∷ log)).slots (address page slot) ≡ held_in z page after = ap (λ (q : Slots). q (address page slot)) e ∙ put_at (left_by z log).slots (address page slot) (held_in z page after) (address page slot) refl in
    let h : SentWithin (length (r ∷ log)) (held_in z page after) = subst (SentWithin (length (r ∷ log))) here (slots_within z (r ∷ log) k (address page slot)) in
    let c : count_in z page after ≤ length (r ∷ log) = counted z (length (r ∷ log)) page after h in
    record { slot = is; count = omega (arith, c) }

-- a write that a legal log tells is sound
sound_write : (z : Sizes) (r : Record) (log : List Record) → IsLegalLog (layout_of z) (items z (r ∷ log)) → InStoreOne z r → IsSoundWrite z (length log + 1) (told_by r)
sound_write z (records.PageOp t n page slot before after) log k store = sound_told z (records.PageOp t n page slot before after) log page slot after k store refl
sound_write z (records.PageUndo t n undone page slot after) log k store = sound_told z (records.PageUndo t n undone page slot after) log page slot after k store refl
sound_write z _ log k store = tt

-- a legal log passes each check of going through it
pub may_redo : (z : Sizes) (log : List Record) (image : ℕ → List ℕ) (k : ℕ) (r : Record) → IsLegalLog (layout_of z) (items z log) → InStore z log → BeforesAreSlots z log
    → k + 1 ≤ length log → oldest (k + 1) log ≡ r ∷ oldest k log → FitsUpTo z image log k → MayRedo z image (k + 1) r
may_redo z log image k r legal store befores within grows h =
    let here : IsLegalLog (layout_of z) (items z (r ∷ oldest k log)) = subst (λ l. IsLegalLog (layout_of z) (items z l)) grows (oldest_legal z log (k + 1) legal) in
    let in_store : InStore z (r ∷ oldest k log) = subst (λ l. InStore z l) grows (oldest_store z log (k + 1) store) in
    let d : length (oldest k log) ≡ length log - (length log - k) = length-drop (length log - k) log in
    let e : length (oldest k log) ≡ k = omega (arith, d, within) in
    record {
      write = subst (λ n. IsSoundWrite z (n + 1) (told_by r)) e (sound_write z r (oldest k log) here in_store.0);
      before = before_of r refl;
    } where
      before_of : (q : Record) → q ≡ r → IsBeforeIn q (k + 1) image
      before_of (records.PageOp t n page slot before after) e =
          let after_all : oldest (k + 1) log ≡ records.PageOp t n page slot before after ∷ oldest k log = grows ∙ ap (λ q. q ∷ oldest k log) (sym e) in
          let there : InStoreOne z (records.PageOp t n page slot before after) = (subst (λ l. InStore z l) after_all (oldest_store z log (k + 1) store)).0 in
          let at = page_of_slot z page slot after there in
          λ lt. before_is z log k t n page slot before after (image page) legal store befores after_all (h page at.0 at.1) lt
      before_of (records.PageUndo t n undone page slot after) e = tt
      before_of _ e = tt
