-- A store that gets tag pages is left over the same log; and pages behind a store do not count.
use Rattle.std.proofs.Common.{◌≡◌, ℕ, ◌<◌, ◌≤◌, List, [], ◌∷◌, length, sym, ◌∙◌, ap, subst, inl, inr, arith}
use Rattle.std.proofs.lemmas.Bool.{cases_lt}
use Rattle.std.proofs.lemmas.List.{drop_all}
use Rattle.rq_model.specs.declared.record.Record.{Record}
use Rattle.rq_model.specs.declared.record.Record.TheVariants as records
use Rattle.rq_model.specs.Bases.{base_lsn}
use Rattle.rq_page.specs.Sizes.{Sizes, IsInRange, address, cell_count, page_count, tags_from, with_tags}
use Rattle.rq_page.specs.Kinds.{kind_of}
use Rattle.rq_page.specs.Pages.{lsn_of, slot_of}
use Rattle.rq_page.specs.Formatted.{IsFormatted, IsHeaderFor, IsHeaderOf}
use Rattle.rq_page.proofs.Growing.{kind_kept, held_kept, slot_kept}
use Rattle.rq_views.specs.Claims.{HasRoom}
use Rattle.rq_views.specs.Groups.{DeedsTellViews}
use Rattle.rq_views.specs.InStore.{InStore}
use Rattle.rq_views.specs.Items.{items, formatted_at}
use Rattle.rq_views.specs.Log.{Item}
use Rattle.rq_views.specs.Numbers.{AreNumbered}
use Rattle.rq_views.proofs.Growing.{items_grown, left_grown, legal_grown, slot_grown, store_grown, tags_unwritten}
use Rattle.rq_store.specs.Fitting.{oldest, left_by, HoldsPage, HoldsBase, FitsPage}
use Rattle.rq_store.specs.Whole.{IsBefore, BeforesAreSlots, IsWhole}
use Rattle.rq_store.specs.Growing.{StoresGrow, LeftByItsPages}
use Rattle.rq_store.proofs.Cutting.{page_fits_longer}
use Rattle.rq_store.proofs.Formatting.{formatted_page, no_lsn}
use Rattle.rq_store.proofs.Redoing.{oldest_store}

module _ (z : Sizes) (n : ℕ) (none : z.tags ≡ 0) where
  abbrev grown : Sizes
  grown = with_tags n z

  before_grown : (r : Record) → IsBefore z r → IsBefore grown r
  before_grown (records.PageOp t k page slot before after) h = slot_grown z n none page slot before h
  before_grown (records.PageUndo t k undone page slot after) h = h
  before_grown (records.OpEnd t k level deed) h = h
  before_grown (records.OpVoid t k) h = h
  before_grown (records.CompEnd t k undone) h = h
  before_grown (records.Commit t) h = h
  before_grown (records.AbortEnd t) h = h
  before_grown (records.Restart i) h = h
  before_grown (records.Base many i) h = h

  befores_grown : (log : List Record) → BeforesAreSlots z log → BeforesAreSlots grown log
  befores_grown [] h = tt
  befores_grown (r ∷ log) h = (before_grown r h.0, befores_grown log h.1)

  -- a whole log is one still
  whole_grown : (log : List Record) → IsWhole z log → IsWhole grown log
  whole_grown log w =
      let same : items z log ≡ items grown log = sym (items_grown z n none log w.in_store) in
      record {
        legal = legal_grown z n none log w.in_store w.legal;
        told = subst (λ (is : List Item). DeedsTellViews is) same w.told;
        rules = w.rules;
        reads = w.reads;
        in_store = store_grown z n none log w.in_store;
        befores = befores_grown log w.befores;
        order = w.order;
        based = w.based;
        behind = w.behind;
        room = subst (λ (is : List Item). HasRoom (cell_count z) is) same w.room;
        numbers = subst (λ (is : List Item). AreNumbered is) same w.numbers;
      }

  -- ---- a page that was there

  module _ (p : ℕ) (image : List ℕ) (below : p < tags_from z) where
    holds_kept : (log : List Record) → InStore z log → HoldsPage z p image log → HoldsPage grown p image log
    holds_kept log store h k low high = held_kept z n p (slot_of k image) below ∙ h k low high ∙ sym (left_grown z n none log (address p k) store (omega (arith, below, high)))

    fits_kept : (log : List Record) → InStore z log → FitsPage z log p image → FitsPage grown log p image
    fits_kept log store f = record {
      slots = λ k low high. slot_kept z n p k (slot_of k image) below (f.slots k low high);
      within = f.within;
      stamped = f.stamped;
      held = holds_kept (oldest (lsn_of image) log) (oldest_store z log (lsn_of image) store) f.held;
    }

    base_kept : (log : List Record) → InStore z log → HoldsBase z log p image → HoldsBase grown log p image
    base_kept log store h old = holds_kept (oldest (base_lsn log) log) (oldest_store z log (base_lsn log) store) (h old)

    header_kept : IsHeaderOf z p image → IsHeaderOf grown p image
    header_kept h = subst (λ k. IsHeaderFor k p (lsn_of image) image) (sym (kind_kept z n p below)) h

  -- ---- a tag page that was added

  module _ (range : IsInRange z) (few : n ≤ 1024) (p : ℕ) (image : List ℕ) (out : tags_from z ≤ p) (high : p < page_count grown) (is : IsFormatted grown p image) where
    range_grown : IsInRange grown
    range_grown = record {
      directory_low = range.directory_low;
      directory_high = range.directory_high;
      cells_low = range.cells_low;
      cells_high = range.cells_high;
      tags_high = few;
    }

    fits_empty : FitsPage grown [] p image
    fits_empty = formatted_page grown p image range_grown (omega (arith, out)) high is

    fits_added : (log : List Record) → FitsPage grown log p image
    fits_added log = page_fits_longer grown p image [] log (length log, drop_all (length log) log (omega arith)) fits_empty

    holds_added : (log : List Record) → InStore z log → HoldsPage grown p image log
    holds_added log store k low top =
        fits_empty.held k low top
        ∙ empty_left (oldest (lsn_of image) []) (drop_all _ [] (omega arith))
        ∙ sym (tags_unwritten z n none log (address p k) store (omega (arith, out, top))) where
          empty_left : (first : List Record) → first ≡ [] → (left_by grown first).slots (address p k) ≡ formatted_at grown (address p k)
          empty_left first e = ap (λ (l : List Record). (left_by grown l).slots (address p k)) e

    base_added : (log : List Record) → InStore z log → HoldsBase grown log p image
    base_added log store old = holds_added (oldest (base_lsn log) log) (oldest_store z log (base_lsn log) store)

    header_added : IsHeaderOf grown p image
    header_added = subst (λ k. IsHeaderFor (kind_of grown p) p k image) (sym (no_lsn (kind_of grown p) p image is.header)) is.header

pub stores_grow : StoresGrow
stores_grow z n log old new range none few left grew = record {
  whole = whole_grown z n none log left.whole;
  fits = record {
    superblock = grew.superblock;
    headers = λ p low high. elim (cases_lt p (tags_from z)) [
      | inl below ↦ let within : p < page_count z = omega (arith, below) in header_kept z n none p (new p) below (subst (λ b. IsHeaderOf z p b) (sym (grew.others p low within)) (left.fits.headers p low within))
      | inr out ↦ header_added z n none range few p (new p) out high (grew.added p (omega (arith, out, none)) high)
    ];
    pages = λ p low high. elim (cases_lt p (tags_from z)) [
      | inl below ↦
          let within : p < page_count z = omega (arith, below) in
          fits_kept z n none p (new p) below log left.whole.in_store (subst (λ b. FitsPage z log p b) (sym (grew.others p low within)) (left.fits.pages p low within))
      | inr out ↦ fits_added z n none range few p (new p) out high (grew.added p (omega (arith, out, none)) high) log
    ];
  };
  based = λ p low high. elim (cases_lt p (tags_from z)) [
    | inl below ↦
        let within : p < page_count z = omega (arith, below) in
        base_kept z n none p (new p) below log left.whole.in_store (subst (λ b. HoldsBase z log p b) (sym (grew.others p low within)) (left.based p low within))
    | inr out ↦ base_added z n none range few p (new p) out high (grew.added p (omega (arith, out, none)) high) log left.whole.in_store
  ];
}

pub left_by_its_pages : LeftByItsPages
left_by_its_pages z log old new same left = record {
  whole = left.whole;
  fits = record {
    superblock = subst (λ b. IsFormatted z 0 b) (sym (same 0 (omega arith))) left.fits.superblock;
    headers = λ p low high. subst (λ b. IsHeaderOf z p b) (sym (same p high)) (left.fits.headers p low high);
    pages = λ p low high. subst (λ b. FitsPage z log p b) (sym (same p high)) (left.fits.pages p low high);
  };
  based = λ p low high. subst (λ b. HoldsBase z log p b) (sym (same p high)) (left.based p low high);
}
