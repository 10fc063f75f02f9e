-- Slots that the write of a record leaves.
use Rattle.std.proofs.Common.{◌≡◌, ◌≢◌, ℕ, ◌/◌, ◌%◌, ◌≤◌, List, sym, ◌∙◌, ap, subst, inl, inr, arith}
use Rattle.std.proofs.lemmas.Bool.{cases_eq, cases_lt}
use Rattle.rq_model.specs.declared.txn.Txn.{Txn}
use Rattle.rq_page.specs.Pages.{lsn_of, slot_of}
use Rattle.rq_page.specs.Sizes.{Sizes, address}
use Rattle.rq_views.specs.Stored.{IsStoreSlot, slot_at}
use Rattle.rq_level.specs.declared.writes.SlotWrite.{SlotWrite}
use Rattle.rq_level.specs.LevelState.{LevelState}
use Rattle.rq_pool.specs.Pooled.{Pooled}
use Rattle.rq_store.specs.Fitting.{ToldWrite, image_in, told_by}
use Rattle.rq_store.specs.Opening.{IsRedone, Redoes}
use Rattle.rq_store.specs.Steps.{page_op}
use Rattle.rq_store.proofs.Owing.{address_is}
use Rattle.rq_planner.specs.Answered.{KnowsCells}

module _ (z : Sizes) (old new : List (List ℕ)) (w : ToldWrite) (lsn : ℕ) (r : IsRedone w lsn (image_in old) (image_in new)) where
  -- where the page is the one that is written
  on_page : (n : ℕ) → 1 ≤ n → n ≤ 15 → n ≢ w.slot → slot_of n (image_in new w.page) ≡ slot_of n (image_in old w.page)
  on_page n low high ne = elim (cases_lt (lsn_of (image_in old w.page)) lsn) [
    | inl older ↦ (r.made older).others n low high ne
    | inr newer ↦ ap (slot_of n) (r.kept newer)
  ]

  same_bytes : (a : ℕ) → a ≢ address w.page w.slot → 1 ≤ a % 16 → slot_at new a ≡ slot_at old a
  same_bytes a ne low = elim (cases_eq (a / 16) w.page) [
    | inl same ↦
        let other : (a % 16) ≢ w.slot = λ e. ne (sym (address_is a) ∙ ap (λ p. address p (a % 16)) same ∙ ap (λ n. address w.page n) e) in
        ap (λ p. slot_of (a % 16) (image_in new p)) same ∙ on_page (a % 16) low (omega arith) other ∙ sym (ap (λ p. slot_of (a % 16) (image_in old p)) same)
    | inr off ↦ ap (slot_of (a % 16)) (r.others (a / 16) off)
  ]

pub write_elsewhere : (z : Sizes) (old new : List (List ℕ)) (t : Txn) (n lsn : ℕ) (w : SlotWrite) → Redoes (told_by (page_op t n w)) lsn (image_in old) (image_in new) → (a : ℕ) → IsStoreSlot z a → a ≢ w.at → slot_at new a ≡ slot_at old a
write_elsewhere z old new t n lsn w r a stands ne = same_bytes z old new (record { page = w.at / 16; slot = w.at % 16; after = w.after }) lsn r a (λ e. ne (e ∙ address_is w.at)) stands.slot

-- pages that are what they were have the cells that they had, and levels that are what they were know them
pub cells_same : {P : Type 0} (old new : Pooled P) (k now : List LevelState) → new ≡ old → now ≡ k → KnowsCells old.sizes old.images k → KnowsCells new.sizes new.images now
cells_same {P} old new k now e same h = subst (KnowsCells new.sizes new.images) (sym same) (subst (λ (p : Pooled P). KnowsCells p.sizes p.images k) (sym e) h)
