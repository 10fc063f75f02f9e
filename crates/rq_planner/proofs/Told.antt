-- A level that is told of slots as they are.
use Rattle.std.proofs.Common.{◌≡◌, ℕ, ◌/◌, ◌%◌, ◌<◌, ◌≤◌, cond, false, List, length, Option, None, Some, option_map, refl, sym, ◌∙◌, ap, subst, inl, inr, arith}
use Rattle.std.proofs.lemmas.Bool.{cases_Bool, false≢true, lt-ltb}
use Rattle.rq_model.specs.declared.record.Deed.{Deed}
use Rattle.rq_model.specs.Deeds.{deed_by}
use Rattle.rq_model.specs.Vocabulary.{is_some}
use Rattle.rq_page.specs.Formatted.{IsFormatted}
use Rattle.rq_page.specs.Pages.{slot_of}
use Rattle.rq_page.specs.Sizes.{Sizes, IsInRange}
use Rattle.rq_page.specs.Slots.{held_in}
use Rattle.rq_page.specs.Slots.Slot.{Free}
use Rattle.rq_views.specs.Stored.{IsStoreSlot, slot_at, slots_in}
use Rattle.rq_level.specs.LevelState.{LevelState}
use Rattle.rq_level.specs.Writes.{answer_of}
use Rattle.rq_level.specs.Meaning.{AreTold, kept_at, level_count, meaning_of}
use Rattle.rq_level.proofs.EachLevel.{all_lawful}
use Rattle.rq_level.proofs.Superblock.{sizes_told}
use Rattle.rq_planner.specs.Handed.{AreForStores}

-- ---- the sizes

-- each level that may be handed in is ready once the first slot is told
pub ready_told : (a : ℕ) (old new : List LevelState) (z : Sizes) (image bytes : List ℕ) → a ≡ 1 → AreForStores old → AreTold a bytes old new → IsInRange z → IsFormatted z 0 image → bytes ≡ slot_of 1 image
    → (i : ℕ) → i < length new → (meaning_of i).ready z (kept_at new i)
ready_told a old new z image bytes first h told range is at i lt =
    let inside : i < length old = (let n = told.count in omega (arith, n, lt)) in
    subst ((meaning_of i).ready z) (sym (told.each i inside ∙ ap (λ n. (meaning_of i).note (kept_at old i) n bytes) first)) (h.ready i z bytes inside range (sizes_told z image bytes range is at))

-- ---- deeds

-- no level of a greater number reads any
pub none_reads : (n : ℕ) (deed : List ℕ) → level_count ≤ n → false ≡ is_some (deed_by n deed)
none_reads n deed le = elim (cases_Bool (is_some (deed_by n deed))) [
  | inl some ↦ let lt = (all_lawful n).reads deed some in absurd (omega (arith, lt, le))
  | inr none ↦ sym none
]

none_in : (o : Option Deed) → false ≡ is_some o → None ≡ option_map answer_of o
none_in None none = refl
none_in (Some d) none = absurd (false≢true none)

-- and so none answers
pub none_answers : (n : ℕ) (deed : List ℕ) → level_count ≤ n → None ≡ option_map answer_of (deed_by n deed)
none_answers n deed le = none_in (deed_by n deed) (none_reads n deed le)

-- ---- slots

pub slot_is : (z : Sizes) (images : List (List ℕ)) (a : ℕ) → IsStoreSlot z a → slots_in z images a ≡ held_in z (a / 16) (slot_at images a)
slot_is z images a h = ap (λ b. cond b (held_in z (a / 16) (slot_at images a)) Free) (lt-ltb 0 (a % 16) (let low = h.slot in omega (arith, low)))
