-- What a crash leaves of pages that a log is repeated on fits the log.
use Rattle.std.proofs.Common.{◌≡◌, ◌⊎◌, ⊎_elim, ℕ, zero, suc, ◌+◌, ◌-◌, ◌<◌, ◌≤◌, List, [], ◌∷◌, length, drop, Option, Some, None, inl, inr, refl, sym, ◌∙◌, ap, subst, arith}
use Rattle.std.proofs.lemmas.Bool.{cases_eq}
use Rattle.std.proofs.lemmas.List.{length-drop}
use Rattle.rq_model.specs.declared.record.Record.{Record}
use Rattle.rq_model.specs.declared.record.Record.TheVariants as records
use Rattle.rq_model.specs.Bases.{base_lsn, marked, marks}
use Rattle.rq_model.specs.Incarnations.{Extends}
use Rattle.rq_model.proofs.Bases.{base_within, drop_base, extends_base}
use Rattle.rq_disk.specs.Device.{Images}
use Rattle.rq_disk.specs.declared.device.PageDevice.{Ghosts}
use Rattle.rq_page.specs.Formatted.{IsFormatted}
use Rattle.rq_page.specs.Kinds.{kind_of}
use Rattle.rq_page.specs.Sizes.{Sizes, page_count}
use Rattle.rq_page.specs.Slots.{IsSlotFor}
use Rattle.rq_store.specs.Fitting.{AllFit, FitsPage, HoldsBase, ToldWrite, told_by}
use Rattle.rq_store.specs.Opening.{IsLeft, IsSoundWrite, Redoes}
use Rattle.rq_store.proofs.Cutting.{all_fit_longer}
use Rattle.rq_restart.specs.Leaving.{WasLeftOrRepeated}
use Rattle.rq_restart.specs.Repeating.{Repeats}
use Rattle.rq_restart.proofs.Lefts.{front_continues}
use Rattle.rq_restart.proofs.Repeated.{AreUpTo, up_to}

-- of a log as it is read, the oldest records are what is read of the oldest of the log, where its Base is among them
drop_marked : (k : ℕ) (log : List Record) → base_lsn log + k ≤ length log → marked (drop k log) ≡ drop k (marked log)
drop_marked zero log few = refl
drop_marked (suc k) [] few = refl
drop_marked (suc k) (records.Base many i ∷ log) few = absurd (omega (arith, few))
drop_marked (suc k) (_ ∷ log) few = drop_marked k log (omega (arith, few))

-- marks cannot be repeated
no_marks : (z : Sizes) (many k : ℕ) (first last : Images) → Repeats z (drop k (marks many)) first last → last ≡ first
no_marks z zero zero first last r = r
no_marks z zero (suc k) first last r = r
no_marks z (suc n) zero first last r = absurd (let next = r.2.belongs.next in omega (arith, next))
no_marks z (suc n) (suc k) first last r = no_marks z n k first last r

-- so what is repeated has the Base, or is nothing
among_or_none : (z : Sizes) (log : List Record) (k : ℕ) (first last : Images) → Repeats z (drop k (marked log)) first last → (base_lsn log + k ≤ length log) ⊎ (last ≡ first)
among_or_none z log zero first last r = inl (let within = base_within log in omega (arith, within))
among_or_none z [] (suc k) first last r = inr r
among_or_none z (records.Base many i ∷ log) (suc k) first last r = inr (no_marks z many k first last r)
among_or_none z (_ ∷ log) (suc k) first last r = ⊎_elim (λ few. inl (omega (arith, few))) (λ same. inr same) (among_or_none z log k first last r)

-- nothing is made of the superblock
one_first : (z : Sizes) (lsn : ℕ) (w : Option ToldWrite) (old new : Images) → IsSoundWrite z lsn w → Redoes w lsn old new → new 0 ≡ old 0
one_first z lsn None old new sound same = same 0
one_first z lsn (Some w) old new sound made = elim (cases_eq 0 w.page) [
  | inl here ↦ absurd (none w.page w.slot w.after (sym here) sound.slot.held)
  | inr other ↦ made.others 0 other
] where
  none : (page slot : ℕ) (after : List ℕ) → page ≡ 0 → IsSlotFor (kind_of z page) z page slot after → ⊥
  none page slot after is held = subst (λ (q : ℕ). IsSlotFor (kind_of z q) z q slot after) is held

keeps_first : (z : Sizes) (log : List Record) (first last : Images) → Repeats z log first last → last 0 ≡ first 0
keeps_first z [] first last r = ap (λ (f : Images). f 0) r
keeps_first z (records.Base many i ∷ log) first last r = r.2.redone 0 ∙ ap (λ (f : Images). f 0) r.1
keeps_first z (q ∷ log) first last r = one_first z (length log + 1) (told_by q) r.0 last r.2.belongs.may.write r.2.redone ∙ keeps_first z log first r.0 r.1

module _ (z : Sizes) (log : List Record) (first : Images) (left : IsLeft z first log) where
  -- pages that the oldest of the records were repeated on
  pub record FitSo (last : Images) : Type 0 where
    pub pages : (q : ℕ) → 1 ≤ q → q < page_count z → FitsPage z log q (last q)
    pub based : (q : ℕ) → 1 ≤ q → q < page_count z → HoldsBase z log q (last q)

  pub fit_so : (k : ℕ) (last : Images) → Repeats z (drop k (marked log)) first last → FitSo last
  fit_so k last r = ⊎_elim among none (among_or_none z log k first last r) where
    none : last ≡ first → FitSo last
    none same = subst FitSo (sym same) (record { pages = left.fits.pages; based = left.based })

    among : base_lsn log + k ≤ length log → FitSo last
    among few =
        let size = length-drop k log in
        let is : length log - length (drop k log) ≡ k = omega (arith, size, few) in
        let up : AreUpTo z log first left (length (drop k log)) last = up_to z log first left (drop k log) (ap (λ (n : ℕ). drop n log) is) (omega (arith, size)) (drop_base k log few) last (subst (λ (rs : List Record). Repeats z rs first last) (sym (drop_marked k log few)) r) in
        record { pages = λ q low high. (up.fits q low high).fits; based = up.based }

-- all that a crash leaves now fits the log with records behind
pub left_fits : {P : Type 0} (g : Ghosts P) (old new : P) (z : Sizes) (first : Images) (older log : List Record) → AllFit (g.may_be old) z older → IsLeft z first log → Extends older log → ((page : ℕ) (c : List ℕ) → g.may_be new page c → WasLeftOrRepeated g z first (marked log) old page c) → AllFit (g.may_be new) z log
left_fits g old new z first older log fit left extends leaves = record {
  superblock = λ c may. ⊎_elim (was.superblock c) (λ r. subst (IsFormatted z 0) (sym (r.is ∙ keeps_first z (drop r.lacks (marked log)) first r.last r.repeated)) left.fits.superblock) (leaves 0 c may);
  headers = λ q c low high may. ⊎_elim (was.headers q c low high) (λ r. r.header low high) (leaves q c may);
  pages = λ q c low high may. ⊎_elim (was.pages q c low high) (λ r. subst (FitsPage z log q) (sym r.is) ((fit_so z log first left r.lacks r.last r.repeated).pages q low high)) (leaves q c may);
  based = λ q c low high may. ⊎_elim (was.based q c low high) (λ r. subst (HoldsBase z log q) (sym r.is) ((fit_so z log first left r.lacks r.last r.repeated).based q low high)) (leaves q c may);
} where
  was : AllFit (g.may_be old) z log
  was = all_fit_longer (g.may_be old) z older log (front_continues older log extends.0 extends.1) (extends_base older log extends) fit
