-- Pages that were just formatted fit the empty log; and what does not fit.
use Rattle.std.proofs.Common.{◌≡◌, ℕ, ◌+◌, ◌-◌, List, [], ◌∷◌, ap, drop, length, subst, arith}
use Rattle.rq_model.specs.declared.record.Record.TheVariants as records
use Rattle.rq_page.specs.Pages.{lsn_of}
use Rattle.rq_page.specs.Sizes.{Sizes, IsInRange}
use Rattle.rq_store.specs.Fitting.{AllHoldBase, FitsLog, left_by, HoldsPage, IsStamp, image_in, oldest}
use Rattle.rq_store.specs.Opening.{FitsUpTo}
use Rattle.rq_store.specs.Whole.{IsWhole}
use Rattle.rq_views.specs.Stored.{slots_in}
use Rattle.rq_store.specs.Worked.{AreFormatted, FormattedFit}
use Rattle.rq_store.proofs.Based.{unbased}
use Rattle.rq_store.proofs.Formatting as formatting
use Rattle.rq_store.proofs.Redoing.{redone_slots}

pub whole_empty : (z : Sizes) → IsWhole z []
whole_empty z = record { legal = tt; told = tt; rules = tt; reads = tt; in_store = tt; befores = tt; order = tt; based = tt; behind = tt; room = tt; numbers = tt }

module _ (z : Sizes) (images : List (List ℕ)) (range : IsInRange z) (h : AreFormatted z images) where
  pub fits : FitsLog z (image_in images) []
  fits = formatting.formatted_fits z (image_in images) range h

  pub base : AllHoldBase z (image_in images) []
  base = unbased z [] (image_in images) tt fits

  up_to : FitsUpTo z (image_in images) [] 0
  up_to p low high =
      let f = fits.pages p low high in
      record { fits = f; caught_up = λ le. subst (λ (n : ℕ). HoldsPage z p (image_in images p) (oldest n [])) (let none : lsn_of (image_in images p) ≡ 0 = omega (arith, le) in none) f.held }

  -- they hold what the empty log leaves
  pub slots : (a : ℕ) → slots_in z images a ≡ (left_by z []).slots a
  slots = redone_slots z [] images tt up_to

pub formatted_fit : FormattedFit
formatted_fit = record {
  formatted_fits = fits;
  beyond = λ z image log p low high over f. (let w = (f.pages p low high).within in omega (arith, w, over));
  not_stamped = λ z image i p low high is f. subst (λ (n : ℕ). IsStamp p (oldest n (records.Restart i ∷ []))) is (f.pages p low high).stamped;
  formatted_base = base;
  holds_base = λ z image log many i p low high h old. subst (HoldsPage z p (image p)) (let all : length (records.Base many i ∷ log) - (length log + 1) ≡ 0 = omega arith in ap (λ n. drop n (records.Base many i ∷ log)) all) (h p low high old);
}
