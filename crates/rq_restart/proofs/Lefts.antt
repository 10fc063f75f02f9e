-- A store that was left so, with records behind its log.
use Rattle.std.proofs.Common.{◌≡◌, ℕ, List, ◌++◌, length, drop, refl, sym, ◌∙◌, ap}
use Rattle.std.proofs.lemmas.List.{drop_at}
use Rattle.rq_model.specs.declared.record.Record.{Record}
use Rattle.rq_model.specs.Incarnations.{Extends}
use Rattle.rq_model.proofs.Bases.{extends_base}
use Rattle.rq_page.specs.Sizes.{Sizes}
use Rattle.rq_store.specs.Opening.{IsLeft}
use Rattle.rq_store.specs.Steps.{Continues}
use Rattle.rq_store.specs.Whole.{IsWhole}
use Rattle.rq_store.proofs.Based.{all_base_longer}
use Rattle.rq_store.proofs.Cutting.{fits_log_longer}
use Rattle.rq_analysis.specs.Pages.{IsUndoing}
use Rattle.rq_analysis.proofs.Undos.{undoing_extends, undoing_whole}

pub front_continues : (log now front : List Record) → front ++ log ≡ now → Continues log now
front_continues log now front are = (length front, ap (drop (length front)) (sym are) ∙ drop_at front log (length front) refl)

pub left_longer : (z : Sizes) (image : ℕ → List ℕ) (log now : List Record) → IsLeft z image log → IsWhole z now → Extends log now → IsLeft z image now
left_longer z image log now left w e =
    let c = front_continues log now e.0 e.1 in
    record { whole = w; fits = fits_log_longer z image log now c left.fits; based = all_base_longer z image log now c (extends_base log now e) left.based }

-- a store's pages fit the log with records behind
pub left_undoing : (z : Sizes) (image : ℕ → List ℕ) (log undone : List Record) → IsLeft z image log → IsUndoing log undone → IsLeft z image undone
left_undoing z image log undone left u = left_longer z image log undone left (undoing_whole z log undone left.whole u) (undoing_extends log undone u)
