-- A store behind a Base: with the record that stood before that it is sound, and a transaction may begin whatever stood there.
use Rattle.std.proofs.Common.{List, [], ◌∷◌, refl, rules}
use Rattle.rq_model.specs.declared.record.Record.{Record}
use Rattle.rq_model.specs.declared.record.Record.TheVariants.{Base}
use Rattle.rq_model.specs.History.Call.{Begin}
use Rattle.rq_model.specs.Replay.Reply.{Gave_txn}
use Rattle.rq_store.specs.Fitting.{AllHoldBase, FitsLog, image_in}
use Rattle.rq_store.specs.Whole.{IsWhole}
use Rattle.rq_store.proofs.Cutting.{fits_log_longer}
use Rattle.rq_store.proofs.Formatting.{formatted_fits}
use Rattle.rq_store.proofs.WorkedFits as formatted
use Rattle.rq_sound.specs.Sound.{IsSound}
use Rattle.rq_sound.specs.ModelSteps.{IsModelStep}
use Rattle.rq_sound.proofs.AbortSteps.{abort_steps}
use Rattle.rq_sound.proofs.Opened.{opened_sound}
use Rattle.rq_engine.specs.Earlier.{on}
use Rattle.rq_cases.specs.Audits.{begun_behind, behind_a_base, next}
use Rattle.rq_cases.specs.Run.{log_1}
use Rattle.rq_cases.specs.Store.{formatted_pages, sizes}
use Rattle.rq_cases.proofs.Pages.{are_formatted, range}
use Rattle.rq_cases.proofs.Running.{first_sound}

-- a log that a Base begins, with the record before that
abbrev whole_log : List Record
whole_log = Base 1 1 ∷ log_1

pub whole : IsWhole sizes whole_log
whole = record {
  legal = search rules;
  told = search rules;
  rules = search rules;
  reads = search rules;
  in_store = search rules;
  befores = search rules;
  order = search rules;
  based = (refl, (tt, tt));
  behind = search rules;
  room = search rules;
  numbers = search rules;
}

none_made : FitsLog sizes (image_in formatted_pages) []
none_made = formatted_fits sizes (image_in formatted_pages) range are_formatted

pub fits : FitsLog sizes (image_in formatted_pages) whole_log
fits = fits_log_longer sizes (image_in formatted_pages) [] whole_log (2, refl) none_made

pub holds : AllHoldBase sizes (image_in formatted_pages) whole_log
holds p low high old = formatted.base sizes formatted_pages range are_formatted p low high (none_made.pages p low high).within

pub behind_sound : IsSound (on log_1 behind_a_base)
behind_sound = opened_sound sizes formatted_pages whole_log range whole refl refl (λ a. first_sound.pages a) fits holds

pub begin_behind : (e : List Record) → IsSound (on e behind_a_base) → IsModelStep (on e behind_a_base) Begin (Gave_txn next) (on e begun_behind)
begin_behind e k = abort_steps.begins (on e behind_a_base) k refl refl
