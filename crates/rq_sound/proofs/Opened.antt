-- A store that opens over a whole log in which everything has ended is sound: it has no rows, so little is asked of it.
use Rattle.std.proofs.Common.{◌≡◌, ℕ, List, [], ◌∷◌, refl, ap, arith}
use Rattle.std.proofs.lemmas.Bool.{false≢true}
use Rattle.rq_model.specs.declared.record.Record.{Record}
use Rattle.rq_model.specs.Unended.{unfinished, lost}
use Rattle.rq_model.specs.Incarnations.{incarnation_of}
use Rattle.rq_page.specs.Sizes.{Sizes, IsInRange}
use Rattle.rq_views.specs.Items.{items, layout_of}
use Rattle.rq_views.specs.Stored.{slots_in, count_used}
use Rattle.rq_views.proofs.Idle.{idle_quiet}
use Rattle.rq_store.specs.Fitting.{left_by, image_in, AllHoldBase, FitsLog}
use Rattle.rq_store.specs.Opening.{opened, next_restart}
use Rattle.rq_store.specs.Whole.{IsWhole}
use Rattle.rq_store.proofs.Based.{all_base_more}
use Rattle.rq_store.proofs.Begun.{begun_all}
use Rattle.rq_store.proofs.Fitting.{fits_more}
use Rattle.rq_store.specs.Worked.{AreFormatted}
use Rattle.rq_store.proofs.Opening as opening
use Rattle.rq_store.proofs.WorkedFits as formatted
use Rattle.rq_sound.specs.Sound.{IsSound}
use Rattle.rq_sound.specs.Standing.{AreStanding}
use Rattle.rq_sound.specs.Counted.{AreCounted}

module _ (z : Sizes) (images : List (List ℕ)) (log : List Record) (range : IsInRange z) (w : IsWhole z log) (none_unfinished : unfinished log ≡ []) (none_lost : lost log ≡ [])
    (pages : (a : ℕ) → slots_in z images a ≡ (left_by z log).slots a) where
  abbrev new_log : List Record
  new_log = next_restart log ∷ log

  standing : AreStanding z new_log (opened z images log).ends [] (incarnation_of new_log) 0
  standing = record {
    each = λ r i. absurd i;
    distinct = tt;
    others = λ t e. opening.settled_here z images log range w none_unfinished none_lost pages t;
    apart = λ r q u v p i. absurd i;
    sending = record { one = λ t u s a b. absurd (false≢true a); living = λ t s a. absurd (false≢true a) };
    receiving = record { one = λ t u s a b. absurd (false≢true a); living = λ t s a. absurd (false≢true a) };
    strangers = λ t e m. opening.later_stranger t log w.order (omega (arith, e));
  }

  counted : AreCounted z new_log [] (opened z images log).cells_in_use (opened z images log).waiting
  counted =
      let used = opening.used_is z images log range w none_unfinished none_lost pages in
      let rest = opening.counted z images log range w none_unfinished none_lost pages in
      let same : (left_by z log).slots ≡ (left_by z log).quiet = λ i. λ a. idle_quiet (layout_of z) (items z log) w.legal (opening.idle z images log range w none_unfinished none_lost pages) a i in
      let room = ap (count_used z) same in
      record {
        committed = omega (arith, rest);
        used = omega (arith, used);
        room = omega (arith, room);
        bound = opening.count_bound z (slots_in z images);
        waited = λ g m. (let e = opening.waits_here z images log range w none_unfinished none_lost pages g m in omega (arith, e));
        covered = λ r i. absurd i;
      }

  pub opened_sound : FitsLog z (image_in images) log → AllHoldBase z (image_in images) log → IsSound (opened z images log)
  opened_sound fits based = record {
    range = range;
    log = opening.restarted_whole z log w none_unfinished none_lost;
    incarnation = refl;
    begun = begun_all (incarnation_of new_log) new_log refl;
    some = omega arith;
    pages = pages;
    fits = fits_more z (next_restart log) log (image_in images) fits;
    based = all_base_more z (next_restart log) log (image_in images) refl based;
    standing = standing;
    counted = counted;
    sent = opening.sends_here z images log range w none_unfinished none_lost pages;
    forced = omega arith;
  }

-- so is one that a restart opens over pages that were just formatted
module _ (z : Sizes) (images : List (List ℕ)) (range : IsInRange z) (h : AreFormatted z images) where
  pub formatted_sound : IsSound (opened z images [])
  formatted_sound = opened_sound z images [] range (formatted.whole_empty z) refl refl (formatted.slots z images range h) (formatted.fits z images range h) (formatted.base z images range h)
