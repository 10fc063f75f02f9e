-- The store with the transactions that a crash stopped is sound.
use Rattle.std.proofs.Common.{◌∷◌, ◌≡◌, ℕ, false, arith, List, [], Some, None, inl, inr, refl, sym, ◌∙◌, ap, subst, ◌≢◌, ◌≤◌, ◌+◌}
use Rattle.std.proofs.lemmas.Bool.{cases_Bool, true≢false}
use Rattle.rq_model.specs.declared.txn.Txn.{Txn}
use Rattle.rq_model.specs.declared.txn.Sub.{Sub}
use Rattle.rq_model.specs.declared.record.Record.{Record}
use Rattle.rq_model.specs.declared.record.Record.TheVariants as records
use Rattle.rq_model.specs.Vocabulary.{In, has_txn}
use Rattle.rq_model.specs.Content.{has_end}
use Rattle.rq_model.specs.Incarnations.{IsNext, incarnation_of, incarnation_one}
use Rattle.rq_model.specs.Unended.{lost, unfinished}
use Rattle.rq_model.proofs.Lists.{In-map}
use Rattle.rq_page.specs.Sizes.{Sizes}
use Rattle.rq_views.specs.Items.{items, operation}
use Rattle.rq_views.specs.Legal.{under_way}
use Rattle.rq_views.proofs.Rules.{ended}
use Rattle.rq_txn.specs.Rows.{Row}
use Rattle.rq_store.specs.Settled.{IsSettled}
use Rattle.rq_store.specs.Whole.{IsWhole}
use Rattle.rq_store.proofs.Opening.{idle_log}
use Rattle.rq_sound.specs.Standing.{AreStanding, IsRow}
use Rattle.rq_sound.specs.Sound.{IsSound}
use Rattle.rq_analysis.specs.Lost.{IsRepeated, begins_in, lost_ends, lost_row, lost_rows, lost_store}
use Rattle.rq_analysis.proofs.AbortCounts.{keeps_sends, lost_counted, lost_placed}
use Rattle.rq_analysis.proofs.AbortEnds.{lost_distinct, lost_holds, row_none, sends_stand, takes_stand}
use Rattle.rq_analysis.proofs.Workers as workers
use Rattle.rq_analysis.proofs.Workers.{beyond, lost_behind, lost_now, lost_running, no_deeds, none_open, not_lost}

module _ (z : Sizes) (log : List Record) (whole : IsWhole z log) (none : unfinished log ≡ []) where
  idle : (o : Sub) → under_way o (items z log) ≡ false
  idle = idle_log z log whole.legal none

  row_stands : (t : Txn) → In t (lost log) → IsRow z log (lost_ends log) (incarnation_of log) (begins_in log) (lost_row z log t)
  row_stands t i = record {
    of_incarnation = lost_now z log t whole.legal whole.order i;
    counted = workers.lost_counted log t i;
    running = lost_running log t i;
    forward = λ e. absurd (true≢false e);
    done = lost_placed z log t;
    held = lost_holds log t i;
    behind = lost_behind z log t whole.legal whole.behind i;
    numbered = omega arith;
    idle = λ n off. idle (operation t n);
    going = tt;
  }

  -- who is not lost has ended, or ended no operation
  settled : (t : Txn) → has_txn t (lost log) ≡ false → IsSettled z log t
  settled t off = elim (cases_Bool (has_end log t)) [
    | inl y ↦ record {
      settled = ended z t log whole.legal y;
      unused = λ e. absurd (true≢false (sym y ∙ e));
      idle = λ n. idle (operation t n);
    }
    | inr running ↦ (
        let nothing = no_deeds t log (not_lost log t off running) in
        record {
          settled = none_open z t log whole.reads nothing;
          unused = λ e. nothing;
          idle = λ n. idle (operation t n);
        }
        )
  ]

  stands : AreStanding z log (lost_ends log) (lost_rows z log) (incarnation_of log) (begins_in log)
  stands = record {
    each = λ r j. let x = In-map (lost_row z log) (lost log) r j in subst (IsRow z log (lost_ends log) (incarnation_of log) (begins_in log)) (sym x.2) (row_stands x.0 x.1);
    distinct = lost_distinct z log;
    others = λ t e. settled t (row_none z log t (lost log) e);
    apart = λ r q u v p j l ne e f on. let x = In-map (lost_row z log) (lost log) r j in let bad : None ≡ Some u = sym (ap (λ (y : Row). y.under) x.2) ∙ e in absurd (cc);
    sending = sends_stand z log whole.rules;
    receiving = takes_stand z log whole.rules;
    strangers = λ t e lt. beyond t log lt;
  }

pub lost_sound : (z : Sizes) (images : List (List ℕ)) (log : List Record) (forced : ℕ) → IsRepeated z images log forced → IsSound (lost_store z images log forced)
lost_sound z images log forced h = record {
  range = h.range;
  log = h.whole;
  incarnation = refl;
  begun = h.begun;
  some = h.some;
  pages = h.pages;
  fits = h.fits;
  based = h.based;
  standing = stands z log h.whole h.none_unfinished;
  counted = lost_counted z log (lost_ends log) (incarnation_of log) (begins_in log) h.whole (idle_log z log h.whole.legal h.none_unfinished) (stands z log h.whole h.none_unfinished);
  sent = keeps_sends z log;
  forced = h.within;
}

-- a log that is not empty begins with a restart
next_some : (i : ℕ) (r : Record) → IsNext i r → 1 ≤ incarnation_one r i
next_some i (records.Restart j) h = (let e : j ≡ i + 1 = h in omega (arith, e))
next_some i (records.Base many j) h = (let e : j ≡ i = h.1 in let some : 1 ≤ i = h.0 in omega (arith, e, some))
next_some i _ h = h.0

pub some_incarnation : (z : Sizes) (log : List Record) → IsWhole z log → lost log ≢ [] → 1 ≤ incarnation_of log
some_incarnation z [] w ne = absurd (ne refl)
some_incarnation z (r ∷ log) w ne = next_some (incarnation_of log) r w.order.0
