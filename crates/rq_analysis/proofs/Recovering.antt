-- A restart's log on its way and at its end.
use Rattle.std.proofs.Common.{ℕ, ◌+◌, ◌≤◌, List, length, drop, ◌∙◌, subst, refl, [], ◌∷◌}
use Rattle.rq_model.specs.declared.record.Record.{Record}
use Rattle.rq_model.specs.Incarnations.{Extends}
use Rattle.rq_model.proofs.Cuts.{extends_join}
use Rattle.rq_page.specs.Sizes.{Sizes}
use Rattle.rq_store.specs.State.{State}
use Rattle.rq_store.specs.Whole.{IsWhole}
use Rattle.rq_store.proofs.Cutting.{whole_dropped}
use Rattle.rq_store.proofs.Opening.{restarted_whole}
use Rattle.rq_analysis.proofs.Undos.{undoing_extends, undoing_whole, undone_from}
use Rattle.rq_analysis.specs.Lost.{lost_store}
use Rattle.rq_analysis.specs.Moves.{MovesBehind, newest_store}
use Rattle.rq_analysis.specs.Recovered.{IsRecovered, IsRecoveredFrom, IsRecovering}
use Rattle.rq_analysis.specs.Recovered.IsRecovered.{AllAborted, NoneLost}
use Rattle.rq_analysis.specs.Recovered.IsRecovering.{Aborting, Undoing}
use Rattle.rq_analysis.specs.AbortTheorems.{IsStopped}
use Rattle.rq_analysis.specs.Turns.{MovesInTurn}
use Rattle.rq_analysis.proofs.Moving.{moves_sound}
use Rattle.rq_analysis.proofs.Stopping.{cut_extends, lost_restored, moves_extend, moves_sizes, stopped_at}
use Rattle.rq_analysis.proofs.Store.{lost_sound}

pub behind : (s : State) (ns : List State) → MovesInTurn s ns → MovesBehind s ns
behind s [] h = tt
behind s (n ∷ ns) h = (h.0.0, behind s ns h.1)

pub recovered_from : (z : Sizes) (log now : List Record) → IsWhole z log → IsRecovered z log now → IsRecoveredFrom z log now
recovered_from z log now w (NoneLost undone none) =
    let u = undone_from z log now w undone in
    record {
      whole = u.whole;
      extends = u.extends;
      content = u.content;
      committed = u.committed;
      none_unfinished = u.none_unfinished;
      none_lost = none;
      restarts = restarted_whole z now u.whole u.none_unfinished none;
    }
recovered_from z log now w (AllAborted last images forced stores undone repeated moves none are) =
    let u = undone_from z log last w undone in
    let start = lost_store z images last forced in
    let s = newest_store start stores in
    let r = lost_restored z images last forced s repeated (record { stores = stores; last = refl; moves = behind start stores moves; none = none }) in
    subst (IsRecoveredFrom z log) are (record {
      whole = r.whole;
      extends = extends_join log last s.records u.extends r.extends;
      content = λ g. r.content g ∙ u.content g;
      committed = r.committed ∙ u.committed;
      none_unfinished = r.unfinished;
      none_lost = r.lost;
      restarts = restarted_whole z s.records r.whole r.unfinished r.lost;
    })

cut_stops : (z : Sizes) (log now : List Record) (n : ℕ) → IsWhole z log → IsWhole z now → Extends log now → n + length log ≤ length now → IsStopped z log (drop n now)
cut_stops z log now n w v x within = stopped_at z log (drop n now) w (whole_dropped z n now v) (cut_extends n log now x within)

pub recovering_stops : (z : Sizes) (log now : List Record) (n : ℕ) → IsWhole z log → IsRecovering z log now → n + length log ≤ length now → IsStopped z log (drop n now)
recovering_stops z log now n w (Undoing undoing) within = cut_stops z log now n w (undoing_whole z log now w undoing) (undoing_extends log now undoing) within
recovering_stops z log now n w (Aborting last images forced stores undone repeated turns are) within =
    let moves = behind (lost_store z images last forced) stores turns in
    let u = undone_from z log last w undone in
    let s = lost_store z images last forced in
    let sound = moves_sound s stores (lost_sound z images last forced repeated) moves in
    let whole : IsWhole z (newest_store s stores).records = subst (λ y. IsWhole y (newest_store s stores).records) (moves_sizes s stores moves) sound.log in
    cut_stops z log now n w (subst (IsWhole z) are whole)
    (subst (Extends log) are (extends_join log last (newest_store s stores).records u.extends (moves_extend s stores moves))) within
