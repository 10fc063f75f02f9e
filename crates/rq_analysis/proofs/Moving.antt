-- The moves of an abort keep a store sound.
use Rattle.std.proofs.Common.{◌≡◌, List, [], ◌∷◌, refl, sym, ◌∙◌, ap, subst}
use Rattle.rq_model.specs.Commits.{committed_of}
use Rattle.rq_model.specs.Incarnations.{Extends}
use Rattle.rq_model.proofs.Cuts.{plain_commits}
use Rattle.rq_store.specs.State.{State}
use Rattle.rq_sound.specs.Sound.{IsSound}
use Rattle.rq_sound.proofs.Contracts.{calls_keep}
use Rattle.rq_analysis.specs.Moves.{AreAborted, IsAbortMove, MovesBehind, newest_store}
use Rattle.rq_analysis.specs.Moves.IsAbortMove.{Starts, Writes, Undoes, Ends}

pub move_sound : (s now : State) → IsSound s → IsAbortMove s now → IsSound now
move_sound s now k (Starts r u rest f may lowest e) = subst IsSound (sym e) (calls_keep.starts_inverse s r u rest f k may)
move_sound s now k (Writes r u w images lsn d aim next e) = subst IsSound (sym e) (calls_keep.steps s r u w images k next)
move_sound s now k (Undoes r u lsn d waiting ready more e) = subst IsSound (sym e) (calls_keep.undoes s r u lsn d waiting k ready more)
move_sound s now k (Ends r idle aborting none e) = subst IsSound (sym e) (calls_keep.ends_abort s r k idle none)

pub move_extends : (s now : State) → IsAbortMove s now → Extends s.records now.records
move_extends s now (Starts r u rest f may lowest e) = subst (λ (x : State). Extends s.records x.records) (sym e) ([], refl, tt)
move_extends s now (Writes r u w images lsn d aim next e) = subst (λ (x : State). Extends s.records x.records) (sym e) (_ ∷ [], refl, (refl, tt))
move_extends s now (Undoes r u lsn d waiting ready more e) = subst (λ (x : State). Extends s.records x.records) (sym e) (_ ∷ [], refl, (refl, tt))
move_extends s now (Ends r idle aborting none e) = subst (λ (x : State). Extends s.records x.records) (sym e) (_ ∷ [], refl, (refl, tt))

pub move_commits : (s now : State) → IsAbortMove s now → committed_of now.records ≡ committed_of s.records
move_commits s now m =
    let x = move_extends s now m in
    ap committed_of (sym x.1) ∙ plain_commits x.0 s.records x.2

pub moves_sound : (s : State) (ns : List State) → IsSound s → MovesBehind s ns → IsSound (newest_store s ns)
moves_sound s [] k h = k
moves_sound s (n ∷ ns) k h = move_sound (newest_store s ns) n (moves_sound s ns k h.1) h.0

moves_commit : (s : State) (ns : List State) → MovesBehind s ns → committed_of (newest_store s ns).records ≡ committed_of s.records
moves_commit s [] h = refl
moves_commit s (n ∷ ns) h = move_commits (newest_store s ns) n h.0 ∙ moves_commit s ns h.1

pub aborted_sound : (s now : State) → IsSound s → AreAborted s now → IsSound now
aborted_sound s now k a = subst IsSound a.last (moves_sound s a.stores k a.moves)

pub aborted_commits : (s now : State) → AreAborted s now → committed_of now.records ≡ committed_of s.records
aborted_commits s now a = ap (λ (x : State). committed_of x.records) (sym a.last) ∙ moves_commit s a.stores a.moves
