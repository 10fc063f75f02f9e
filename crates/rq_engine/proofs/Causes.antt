-- A refusal that has its cause in the store has it in the words of a history.
use Rattle.std.proofs.Common.{◌≡◌, true, refl}
use Rattle.rq_model.specs.declared.refusal.Refusal.{Refusal}
use Rattle.rq_model.specs.declared.refusal.Refusal.TheVariants as why
use Rattle.rq_model.specs.Causes.{HasCause, takes_memory}
use Rattle.rq_model.specs.History.{Call}
use Rattle.rq_model.specs.History.Call.{Start_receive, Start_receive_from, Undo_next}
use Rattle.rq_model.specs.Ledger.{Ledger}
use Rattle.rq_model.specs.Tests.{Size}
use Rattle.rq_txn.specs.Rows.{any_under}
use Rattle.rq_store.specs.State.{State, ledger_of, size_of}
use Rattle.rq_engine.specs.Answers.{IsCausedIn, needs_memory}

takes : (z : Size) (l : Ledger) (c : Call) → needs_memory z l c ≡ true → takes_memory c ≡ true
takes z l (Start_receive t) e = refl
takes z l (Start_receive_from t s) e = refl
takes z l (Undo_next t) e = refl
takes z l c e = e

pub has_cause : (s : State) (c : Call) (r : Refusal) → IsCausedIn s c r → HasCause (any_under s.rows) c r
has_cause s c why.NoMemory h = takes (size_of s.sizes) (ledger_of s) c h.1
has_cause s c r h = h
