-- First in is first out at every place of a history, and nothing is sent behind a committed close.
use Rattle.std.proofs.Common.{◌≡◌, ℕ, List, ◌∷◌, sym, ◌∙◌, subst, false}
use Rattle.std.proofs.lemmas.Bool.{or_parts}
use Rattle.rq_model.specs.declared.txn.Txn.{Txn}
use Rattle.rq_model.specs.declared.message.Message.{Message}
use Rattle.rq_model.specs.History.{Entry, Fifo, commits, ended}
use Rattle.rq_model.specs.History.Entry.{Started}
use Rattle.rq_model.specs.History.Job.{Sending}
use Rattle.rq_model.specs.Ledger.{ledger, found, ended_in}
use Rattle.rq_model.specs.Legal.{IsLegal}
use Rattle.rq_model.specs.Tests.{Size, has_closed}
use Rattle.rq_model.specs.Promises.{FifoThroughout}
use Rattle.rq_model.proofs.Same.{ordered}
use Rattle.rq_model.proofs.Clears.{none_after_end}
use Rattle.rq_model.proofs.Shown.{ended_are}
use Rattle.rq_model.proofs.Placed.{tail_legal}

fifo : (z : Size) (h : List Entry) → IsLegal z h → Fifo h
fifo z h a s = record { order = ordered z h s a; after_end = none_after_end z h s a }

pub fifo_throughout : (z : Size) (h : List Entry) → IsLegal z h → FifoThroughout h
fifo_throughout z h a newer older e = fifo z older (tail_legal z newer older (subst (IsLegal z) (sym e) a))

pub nothing_behind_close : (z : Size) (h : List Entry) (t : Txn) (n : ℕ) (m : Message) → IsLegal z (Started t n (Sending m) ∷ h) → ended (commits h) m.sender h ≡ false
nothing_behind_close z h t n m a =
    let passes = a.0.0 in
    let open_group = passes.1.1.1.1.1.1.1.0 in
    ended_are z h m.sender a.1 ∙ (or_parts (ended_in (ledger h).committed m.sender) (has_closed m.sender (found t (ledger h).open_ones)) open_group).0
