-- The entries of one pass, and the stamps of the calls that left one.
use Rattle.std.specs.Prelude.{ℕ, ◌==◌, Bool, true, false, not, List, filter, map}
use Rattle.rq_model.specs.Replay.{Reply as Gave}
use Rattle.rq_model.specs.Replay.Reply.{Gave_refusal}
use Rattle.rq_model.specs.declared.refusal.Refusal.TheVariants.{NoMemory}
use Rattle.rq_shared.specs.Entries.{Noted, noted}
use Rattle.rq_shared.specs.declared.kept.Stamped.{Stamped}

-- what a stamp says
abbrev pub stamp_of : Stamped → Noted
stamp_of s = noted s.pass s.event s.reply

abbrev pub stamps : List Stamped → List Noted
stamps ss = map stamp_of ss

-- memory was wanting for the call: it left no entry
abbrev pub lacked_memory : Gave → Bool
lacked_memory (Gave_refusal NoMemory) = true
lacked_memory _ = false

-- the entries of this pass
abbrev pub own : ℕ → List Noted → List Noted
own pass ns = filter (λ n. n.pass == pass) ns

-- the calls that left an entry
abbrev pub left_entries : List Noted → List Noted
left_entries ns = filter (λ n. not (lacked_memory n.gave)) ns
