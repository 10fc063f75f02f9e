-- What an entry of the audit says.
use Rattle.std.specs.Prelude.{◌≡◌, ℕ, List, [], ◌∷◌, ◌++◌, map, reverse}
use Rattle.rq_model.specs.declared.record.Record.{Record}
use Rattle.rq_model.specs.History.{Call}
use Rattle.rq_model.specs.Replay.{Reply as Gave, Replays}
use Rattle.rq_engine.specs.declared.event.Event.{Event}
use Rattle.rq_engine.specs.declared.event.Reply.{Reply}
use Rattle.rq_store.specs.State.{State, ledger_of, size_of}
use Rattle.rq_sound.specs.Sound.{IsSound}
use Rattle.rq_disk.specs.declared.device.LogDevice as log_device
use Rattle.rq_disk.specs.declared.device.PageDevice as page_device
use Rattle.rq_engine.specs.Earlier.{IsEarlier, IsSoundOver, on, unknown}
use Rattle.rq_engine.specs.Opened.{OpenStore, AreHonest}
use Rattle.rq_engine.specs.Says.{call_of, gave}
use Rattle.rq_shared.specs.declared.kept.AuditEntry.{AuditEntry}

-- who asked what, and what that gave
pub record Noted : Type 0 where
  pub pass : ℕ
  pub call : Call
  pub gave : Gave

abbrev pub noted : ℕ → Event → Reply → Noted
noted pass event reply = record { pass = pass; call = call_of event; gave = gave reply }

abbrev pub entry_of : AuditEntry → Noted
entry_of e = noted e.pass e.event e.reply

abbrev pub entries : List AuditEntry → List Noted
entries es = map entry_of es

-- the audit has this one entry more
abbrev pub OneMore : List Noted → List Noted → Noted → Type 0
OneMore old new n = new ≡ old ++ n ∷ []

-- what was asked and what that gave
abbrev pub answer_of : Noted → Call × Gave
answer_of n = (n.call, n.gave)

-- the calls with what they gave, the newest first
abbrev pub answers : List Noted → List (Call × Gave)
answers ns = reverse (map answer_of ns)

-- With these earlier records the audit's calls, with what they gave, lead from the one store's ledger to the other's. The other
-- store goes back to a legal log then.
abbrev pub LeadsOver : List Record → State → List Noted → State → Type 0
LeadsOver e old audit new = IsSound (on e new)
    × Replays (size_of old.sizes) (ledger_of (on e old)) (answers audit) (ledger_of (on e new))

-- The engine is of the size of the base, and nothing is known of as many records. Over honest devices the audit leads to it from
-- the base, with any earlier records with which that goes back to a legal log.
pub record Follows {P L : Type 0} (p : page_device.Ghosts P) (l : log_device.Ghosts L) (base : OpenStore P L)
    (audit : List Noted) (engine : OpenStore P L) : Type 0 where
  pub sizes : engine.state.sizes ≡ base.state.sizes
  pub unknown : unknown engine.state.records ≡ unknown base.state.records
  pub replays : AreHonest p l engine → (earlier : List Record) → IsEarlier earlier base.state
      → IsSound (on earlier base.state) → LeadsOver earlier base.state audit engine.state

-- an engine, the entries since its audit was last taken, and the engine as it was then, with the number of entries
-- taken before
pub record Audited (P L : Type 0) : Type 0 where
  pub engine : OpenStore P L
  pub audit : List Noted
  pub base : OpenStore P L
  pub taken : ℕ

-- under this premise, and where its devices have been honest, the engine is sound, with some earlier records
abbrev pub WasSound : {P L : Type 0} → page_device.Ghosts P → log_device.Ghosts L → Type 0 → OpenStore P L → Type 0
WasSound p l premise engine = premise → AreHonest p l engine → IsSoundOver engine.state

-- under this premise, and where the devices have been honest since, the engine with which the audit begins was sound, with
-- some earlier records
abbrev pub BeginsSound : {P L : Type 0} → page_device.Ghosts P → log_device.Ghosts L → Type 0 → Audited P L → Type 0
BeginsSound p l premise k = premise → AreHonest p l k.engine → IsSoundOver k.base.state

-- An audit that was taken. It has the engine as it was when one was taken before, how many entries were taken until then, and
-- the entries since.
pub record TakenAudit (P L : Type 0) : Type 0 where
  pub base : OpenStore P L
  pub before : ℕ
  pub audit : List Noted
