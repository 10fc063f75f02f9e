-- The store with other earlier records.
use Rattle.std.proofs.Common.{◌≡◌, ℕ, ◌+◌, ◌-◌, ◌/◌, ◌%◌, ◌^◌, false, zero, suc, List, [], ◌∷◌, length, refl, sym, ◌∙◌, ap, subst, nat_lt, arith}
use Rattle.std.specs.List.{sum_by}
use Rattle.rq_model.specs.declared.record.Record.{Record}
use Rattle.rq_model.specs.declared.record.Record.TheVariants.{Base, Restart}
use Rattle.rq_model.specs.Bases.{gone, standing}
use Rattle.rq_log.specs.Spelled.{AreAllSpelled, AreFirst, AreSpelled, IsBeginning}
use Rattle.rq_model.specs.Tests.{log_full, owed}
use Rattle.rq_model.specs.History.{Call}
use Rattle.rq_model.specs.Replay.{Reply as Gave}
use Rattle.rq_store.specs.State.{State, ledger_of}
use Rattle.rq_sound.specs.Sound.{IsSound}
use Rattle.rq_sound.specs.ModelSteps.{IsModelStep}
use Rattle.rq_model.specs.declared.txn.Sub.{Sub}
use Rattle.rq_model.specs.declared.record.Deed.{Deed}
use Rattle.rq_model.specs.History.Call.{Force}
use Rattle.rq_model.specs.Replay.Reply.{Gave_forced}
use Rattle.rq_level.specs.declared.writes.SlotWrite.{SlotWrite}
use Rattle.rq_page.specs.Pages.{IsWritten}
use Rattle.rq_txn.specs.Rows.{change_row, row_finished}
use Rattle.rq_store.specs.Fitting.{image_in}
use Rattle.rq_store.specs.Steps.{op_end}
use Rattle.rq_engine.specs.Answers.{IsMade}
use Rattle.rq_engine.specs.Moves.{without_taken}
use Rattle.rq_engine.proofs.Standing.{force_steps}
use Rattle.rq_engine.specs.Earlier.{unknown, unknown_one, rebased, rebased_one, on, IsEarlier}

long_one : (e : List Record) (r : Record) (log rest new : List Record) → length e ≡ length (unknown_one r log rest) → (length e ≡ length rest → length new ≡ length log) → length (rebased_one e r new) ≡ suc (length log)
long_one e (Restart zero) log rest new h ih = h
long_one e _ log rest new h ih = ap suc (ih h)

pub long : (e log : List Record) → length e ≡ length (unknown log) → length (rebased e log) ≡ length log
long e [] h = refl
long e (r ∷ log) h = long_one e r log (unknown log) (rebased e log) h (long e log)

own_one : (r : Record) (log rest : List Record) → rebased rest log ≡ log → rebased_one (unknown_one r log rest) r (rebased (unknown_one r log rest) log) ≡ r ∷ log
own_one (Restart zero) log rest h = refl
own_one r log rest h = ap (λ (l : List Record). r ∷ l) h

pub own : (log : List Record) → rebased (unknown log) log ≡ log
own [] = refl
own (r ∷ log) = own_one r log (unknown log) (own log)

-- what stands of it on a device is the same
standing_one : (e : List Record) (r : Record) (log : List Record) → AreSpelled (r ∷ log) → length e ≡ length (unknown (r ∷ log)) → (AreSpelled log → length e ≡ length (unknown log) → (standing (rebased e log) ≡ standing log) × (gone (rebased e log) ≡ gone log))
    → (standing (rebased e (r ∷ log)) ≡ standing (r ∷ log)) × (gone (rebased e (r ∷ log)) ≡ gone (r ∷ log))
standing_one e (Restart zero) log told h ih = absurd (omega (arith, told.0.0))
standing_one e (Restart (suc i)) log told h ih = let k = ih told.1 h in (ap (λ (l : List Record). Restart (suc i) ∷ l) k.0, k.1)
standing_one e (Base many i) log told h ih = (refl, long e log h)
standing_one e r log told h ih = let k = ih told.1 h in (ap (λ (l : List Record). r ∷ l) k.0, k.1)

pub standing_on : (e log : List Record) → AreSpelled log → length e ≡ length (unknown log) → (standing (rebased e log) ≡ standing log) × (gone (rebased e log) ≡ gone log)
standing_on e [] told h = (refl, refl)
standing_on e (r ∷ log) told h = standing_one e r log told h (standing_on e log)

pub told_on : (e log : List Record) → AreSpelled log → length e ≡ length (unknown log) → AreSpelled (rebased e log)
told_on e log told h = subst AreAllSpelled (sym (standing_on e log told h).0) told

pub beginning_on : (e log : List Record) (forced : ℕ) (bytes : List ℕ) → AreSpelled log → length e ≡ length (unknown log) → IsBeginning log forced bytes → IsBeginning (rebased e log) forced bytes
beginning_on e log forced bytes told h b =
    let same = standing_on e log told h in
    subst (λ (l : List Record). AreFirst l (forced - gone (rebased e log)) bytes) (sym same.0) (subst (λ (n : ℕ). AreFirst (standing log) (forced - n) bytes) (sym same.1) b)

-- its log is as long, and as full
pub long_on : (e : List Record) (s : State) → IsEarlier e s → length (on e s).records ≡ length s.records
long_on e s h = long e s.records h

-- from what is inside an engine to what is seen of it
pub from_inside_on : {a b new : State} {c : Call} {gave : Gave} (e : List Record) → a ≡ b → IsEarlier e b → (IsEarlier e a → IsSound (on e a) → IsModelStep (on e a) c gave new) → IsSound (on e b) → IsModelStep (on e b) c gave new
from_inside_on {a} {b} {new} {c} {gave} e same at h k = subst (λ (s : State). IsModelStep (on e s) c gave new) same (h (subst (IsEarlier e) (sym same) at) (subst (λ (s : State). IsSound (on e s)) (sym same) k))

pub full_on : (e : List Record) (s : State) → IsEarlier e s → (n : ℕ) → log_full (ledger_of (on e s)) n ≡ log_full (ledger_of s) n
full_on e s h n = ap (λ (m : ℕ). nat_lt (2 ^ 50) (m + sum_by owed (ledger_of s).open_ones + n)) (long_on e s h)

-- a slot write was made, with its record
pub made_on : (e : List Record) (old new : State) (sub : Sub) (w : SlotWrite) → IsEarlier e old → IsMade old sub w new → IsMade (on e old) sub w (on e new)
made_on e old new sub w h m = record {
  state = ap (on e) m.state;
  before = m.before;
  slot = m.slot;
  slots = m.slots;
  put_in = record {
    page = subst (λ (n : ℕ). IsWritten (image_in old.images (w.at / 16)) (image_in new.images (w.at / 16)) (w.at % 16) w.after (n + 1)) (sym (long_on e old h)) m.put_in.page;
    others = m.put_in.others;
    superblock = m.put_in.superblock;
    headers = m.put_in.headers;
  };
}

pub lsn_on : (e : List Record) (s : State) → IsEarlier e s → (lsn : ℕ) → lsn ≡ length s.records + 1 → lsn ≡ length (on e s).records + 1
lsn_on e s h lsn at = at ∙ ap (λ (n : ℕ). n + 1) (sym (long_on e s h))

-- an operation ended
pub ended_on : (e : List Record) (s new : State) (sub : Sub) (d : Deed) → IsEarlier e s
    → new ≡ record s { rows = change_row sub.txn (row_finished (record { lsn = length s.records + 1; number = sub.number; deed = d })) s.rows; records = op_end sub.txn sub.number d ∷ s.records; waiting = without_taken d s.waiting }
    → on e new ≡ record (on e s) { rows = change_row sub.txn (row_finished (record { lsn = length (on e s).records + 1; number = sub.number; deed = d })) s.rows; records = op_end sub.txn sub.number d ∷ (on e s).records; waiting = without_taken d s.waiting }
ended_on e s new sub d h is = ap (on e) is ∙ ap (λ (n : ℕ). record (on e s) { rows = change_row sub.txn (row_finished (record { lsn = n + 1; number = sub.number; deed = d })) s.rows; records = op_end sub.txn sub.number d ∷ (on e s).records; waiting = without_taken d s.waiting }) (sym (long_on e s h))

-- a force
pub force_inside : (e : List Record) {a b : State} → a ≡ b → IsEarlier e b → a.failed ≡ false → IsSound (on e b) → IsModelStep (on e b) Force (Gave_forced (length a.records)) (on e (record a { forced = length a.records }))
force_inside e {a} {b} same at running k =
    let here : IsEarlier e a = subst (IsEarlier e) (sym same) at in
    let sound : IsSound (on e a) = subst (λ (s : State). IsSound (on e s)) (sym same) k in
    subst (λ (s : State). IsModelStep (on e s) Force (Gave_forced (length a.records)) (on e (record a { forced = length a.records }))) same
    (subst (λ (n : ℕ). IsModelStep (on e a) Force (Gave_forced n) (record (on e a) { forced = n })) (long_on e a here) (force_steps (on e a) sound running))
