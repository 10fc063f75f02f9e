-- The incarnations of a log's records, and what a restart adds to a log.
use Rattle.std.specs.Prelude.{◌≡◌, ℕ, ◌+◌, ◌≤◌, Bool, true, false, List, [], ◌∷◌, ◌++◌, length, Option, Some, None}
use Rattle.rq_model.specs.declared.txn.Txn.{Txn}
use Rattle.rq_model.specs.declared.record.Record.{Record}
use Rattle.rq_model.specs.declared.record.Record.TheVariants.{PageOp, PageUndo, OpEnd, OpVoid, CompEnd, Commit, Restart, AbortEnd, Base}
use Rattle.rq_model.specs.Ledger.{Ledger}
use Rattle.rq_model.specs.Ledger.Phase.{Running}
use Rattle.rq_model.specs.Commits.{committed_of}

-- the incarnation that the log's records are of, 0 where it has none
abbrev pub incarnation_one : Record → ℕ → ℕ
incarnation_one (Restart i) n = i
incarnation_one (Base many i) n = i
incarnation_one _ n = n

abbrev pub incarnation_of : List Record → ℕ
incarnation_of [] = 0
incarnation_of (r ∷ log) = incarnation_one r (incarnation_of log)

-- whose record it is
abbrev pub txn_of : Record → Option Txn
txn_of (PageOp t n page slot before after) = Some t
txn_of (PageUndo t n undone page slot after) = Some t
txn_of (OpEnd t n level deed) = Some t
txn_of (OpVoid t n) = Some t
txn_of (CompEnd t n undone) = Some t
txn_of (Commit t) = Some t
txn_of (Restart i) = None
txn_of (AbortEnd t) = Some t
txn_of (Base many i) = None

-- incarnations are counted from 1 on, and each record is of the running one
abbrev pub IsOf : ℕ → Option Txn → Type 0
IsOf i None = Unit {0}
IsOf i (Some t) = (1 ≤ i) × (t.incarnation ≡ i)

abbrev pub IsNext : ℕ → Record → Type 0
IsNext i (Restart j) = j ≡ i + 1
IsNext i (Base many j) = (1 ≤ i) × (j ≡ i)
IsNext i r = IsOf i (txn_of r)

abbrev pub InOrder : List Record → Type 0
InOrder [] = Unit {0}
InOrder (r ∷ log) = IsNext (incarnation_of log) r × InOrder log

-- what a restart adds: no Commit, no OpEnd and no Base
abbrev pub is_plain : Record → Bool
is_plain (Commit t) = false
is_plain (OpEnd t n level deed) = false
is_plain (Base many i) = false
is_plain _ = true

abbrev pub ArePlain : List Record → Type 0
ArePlain [] = Unit {0}
ArePlain (r ∷ log) = (is_plain r ≡ true) × ArePlain log

-- the older log, with plain records behind
abbrev pub Extends : List Record → List Record → Type 0
Extends older log = (more : List Record) × (more ++ older ≡ log) × ArePlain more

-- the ledger has what the log tells, which is of no earlier incarnation
pub record Ties (l : Ledger) (log : List Record) : Type 0 where
  pub committed : l.committed ≡ committed_of log
  pub records : l.records ≡ length log
  pub incarnation : l.incarnation ≤ incarnation_of log

-- the ledger of a store that was opened over this log
abbrev pub opened_ledger : List Record → Ledger
opened_ledger log = record {
  committed = committed_of log;
  open_ones = [];
  phase = Running;
  incarnation = incarnation_of log;
  begins = 0;
  records = length log;
  forced = length log;
  durable = length (committed_of log);
}
