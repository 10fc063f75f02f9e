-- What kinds of entry there are, for what they make of the commits and of the counts of the log.
use Rattle.std.proofs.Common.{ap, ◌≡◌, ℕ, ◌≤◌, refl, sym, ◌∙◌, Bool, true, false, arith}
use Rattle.rq_model.specs.declared.txn.Txn.{Txn}
use Rattle.rq_model.specs.declared.refusal.Refusal.{Refusal}
use Rattle.rq_model.specs.declared.refusal.Refusal.TheVariants.{DiskWrite}
use Rattle.rq_model.specs.History.{Entry, Call}
use Rattle.rq_model.specs.History.Entry.{Begun, Started, None_free, None_from, Stepped, Ready, Did, Undid, Committed, Acknowledged, Aborting, None_left, Aborted, Handed_over, Forced, Checkpointed, Migrated, Grew, Wrote, Told, Told_client, Shown, Refused, Crash, Restarted}
use Rattle.rq_model.specs.Ledger.{Ledger, runs, after}

-- the commits, the incarnation and what is forced stay, and no record is lost
pub record Same (l m : Ledger) : Type 0 where
  pub committed : m.committed ≡ l.committed
  pub incarnation : m.incarnation ≡ l.incarnation
  pub forced : m.forced ≡ l.forced
  pub durable : m.durable ≡ l.durable
  pub records : l.records ≤ m.records
  pub running : runs m.phase ≡ true → runs l.phase ≡ true

abbrev pub is_commit : Entry → Bool
is_commit (Committed t lsn) = true
is_commit _ = false

pub data Kind : Entry → Type 0 where
  Plain : {e : Entry} → ((l : Ledger) → Same l (after e l)) → is_commit e ≡ false → Kind e
  Commits : (t : Txn) (lsn : ℕ) → Kind (Committed t lsn)
  Forces : (lsn : ℕ) → Kind (Forced lsn)
  Checkpoints : (lsn : ℕ) → Kind (Checkpointed lsn)
  Migrates : (pages lsn : ℕ) → Kind (Migrated pages lsn)
  Grows : (pages records : ℕ) → Kind (Grew pages records)
  Crashes : (kept records : ℕ) → Kind (Crash kept records)
  Restarts : (i records : ℕ) → Kind (Restarted i records)

same : (l m : Ledger) → m.committed ≡ l.committed → m.incarnation ≡ l.incarnation → m.forced ≡ l.forced → m.durable ≡ l.durable → l.records ≤ m.records → m.phase ≡ l.phase → Same l m
same l m a b c d e f = record { committed = a; incarnation = b; forced = c; durable = d; records = e; running = λ y. sym (ap runs f) ∙ y }

refused_same : (l : Ledger) (c : Call) (r : Refusal) → Same l (after (Refused c r) l)
refused_same l c DiskWrite = record { committed = refl; incarnation = refl; forced = refl; durable = refl; records = omega arith; running = λ y. cc y }
refused_same l c r = same l l refl refl refl refl (omega arith) refl

pub kind : (e : Entry) → Kind e
kind (Begun t) = Plain (λ l. same l (after (Begun t) l) refl refl refl refl (omega arith) refl) refl
kind (Started t n job) = Plain (λ l. same l (after (Started t n job) l) refl refl refl refl (omega arith) refl) refl
kind (None_free t) = Plain (λ l. same l (after (None_free t) l) refl refl refl refl (omega arith) refl) refl
kind (None_from t s) = Plain (λ l. same l (after (None_from t s) l) refl refl refl refl (omega arith) refl) refl
kind (Stepped t n lsn) = Plain (λ l. same l (after (Stepped t n lsn) l) refl refl refl refl (omega arith) refl) refl
kind (Ready t n) = Plain (λ l. same l (after (Ready t n) l) refl refl refl refl (omega arith) refl) refl
kind (Did t n op) = Plain (λ l. same l (after (Did t n op) l) refl refl refl refl (omega arith) refl) refl
kind (Undid t n) = Plain (λ l. same l (after (Undid t n) l) refl refl refl refl (omega arith) refl) refl
kind (Acknowledged t lsn given) = Plain (λ l. same l (after (Acknowledged t lsn given) l) refl refl refl refl (omega arith) refl) refl
kind (Aborting t) = Plain (λ l. same l (after (Aborting t) l) refl refl refl refl (omega arith) refl) refl
kind (None_left t) = Plain (λ l. same l (after (None_left t) l) refl refl refl refl (omega arith) refl) refl
kind (Aborted t) = Plain (λ l. same l (after (Aborted t) l) refl refl refl refl (omega arith) refl) refl
kind Handed_over = Plain (λ l. same l (after Handed_over l) refl refl refl refl (omega arith) refl) refl
kind (Wrote page done) = Plain (λ l. same l (after (Wrote page done) l) refl refl refl refl (omega arith) refl) refl
kind (Told s sent tag) = Plain (λ l. same l (after (Told s sent tag) l) refl refl refl refl (omega arith) refl) refl
kind (Told_client c count tag) = Plain (λ l. same l (after (Told_client c count tag) l) refl refl refl refl (omega arith) refl) refl
kind (Shown groups) = Plain (λ l. same l (after (Shown groups) l) refl refl refl refl (omega arith) refl) refl
kind (Refused c r) = Plain (λ l. refused_same l c r) refl
kind (Committed t lsn) = Commits t lsn
kind (Forced lsn) = Forces lsn
kind (Checkpointed lsn) = Checkpoints lsn
kind (Migrated pages lsn) = Migrates pages lsn
kind (Grew pages records) = Grows pages records
kind (Crash kept records) = Crashes kept records
kind (Restarted i records) = Restarts i records
