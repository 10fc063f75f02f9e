-- What a crash may leave of checkpoints and migrations that it cut off, or that a device refused.
use Rattle.std.specs.Prelude.{◌≡◌, ℕ, ◌+◌, false, true, List, [], ◌∷◌, Option, Some, None}
use Rattle.rq_model.specs.declared.refusal.Refusal.{Refusal}
use Rattle.rq_model.specs.declared.refusal.Refusal.TheVariants.{DiskWrite}
use Rattle.rq_model.specs.History.{Call, Entry}
use Rattle.rq_model.specs.History.Call.{Checkpoint, Migrate}
use Rattle.rq_model.specs.History.Entry.{Crash, Grew, Migrated, Refused}
use Rattle.rq_model.specs.Ledger.{Ledger, Phase, runs}
use Rattle.rq_model.specs.Tests.{log_full}

-- What no crash has told yet: nothing. Or a checkpoint that a device refused, so a crash may leave its record. Or a migration that
-- a device refused, so a crash may leave its record, and its tag pages over it. Or one that was answered, so it leaves both.
pub data Growth : Type 0 where
  Stays : Growth
  May_base : Growth
  May_grow : (pages : ℕ) → Growth
  Grows : (pages : ℕ) → Growth

abbrev pub refused_growth : Refusal → Call → Growth → Growth
refused_growth DiskWrite Checkpoint g = May_base
refused_growth DiskWrite (Migrate pages) g = May_grow pages
refused_growth _ _ g = g

abbrev pub growth_by : Entry → Growth → Growth
growth_by (Migrated pages lsn) g = Grows pages
growth_by (Refused call refusal) g = refused_growth refusal call g
growth_by (Grew pages records) g = Stays
growth_by (Crash kept records) g = Stays
growth_by _ g = g

-- behind a history
abbrev pub growth : List Entry → Growth
growth [] = Stays
growth (e ∷ h) = growth_by e (growth h)

-- the tag pages that are left: none more than before, or those
abbrev pub IsGrownBy : Growth → Option ℕ → Type 0
IsGrownBy Stays None = Unit {0}
IsGrownBy Stays (Some n) = ⊥
IsGrownBy May_base None = Unit {0}
IsGrownBy May_base (Some n) = ⊥
IsGrownBy (May_grow pages) None = Unit {0}
IsGrownBy (May_grow pages) (Some n) = n ≡ pages
IsGrownBy (Grows pages) None = ⊥
IsGrownBy (Grows pages) (Some n) = n ≡ pages

-- So many tag pages are of a migration: of the one that was answered, or that a device refused. Or of one that a store which runs
-- was asked for, where the crash comes inside it. The log had room for its record.
abbrev pub IsOfMigration : Growth → Ledger → ℕ → Type 0
IsOfMigration Stays l pages = (runs l.phase ≡ true) × (log_full l 1 ≡ false)
IsOfMigration May_base l pages = ⊥
IsOfMigration (May_grow asked) l pages = (pages ≡ asked) × (log_full l 1 ≡ false)
IsOfMigration (Grows asked) l pages = pages ≡ asked

-- The records that stand where tag pages do: all, with the migration's. That of one which was answered is counted already.
abbrev pub records_grown : Growth → Ledger → ℕ
records_grown (Grows pages) l = l.records
records_grown _ l = l.records + 1

-- a checkpoint or a migration has failed for a device; or the store runs, and the crash may come inside one
abbrev pub MayBeCutOff : Growth → Phase → Type 0
MayBeCutOff Stays phase = runs phase ≡ true
MayBeCutOff May_base phase = Unit {0}
MayBeCutOff (May_grow pages) phase = Unit {0}
MayBeCutOff (Grows pages) phase = ⊥

-- One record may stand for all: that of a checkpoint or a migration which was not answered. No transaction is open, and the log had
-- room for it.
pub record MayStand (g : Growth) (l : Ledger) : Type 0 where
  pub none_open : l.open_ones ≡ []
  pub room : log_full l 1 ≡ false
  pub cut_off : MayBeCutOff g l.phase
