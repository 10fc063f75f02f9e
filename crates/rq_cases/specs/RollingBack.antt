-- What undoes what has no end in a log, over the worked run and over the worked log with a lost transaction.
use Rattle.std.specs.Prelude.{ℕ, ◌∷◌}
use Rattle.rq_disk.specs.Device.{Images}
use Rattle.rq_model.specs.declared.record.Record.TheVariants.{AbortEnd, Commit}
use Rattle.rq_views.specs.WorkedItems as items
use Rattle.rq_store.specs.Opening.{opened}
use Rattle.rq_analysis.specs.Worked.{log_two, took_due}
use Rattle.rq_analysis.specs.WorkedMoves.{Pages, cell_is_back, ended, group_is_back, put_back, unlinked}
use Rattle.rq_restart.specs.Aborting.{AbortsBehind, IsAborting, IsPlannedOn, RepeatedFrom}
use Rattle.rq_restart.specs.RolledBack.{HasRepeated, IsBadRollback, IsRolledBack}
use Rattle.rq_restart.specs.Restarting.{IsOpenedOver}
use Rattle.rq_restart.specs.Undoing.{IsBadUndo, IsFullUndo}
use Rattle.rq_cases.specs.Restarting.{read_pages}
use Rattle.rq_cases.specs.Run.{log_2, log_4, log_5}
use Rattle.rq_cases.specs.Store.{sizes}
use Rattle.rq_views.specs.WorkedItems.{t1, t2}

pub record MendsAreJudged : Type 0 where
  -- what the lost transaction did is taken back in its turn, the newest first, and then it ends
  pub taken_back : (v : Pages) → IsRolledBack log_two (ended v).records
  pub opened_over : (v : Pages) → IsOpenedOver log_two (opened items.sizes v.fourth (ended v).records)
  pub one_taken_back : (v : Pages) → AbortsBehind log_two (group_is_back v).records → ⊥
  pub half_taken_back : (v : Pages) (first : Images)
      → IsPlannedOn items.sizes (RepeatedFrom items.sizes first log_two) took_due put_back.writes
      → IsAborting items.sizes (RepeatedFrom items.sizes first) log_two (cell_is_back v).records
  -- by no writes that are not planned
  pub not_planned : (v : Pages) → IsAborting items.sizes (λ l pages. ⊥) log_two (cell_is_back v).records → ⊥
  pub nothing_taken_back : IsRolledBack log_two log_two → ⊥
  pub not_ended : (v : Pages) → IsRolledBack log_two (unlinked v).records → ⊥
  -- it doesn't end before that, nor in another's place
  pub ends_early : AbortsBehind log_two (AbortEnd t2 ∷ log_two) → ⊥
  pub another_ends : (first : Images)
      → IsAborting items.sizes (RepeatedFrom items.sizes first) log_two (AbortEnd t1 ∷ log_two) → ⊥
  pub commits : (first : Images)
      → IsAborting items.sizes (RepeatedFrom items.sizes first) log_two (Commit t2 ∷ log_two) → ⊥
  -- of a store that was left so what it did can be taken back
  pub no_bad_rollback : (lsn : ℕ) → IsBadRollback sizes log_4 read_pages lsn → ⊥
  -- an operation that is open is undone
  pub no_bad_undo : (lsn : ℕ) → IsBadUndo sizes log_2 read_pages lsn → ⊥
  -- five records are no full log
  pub not_full : IsFullUndo log_5 → ⊥
  -- the next incarnation is begun
  pub not_begun : (old new : Images) → HasRepeated sizes log_5 log_5 old new → ⊥
