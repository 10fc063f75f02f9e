-- What has ended, by the fold that a restart makes and by the filters of the log.
use Rattle.std.specs.Prelude.{◌≡◌, ◌↔◌, List, []}
use Rattle.rq_model.specs.declared.record.Record.{Record}
use Rattle.rq_model.specs.Bases.{marked}
use Rattle.rq_model.specs.Unended.{lost}
use Rattle.rq_page.specs.Sizes.{Sizes}
use Rattle.rq_store.specs.Whole.{IsWhole}
use Rattle.rq_restart.specs.Checked.{IsEnded}

-- Of every whole log they are the same, also as it is read: no transaction is lost.
pub record EndedIsSettled : Type 0 where
  pub whole : (z : Sizes) (log : List Record) → IsWhole z log → IsEnded log ↔ (lost log ≡ [])
  pub read : (z : Sizes) (log : List Record) → IsWhole z log → IsEnded (marked log) ↔ (lost log ≡ [])
