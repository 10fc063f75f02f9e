-- What holds of every whole log.
use Rattle.std.specs.Prelude.{ℕ, List, drop}
use Rattle.rq_model.specs.declared.record.Record.{Record}
use Rattle.rq_page.specs.Sizes.{Sizes}
use Rattle.rq_store.specs.Whole.{IsWhole}

-- whatever newest records are cut off
abbrev pub BeginningsAreWhole : Type 0
BeginningsAreWhole = (z : Sizes) (lost : ℕ) (log : List Record) → IsWhole z log → IsWhole z (drop lost log)
