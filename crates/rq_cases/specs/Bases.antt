-- Stores whose log a Base begins: what one is, and what a restart reports of it.
use Rattle.std.specs.Prelude.{ℕ, List, [], ◌∷◌}
use Rattle.rq_model.specs.declared.record.Record.{Record}
use Rattle.rq_model.specs.declared.record.Record.TheVariants.{Base, OpEnd, OpVoid, Restart}
use Rattle.rq_views.specs.WorkedItems.{t1}
use Rattle.rq_store.specs.Fitting.{image_in}
use Rattle.rq_store.specs.Opening.{IsLeft}
use Rattle.rq_store.specs.Steps.{page_op}
use Rattle.rq_store.specs.Whole.{AreBehind, IsBased}
use Rattle.rq_restart.specs.Restarting.{Reports}
use Rattle.rq_cases.specs.Store.{fill_cell, formatted_pages, sizes}

-- a restart voided the one operation of 1.1, which has no end
abbrev pub voided : List Record
voided = Restart 2 ∷ OpVoid t1 1 ∷ page_op t1 1 fill_cell ∷ Restart 1 ∷ []

pub record BasesAreJudged : Type 0 where
  -- over formatted pages
  pub left : IsLeft sizes (image_in formatted_pages) (Base 1 1 ∷ Restart 1 ∷ [])
  -- as many records before it as it says, and a transaction with a record on one side of it
  pub counted : IsBased voided (Base 4 2)
  pub miscounted : IsBased voided (Base 5 2) → ⊥
  pub behind_its_own : AreBehind (page_op t1 1 fill_cell ∷ Base 4 2 ∷ voided) → ⊥
  pub behind_none_of_its_own : AreBehind (page_op t1 1 fill_cell ∷ Base 1 1 ∷ Restart 1 ∷ [])
  -- it tells the incarnation, and what has no end behind it is counted, whatever stood before it
  pub reports_the_first_incarnation : (older records : List Record) (n undone gone : ℕ)
      → Reports sizes (Base 5 3 ∷ older) records 1 n undone gone → ⊥
  pub reports_none_unfinished : (older records : List Record) (i n gone : ℕ)
      → Reports sizes (page_op t1 1 fill_cell ∷ Base 5 1 ∷ older) records i n 0 gone → ⊥
  pub reports_none_lost : (older records : List Record) (i n undone : ℕ)
      → Reports sizes (OpEnd t1 1 1 [] ∷ Base 5 1 ∷ older) records i n undone 0 → ⊥
