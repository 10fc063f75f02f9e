-- What holds of every sound store, by name.
use Rattle.rq_sound.specs.Chosen.{NotedCellsAreKnown, PlannedCellsAreKept}
use Rattle.rq_sound.specs.Gathering.{SlotsAreGathered, WantsAreNeeded}
use Rattle.rq_sound.specs.Groups.{SlotsTellGroups}
use Rattle.rq_sound.specs.Holders.{ViewsAreOfHolders}
use Rattle.rq_sound.specs.Latching.{LatchedIsExact}
use Rattle.rq_sound.specs.Levels.{LevelsPlanFromSlots, LevelsRefuseExactly}
use Rattle.rq_sound.specs.Plans.{PlansMayStart}
use Rattle.rq_sound.specs.Refusals.{RefusalsAreSteps, TestsReadRows}
use Rattle.rq_sound.specs.Theorems.{AbortsAreSteps, CallsKeepSoundness, CheckpointsAreSteps, DeedsAreSteps, InversesCanBePlanned, MigrationsAreSteps, OpenedIsSound, TestsAreAnswered}
use Rattle.rq_sound.specs.Unchanged.{UnchangedAreSteps}
use Rattle.rq_sound.specs.Waits.{WaitsAreGiven}
use Rattle.rq_sound.specs.Wants.{LevelsFindAll}
use Rattle.rq_sound.specs.Worked.{NotSound}

pub record Laws : Type 0 where
  -- Each call keeps a store sound: a begin; the start of a send, a receive, a close, a mark or an inverse, each of its
  -- writes and its end; a commit; the start and the end of an abort; a force; and the failure of a device.
  pub calls_keep_soundness : CallsKeepSoundness
  -- The inverse of what a transaction did last, a mark included, can be planned, whatever others do meanwhile, once
  -- nobody has latched the page of its own slot, and finds a cell where it needs one.
  pub inverses_can_be_planned : InversesCanBePlanned
  -- What the model's tests ask of a store's ledger is what the store keeps.
  pub tests_are_answered : TestsAreAnswered
  -- Aborts are steps of the model, with their inverses: each answer is a legal entry, and the ledger is what it makes
  -- of the one before. So are slot writes, begins and forces.
  pub aborts_are_steps : AbortsAreSteps
  -- So is a checkpoint of a store without open transactions: one record stands for all, and all else stays.
  pub checkpoints_are_steps : CheckpointsAreSteps
  -- And a migration, which stops the store.
  pub migrations_are_steps : MigrationsAreSteps
  -- Deeds and commits are steps of the model: the start of a send, a receive, a close or a mark, that no message waits,
  -- the end, and a commit.
  pub deeds_are_steps : DeedsAreSteps
  -- While transactions are open a group's chain holds what is committed of it and not received, less the first
  -- messages, which the transaction that holds its receiving end took, and then those that the one that holds its
  -- sending end sent.
  pub views_are_of_holders : ViewsAreOfHolders
  -- A store that opens over a whole log in which everything has ended is sound.
  pub opened_is_sound : OpenedIsSound
  -- What no sound store has.
  pub unsound_stores : NotSound
  -- What calls rest on, those of the engine and of one that drives levels, down to the last.
  -- A refusal that the model's tests give is a step that changes nothing; a device's failure stops the store.
  pub refusals_are_steps : RefusalsAreSteps
  -- What the model's tests read of a store's ledger is what its rows say.
  pub tests_read_rows : TestsReadRows
  -- A group gives a transaction a message exactly where its receiving end is free for it and a message waits.
  pub waits_are_given : WaitsAreGiven
  -- Where nobody has latched the page of a group's directory slot, the slots as they are show the group, and the
  -- cells at both ends of its chain stand where the links name them.
  pub slots_tell_groups : SlotsTellGroups
  -- What is planned from the slots as they are, on pages that nobody has latched, may start.
  pub plans_may_start : PlansMayStart
  -- What the levels of chains and of tags plan from slots of pages that nobody has latched is planned from the slots as
  -- they are.
  pub levels_plan_from_slots : LevelsPlanFromSlots
  -- The level of chains refuses what can be done for want of memory alone, or where each free cell is on a latched
  -- page; that of tags for want of memory alone.
  pub levels_refuse_exactly : LevelsRefuseExactly
  -- A plan leaves the level knowing the cells, but for the one that it chose: that is to be written where the plan
  -- starts, and is given back where its slots are noted as they are.
  pub planned_cells_are_kept : PlannedCellsAreKept
  -- A level that is told the sizes of a store, and then each slot as it is, knows its cells.
  pub noted_cells_are_known : NotedCellsAreKnown
  -- The calls that change no list are steps of the model.
  pub unchanged_are_steps : UnchangedAreSteps
  -- A call that passes the model's tests and has something to start can be planned over the slots as they are exactly
  -- where not all that it may start needs a latched page, or a cell of which none is free outside those.
  pub latched_is_exact : LatchedIsExact
  -- What the levels of chains and of tags were given of the slots that they want holds what their operation needs, where
  -- nobody has latched the page of its group's directory slot, or of its client's slot.
  pub levels_find_all : LevelsFindAll
  -- What the levels of chains and of tags ask for before they plan is among the slots that their operation needs, and
  -- they ask for nothing more once they were given them all.
  pub wants_are_needed : WantsAreNeeded
  -- Slots of the store are given to a level one after the other, each as it is.
  pub slots_are_gathered : SlotsAreGathered
