-- What holds of every legal log of a store.
use Rattle.std.specs.Prelude.{◌≡◌, ℕ, ◌+◌, ◌<◌, ◌≤◌, true, false, List, [], length}
use Rattle.std.specs.List.{sum_by}
use Rattle.rq_model.specs.declared.txn.Sub.{Sub}
use Rattle.rq_model.specs.declared.txn.Txn.{Txn}
use Rattle.rq_model.specs.declared.record.Record.{Record}
use Rattle.rq_model.specs.Tests.{below, count_rest}
use Rattle.rq_model.specs.Commits.{committed_of}
use Rattle.rq_model.specs.Rules.{KeepsRules}
use Rattle.rq_model.specs.Vocabulary.{client_group}
use Rattle.rq_page.specs.Sizes.{Sizes, IsInRange, cell_count, client_count, sender_count}
use Rattle.rq_views.specs.Claims.{takes_placed, HasRoom}
use Rattle.rq_views.specs.Groups.{KeepsGroups}
use Rattle.rq_views.specs.InStore.{InStore, AllStand}
use Rattle.rq_views.specs.Items.{items, layout_of, operation, ReadsItsDeeds}
use Rattle.rq_views.specs.Legal.{IsLegalLog, began, open_deeds, under_way, view}
use Rattle.rq_views.specs.Numbers.{greatest, AreNumbered}
use Rattle.rq_views.specs.Log.{Item, Places, Untouched, state_of}
use Rattle.rq_views.specs.Plans.{ShowsTag}
use Rattle.rq_views.specs.Stored.{count_used}

-- only cells hold messages, and only the directory slot of a sender tells of it
abbrev pub SlotsStandWhereTheyMay : Type 0
SlotsStandWhereTheyMay = (z : Sizes) (log : List Record) → InStore z log
    → AllStand z (state_of (layout_of z) (items z log)).slots

-- the cells that whole operations use are the messages of all chains
abbrev pub UsedCellsAreMessages : Type 0
UsedCellsAreMessages =
    (z : Sizes) (log : List Record) → IsLegalLog (layout_of z) (items z log) → InStore z log
    → count_used z (state_of (layout_of z) (items z log)).quiet
    ≡ sum_by (λ s. length (view (items z log) s).messages) (below (sender_count z))

-- where no operation is under way, the slots are those that whole operations have written
abbrev pub IdleSlotsAreWhole : Type 0
IdleSlotsAreWhole = (l : Places) (log : List Item) → IsLegalLog l log → ((o : Sub) → under_way o log ≡ false) → (a : ℕ)
    → (state_of l log).slots a ≡ (state_of l log).quiet a

-- no chain has held more messages than the log has records
abbrev pub ChainsAreBounded : Type 0
ChainsAreBounded = (z : Sizes) (log : List Record) (s : ℕ)
    → (view (items z log) s).received + length (view (items z log) s).messages ≤ length log

-- where every transaction that did something has ended, the used cells are the messages that are committed and not
-- taken
abbrev pub SettledCellsAreCommitted : Type 0
SettledCellsAreCommitted =
    (z : Sizes) (log : List Record) → IsLegalLog (layout_of z) (items z log) → InStore z log → KeepsGroups (items z log)
    → KeepsRules log → ReadsItsDeeds log
    → ((t : Txn) → open_deeds t (items z log) ≡ [])
    → count_used z (state_of (layout_of z) (items z log)).quiet ≡ count_rest (below (sender_count z)) (committed_of log)

-- while a transaction may put back what it took, a cell is left for each of these messages
abbrev pub TakenMessagesHaveCells : Type 0
TakenMessagesHaveCells =
    (z : Sizes) (log : List Record) (t : Txn) → IsLegalLog (layout_of z) (items z log) → InStore z log
    → HasRoom (cell_count z) (items z log)
    → count_used z (state_of (layout_of z) (items z log)).quiet + sum_by takes_placed (open_deeds t (items z log))
    ≤ cell_count z

-- the slots that whole operations alone have written show, of each client, the fold of its marks, whatever is under way
abbrev pub QuietSlotsShowTheTags : Type 0
QuietSlotsShowTheTags =
    (z : Sizes) (log : List Record) (c : ℕ) → IsInRange z → IsLegalLog (layout_of z) (items z log) → InStore z log
    → c < client_count z
    → ShowsTag (layout_of z) (state_of (layout_of z) (items z log)).quiet c (view (items z log) (client_group c))

-- and so do the slots as they are, of a client whose slot no operation under way has written
abbrev pub IdleSlotsShowTheTags : Type 0
IdleSlotsShowTheTags =
    (z : Sizes) (log : List Record) (c : ℕ) → IsInRange z → IsLegalLog (layout_of z) (items z log) → InStore z log
    → c < client_count z
    → ((o : Sub) → Untouched ((layout_of z).client_slot_at c) ((state_of (layout_of z) (items z log)).writes o))
    → ShowsTag (layout_of z) (state_of (layout_of z) (items z log)).slots c (view (items z log) (client_group c))

-- the numbers of a transaction's operations go from 1 to the greatest
abbrev pub NumbersHaveNoGaps : Type 0
NumbersHaveNoGaps =
    (l : Places) (t : Txn) (n : ℕ) (log : List Item) → IsLegalLog l log → AreNumbered log → 1 ≤ n → n ≤ greatest t log
    → began (operation t n) log ≡ true
