-- What the slots as they are say of a sender's group, while operations of others are under way.
use Rattle.std.specs.Prelude.{◌&&◌, not, ◌≡◌, ℕ, ◌+◌, ◌-◌, ◌/◌, ◌<◌, ◌≤◌, ◌||◌, Bool, true, false, List, [], ◌∷◌, length, map}
use Rattle.rq_model.specs.Commits.{committed_of}
use Rattle.rq_model.specs.Ledger.{any_ends, ended_in}
use Rattle.rq_page.specs.declared.cell.Cell.{Cell}
use Rattle.rq_page.specs.declared.directory.Directory.{Directory}
use Rattle.rq_page.specs.Sizes.{Sizes, IsCellAddress, cell_count, directory_at, sender_count}
use Rattle.rq_page.specs.Slots.Slot.{Used, Sender}
use Rattle.rq_views.specs.Items.{items, layout_of}
use Rattle.rq_views.specs.Legal.{view}
use Rattle.rq_views.specs.Log.{Slots}
use Rattle.rq_views.specs.Plans.{ShowsAt}
use Rattle.rq_views.specs.Stored.{slots_in, count_used}
use Rattle.rq_groups.specs.Ends.{is_free_for}
use Rattle.rq_groups.specs.Waiting.{waits}
use Rattle.rq_store.specs.State.{op_done, State}
use Rattle.rq_txn.specs.Rows.{Row, any_under, latched_in}
use Rattle.rq_sound.specs.Sound.{IsSound}
use Rattle.rq_sound.specs.Calls.{IsIdle}

-- the slots of a store, as its pages hold them
abbrev pub slots_now : State → Slots
slots_now s = slots_in s.sizes s.images

-- a cell of the group, with this number, stands at the address
pub record StandsAt (z : Sizes) (q : Slots) (a g n : ℕ) : Type 0 where
  pub cell : Cell
  pub at : q a ≡ Used cell
  pub place : IsCellAddress z a
  pub sender : cell.sender ≡ g
  pub sequence : cell.sequence ≡ n

-- the link behind or before a cell at one end of a chain: it names a cell where there is more than one
pub record LinksOn (z : Sizes) (q : Slots) (g n link : ℕ) (d : Directory) : Type 0 where
  pub one : d.received + 1 ≡ d.sent → link ≡ 0
  pub more : d.received + 1 < d.sent → StandsAt z q link g n

-- A group's directory slot says what whole operations made of the group, and where its first and its last cell stand,
-- with those beside them.
pub record TellsGroup (s : State) (g : ℕ) (d : Directory) : Type 0 where
  pub closed : (view (items s.sizes s.records) g).closed ≡ d.closed
  pub received : (view (items s.sizes s.records) g).received ≡ d.received
  pub last_tag : (view (items s.sizes s.records) g).last_tag ≡ d.last_tag
  pub sent : d.sent ≡ d.received + length (view (items s.sizes s.records) g).messages
  pub within : d.sent ≤ length s.records
  pub waiting : d.received + waits s.waiting g ≤ d.sent
  pub empty : d.received ≡ d.sent → (d.head ≡ 0) × (d.tail ≡ 0)
  pub head : d.received < d.sent → StandsAt s.sizes (slots_now s) d.head g (d.received + 1)
  pub next : (c : Cell) → d.received < d.sent → slots_now s d.head ≡ Used c
      → LinksOn s.sizes (slots_now s) g (d.received + 2) c.next d
  pub tail : d.received < d.sent → StandsAt s.sizes (slots_now s) d.tail g d.sent
  pub front : (c : Cell) → d.received < d.sent → slots_now s d.tail ≡ Used c
      → LinksOn s.sizes (slots_now s) g (d.sent - 1) c.prev d

-- some transaction that has not ended has closed the group, and not undone that
abbrev pub closed_by_any : ℕ → List Row → Bool
closed_by_any g [] = false
closed_by_any g (r ∷ rows) = any_ends g (map op_done r.finished) || closed_by_any g rows

-- Where nobody has latched the page of a group's directory slot, the slots show the group, whatever else is under way;
-- where nothing is under way, nobody has. Whether the group is closed its directory slot says besides to whoever may
-- send to it, latched or not; and that it is, is by a commit or by a transaction that has not ended, never by both.
-- Where the store is not full, fewer cells are used than there are.
pub record SlotsTellGroups : Type 0 where
  pub shows : (s : State) (g : ℕ) → IsSound s → g < sender_count s.sizes
      → latched_in s.rows (directory_at g / 16) ≡ false
      → ShowsAt (layout_of s.sizes) (slots_now s) g (view (items s.sizes s.records) g)
  pub tells : (s : State) (g : ℕ) (d : Directory) → IsSound s → g < sender_count s.sizes
      → latched_in s.rows (directory_at g / 16) ≡ false → slots_now s (directory_at g) ≡ Sender g d → TellsGroup s g d
  pub none_latched : (s : State) (p : ℕ) → any_under s.rows ≡ false → latched_in s.rows p ≡ false
  pub flag : (s : State) (r : Row) (g : ℕ) (d : Directory) → IsSound s → IsIdle s r → g < sender_count s.sizes
      → is_free_for r.txn g s.ends.sending ≡ true → slots_now s (directory_at g) ≡ Sender g d
      → (view (items s.sizes s.records) g).closed ≡ d.closed
  pub closed : (s : State) (g : ℕ) → IsSound s
      → (view (items s.sizes s.records) g).closed ≡ (closed_by_any g s.rows || ended_in (committed_of s.records) g)
  pub closed_by_commit : (s : State) (g : ℕ) → IsSound s
      → ended_in (committed_of s.records) g
      ≡ ((view (items s.sizes s.records) g).closed && not (closed_by_any g s.rows))
  pub room : (s : State) → IsSound s → s.cells_in_use < cell_count s.sizes
      → count_used s.sizes (slots_now s) < cell_count s.sizes
