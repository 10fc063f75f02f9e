-- Which calls cannot start an operation for what others have latched, exactly.
use Rattle.std.specs.Prelude.{◌≡◌, ℕ, ◌/◌, ◌||◌, ◌++◌, ◌⊎◌, Bool, true, false, cond, nat_eq, nat_lt, List, [], ◌∷◌}
use Rattle.rq_model.specs.declared.record.Deed.TheVariants.{Append, UnlinkHead, Close, Mark}
use Rattle.rq_model.specs.History.{Call}
use Rattle.rq_model.specs.History.Job.{Sending, Taking, Ending, Marking}
use Rattle.rq_model.specs.Legal.{OnFound}
use Rattle.rq_model.specs.Tests.{Passes, starts}
use Rattle.rq_model.specs.Vocabulary.{last}
use Rattle.rq_page.specs.Sizes.{Sizes, IsCellAddress, client_slot_at, directory_at}
use Rattle.rq_page.specs.Slots.{Slot}
use Rattle.rq_page.specs.Slots.Slot.{Free, Used, Sender, Client}
use Rattle.rq_views.specs.Claims.{appends_of, takes_of}
use Rattle.rq_views.specs.InStore.{WritesStand}
use Rattle.rq_views.specs.Items.{layout_of}
use Rattle.rq_views.specs.Log.{Slots, Write, HasBefores}
use Rattle.rq_views.specs.Plans.{IsPlan, Turn}
use Rattle.rq_views.specs.Plans.Turn.{Did, Undid}
use Rattle.rq_store.specs.Fitting.{left_by}
use Rattle.rq_store.specs.State.{size_of, job_of, State, ledger_of}
use Rattle.rq_txn.specs.Rows.{Row, found_row, latched_in}
use Rattle.rq_sound.specs.Sound.{IsSound}
use Rattle.rq_store.specs.Plans.{WaitsFor}
use Rattle.rq_sound.specs.Groups.{slots_now}
use Rattle.rq_sound.specs.Plans.{AreOff}

-- the slots as whole operations have left them
abbrev pub completed : State → Slots
completed s = (left_by s.sizes s.records).quiet

-- the links of a directory slot and of a cell
abbrev pub head_in : Slot → ℕ
head_in Free = 0
head_in (Used c) = 0
head_in (Sender g d) = d.head
head_in (Client k) = 0

abbrev pub tail_in : Slot → ℕ
tail_in Free = 0
tail_in (Used c) = 0
tail_in (Sender g d) = d.tail
tail_in (Client k) = 0

abbrev pub next_in : Slot → ℕ
next_in Free = 0
next_in (Used c) = c.next
next_in (Sender g d) = 0
next_in (Client k) = 0

abbrev pub prev_in : Slot → ℕ
prev_in Free = 0
prev_in (Used c) = c.prev
prev_in (Sender g d) = 0
prev_in (Client k) = 0

-- the slot that a link names: none where it is 0
abbrev pub named : ℕ → List ℕ
named a = cond (nat_eq a 0) [] (a ∷ [])

-- the directory slot of a group, with the cells at an end of its chain
abbrev pub at_tail : Slots → ℕ → List ℕ
at_tail q g = directory_at g ∷ named (tail_in (q (directory_at g)))

abbrev pub at_head : Slots → ℕ → List ℕ
at_head q g = directory_at g ∷ named (head_in (q (directory_at g)))

abbrev pub behind_head : Slots → ℕ → List ℕ
behind_head q g = at_head q g ++ named (next_in (q (head_in (q (directory_at g)))))

abbrev pub before_tail : Slots → ℕ → List ℕ
before_tail q g = at_tail q g ++ named (prev_in (q (tail_in (q (directory_at g)))))

-- the slots that an operation needs, but for a free one
abbrev pub needed : Sizes → Slots → Turn → List ℕ
needed z q (Did (Append g n tag previous body)) = at_tail q g
needed z q (Did (UnlinkHead g n tag body)) = behind_head q g
needed z q (Did (Close g)) = directory_at g ∷ []
needed z q (Did (Mark c tag previous)) = client_slot_at z c ∷ []
needed z q (Undid (Append g n tag previous body)) = before_tail q g
needed z q (Undid (UnlinkHead g n tag body)) = at_head q g
needed z q (Undid (Close g)) = directory_at g ∷ []
needed z q (Undid (Mark c tag previous)) = client_slot_at z c ∷ []

-- whether it needs a free one besides
abbrev pub takes_cell : Turn → Bool
takes_cell (Did d) = nat_lt 0 (appends_of d)
takes_cell (Undid d) = nat_lt 0 (takes_of d)

-- one of these slots is on a page that is latched
abbrev pub any_latched : List Row → List ℕ → Bool
any_latched rows [] = false
any_latched rows (a ∷ rest) = latched_in rows (a / 16) || any_latched rows rest

-- each free cell is on a page that is latched
abbrev pub AllFreeLatched : State → Type 0
AllFreeLatched s = (a : ℕ) → IsCellAddress s.sizes a → slots_now s a ≡ Free → latched_in s.rows (a / 16) ≡ true

-- an operation needs a latched page, read from what whole operations have left; or it takes a cell, and each free one
-- is on a latched page
abbrev pub NeedsLatched : State → Turn → Type 0
NeedsLatched s turn = (any_latched s.rows (needed s.sizes (completed s) turn) ≡ true)
    ⊎ ((takes_cell turn ≡ true) × AllFreeLatched s)

-- the call starts this: of a receive from whichever, from a group of which a message waits
abbrev pub Begins : State → Call → Turn → Type 0
Begins s (Call.Start_send t m) (Did d) = job_of d ≡ Sending m
Begins s (Call.Start_receive t) (Did d) = (g : ℕ) × WaitsFor s t g × (job_of d ≡ Taking g)
Begins s (Call.Start_receive_from t g) (Did d) = job_of d ≡ Taking g
Begins s (Call.Start_close t g) (Did d) = job_of d ≡ Ending g
Begins s (Call.Start_mark t c tag) (Did d) = job_of d ≡ Marking c tag
Begins s (Call.Undo_next t) (Undid d) = OnFound (found_row t s.rows) (λ r. OnFound (last r.finished) (λ f. f.deed ≡ d))
Begins s _ _ = ⊥

-- the call is refused for others' latches: it may start something, and whatever it may start needs a latched page
pub record IsLatched (s : State) (c : Call) : Type 0 where
  pub some : (turn : Turn) × Begins s c turn
  pub each : (turn : Turn) → Begins s c turn → NeedsLatched s turn

-- the operation can be planned over the slots as they are, in slots of the store whose pages nobody has latched
pub record MayBePlanned (s : State) (turn : Turn) : Type 0 where
  pub writes : List Write
  pub plan : IsPlan (layout_of s.sizes) turn writes
  pub fits : HasBefores writes (slots_now s)
  pub stand : WritesStand s.sizes writes
  pub off : AreOff s writes

-- What is on a page that nobody has latched is as whole operations left it, so that the slots as they are tell as well
-- which pages are needed. A call that passes the model's tests and has something to start can be planned exactly where it
-- is not latched.
pub record LatchedIsExact : Type 0 where
  pub whole : (s : State) (a : ℕ) → IsSound s → latched_in s.rows (a / 16) ≡ false → slots_now s a ≡ completed s a
  pub as_read : (s : State) (turn : Turn) → IsSound s
      → any_latched s.rows (needed s.sizes (slots_now s) turn)
      ≡ any_latched s.rows (needed s.sizes (completed s) turn)
  pub none : (s : State) (c : Call) (turn : Turn) → IsSound s → IsLatched s c → Begins s c turn
      → MayBePlanned s turn → ⊥
  pub some : (s : State) (c : Call) → IsSound s → Passes (size_of s.sizes) (ledger_of s) c
      → starts (size_of s.sizes) (ledger_of s) c ≡ true → (IsLatched s c → ⊥)
      → (turn : Turn) × Begins s c turn × MayBePlanned s turn
