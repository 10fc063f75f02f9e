-- Chains of cells in slots, and what each sender's chain holds.
use Rattle.rq_page.specs.declared.cell.Cell.{Cell}
use Rattle.rq_page.specs.declared.directory.Directory.{Directory}
use Rattle.std.specs.Prelude.{◌≡◌, ◌≢◌, ℕ, ◌+◌, ◌-◌, ◌<◌, ◌≤◌, ◌==◌, List, [], ◌∷◌, ◌++◌, length, Bool, true, false, if◌then◌else◌, Option, None, Some, map}

-- what stands at each address: a used cell, or none
abbrev pub Cells : Type 0
Cells = ℕ → Option Cell

-- the cells after a write
abbrev pub written : Cells → ℕ → Option Cell → Cells
written m at slot = λ a. if a == at then slot else m a

-- a cell of a chain: where it stands, and its message
pub record Node : Type 0 where
  pub at : ℕ
  pub tag : ℕ
  pub body : List ℕ

-- where the first of these cells stands, or else z
abbrev pub first : List Node → ℕ → ℕ
first [] z = z
first (n ∷ ns) z = n.at

-- where the last of these cells stands, or else p
abbrev pub last : ℕ → List Node → ℕ
last p [] = p
last p (n ∷ ns) = last n.at ns

-- the cells ns of sender s follow p, are numbered from q on, and lead to z
abbrev pub Linked : Cells → ℕ → ℕ → ℕ → List Node → ℕ → Type 0
Linked m s p q [] z = Unit {0}
Linked m s p q (n ∷ ns) z =
    (0 < n.at)
    × (m n.at ≡ Some (record { sender = s; sequence = q; tag = n.tag; body = n.body; next = first ns z; prev = p }))
    × Linked m s n.at (q + 1) ns z

-- what a sender's chain holds
pub record View : Type 0 where
  pub closed : Bool
  pub received : ℕ
  pub last_tag : ℕ
  pub messages : List (ℕ × List ℕ)

abbrev pub message : Node → ℕ × List ℕ
message n = (n.tag, n.body)

-- the sender's chain is whole, and holds this
pub record Shows (m : Cells) (s : ℕ) (d : Directory) (v : View) : Type 0 where
  pub nodes : List Node
  pub linked : Linked m s 0 (d.received + 1) nodes 0
  pub head : d.head ≡ first nodes 0
  pub tail : d.tail ≡ last 0 nodes
  pub sent : d.sent ≡ d.received + length nodes
  pub closed : v.closed ≡ d.closed
  pub received : v.received ≡ d.received
  pub last_tag : v.last_tag ≡ d.last_tag
  pub messages : v.messages ≡ map message nodes

-- the slot holds no cell of s numbered from q on below q + n
abbrev pub IsApart : ℕ → ℕ → ℕ → Option Cell → Type 0
IsApart s q n None = Unit {0}
IsApart s q n (Some c) = c.sender ≡ s → q ≤ c.sequence → c.sequence < q + n → ⊥

-- the cell with another link
abbrev pub relink_next : ℕ → Option Cell → Option Cell
relink_next to None = None
relink_next to (Some c) = Some (record c { next = to })

abbrev pub relink_prev : ℕ → Option Cell → Option Cell
relink_prev to None = None
relink_prev to (Some c) = Some (record c { prev = to })

-- what a slot holds is no cell of s
abbrev pub IsForeign : ℕ → Option Cell → Type 0
IsForeign s None = Unit {0}
IsForeign s (Some c) = c.sender ≢ s

-- the cells and the directory slot after a message is put at the end, in the cell at new
abbrev pub cells_appended : Cells → ℕ → Directory → ℕ → ℕ → List ℕ → Cells
cells_appended m s d new tag body =
    let one = written m new (Some (record {
      sender = s;
      sequence = d.sent + 1;
      tag = tag;
      body = body;
      next = 0;
      prev = d.tail;
    })) in
    (if d.tail == 0 then one else written one d.tail (relink_next new (m d.tail)))

abbrev pub directory_appended : Directory → ℕ → ℕ → Directory
directory_appended d new tag = record d {
  sent = d.sent + 1;
  last_tag = tag;
  tail = new;
  head = (if d.tail == 0 then new else d.head);
}

-- what operations do to a view
abbrev pub view_appended : View → ℕ → List ℕ → View
view_appended v tag body = record v { last_tag = tag; messages = v.messages ++ (tag, body) ∷ [] }

abbrev pub all_but_last : List (ℕ × List ℕ) → List (ℕ × List ℕ)
all_but_last [] = []
all_but_last (x ∷ []) = []
all_but_last (x ∷ y ∷ xs) = x ∷ all_but_last (y ∷ xs)

abbrev pub view_tail_unlinked : View → ℕ → View
view_tail_unlinked v tag = record v { last_tag = tag; messages = all_but_last v.messages }

abbrev pub view_put_back : View → ℕ → List ℕ → View
view_put_back v tag body = record v { received = v.received - 1; messages = (tag, body) ∷ v.messages }

-- an operation of the receiving end, with its reply
pub data Taking : Type 0 where
  Took : (tag : ℕ) → (body : List ℕ) → Taking
  PutBack : (tag : ℕ) → (body : List ℕ) → Taking

-- operations of the receiving end, with these replies, lead from one view to another
abbrev pub AreTaken : List Taking → View → View → Type 0
AreTaken [] v w = v ≡ w
AreTaken (Took tag body ∷ ops) v w = (rest : List (ℕ × List ℕ)) × (v.messages ≡ (tag, body) ∷ rest)
    × AreTaken ops (record v { received = v.received + 1; messages = rest }) w
AreTaken (PutBack tag body ∷ ops) v w = (0 < v.received) × AreTaken ops (view_put_back v tag body) w

-- an operation of the sending end
pub data Sending : Type 0 where
  Sent : (tag : ℕ) → (body : List ℕ) → Sending
  TailUnlinked : (previous : ℕ) → Sending
  Closed : Sending
  Reopened : Sending

abbrev pub AreSent : List Sending → View → View → Type 0
AreSent [] v w = v ≡ w
AreSent (Sent tag body ∷ ops) v w = AreSent ops (view_appended v tag body) w
AreSent (TailUnlinked previous ∷ ops) v w = (front : List (ℕ × List ℕ)) × (x : ℕ × List ℕ)
    × (v.messages ≡ front ++ x ∷ []) × AreSent ops (record v { last_tag = previous; messages = front }) w
AreSent (Closed ∷ ops) v w = AreSent ops (record v { closed = true }) w
AreSent (Reopened ∷ ops) v w = AreSent ops (record v { closed = false }) w
