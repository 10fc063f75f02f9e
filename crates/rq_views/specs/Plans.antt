-- The writes of each operation, newest first, and what it makes of the view of its sender or its client's group.
use Rattle.rq_page.specs.declared.cell.Cell.{Cell}
use Rattle.rq_model.specs.declared.record.Deed.{Deed}
use Rattle.rq_page.specs.declared.directory.Directory.{Directory}
use Rattle.rq_page.specs.declared.client.ClientSlot.{ClientSlot}
use Rattle.std.specs.Prelude.{◌≡◌, ◌≢◌, ℕ, ◌+◌, ◌-◌, ◌^◌, ◌<◌, ◌≤◌, ◌==◌, List, [], ◌∷◌, length, drop, Bool, true, false, if◌then◌else◌, Option, None, Some}
use Rattle.rq_views.specs.Chain.{View, Shows, directory_appended, view_appended, view_tail_unlinked, view_put_back}
use Rattle.rq_page.specs.Slots.{Slot}
use Rattle.rq_views.specs.Log.{Slots, Write, cells_of, Places}
use Rattle.rq_page.specs.Slots.Slot.{Free, Used, Sender, Client}
use Rattle.rq_model.specs.declared.record.Deed.TheVariants.{Append, UnlinkHead, Close, Mark}
use Rattle.rq_model.specs.Vocabulary.{client_group}

-- the slots show this view of the sender
pub record ShowsAt (l : Places) (q : Slots) (s : ℕ) (v : View) : Type 0 where
  pub directory : Directory
  pub at : q (l.directory_at s) ≡ Sender s directory
  pub shows : Shows (cells_of q) s directory v

-- the client's slot shows this view of its group
pub record ShowsTag (l : Places) (q : Slots) (c : ℕ) (v : View) : Type 0 where
  pub held : ClientSlot
  pub at : q (l.client_slot_at c) ≡ Client held
  pub own : held.client ≡ c
  pub count : held.count ≡ length v.messages
  pub tag : held.tag ≡ v.last_tag
  pub open_one : v.closed ≡ false
  pub none_taken : v.received ≡ 0

-- neither a cell nor the directory slot of s
abbrev pub IsForeignSlot : ℕ → Slot → Type 0
IsForeignSlot s Free = Unit {0}
IsForeignSlot s (Used c) = c.sender ≢ s
IsForeignSlot s (Sender r d) = r ≢ s
IsForeignSlot s (Client k) = Unit {0}

-- no write is over a slot of s
abbrev pub Spares : ℕ → List Write → Type 0
Spares s [] = Unit {0}
Spares s (w ∷ ws) = IsForeignSlot s w.before × Spares s ws

-- the cell at an address that a cell names: none at 0, else one of s
abbrev pub LinksTo : ℕ → ℕ → Option Cell → Type 0
LinksTo s at None = at ≡ 0
LinksTo s at (Some c) = (0 < at) × (c.sender ≡ s)

-- a write of a cell that is there
abbrev pub relinked : ℕ → Option Cell → (Cell → Cell) → List Write → List Write
relinked at None f ws = ws
relinked at (Some c) f ws = record { at = at; before = Used c; after = Used (f c) } ∷ ws

abbrev pub with_next : ℕ → Cell → Cell
with_next to c = record c { next = to }

abbrev pub with_prev : ℕ → Cell → Cell
with_prev to c = record c { prev = to }

abbrev pub directory_write : Places → ℕ → Directory → Directory → Write
directory_write l s d e = record { at = l.directory_at s; before = Sender s d; after = Sender s e }

abbrev pub append_writes : Places → ℕ → Directory → ℕ → ℕ → List ℕ → Option Cell → List Write
append_writes l s d new tag body old =
    directory_write l s d (directory_appended d new tag)
    ∷ relinked d.tail old (with_next new)
    (record {
      at = new;
      before = Free;
      after = Used (record {
        sender = s;
        sequence = d.sent + 1;
        tag = tag;
        body = body;
        next = 0;
        prev = d.tail;
      });
    } ∷ [])

pub record IsAppend (l : Places) (s n tag previous : ℕ) (body : List ℕ) (ws : List Write) : Type 0 where
  pub directory : Directory
  pub new : ℕ
  pub old : Option Cell
  pub used : 0 < new
  pub sequence : n ≡ directory.sent + 1
  pub previous_is : previous ≡ directory.last_tag
  pub old_is : LinksTo s directory.tail old
  pub writes : ws ≡ append_writes l s directory new tag body old

abbrev pub directory_head_unlinked : Directory → Cell → Directory
directory_head_unlinked d c = record d {
  received = d.received + 1;
  head = c.next;
  tail = (if c.next == 0 then 0 else d.tail);
}

abbrev pub unlink_head_writes : Places → ℕ → Directory → Cell → Option Cell → List Write
unlink_head_writes l s d c next =
    directory_write l s d (directory_head_unlinked d c)
    ∷ relinked c.next next (with_prev 0)
    (record { at = d.head; before = Used c; after = Free } ∷ [])

pub record IsUnlinkHead (l : Places) (s n tag : ℕ) (body : List ℕ) (ws : List Write) : Type 0 where
  pub directory : Directory
  pub cell : Cell
  pub next : Option Cell
  pub used : 0 < directory.head
  pub sender : cell.sender ≡ s
  pub sequence : n ≡ directory.received + 1
  pub tag_is : tag ≡ cell.tag
  pub body_is : body ≡ cell.body
  pub next_is : LinksTo s cell.next next
  pub writes : ws ≡ unlink_head_writes l s directory cell next

abbrev pub directory_tail_unlinked : Directory → Cell → ℕ → Directory
directory_tail_unlinked d c previous = record d {
  sent = d.sent - 1;
  last_tag = previous;
  tail = c.prev;
  head = (if c.prev == 0 then 0 else d.head);
}

abbrev pub unlink_tail_writes : Places → ℕ → Directory → Cell → ℕ → Option Cell → List Write
unlink_tail_writes l s d c previous before =
    directory_write l s d (directory_tail_unlinked d c previous)
    ∷ relinked c.prev before (with_next 0)
    (record { at = d.tail; before = Used c; after = Free } ∷ [])

pub record IsUnlinkTail (l : Places) (s n previous : ℕ) (ws : List Write) : Type 0 where
  pub directory : Directory
  pub cell : Cell
  pub front : Option Cell
  pub used : 0 < directory.tail
  pub sender : cell.sender ≡ s
  pub sequence : n ≡ cell.sequence
  pub front_is : LinksTo s cell.prev front
  pub writes : ws ≡ unlink_tail_writes l s directory cell previous front

abbrev pub directory_put_back : Directory → ℕ → Directory
directory_put_back d new = record d {
  received = d.received - 1;
  head = new;
  tail = (if d.head == 0 then new else d.tail);
}

abbrev pub put_back_writes : Places → ℕ → Directory → ℕ → ℕ → List ℕ → Option Cell → List Write
put_back_writes l s d new tag body old =
    directory_write l s d (directory_put_back d new)
    ∷ relinked d.head old (with_prev new)
    (record {
      at = new;
      before = Free;
      after = Used (record {
        sender = s;
        sequence = d.received;
        tag = tag;
        body = body;
        next = d.head;
        prev = 0;
      });
    } ∷ [])

pub record IsPutBack (l : Places) (s n tag : ℕ) (body : List ℕ) (ws : List Write) : Type 0 where
  pub directory : Directory
  pub new : ℕ
  pub old : Option Cell
  pub used : 0 < new
  pub some_received : 0 < directory.received
  pub sequence : n ≡ directory.received
  pub old_is : LinksTo s directory.head old
  pub writes : ws ≡ put_back_writes l s directory new tag body old

pub record IsMark (l : Places) (s : ℕ) (closed : Bool) (ws : List Write) : Type 0 where
  pub directory : Directory
  pub writes : ws ≡ directory_write l s directory (record directory { closed = closed }) ∷ []

abbrev pub client_write : Places → ClientSlot → ClientSlot → Write
client_write l before after = record { at = l.client_slot_at before.client; before = Client before; after = Client after }

-- A mark counts its tag in the client's slot. No sender has the number of a client's group.
pub record IsTagged (l : Places) (c tag previous : ℕ) (ws : List Write) : Type 0 where
  pub held : ClientSlot
  pub own : held.client ≡ c
  pub previous_is : previous ≡ held.tag
  pub apart : l.senders ≤ 2 ^ 32
  pub writes : ws ≡ client_write l held (record held { count = held.count + 1; tag = tag }) ∷ []

-- a mark taken back: the slot holds the tag before it again
pub record IsUntagged (l : Places) (c previous : ℕ) (ws : List Write) : Type 0 where
  pub held : ClientSlot
  pub own : held.client ≡ c
  pub some : 0 < held.count
  pub apart : l.senders ≤ 2 ^ 32
  pub writes : ws ≡ client_write l held (record held { count = held.count - 1; tag = previous }) ∷ []

-- what an operation is for: a deed, or to take one back
pub data Turn : Type 0 where
  Did : (deed : Deed) → Turn
  Undid : (deed : Deed) → Turn

-- the writes are those of the operation
abbrev pub IsPlan : Places → Turn → List Write → Type 0
IsPlan l (Did (Append s n tag previous body)) ws = IsAppend l s n tag previous body ws
IsPlan l (Did (UnlinkHead s n tag body)) ws = IsUnlinkHead l s n tag body ws
IsPlan l (Did (Close s)) ws = IsMark l s true ws
IsPlan l (Did (Mark c tag previous)) ws = IsTagged l c tag previous ws
IsPlan l (Undid (Append s n tag previous body)) ws = IsUnlinkTail l s n previous ws
IsPlan l (Undid (UnlinkHead s n tag body)) ws = IsPutBack l s n tag body ws
IsPlan l (Undid (Close s)) ws = IsMark l s false ws
IsPlan l (Undid (Mark c tag previous)) ws = IsUntagged l c previous ws

abbrev pub view_head_unlinked : View → View
view_head_unlinked v = record v { received = v.received + 1; messages = drop 1 v.messages }

abbrev pub deed_sender : Deed → ℕ
deed_sender (Append s n tag previous body) = s
deed_sender (UnlinkHead s n tag body) = s
deed_sender (Close s) = s
deed_sender (Mark c tag previous) = client_group c

abbrev pub turn_sender : Turn → ℕ
turn_sender (Did d) = deed_sender d
turn_sender (Undid d) = deed_sender d

-- what it makes of its sender's view
abbrev pub with_turn : Turn → View → View
with_turn (Did (Append s n tag previous body)) v = view_appended v tag body
with_turn (Did (UnlinkHead s n tag body)) v = view_head_unlinked v
with_turn (Did (Close s)) v = record v { closed = true }
with_turn (Did (Mark c tag previous)) v = view_appended v tag []
with_turn (Undid (Append s n tag previous body)) v = view_tail_unlinked v previous
with_turn (Undid (UnlinkHead s n tag body)) v = view_put_back v tag body
with_turn (Undid (Close s)) v = record v { closed = false }
with_turn (Undid (Mark c tag previous)) v = view_tail_unlinked v previous
