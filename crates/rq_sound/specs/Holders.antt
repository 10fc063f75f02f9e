-- What stands in a group's chain while transactions are open: the committed messages, less those that the holder of the
-- receiving end took, and then those that the holder of the sending end sent.
use Rattle.std.specs.Prelude.{◌≡◌, ◌≢◌, ℕ, zero, suc, ◌+◌, ◌-◌, ◌/◌, ◌<◌, ◌||◌, ◌++◌, true, false, cond, nat_eq, List, [], ◌∷◌, Option, None, Some, drop, take, length, map}
use Rattle.std.specs.List.{filter_map}
use Rattle.rq_model.specs.declared.message.Message.{Message}
use Rattle.rq_model.specs.declared.txn.Txn.{Txn}
use Rattle.rq_model.specs.Commits.{committed_of}
use Rattle.rq_model.specs.Content.{tag_after}
use Rattle.rq_model.specs.History.{Group}
use Rattle.rq_model.specs.Ledger.{any_ends, group_in, rest_in}
use Rattle.rq_model.specs.Vocabulary.{In, Op, sent_for, taken_from}
use Rattle.rq_page.specs.declared.cell.Cell.{Cell}
use Rattle.rq_page.specs.Sizes.{Sizes, directory_at, sender_count}
use Rattle.rq_page.specs.Slots.{Slot}
use Rattle.rq_page.specs.Slots.Slot.{Free, Used, Sender, Client}
use Rattle.rq_views.specs.Chain.{Cells, View}
use Rattle.rq_views.specs.Committed.{IsViewOf}
use Rattle.rq_views.specs.Items.{layout_of}
use Rattle.rq_views.specs.Log.{Slots, cells_of}
use Rattle.rq_views.specs.Plans.{ShowsAt, deed_sender}
use Rattle.rq_groups.specs.declared.Held.{Held}
use Rattle.rq_groups.specs.Ends.{has_held}
use Rattle.rq_store.specs.Fitting.{left_by}
use Rattle.rq_store.specs.State.{State, op_done}
use Rattle.rq_txn.specs.Rows.{Row, Under, deed_of, found_row, latched_in}
use Rattle.rq_sound.specs.Groups.{slots_now}
use Rattle.rq_sound.specs.Sound.{IsSound}

-- the message of a cell, and where the next one stands
abbrev pub told_by : Option Cell → List Message
told_by None = []
told_by (Some c) = record { sender = c.sender; tag = c.tag; body = c.body } ∷ []

abbrev pub link_of : Option Cell → ℕ
link_of None = 0
link_of (Some c) = c.next

-- the messages of n cells, from this one on by their links
abbrev pub chain_from : Cells → ℕ → ℕ → List Message
chain_from m zero a = []
chain_from m (suc n) a = told_by (m a) ++ chain_from m n (link_of (m a))

-- the chain of the sender of a directory slot
abbrev pub chain_of : Cells → Slot → List Message
chain_of m Free = []
chain_of m (Used c) = []
chain_of m (Sender g d) = chain_from m (d.sent - d.received) d.head
chain_of m (Client k) = []

-- the messages in a group's chain, as the slots hold them
abbrev pub chain_in : Slots → ℕ → List Message
chain_in q g = chain_of (cells_of q) (q (directory_at g))

-- who holds the end of a group
abbrev pub holder_of : ℕ → List Held → Option Txn
holder_of g [] = None
holder_of g (h ∷ hs) = cond (nat_eq h.sender g) (Some h.txn) (holder_of g hs)

-- what a transaction did and has not undone
abbrev pub done_in : Option Row → List Op
done_in None = []
done_in (Some r) = map op_done r.finished

abbrev pub done_by : Option Txn → List Row → List Op
done_by None rows = []
done_by (Some t) rows = done_in (found_row t rows)

-- what the holder of its receiving end took from a group, and what that of its sending end sent to it; nothing where
-- nobody holds that end
abbrev pub holder_takes : State → ℕ → List Message
holder_takes s g = filter_map (taken_from g) (done_by (holder_of g s.ends.receiving) s.rows)

abbrev pub holder_sends : State → ℕ → List Message
holder_sends s g = filter_map (sent_for g) (done_by (holder_of g s.ends.sending) s.rows)

-- what is committed of a group and not received, less as many as its receiving holder took, and then what its sending
-- holder sent
abbrev pub of_holders : State → ℕ → List Message
of_holders s g = drop (length (holder_takes s g)) (rest_in (committed_of s.records) g) ++ holder_sends s g

-- The group as its holders have it: as many more are received, and sent, as they took and sent; the last tag is that of
-- the last send; it is closed where a commit or its sending holder closed it.
abbrev pub group_of_holders : State → ℕ → Group
group_of_holders s g =
    let c = group_in (committed_of s.records) g in
    record {
      sent = c.sent + length (holder_sends s g);
      last_tag = tag_after c.last_tag (holder_sends s g);
      received = c.received + length (holder_takes s g);
      closed = any_ends g (done_by (holder_of g s.ends.sending) s.rows) || c.closed;
      rest = of_holders s g;
    }

-- a directory slot and its chain, met from head by next up to the tail, show this group
pub record ShowsGroup (z : Sizes) (q : Slots) (g : ℕ) (group : Group) : Type 0 where
  pub view : View
  pub shown : ShowsAt (layout_of z) q g view
  pub is : IsViewOf g group view

-- no operation under way is of the group
abbrev pub NoneIsOn : ℕ → List Row → Type 0
NoneIsOn g rows = (r : Row) (u : Under) → In r rows → r.under ≡ Some u → deed_sender (deed_of u.aim) ≢ g

-- A group's directory slot and its chain show what its holders made of it: by whole operations, whatever is under way; and
-- as the slots are, where no operation under way is of the group, as there is none where nobody has latched the page of
-- its directory slot. So the messages in its chain are those of its holders. What the receiving holder took are the first of the committed messages, in their order; and nobody else has taken
-- or sent any. Who is said to hold an end is its one holder.
pub record ViewsAreOfHolders : Type 0 where
  pub shown_whole : (s : State) (g : ℕ) → IsSound s → g < sender_count s.sizes
      → ShowsGroup s.sizes (left_by s.sizes s.records).quiet g (group_of_holders s g)
  pub shown_now : (s : State) (g : ℕ) → IsSound s → g < sender_count s.sizes → NoneIsOn g s.rows
      → ShowsGroup s.sizes (slots_now s) g (group_of_holders s g)
  pub whole : (s : State) (g : ℕ) → IsSound s → g < sender_count s.sizes
      → chain_in (left_by s.sizes s.records).quiet g ≡ of_holders s g
  pub now : (s : State) (g : ℕ) → IsSound s → g < sender_count s.sizes → NoneIsOn g s.rows
      → chain_in (slots_now s) g ≡ of_holders s g
  pub unlatched : (s : State) (g : ℕ) → IsSound s → g < sender_count s.sizes
      → latched_in s.rows (directory_at g / 16) ≡ false → NoneIsOn g s.rows
  pub taken : (s : State) (g : ℕ) → IsSound s
      → holder_takes s g ≡ take (length (holder_takes s g)) (rest_in (committed_of s.records) g)
  pub no_other_takes : (s : State) (g : ℕ) (r : Row) → IsSound s → In r s.rows
      → has_held r.txn g s.ends.receiving ≡ false → filter_map (taken_from g) (map op_done r.finished) ≡ []
  pub no_other_sends : (s : State) (g : ℕ) (r : Row) → IsSound s → In r s.rows
      → has_held r.txn g s.ends.sending ≡ false → filter_map (sent_for g) (map op_done r.finished) ≡ []
  pub receiver : (s : State) (t : Txn) (g : ℕ) → IsSound s
      → has_held t g s.ends.receiving ≡ true → holder_of g s.ends.receiving ≡ Some t
  pub sender : (s : State) (t : Txn) (g : ℕ) → IsSound s
      → has_held t g s.ends.sending ≡ true → holder_of g s.ends.sending ≡ Some t
