-- Plans of operations, as the level answers them.
use Rattle.std.specs.Bool.{beq}
use Rattle.std.proofs.lemmas.Bool.{true≢false}
use Rattle.std.proofs.Common.{◌≡◌, ℕ, zero, suc, arith, ◌+◌, ◌<◌, ◌≤◌, ◌^◌, Bool, true, false, not, List, [], ◌∷◌, reverse, Option, Some, Result, Ok, Err, IfErr, OnOk, refl, sym, ap, ◌∙◌, subst}
use Rattle.rq_model.specs.declared.record.Deed.TheVariants.{Append, UnlinkHead, Close}
use Rattle.rq_model.specs.declared.refusal.Refusal.{Refusal}
use Rattle.rq_model.specs.Deeds.{deed_in, spelled_deed}
use Rattle.rq_page.specs.declared.cell.Cell.{Cell}
use Rattle.rq_page.specs.Cells.{cell_in}
use Rattle.rq_page.specs.declared.directory.Directory.{Directory}
use Rattle.rq_page.specs.Sizes.{Sizes, directory_at, sender_count}
use Rattle.rq_page.specs.Slots.Slot.{Used, Sender}
use Rattle.rq_views.specs.Plans.{append_writes, unlink_head_writes, unlink_tail_writes, put_back_writes, directory_write}
use Rattle.rq_views.specs.Items.{layout_of}
use Rattle.rq_level.specs.LevelState.{LevelState, IsLowest, reserved_at}
use Rattle.rq_level.specs.Given.{GivenHolds}
use Rattle.rq_level.specs.ChainPlans.{Beside, IsSent, CanReceive, IsReceived, CanMark, IsMarked, CanUnlinkTail, IsTailUnlinked, IsReturned, IsReopened, IsInverse, RefusesOther, Undoes}
use Rattle.rq_level.specs.Writes.{writes_of, with_plan, AreSlotWrites}
use Rattle.rq_level.specs.declared.slots.Given.{Given}
use Rattle.rq_level.specs.declared.writes.Plan.{Plan}
use Rattle.rq_level.specs.declared.writes.Gist.TheVariants as gists
use Rattle.rq_level.specs.declared.writes.Replies.TheVariants as replies
use Rattle.rq_chain.specs.declared.CellEntry.{CellEntry}
use Rattle.rq_chain.specs.declared.DirectoryEntry.{DirectoryEntry}
use Rattle.rq_chain.specs.CellEntries.{cell_beside}
use Rattle.rq_chain.proofs.Givens.{holds_one}

module _ (z : Sizes) (k : LevelState) (given : List Given) (latched : List ℕ) (s tag : ℕ) (body : List ℕ) (p : Plan) (after : LevelState) (g : DirectoryEntry) where
  pub is_sent : (tail : Option CellEntry) (new at : ℕ) → s < sender_count z → g.sender ≡ s → GivenHolds z given (directory_at s) (Sender s g.directory) → g.directory.sent ≤ 2 ^ 50
      → at ≡ g.directory.tail → Beside z given at (cell_beside tail) → IsLowest z k latched new
      → reverse (writes_of z p.writes.items) ≡ append_writes (layout_of z) g.sender g.directory new tag body (cell_beside tail)
      → AreSlotWrites z p.writes.items → p.deed ≡ spelled_deed (Append s (g.directory.sent + 1) tag g.directory.last_tag body)
      → deed_in p.deed ≡ Some (Append s (g.directory.sent + 1) tag g.directory.last_tag body)
      → p.reply ≡ replies.Deed (gists.Append s tag) → after ≡ reserved_at z k new → IsSent z k given latched s tag body p after
  is_sent tail new at below own holds room at_is beside lowest writes slots deed reads reply kept = record {
    can = record { below = below; directory = g.directory; directory_is = holds; room = room; old = cell_beside tail; beside = subst (λ (a : ℕ). Beside z given a (cell_beside tail)) at_is beside };
    new = new;
    lowest = lowest;
    writes = writes ∙ ap (λ (n : ℕ). append_writes (layout_of z) n g.directory new tag body (cell_beside tail)) own;
    slots = slots;
    deed = deed;
    reads = reads;
    reply = reply;
    kept = kept;
  }

  pub is_received : (head : CellEntry) (next : Option CellEntry) (at behind : ℕ) → s < sender_count z → g.sender ≡ s → GivenHolds z given (directory_at s) (Sender s g.directory)
      → g.directory.received < g.directory.sent → 0 < at → at ≡ g.directory.head → GivenHolds z given at (Used (cell_in head.bytes.now)) → behind ≡ (cell_in head.bytes.now).next → Beside z given behind (cell_beside next)
      → reverse (writes_of z p.writes.items) ≡ unlink_head_writes (layout_of z) g.sender g.directory (cell_in head.bytes.now) (cell_beside next)
      → AreSlotWrites z p.writes.items → p.deed ≡ spelled_deed (UnlinkHead s (g.directory.received + 1) (cell_in head.bytes.now).tag (cell_in head.bytes.now).body)
      → deed_in p.deed ≡ Some (UnlinkHead s (g.directory.received + 1) (cell_in head.bytes.now).tag (cell_in head.bytes.now).body)
      → p.reply ≡ replies.Deed (gists.UnlinkHead s) → after ≡ k → IsReceived z k given s p after
  is_received head next at behind below own holds some used at_is head_is behind_is beside writes slots deed reads reply kept = record {
    can = record {
      below = below;
      directory = g.directory;
      directory_is = holds;
      some = some;
      used = subst (λ (a : ℕ). 0 < a) at_is used;
      cell = (cell_in head.bytes.now);
      head_is = subst (λ (a : ℕ). GivenHolds z given a (Used (cell_in head.bytes.now))) at_is head_is;
      next = cell_beside next;
      beside = subst (λ (a : ℕ). Beside z given a (cell_beside next)) behind_is beside;
    };
    writes = writes ∙ ap (λ (n : ℕ). unlink_head_writes (layout_of z) n g.directory (cell_in head.bytes.now) (cell_beside next)) own;
    slots = slots;
    deed = deed;
    reads = reads;
    reply = reply;
    kept = kept;
  }

-- no message can be taken where no cell stands at the head
pub no_head : (z : Sizes) (given : List Given) (s at : ℕ) (d : Directory) → at ≡ d.head → GivenHolds z given (directory_at s) (Sender s d)
    → ((c : Cell) → GivenHolds z given at (Used c) → ⊥) → CanReceive z given s → ⊥
no_head z given s at d at_is h none can =
    let e : Sender s d ≡ Sender s can.directory = holds_one z given (directory_at s) (Sender s d) (Sender s can.directory) h can.directory_is in
    let f : d ≡ can.directory = cc in
    none can.cell (subst (λ (a : ℕ). GivenHolds z given a (Used can.cell)) (sym (at_is ∙ ap (λ (y : Directory). y.head) f)) can.head_is)

pub positive : (a : ℕ) → (a ≡ 0 → ⊥) → 0 < a
positive zero h = absurd (h refl)
positive (suc n) h = omega arith

-- states that compare as different are
pub differs : (a b : Bool) → beq a b ≡ false → a ≡ b → ⊥
differs true true e = λ _. true≢false e
differs false false e = λ _. true≢false e
differs true false e = λ same. true≢false same
differs false true e = λ same. true≢false (sym same)

-- one of two states is the other's opposite
pub opposite : (a b : Bool) → (a ≡ b → ⊥) → a ≡ not b
opposite true true n = absurd (n refl)
opposite true false n = refl
opposite false true n = refl
opposite false false n = absurd (n refl)

pub is_marked : (z : Sizes) (given : List Given) (s : ℕ) (closed : Bool) (p : Plan) (g : DirectoryEntry) → s < sender_count z → g.sender ≡ s → GivenHolds z given (directory_at s) (Sender s g.directory)
    → (g.directory.closed ≡ closed → ⊥) → reverse (writes_of z p.writes.items) ≡ directory_write (layout_of z) g.sender g.directory (record g.directory { closed = closed }) ∷ []
    → AreSlotWrites z p.writes.items → IsMarked z given s closed p
is_marked z given s closed p g below own holds other writes slots = record {
  can = record { below = below; directory = g.directory; directory_is = holds; other = opposite g.directory.closed closed other };
  writes = writes ∙ ap (λ (n : ℕ). directory_write (layout_of z) n g.directory (record g.directory { closed = closed }) ∷ []) own;
  slots = slots;
}

pub is_unlinked : (z : Sizes) (k : LevelState) (given : List Given) (s n previous : ℕ) (p : Plan) (g : DirectoryEntry) (tail : CellEntry) (front : Option CellEntry) (at behind : ℕ)
    → s < sender_count z → g.sender ≡ s → GivenHolds z given (directory_at s) (Sender s g.directory)
    → g.directory.received < g.directory.sent → g.directory.sent ≡ n → 0 < at → at ≡ g.directory.tail → GivenHolds z given at (Used (cell_in tail.bytes.now)) → (cell_in tail.bytes.now).sequence ≡ n
    → behind ≡ (cell_in tail.bytes.now).prev → Beside z given behind (cell_beside front)
    → reverse (writes_of z p.writes.items) ≡ unlink_tail_writes (layout_of z) g.sender g.directory (cell_in tail.bytes.now) previous (cell_beside front)
    → AreSlotWrites z p.writes.items → IsInverse p → IsTailUnlinked z k given s n previous p k
is_unlinked z k given s n previous p g tail front at behind below own holds some sequence used at_is tail_is last behind_is beside writes slots inverse = record {
  can = record {
    below = below;
    directory = g.directory;
    directory_is = holds;
    some = some;
    sequence = sequence;
    used = subst (λ (a : ℕ). 0 < a) at_is used;
    cell = (cell_in tail.bytes.now);
    tail_is = subst (λ (a : ℕ). GivenHolds z given a (Used (cell_in tail.bytes.now))) at_is tail_is;
    last = last;
    front = cell_beside front;
    beside = subst (λ (a : ℕ). Beside z given a (cell_beside front)) behind_is beside;
  };
  writes = writes ∙ ap (λ (m : ℕ). unlink_tail_writes (layout_of z) m g.directory (cell_in tail.bytes.now) previous (cell_beside front)) own;
  slots = slots;
  inverse = inverse;
  kept = refl;
}

pub is_returned : (z : Sizes) (k : LevelState) (given : List Given) (latched : List ℕ) (s n tag : ℕ) (body : List ℕ) (p : Plan) (after : LevelState) (g : DirectoryEntry) (head : Option CellEntry) (new at : ℕ)
    → s < sender_count z → g.sender ≡ s → GivenHolds z given (directory_at s) (Sender s g.directory) → 0 < g.directory.received → g.directory.received ≡ n
    → at ≡ g.directory.head → Beside z given at (cell_beside head) → IsLowest z k latched new
    → reverse (writes_of z p.writes.items) ≡ put_back_writes (layout_of z) g.sender g.directory new tag body (cell_beside head)
    → AreSlotWrites z p.writes.items → IsInverse p → after ≡ reserved_at z k new → IsReturned z k given latched s n tag body p after
is_returned z k given latched s n tag body p after g head new at below own holds some sequence at_is beside lowest writes slots inverse kept = record {
  can = record { below = below; directory = g.directory; directory_is = holds; some = some; sequence = sequence; old = cell_beside head; beside = subst (λ (a : ℕ). Beside z given a (cell_beside head)) at_is beside };
  new = new;
  lowest = lowest;
  writes = writes ∙ ap (λ (m : ℕ). put_back_writes (layout_of z) m g.directory new tag body (cell_beside head)) own;
  slots = slots;
  inverse = inverse;
  kept = kept;
}

-- no message can be taken off the end where no cell stands there
pub no_tail : (z : Sizes) (given : List Given) (s n at : ℕ) (d : Directory) → at ≡ d.tail → GivenHolds z given (directory_at s) (Sender s d)
    → ((c : Cell) → GivenHolds z given at (Used c) → ⊥) → CanUnlinkTail z given s n → ⊥
no_tail z given s n at d at_is h none can =
    let e : Sender s d ≡ Sender s can.directory = holds_one z given (directory_at s) (Sender s d) (Sender s can.directory) h can.directory_is in
    let f : d ≡ can.directory = cc in
    none can.cell (subst (λ (a : ℕ). GivenHolds z given a (Used can.cell)) (sym (at_is ∙ ap (λ (y : Directory). y.tail) f)) can.tail_is)

pub close_undone : {X : Type 0} (z : Sizes) (k : LevelState) (given : List Given) (latched : List ℕ) (s : ℕ) (p : Plan) (r : Result X Refusal) → OnOk r ((k : LevelState) → IsReopened z k given s p k)
    → IfErr r (λ e. RefusesOther s (CanMark z given s false) e) → Undoes (Some z) (Some (Close s)) k given latched (with_plan p r) k
close_undone z k given latched s p (Ok x) ok err = ok k
close_undone z k given latched s p (Err e) ok err = (err, refl)
