-- Plans of levels of one number, by two that keep the same and are given the same.
use Rattle.std.proofs.Common.{◌≡◌, ℕ, zero, suc, ◌+◌, ◌-◌, ◌*◌, ◌/◌, ◌≤◌, nat_eq, List, [], ◌∷◌, refl, sym, ◌∙◌, ap, subst, Bool, true, false, Option, Some, None, Result, Ok, Err, inl, inr, arith, true≢false}
use Rattle.std.specs.Result.{IfOk}
use Rattle.std.proofs.lemmas.Bool.{cases_Bool, cases_lt, eqb-true, and_parts}
use Rattle.std.proofs.lemmas.List.Elements.{All-head, All-tail}
use Rattle.rq_model.specs.declared.record.Deed.{Deed}
use Rattle.rq_model.specs.declared.record.Deed.TheVariants.{Append, UnlinkHead, Close as Close_deed, Mark}
use Rattle.rq_model.specs.declared.record.Record.{Record}
use Rattle.rq_model.specs.declared.record.Record.TheVariants as records
use Rattle.rq_model.specs.declared.refusal.Refusal.{Refusal}
use Rattle.rq_model.specs.declared.refusal.Refusal.TheVariants as why
use Rattle.rq_model.specs.Deeds.{deed_by, spelled_deed}
use Rattle.rq_page.specs.declared.cell.Cell.{Cell}
use Rattle.rq_page.specs.declared.directory.Directory.{Directory}
use Rattle.rq_page.specs.declared.client.ClientSlot.{ClientSlot}
use Rattle.rq_page.specs.Sizes.{Sizes, cell_at, client_slot_at, directory_at}
use Rattle.rq_page.specs.Slots.{Slot}
use Rattle.rq_page.specs.Slots.Slot.{Client, Used}
use Rattle.rq_views.specs.Items.{layout_of}
use Rattle.rq_views.specs.Plans.{append_writes, client_write, unlink_head_writes, unlink_tail_writes, put_back_writes, directory_write}
use Rattle.rq_level.specs.declared.slots.Given.{Given}
use Rattle.rq_level.specs.declared.writes.Plan.{Plan}
use Rattle.rq_level.specs.declared.writes.SlotWrite.{SlotWrite}
use Rattle.rq_level.specs.ChainPlans.{Beside, CanMark, CanReceive, CanSend, CanPutBack, CanUnlinkTail, IsClosed, IsMarked, IsReceived, IsReopened, IsReturned, IsSent, IsTailUnlinked, Plans, PlansFor, RefusesOther, RefusesTaking, RefusesUnread, Undoes, chain_undoes}
use Rattle.rq_level.specs.Given.{AreGiven, GivenHolds, HoldsBytes, IsGiven, given_at}
use Rattle.rq_level.specs.LevelState.{LevelState, IsLowest, reserved_at}
use Rattle.rq_level.specs.Meaning.{AreOf, meaning_of}
use Rattle.rq_level.specs.Ops.{Doing, Job, Tagging, doing_by, tagging_by}
use Rattle.rq_level.specs.Ops.Doing.{Send, Receive, Close}
use Rattle.rq_level.specs.PagePlans.{IsOneWrite, TakesBack, is_slot_number, page_undoes}
use Rattle.rq_level.specs.TagPlans.{CanTag, CanUntag, IsTagPlan, IsUntagPlan, PlansTag, RefusesTag, TagsFor, UndoesTag, tag_undoes}
use Rattle.rq_chain.proofs.Givens.{same_held}
use Rattle.rq_sound.proofs.PlanFits.{same_cell}
use Rattle.rq_laws.specs.Planned.{BackAlike, IsMemory, PlannedAlike, PlansAlike, PutBackAlike, WritesAlike}
use Rattle.rq_laws.proofs.Slots.{client_same, sender_same}

-- ---- what was given

-- no slot stands at 0
none_at_0 : (z : Sizes) (given : List Given) → AreGiven z given → given_at 0 given ≡ None
none_at_0 z [] all = refl
none_at_0 z (g ∷ gs) all = elim (cases_Bool (nat_eq g.at 0)) [
  | inl y ↦ absurd (let low : 1 ≤ 0 / 16 = subst (λ (a : ℕ). 1 ≤ a / 16) (eqb-true g.at 0 y) (All-head (IsGiven z) g gs all).place.page_low in omega (arith, low))
  | inr n ↦ rw n (none_at_0 z gs (All-tail (IsGiven z) g gs all))
]

none_beside : (z : Sizes) (given : List Given) (a : ℕ) (c : Cell) → AreGiven z given → a ≡ 0 → GivenHolds z given a (Used c) → ⊥
none_beside z given a c all e h = subst (HoldsBytes z 0 (Used c)) (none_at_0 z given all) (subst (λ (b : ℕ). GivenHolds z given b (Used c)) e h)

beside_given : (z : Sizes) (given : List Given) (a b : ℕ) (o p : Option Cell) → AreGiven z given → a ≡ b → Beside z given a o → Beside z given b p → o ≡ p
beside_given z given a b None None all e f h = refl
beside_given z given a b None (Some d) all e f h = absurd (none_beside z given b d all (sym e ∙ f) h)
beside_given z given a b (Some c) None all e f h = absurd (none_beside z given a c all (e ∙ h) f)
beside_given z given a b (Some c) (Some d) all e f h = ap Some (same_cell c d (same_held z b (Used c) (Used d) (given_at b given) (subst (λ (x : ℕ). GivenHolds z given x (Used c)) e f) h))

directory_given : (z : Sizes) (given : List Given) (s : ℕ) (d e : Directory) → GivenHolds z given (directory_at s) (Slot.Sender s d) → GivenHolds z given (directory_at s) (Slot.Sender s e) → d ≡ e
directory_given z given s d e f h = sender_same s s d e (same_held z (directory_at s) (Slot.Sender s d) (Slot.Sender s e) (given_at (directory_at s) given) f h)

cell_given : (z : Sizes) (given : List Given) (a b : ℕ) (c d : Cell) → a ≡ b → GivenHolds z given a (Used c) → GivenHolds z given b (Used d) → c ≡ d
cell_given z given a b c d e f h = same_cell c d (same_held z b (Used c) (Used d) (given_at b given) (subst (λ (x : ℕ). GivenHolds z given x (Used c)) e f) h)

lowest_given : (z : Sizes) (k : LevelState) (latched : List ℕ) (a b : ℕ) → IsLowest z k latched a → IsLowest z k latched b → a ≡ b
lowest_given z k latched a b f h = elim (cases_lt f.place h.place) [
  | inl lt ↦ absurd (true≢false (sym f.may ∙ h.others f.place lt))
  | inr ge ↦
      elim (cases_lt h.place f.place) [
        | inl lt ↦ absurd (true≢false (sym h.may ∙ f.others h.place lt))
        | inr le ↦ (let e : f.place ≡ h.place = omega (arith, ge, le) in f.at ∙ ap (cell_at z) e ∙ sym h.at)
      ]
]

-- ---- plans

module _ (z : Sizes) (k : LevelState) (given : List Given) (all : AreGiven z given) where
  module _ (latched : List ℕ) where
    sent_alike : (s tag : ℕ) (body : List ℕ) (p q : Plan) (x y : LevelState) → IsSent z k given latched s tag body p x → IsSent z k given latched s tag body q y → PlansAlike z p q × (x ≡ y)
    sent_alike s tag body p q x y f h =
        let d = directory_given z given s f.can.directory h.can.directory f.can.directory_is h.can.directory_is in
        let o = beside_given z given f.can.directory.tail h.can.directory.tail f.can.old h.can.old all (ap (λ (d : Directory). d.tail) d) f.can.beside h.can.beside in
        let w = lowest_given z k latched f.new h.new f.lowest h.lowest in (
          record {
            writes = f.writes ∙ ap (λ v. append_writes (layout_of z) s v f.new tag body f.can.old) d ∙ ap (λ v. append_writes (layout_of z) s h.can.directory v tag body f.can.old) w ∙ ap (append_writes (layout_of z) s h.can.directory h.new tag body) o ∙ sym h.writes;
            deed = f.deed ∙ ap (λ (d : Directory). spelled_deed (Append s (d.sent + 1) tag d.last_tag body)) d ∙ sym h.deed;
            reply = f.reply ∙ sym h.reply;
          },
          f.kept ∙ ap (reserved_at z k) w ∙ sym h.kept,
        )

    returned_alike : (s n tag : ℕ) (body : List ℕ) (p q : Plan) (x y : LevelState) → IsReturned z k given latched s n tag body p x → IsReturned z k given latched s n tag body q y → PlansAlike z p q × (x ≡ y)
    returned_alike s n tag body p q x y f h =
        let d = directory_given z given s f.can.directory h.can.directory f.can.directory_is h.can.directory_is in
        let o = beside_given z given f.can.directory.head h.can.directory.head f.can.old h.can.old all (ap (λ (d : Directory). d.head) d) f.can.beside h.can.beside in
        let w = lowest_given z k latched f.new h.new f.lowest h.lowest in (
          record {
            writes = f.writes ∙ ap (λ v. put_back_writes (layout_of z) s v f.new tag body f.can.old) d ∙ ap (λ v. put_back_writes (layout_of z) s h.can.directory v tag body f.can.old) w ∙ ap (put_back_writes (layout_of z) s h.can.directory h.new tag body) o ∙ sym h.writes;
            deed = f.inverse.deed ∙ sym h.inverse.deed;
            reply = f.inverse.reply ∙ sym h.inverse.reply;
          },
          f.kept ∙ ap (reserved_at z k) w ∙ sym h.kept,
        )

  received_alike : (s : ℕ) (p q : Plan) (x y : LevelState) → IsReceived z k given s p x → IsReceived z k given s q y → PlansAlike z p q × (x ≡ y)
  received_alike s p q x y f h =
      let d = directory_given z given s f.can.directory h.can.directory f.can.directory_is h.can.directory_is in
      let c = cell_given z given f.can.directory.head h.can.directory.head f.can.cell h.can.cell (ap (λ (d : Directory). d.head) d) f.can.head_is h.can.head_is in
      let o = beside_given z given f.can.cell.next h.can.cell.next f.can.next h.can.next all (ap (λ (c : Cell). c.next) c) f.can.beside h.can.beside in (
        record {
          writes = f.writes ∙ ap (λ v. unlink_head_writes (layout_of z) s v f.can.cell f.can.next) d ∙ ap (λ v. unlink_head_writes (layout_of z) s h.can.directory v f.can.next) c ∙ ap (unlink_head_writes (layout_of z) s h.can.directory h.can.cell) o ∙ sym h.writes;
          deed = f.deed ∙ ap (λ (d : Directory). spelled_deed (UnlinkHead s (d.received + 1) f.can.cell.tag f.can.cell.body)) d ∙ ap (λ (c : Cell). spelled_deed (UnlinkHead s (h.can.directory.received + 1) c.tag c.body)) c ∙ sym h.deed;
          reply = f.reply ∙ sym h.reply;
        },
        f.kept ∙ sym h.kept,
      )

  unlinked_alike : (s n previous : ℕ) (p q : Plan) (x y : LevelState) → IsTailUnlinked z k given s n previous p x → IsTailUnlinked z k given s n previous q y → PlansAlike z p q × (x ≡ y)
  unlinked_alike s n previous p q x y f h =
      let d = directory_given z given s f.can.directory h.can.directory f.can.directory_is h.can.directory_is in
      let c = cell_given z given f.can.directory.tail h.can.directory.tail f.can.cell h.can.cell (ap (λ (d : Directory). d.tail) d) f.can.tail_is h.can.tail_is in
      let o = beside_given z given f.can.cell.prev h.can.cell.prev f.can.front h.can.front all (ap (λ (c : Cell). c.prev) c) f.can.beside h.can.beside in (
        record {
          writes = f.writes ∙ ap (λ v. unlink_tail_writes (layout_of z) s v f.can.cell previous f.can.front) d ∙ ap (λ v. unlink_tail_writes (layout_of z) s h.can.directory v previous f.can.front) c ∙ ap (unlink_tail_writes (layout_of z) s h.can.directory h.can.cell previous) o ∙ sym h.writes;
          deed = f.inverse.deed ∙ sym h.inverse.deed;
          reply = f.inverse.reply ∙ sym h.inverse.reply;
        },
        f.kept ∙ sym h.kept,
      )

  marked_alike : (s : ℕ) (closed : Bool) (p q : Plan) → IsMarked z given s closed p → IsMarked z given s closed q → p.deed ≡ q.deed → p.reply ≡ q.reply → PlansAlike z p q
  marked_alike s closed p q f h deed reply =
      let d = directory_given z given s f.can.directory h.can.directory f.can.directory_is h.can.directory_is in
      record { writes = f.writes ∙ ap (λ (d : Directory). directory_write (layout_of z) s d (record d { closed = closed }) ∷ []) d ∙ sym h.writes; deed = deed; reply = reply }

  closed_alike : (s : ℕ) (p q : Plan) (x y : LevelState) → IsClosed z k given s p x → IsClosed z k given s q y → PlansAlike z p q × (x ≡ y)
  closed_alike s p q x y f h = (marked_alike s true p q f.marked h.marked (f.deed ∙ sym h.deed) (f.reply ∙ sym h.reply), f.kept ∙ sym h.kept)

  reopened_alike : (s : ℕ) (p q : Plan) (x y : LevelState) → IsReopened z k given s p x → IsReopened z k given s q y → PlansAlike z p q × (x ≡ y)
  reopened_alike s p q x y f h = (marked_alike s false p q f.marked h.marked (f.inverse.deed ∙ sym h.inverse.deed) (f.inverse.reply ∙ sym h.inverse.reply), f.kept ∙ sym h.kept)

-- ---- where one is planned, the other is refused for want of memory alone

taking_wants : (z : Sizes) (k : LevelState) (latched : List ℕ) (s : ℕ) (Can : Type 0) (a : ℕ) (r : Refusal) → Can → IsLowest z k latched a → RefusesTaking z k latched s Can r → IsMemory r
taking_wants z k latched s Can a why.NoMemory can f h = tt
taking_wants z k latched s Can a why.Latched can f h = true≢false (sym f.may ∙ h.0 f.place f.below)
taking_wants z k latched s Can a (why.Damaged d) can f h = true≢false (sym (and_parts _ _ f.may).0 ∙ h.1 can f.place f.below)
taking_wants z k latched s Can a _ can f h = absurd h

other_wants : (s : ℕ) (Can : Type 0) (r : Refusal) → Can → RefusesOther s Can r → IsMemory r
other_wants s Can why.NoMemory can h = tt
other_wants s Can (why.Damaged d) can h = h.1 can
other_wants s Can _ can h = absurd h

-- ---- what is asked

abbrev SameKept : Result Plan Refusal → Result Plan Refusal → LevelState → LevelState → Type 0
SameKept p q x y = IfOk p (λ _. IfOk q (λ _. x ≡ y))

abbrev Alike : Option Sizes → Result Plan Refusal → Result Plan Refusal → LevelState → LevelState → Type 0
Alike zs p q x y = PlannedAlike zs p q × SameKept p q x y

unread_alike : (zs : Option Sizes) (k : LevelState) (p q : Result Plan Refusal) (x y : LevelState) → RefusesUnread k p x → RefusesUnread k q y → Alike zs p q x y
unread_alike zs k (Ok a) q x y f h = absurd f
unread_alike zs k (Err r) (Ok b) x y f h = absurd h
unread_alike (Some z) k (Err r) (Err s) x y f h = (tt, tt)
unread_alike None k (Err r) (Err s) x y f h = (tt, tt)

plans_alike : (zs : Option Sizes) (d : Option Doing) (k : LevelState) (given : List Given) (latched : List ℕ) (p q : Result Plan Refusal) (x y : LevelState) → AreOf zs given
    → Plans zs d k given latched p x → Plans zs d k given latched q y → Alike zs p q x y
plans_alike (Some z) (Some (Send s tag body)) k given latched (Ok a) (Ok b) x y all f h = sent_alike z k given all latched s tag body a b x y f h
plans_alike (Some z) (Some (Send s tag body)) k given latched (Ok a) (Err r) x y all f h = (taking_wants z k latched s (CanSend z given s) f.new r f.can f.lowest h.0, tt)
plans_alike (Some z) (Some (Send s tag body)) k given latched (Err r) (Ok b) x y all f h = (taking_wants z k latched s (CanSend z given s) h.new r h.can h.lowest f.0, tt)
plans_alike (Some z) (Some (Receive s)) k given latched (Ok a) (Ok b) x y all f h = received_alike z k given all s a b x y f h
plans_alike (Some z) (Some (Receive s)) k given latched (Ok a) (Err r) x y all f h = (other_wants s (CanReceive z given s) r f.can h.0, tt)
plans_alike (Some z) (Some (Receive s)) k given latched (Err r) (Ok b) x y all f h = (other_wants s (CanReceive z given s) r h.can f.0, tt)
plans_alike (Some z) (Some (Close s)) k given latched (Ok a) (Ok b) x y all f h = closed_alike z k given all s a b x y f h
plans_alike (Some z) (Some (Close s)) k given latched (Ok a) (Err r) x y all f h = (other_wants s (CanMark z given s true) r f.marked.can h.0, tt)
plans_alike (Some z) (Some (Close s)) k given latched (Err r) (Ok b) x y all f h = (other_wants s (CanMark z given s true) r h.marked.can f.0, tt)
plans_alike (Some z) None k given latched p q x y all f h = unread_alike (Some z) k p q x y f h
plans_alike None (Some d) k given latched p q x y all f h = unread_alike None k p q x y f h
plans_alike None None k given latched p q x y all f h = unread_alike None k p q x y f h
plans_alike (Some z) _ k given latched (Err r) (Err v) x y all f h = (tt, tt)

for_alike : (undo : Bool) (zs : Option Sizes) (d : Option Doing) (k : LevelState) (given : List Given) (latched : List ℕ) (p q : Result Plan Refusal) (x y : LevelState) → AreOf zs given
    → PlansFor undo zs d k given latched p x → PlansFor undo zs d k given latched q y → Alike zs p q x y
for_alike true zs d k given latched p q x y all f h = unread_alike zs k p q x y f h
for_alike false zs d k given latched p q x y all f h = plans_alike zs d k given latched p q x y all f h

undoes_alike : (zs : Option Sizes) (d : Option Deed) (k : LevelState) (given : List Given) (latched : List ℕ) (p q : Result Plan Refusal) (x y : LevelState) → AreOf zs given
    → Undoes zs d k given latched p x → Undoes zs d k given latched q y → Alike zs p q x y
undoes_alike (Some z) (Some (Append s n tag previous body)) k given latched (Ok a) (Ok b) x y all f h = unlinked_alike z k given all s n previous a b x y f h
undoes_alike (Some z) (Some (Append s n tag previous body)) k given latched (Ok a) (Err r) x y all f h = (other_wants s (CanUnlinkTail z given s n) r f.can h.0, tt)
undoes_alike (Some z) (Some (Append s n tag previous body)) k given latched (Err r) (Ok b) x y all f h = (other_wants s (CanUnlinkTail z given s n) r h.can f.0, tt)
undoes_alike (Some z) (Some (UnlinkHead s n tag body)) k given latched (Ok a) (Ok b) x y all f h = returned_alike z k given all latched s n tag body a b x y f h
undoes_alike (Some z) (Some (UnlinkHead s n tag body)) k given latched (Ok a) (Err r) x y all f h = (taking_wants z k latched s (CanPutBack z given s n) f.new r f.can f.lowest h.0, tt)
undoes_alike (Some z) (Some (UnlinkHead s n tag body)) k given latched (Err r) (Ok b) x y all f h = (taking_wants z k latched s (CanPutBack z given s n) h.new r h.can h.lowest f.0, tt)
undoes_alike (Some z) (Some (Close_deed s)) k given latched (Ok a) (Ok b) x y all f h = reopened_alike z k given all s a b x y f h
undoes_alike (Some z) (Some (Close_deed s)) k given latched (Ok a) (Err r) x y all f h = (other_wants s (CanMark z given s false) r f.marked.can h.0, tt)
undoes_alike (Some z) (Some (Close_deed s)) k given latched (Err r) (Ok b) x y all f h = (other_wants s (CanMark z given s false) r h.marked.can f.0, tt)
undoes_alike (Some z) (Some (Mark c tag previous)) k given latched p q x y all f h = unread_alike (Some z) k p q x y f h
undoes_alike (Some z) None k given latched p q x y all f h = unread_alike (Some z) k p q x y f h
undoes_alike None (Some d) k given latched p q x y all f h = unread_alike None k p q x y f h
undoes_alike None None k given latched p q x y all f h = unread_alike None k p q x y f h
undoes_alike (Some z) _ k given latched (Err r) (Err v) x y all f h = (tt, tt)

record_alike : (k : LevelState) (told : Record) (given : List Given) (latched : List ℕ) (p q : Result Plan Refusal) (x y : LevelState) → AreOf k.sizes given
    → chain_undoes k told given latched p x → chain_undoes k told given latched q y → Alike k.sizes p q x y
record_alike k (records.OpEnd t n level deed) given latched p q x y all f h = undoes_alike k.sizes (deed_by level deed) k given latched p q x y all f h
record_alike k _ given latched p q x y all f h = unread_alike k.sizes k p q x y f h

-- ---- the level of tags

client_given : (z : Sizes) (given : List Given) (c : ℕ) (x y : ClientSlot) → GivenHolds z given (client_slot_at z c) (Client x) → GivenHolds z given (client_slot_at z c) (Client y) → x ≡ y
client_given z given c x y f h = client_same x y (same_held z (client_slot_at z c) (Client x) (Client y) (given_at (client_slot_at z c) given) f h)

tagged_alike : (z : Sizes) (k : LevelState) (given : List Given) (c tag : ℕ) (p q : Plan) (x y : LevelState) → IsTagPlan z k given c tag p x → IsTagPlan z k given c tag q y → PlansAlike z p q × (x ≡ y)
tagged_alike z k given c tag p q x y f h =
    let d = client_given z given c f.can.held h.can.held f.can.held_is h.can.held_is in (
      record {
        writes = f.writes ∙ ap (λ (v : ClientSlot). client_write (layout_of z) v (record v { count = v.count + 1; tag = tag }) ∷ []) d ∙ sym h.writes;
        deed = f.deed ∙ ap (λ (v : ClientSlot). spelled_deed (Mark c tag v.tag)) d ∙ sym h.deed;
        reply = f.reply ∙ sym h.reply;
      },
      f.kept ∙ sym h.kept,
    )

untagged_alike : (z : Sizes) (k : LevelState) (given : List Given) (c tag previous : ℕ) (p q : Plan) (x y : LevelState) → IsUntagPlan z k given c tag previous p x → IsUntagPlan z k given c tag previous q y → PlansAlike z p q × (x ≡ y)
untagged_alike z k given c tag previous p q x y f h =
    let d = client_given z given c f.can.held h.can.held f.can.held_is h.can.held_is in (
      record {
        writes = f.writes ∙ ap (λ (v : ClientSlot). client_write (layout_of z) v (record v { count = v.count - 1; tag = previous }) ∷ []) d ∙ sym h.writes;
        deed = f.inverse.deed ∙ sym h.inverse.deed;
        reply = f.inverse.reply ∙ sym h.inverse.reply;
      },
      f.kept ∙ sym h.kept,
    )

tag_wants_memory : (z : Sizes) (c : ℕ) (Can : Type 0) (r : Refusal) → Can → RefusesTag z c Can r → IsMemory r
tag_wants_memory z c Can why.NoMemory can h = tt
tag_wants_memory z c Can (why.Damaged d) can h = h.1 can
tag_wants_memory z c Can _ can h = absurd h

tags_alike : (zs : Option Sizes) (t : Option Tagging) (k : LevelState) (given : List Given) (p q : Result Plan Refusal) (x y : LevelState)
    → PlansTag zs t k given p x → PlansTag zs t k given q y → Alike zs p q x y
tags_alike (Some z) (Some t) k given (Ok a) (Ok b) x y f h = tagged_alike z k given t.client t.tag a b x y f h
tags_alike (Some z) (Some t) k given (Ok a) (Err r) x y f h = (tag_wants_memory z t.client (CanTag z given t.client) r f.can h.0, tt)
tags_alike (Some z) (Some t) k given (Err r) (Ok b) x y f h = (tag_wants_memory z t.client (CanTag z given t.client) r h.can f.0, tt)
tags_alike (Some z) (Some t) k given (Err r) (Err v) x y f h = (tt, tt)
tags_alike (Some z) None k given p q x y f h = unread_alike (Some z) k p q x y f h
tags_alike None (Some t) k given p q x y f h = unread_alike None k p q x y f h
tags_alike None None k given p q x y f h = unread_alike None k p q x y f h

for_tags_alike : (undo : Bool) (zs : Option Sizes) (t : Option Tagging) (k : LevelState) (given : List Given) (p q : Result Plan Refusal) (x y : LevelState)
    → TagsFor undo zs t k given p x → TagsFor undo zs t k given q y → Alike zs p q x y
for_tags_alike true zs t k given p q x y f h = unread_alike zs k p q x y f h
for_tags_alike false zs t k given p q x y f h = tags_alike zs t k given p q x y f h

untags_alike : (zs : Option Sizes) (d : Option Deed) (k : LevelState) (given : List Given) (p q : Result Plan Refusal) (x y : LevelState)
    → UndoesTag zs d k given p x → UndoesTag zs d k given q y → Alike zs p q x y
untags_alike (Some z) (Some (Mark c tag previous)) k given (Ok a) (Ok b) x y f h = untagged_alike z k given c tag previous a b x y f h
untags_alike (Some z) (Some (Mark c tag previous)) k given (Ok a) (Err r) x y f h = (tag_wants_memory z c (CanUntag z given c tag) r f.can h.0, tt)
untags_alike (Some z) (Some (Mark c tag previous)) k given (Err r) (Ok b) x y f h = (tag_wants_memory z c (CanUntag z given c tag) r h.can f.0, tt)
untags_alike (Some z) (Some (Mark c tag previous)) k given (Err r) (Err v) x y f h = (tt, tt)
untags_alike (Some z) (Some (Append s n tag previous body)) k given p q x y f h = unread_alike (Some z) k p q x y f h
untags_alike (Some z) (Some (UnlinkHead s n tag body)) k given p q x y f h = unread_alike (Some z) k p q x y f h
untags_alike (Some z) (Some (Close_deed s)) k given p q x y f h = unread_alike (Some z) k p q x y f h
untags_alike (Some z) None k given p q x y f h = unread_alike (Some z) k p q x y f h
untags_alike None (Some d) k given p q x y f h = unread_alike None k p q x y f h
untags_alike None None k given p q x y f h = unread_alike None k p q x y f h

marked_record_alike : (k : LevelState) (told : Record) (given : List Given) (latched : List ℕ) (p q : Result Plan Refusal) (x y : LevelState)
    → tag_undoes k told given latched p x → tag_undoes k told given latched q y → Alike k.sizes p q x y
marked_record_alike k (records.OpEnd t n level deed) given latched p q x y f h = untags_alike k.sizes (deed_by level deed) k given p q x y f h
marked_record_alike k _ given latched p q x y f h = unread_alike k.sizes k p q x y f h

-- ---- the level of single slots

one_alike : (a : ℕ) (before after : List ℕ) (ws vs : List SlotWrite) → IsOneWrite a before after ws → IsOneWrite a before after vs → WritesAlike ws vs
one_alike a before after [] vs f h = absurd f
one_alike a before after (w ∷ u ∷ ws) vs f h = absurd f
one_alike a before after (w ∷ []) [] f h = absurd h
one_alike a before after (w ∷ []) (v ∷ u ∷ vs) f h = absurd h
one_alike a before after (w ∷ []) (v ∷ []) f h = (f.0 ∙ sym h.0, f.1 ∙ sym h.1, f.2 ∙ sym h.2, tt)

memory_alone : (k : LevelState) (a : ℕ) (before after : List ℕ) (r : Refusal) (x : LevelState) → TakesBack k true a before after (Err r) x → IsMemory r
memory_alone k a before after why.NoMemory x h = tt
memory_alone k a before after _ x h = absurd h

abbrev BothPutBack : Result Plan Refusal → Result Plan Refusal → LevelState → LevelState → Type 0
BothPutBack p q x y = PutBackAlike p q × SameKept p q x y

unread_back : (k : LevelState) (p q : Result Plan Refusal) (x y : LevelState) → RefusesUnread k p x → RefusesUnread k q y → BothPutBack p q x y
unread_back k (Ok a) q x y f h = absurd f
unread_back k (Err r) (Ok b) x y f h = absurd h
unread_back k (Err r) (Err s) x y f h = (tt, tt)

write_alike : (is : Bool) (k : LevelState) (a : ℕ) (before after : List ℕ) (p q : Result Plan Refusal) (x y : LevelState)
    → TakesBack k is a before after p x → TakesBack k is a before after q y → BothPutBack p q x y
write_alike true k a before after (Ok p) (Ok q) x y f h = (
  record {
    writes = one_alike a after before p.writes.items q.writes.items f.0.write h.0.write;
    deed = f.0.deed ∙ sym h.0.deed;
    reply = f.0.reply ∙ sym h.0.reply;
  },
  f.1 ∙ sym h.1,
)
write_alike true k a before after (Ok p) (Err r) x y f h = (memory_alone k a before after r y h, tt)
write_alike true k a before after (Err r) (Ok q) x y f h = (memory_alone k a before after r x f, tt)
write_alike true k a before after (Err r) (Err s) x y f h = (tt, tt)
write_alike false k a before after p q x y f h = unread_back k p q x y f h

page_alike : (k : LevelState) (told : Record) (given : List Given) (latched : List ℕ) (p q : Result Plan Refusal) (x y : LevelState)
    → page_undoes k told given latched p x → page_undoes k told given latched q y → BothPutBack p q x y
page_alike k (records.PageOp t n page slot before after) given latched p q x y f h =
    write_alike (is_slot_number slot) k (page * 16 + slot) before after p q x y f h
page_alike k _ given latched p q x y f h = unread_back k p q x y f h

-- ---- levels of one number

planned_by : (n : ℕ) (k : LevelState) (job : Job) (given : List Given) (latched : List ℕ) (p q : Result Plan Refusal) (x y : LevelState) → AreOf k.sizes given
    → (meaning_of n).plans k job given latched p x → (meaning_of n).plans k job given latched q y → Alike k.sizes p q x y
unfolding meaning_of
planned_by zero k job given latched p q x y all f h = unread_alike k.sizes k p q x y f h
planned_by (suc zero) k job given latched p q x y all f h = for_alike job.undo k.sizes (doing_by job.level job.bytes) k given latched p q x y all f h
planned_by (suc (suc zero)) k job given latched p q x y all f h = for_tags_alike job.undo k.sizes (tagging_by job.level job.bytes) k given p q x y f h
planned_by (suc (suc (suc n))) k job given latched p q x y all f h = unread_alike k.sizes k p q x y f h

undone_by : (n : ℕ) (k : LevelState) (told : Record) (given : List Given) (latched : List ℕ) (p q : Result Plan Refusal) (x y : LevelState) → AreOf k.sizes given
    → (meaning_of n).undoes k told given latched p x → (meaning_of n).undoes k told given latched q y → BackAlike n k.sizes p q × SameKept p q x y
unfolding meaning_of
undone_by zero k told given latched p q x y all f h = page_alike k told given latched p q x y f h
undone_by (suc zero) k told given latched p q x y all f h = record_alike k told given latched p q x y all f h
undone_by (suc (suc zero)) k told given latched p q x y all f h = marked_record_alike k told given latched p q x y f h
undone_by (suc (suc (suc n))) k told given latched p q x y all f h = unread_alike k.sizes k p q x y f h

-- those that keep the same plan alike
pub level_plans : (n m : ℕ) (k j : LevelState) (job : Job) (given : List Given) (latched : List ℕ) (p q : Result Plan Refusal) (x y : LevelState) → n ≡ m → k ≡ j → AreOf k.sizes given
    → (meaning_of n).plans k job given latched p x → (meaning_of m).plans j job given latched q y → Alike k.sizes p q x y
level_plans n m k j job given latched p q x y number same all f h =
    planned_by n k job given latched p q x y all f
    (subst (λ (v : LevelState). (meaning_of n).plans v job given latched q y) (sym same) (subst (λ (i : ℕ). (meaning_of i).plans j job given latched q y) (sym number) h))

-- and take back alike
pub level_undoes : (n m : ℕ) (k j : LevelState) (told : Record) (given : List Given) (latched : List ℕ) (p q : Result Plan Refusal) (x y : LevelState) → n ≡ m → k ≡ j → AreOf k.sizes given
    → (meaning_of n).undoes k told given latched p x → (meaning_of m).undoes j told given latched q y → BackAlike n k.sizes p q × SameKept p q x y
level_undoes n m k j told given latched p q x y number same all f h =
    undone_by n k told given latched p q x y all f
    (subst (λ (v : LevelState). (meaning_of n).undoes v told given latched q y) (sym same) (subst (λ (i : ℕ). (meaning_of i).undoes j told given latched q y) (sym number) h))
