-- The level of tags keeps the laws of levels.
use Rattle.std.proofs.Common.{◌≡◌, ◌≢◌, ℕ, ◌+◌, ◌-◌, ◌/◌, ◌%◌, ◌<◌, ◌≤◌, List, [], ◌∷◌, length, Bool, true, false, cond, nat_eq, Option, None, Some, Ok, Err, map, reverse, All, refl, sym, ap, ◌∙◌, subst, inl, inr, arith}
use Rattle.std.proofs.lemmas.Bool.{cases_Bool, false≢true, ne_eqb}
use Rattle.std.proofs.lemmas.List.{length-append, length-map, length-reverse}
use Rattle.std.proofs.lemmas.List.Elements.{All-cons, All-nil, All-weaker, recursion_from_All}
use Rattle.rq_model.specs.declared.record.Deed.{Deed}
use Rattle.rq_model.specs.declared.record.Deed.TheVariants.{Append, UnlinkHead, Close, Mark}
use Rattle.rq_model.specs.declared.record.Record.{Record}
use Rattle.rq_model.specs.declared.record.Record.TheVariants as records
use Rattle.rq_model.specs.declared.refusal.Refusal.{Refusal}
use Rattle.rq_model.specs.declared.refusal.Refusal.TheVariants as why
use Rattle.rq_model.specs.Deeds.{deed_by}
use Rattle.rq_model.specs.Vocabulary.{In, client_group, is_some}
use Rattle.rq_model.proofs.Deeds.{told_by_its_level}
use Rattle.rq_page.specs.declared.client.ClientSlot.{ClientSlot}
use Rattle.rq_page.specs.Sizes.{Sizes, client_slot_at}
use Rattle.rq_page.specs.Slots.{Client, IsSlotOf, held_in}
use Rattle.rq_views.specs.Chain.{View, view_appended, view_tail_unlinked}
use Rattle.rq_views.specs.Groups.{TellsView}
use Rattle.rq_views.specs.Items.{layout_of}
use Rattle.rq_views.specs.Log.{HasBefores, Slots, Write, applied}
use Rattle.rq_views.specs.Plans.{ShowsTag, client_write, deed_sender}
use Rattle.rq_views.specs.Plans.Turn.{Did}
use Rattle.rq_views.proofs.ChainLaws.{others}
use Rattle.rq_views.proofs.Counting.{length_but_last}
use Rattle.rq_views.proofs.Inverses.{inverses_leave}
use Rattle.rq_views.proofs.Overlay.{put_at}
use Rattle.rq_views.proofs.Tags.{tag_stays}
use Rattle.rq_level.specs.Asked.{AreWanted, TellsDeedOf, reply_back, job_back, AreOver, AreBackOver, AreWritten, AreAsGiven, AreOverSlots, Chooses, ChoosesBack, AreOfSlots, AreBackOfSlots, IsOver, written_at}
use Rattle.rq_level.specs.Given.{GivenHolds, HoldsBytes, IsGiven, given_at}
use Rattle.rq_level.specs.Lawful.{IsLawful, IsUntouchedAt, MayHaveNoPlan, TellsDeed}
use Rattle.rq_level.specs.LevelState.{LevelState}
use Rattle.rq_level.specs.Meaning.{AreOf, level_count, tag_meaning}
use Rattle.rq_level.specs.Ops.{Job, Tagging, tagging_by, tagging_in}
use Rattle.rq_level.specs.TagPlans.{CanTag, CanUntag, IsTagPlan, IsUntagPlan, PlansTag, RefusesTag, TagsFor, UndoesTag, client_marked, client_to_mark, client_wanted, tag_note, tag_plans, tag_undoes, tag_wants}
use Rattle.rq_level.specs.TakenBack.{AreOverHeld, LeadsBack, LeavesAt, LeavesOthers, ShowsOf, newest_first}
use Rattle.std.proofs.lemmas.Option.{same_Some}
use Rattle.rq_level.specs.declared.writes.Replies.TheVariants as replies
use Rattle.rq_level.specs.Gists.{gist_of}
use Rattle.rq_level.specs.Writes.{AreSlotWrites, IsSlotWrite, write_of, writes_of}
use Rattle.rq_level.specs.declared.slots.Given.{Given}
use Rattle.rq_level.specs.declared.writes.Plan.{Plan}
use Rattle.rq_level.specs.declared.writes.SlotWrite.{SlotWrite}
use Rattle.rq_level.proofs.Based.{all_each, holds_at, same_bytes, was_given}
use Rattle.rq_level.proofs.ChainLaws.{same_kept}
use Rattle.rq_level.proofs.Gathered.{asks_client, few_of_client, unless_within}
use Rattle.rq_level.proofs.TakenBack.{same_deed}
use Rattle.rq_level.proofs.Unread.{may_damage, read_of, there_is}

-- ---- its one write

-- the writes are one, which holds this
record IsOnly (z : Sizes) (items : List SlotWrite) (v : Write) : Type 0 where
  write : SlotWrite
  all : items ≡ write ∷ []
  is : write_of z write ≡ v

only : (z : Sizes) (items : List SlotWrite) (v : Write) → reverse (writes_of z items) ≡ v ∷ [] → IsOnly z items v
only z [] v e = absurd (let no : [] ≡ v ∷ [] = e in cc)
only z (w ∷ []) v e = record { write = w; all = refl; is = (let one : write_of z w ∷ [] ≡ v ∷ [] = e in cc) }
only z (w ∷ x ∷ ws) v e = absurd (omega (arith, ap length e, length-reverse (writes_of z (w ∷ x ∷ ws)), length-map ws (write_of z)))

-- a plan writes the slot of a client over what was given of it, in a store whose sizes were told
record IsOfClient (k : LevelState) (given : List Given) (p : Plan) (after : LevelState) (want : List Given → Option ℕ) : Type 0 where
  sizes : Sizes
  told : k.sizes ≡ Some sizes
  write : SlotWrite
  all : p.writes.items ≡ write ∷ []
  held : ClientSlot
  before : held_in sizes (write.at / 16) write.before ≡ Client held
  holds : GivenHolds sizes given write.at (Client held)
  slot : IsSlotWrite sizes write
  asked : AreWanted want [] given → AreWritten given p
  kept : after ≡ k

module _ (k : LevelState) (given : List Given) (p : Plan) (after : LevelState) where
  of_client : (z : Sizes) (c : ℕ) (held new : ClientSlot) → k.sizes ≡ Some z → GivenHolds z given (client_slot_at z c) (Client held) → held.client ≡ c → newest_first z p ≡ client_write (layout_of z) held new ∷ []
      → AreSlotWrites z p.writes.items → after ≡ k → IsOfClient k given p after (client_wanted (Some z) (Some c))
  of_client z c held new told holds own writes slots kept =
      let m = only z p.writes.items (client_write (layout_of z) held new) writes in
      let at : m.write.at ≡ client_slot_at z c = ap (λ (v : Write). v.at) m.is ∙ ap (client_slot_at z) own in
      let there : In (client_slot_at z c) (written_at p) = subst (λ (ws : List SlotWrite). In (client_slot_at z c) (map (λ (w : SlotWrite). w.at) ws)) (sym m.all) (inl (sym at)) in
      record {
        sizes = z;
        told = told;
        write = m.write;
        all = m.all;
        held = held;
        before = ap (λ (v : Write). v.before) m.is;
        holds = subst (λ a. GivenHolds z given a (Client held)) (sym at) holds;
        slot = (recursion_from_All (IsSlotWrite z) (m.write ∷ []) (subst (AreSlotWrites z) m.all slots)).0;
        asked = λ w. all_each (λ (g : Given). In g.at (written_at p)) given (λ g i. unless_within (λ n. In n (written_at p)) given (client_slot_at z c) there [] given refl w g i);
        kept = kept;
      }

  planned_by : (z : Option Sizes) (t : Option Tagging) → k.sizes ≡ z → PlansTag z t k given (Ok p) after → IsOfClient k given p after (client_wanted z (client_to_mark t))
  planned_by (Some z) (Some t) told h = of_client z t.client h.can.held _ told h.can.held_is h.can.own h.writes h.slots h.kept
  planned_by (Some z) None told h = absurd h
  planned_by None (Some t) told h = absurd h
  planned_by None None told h = absurd h

  undone_by : (z : Option Sizes) (d : Option Deed) → k.sizes ≡ z → UndoesTag z d k given (Ok p) after → IsOfClient k given p after (client_wanted z (client_marked d))
  undone_by (Some z) (Some (Mark c tag previous)) told h = of_client z c h.can.held _ told h.can.held_is h.can.own h.writes h.slots h.kept
  undone_by (Some z) (Some (Append s n tag previous body)) told h = absurd h
  undone_by (Some z) (Some (UnlinkHead s n tag body)) told h = absurd h
  undone_by (Some z) (Some (Close s)) told h = absurd h
  undone_by (Some z) None told h = absurd h
  undone_by None (Some d) told h = absurd h
  undone_by None None told h = absurd h

  planned : (job : Job) (latched : List ℕ) → tag_plans k job given latched (Ok p) after → IsOfClient k given p after (tag_wants k.sizes job)
  planned job latched h = by job.undo h where
    by : (undo : Bool) → TagsFor undo k.sizes (tagging_by job.level job.bytes) k given (Ok p) after → IsOfClient k given p after (tag_wants k.sizes (record { level = job.level; undo = undo; bytes = job.bytes }))
    by true m = absurd m
    by false m = planned_by k.sizes (tagging_by job.level job.bytes) refl m

  backed : (told : Record) (latched : List ℕ) → tag_undoes k told given latched (Ok p) after → IsOfClient k given p after (tag_wants k.sizes (job_back told))
  backed (records.OpEnd t n level deed) latched h = undone_by k.sizes (deed_by level deed) refl h
  backed _ latched h = absurd h

  module _ (want : List Given → Option ℕ) (m : IsOfClient k given p after want) where
    -- of the one write
    of_all : (P : SlotWrite → Type 0) → P m.write → All P p.writes.items
    of_all P h = subst (All P) (sym m.all) (All-cons P m.write [] h (All-nil P))

    one : (w : SlotWrite) → In w p.writes.items → w ≡ m.write
    one w i = elim (subst (λ (ws : List SlotWrite). In w ws) m.all i) [ inl e ↦ e | inr none ↦ absurd none ]

    -- it is over what was given of its slot
    over_bytes : AreOf k.sizes given → (bytes : List ℕ) → given_at m.write.at given ≡ Some bytes → m.write.before ≡ bytes
    over_bytes slots bytes e =
        let given_is : IsSlotOf m.sizes (m.write.at / 16) (m.write.at % 16) bytes = was_given (λ a x. IsSlotOf m.sizes (a / 16) (a % 16) x) m.write.at given bytes (All-weaker (IsGiven m.sizes) _ (λ g h. h.bytes) given (subst (λ (o : Option Sizes). AreOf o given) m.told slots)) e in
        same_bytes m.sizes (m.write.at / 16) (m.write.at % 16) m.write.before bytes m.slot.before given_is (m.before ∙ sym (holds_at m.sizes given m.write.at (Client m.held) bytes e m.holds))

    over : (latched : List ℕ) → AreOf k.sizes given → AreOver k given latched p.writes.items
    over latched slots = of_all (λ w. IsOver k latched w (given_at w.at given)) (by (given_at m.write.at given) refl) where
      by : (o : Option (List ℕ)) → given_at m.write.at given ≡ o → IsOver k latched m.write o
      by None e = absurd (subst (HoldsBytes m.sizes m.write.at (Client m.held)) e m.holds)
      by (Some bytes) e = over_bytes slots bytes e

    over_slots : (q : ℕ → List ℕ) → AreOf k.sizes given → AreAsGiven q given → AreOverSlots q p.writes.items
    over_slots q slots as_is = of_all (λ w. w.before ≡ q w.at) (by (given_at m.write.at given) refl) where
      by : (o : Option (List ℕ)) → given_at m.write.at given ≡ o → m.write.before ≡ q m.write.at
      by None e = absurd (subst (HoldsBytes m.sizes m.write.at (Client m.held)) e m.holds)
      by (Some bytes) e = over_bytes slots bytes e ∙ was_given (λ a x. x ≡ q a) m.write.at given bytes as_is e

    -- it was given
    takes : Chooses k given after p
    takes z w told i e = absurd (subst (HoldsBytes m.sizes m.write.at (Client m.held)) (sym (ap (λ (x : SlotWrite). given_at x.at given) (one w i)) ∙ e) m.holds)

    of_slots : AreOfSlots k p
    of_slots = record { sizes = m.sizes; told = m.told; are = of_all (IsSlotWrite m.sizes) m.slot }

    few_writes : length p.writes.items ≤ 3
    few_writes = omega (arith, ap length m.all)

  over_back : (told : Record) (latched : List ℕ) → tag_undoes k told given latched (Ok p) after → AreOf k.sizes given → AreBackOver told k given latched p.writes.items
  over_back (records.OpEnd t n level deed) latched h slots = over _ (backed (records.OpEnd t n level deed) latched h) latched slots
  over_back _ latched h slots = absurd h

  takes_back : (told : Record) (latched : List ℕ) → tag_undoes k told given latched (Ok p) after → ChoosesBack told k given after p
  takes_back (records.OpEnd t n level deed) latched h = takes _ (backed (records.OpEnd t n level deed) latched h)
  takes_back _ latched h = absurd h

  slots_back : (told : Record) (latched : List ℕ) → tag_undoes k told given latched (Ok p) after → AreBackOfSlots told k p
  slots_back (records.OpEnd t n level deed) latched h = of_slots _ (backed (records.OpEnd t n level deed) latched h)
  slots_back _ latched h = absurd h

  -- ---- its deeds and replies

  -- a plan is of a mark, which its deed tells
  marks : (undo : Bool) (z : Option Sizes) (t : Option Tagging) → TagsFor undo z t k given (Ok p) after → (y : Sizes) × (x : Tagging) × (z ≡ Some y) × (t ≡ Some x) × IsTagPlan y k given x.client x.tag p after
  marks true z t h = absurd h
  marks false (Some z) (Some t) h = (z, t, refl, refl, h)
  marks false (Some z) None h = absurd h
  marks false None (Some t) h = absurd h
  marks false None None h = absurd h

  does : (undo : Bool) (z : Option Sizes) (t : Option Tagging) → TagsFor undo z t k given (Ok p) after → undo ≡ false
  does true z t h = absurd h
  does false z t h = refl

  tells : (job : Job) (latched : List ℕ) → tag_plans k job given latched (Ok p) after → TellsDeed 2 p.deed
  tells job latched h = let m = (marks job.undo k.sizes (tagging_by job.level job.bytes) h).4 in record { deed = _; spelled = m.deed; reads = m.reads }

  answers : (job : Job) (latched : List ℕ) → tag_plans k job given latched (Ok p) after → (d : Deed) → deed_by 2 p.deed ≡ Some d → p.reply ≡ replies.Deed (gist_of d)
  answers job latched h d told =
      let m = (marks job.undo k.sizes (tagging_by job.level job.bytes) h).4 in
      m.reply ∙ ap (λ x. replies.Deed (gist_of x)) (same_Some _ d (sym m.reads ∙ told))

  plan_own : (job : Job) (latched : List ℕ) → tag_plans k job given latched (Ok p) after → (job.level ≡ 2) × (job.undo ≡ false) × (2 < level_count)
  plan_own job latched h =
      let m = marks job.undo k.sizes (tagging_by job.level job.bytes) h in
      (read_of 2 job.level (tagging_in job.bytes) (ap is_some m.3), does job.undo k.sizes (tagging_by job.level job.bytes) h, omega arith)

  -- what takes something back is of a mark that its end tells
  unmarks : (z : Option Sizes) (d : Option Deed) → UndoesTag z d k given (Ok p) after → (y : Sizes) × (c : ℕ) × (tag : ℕ) × (previous : ℕ) × (d ≡ Some (Mark c tag previous)) × IsUntagPlan y k given c tag previous p after
  unmarks (Some z) (Some (Mark c tag previous)) h = (z, c, tag, previous, refl, h)
  unmarks (Some z) (Some (Append s n tag previous body)) h = absurd h
  unmarks (Some z) (Some (UnlinkHead s n tag body)) h = absurd h
  unmarks (Some z) (Some (Close s)) h = absurd h
  unmarks (Some z) None h = absurd h
  unmarks None (Some d) h = absurd h
  unmarks None None h = absurd h

  silent : (told : Record) (latched : List ℕ) → tag_undoes k told given latched (Ok p) after → (p.deed ≡ []) × (p.reply ≡ reply_back told)
  silent (records.OpEnd t n level deed) latched h =
      let m = (unmarks k.sizes (deed_by level deed) h).5 in
      (m.inverse.deed, m.inverse.reply)
  silent _ latched h = absurd h

  back_own : (told : Record) (latched : List ℕ) → tag_undoes k told given latched (Ok p) after → TellsDeedOf 2 told
  back_own (records.OpEnd t n level deed) latched h =
      let m = unmarks k.sizes (deed_by level deed) h in
      let two : level ≡ 2 = sym (told_by_its_level level deed (Mark m.1 m.2 m.3) m.4) in
      (two, sym (ap (λ l. is_some (deed_by l deed)) two) ∙ ap is_some m.4)
  back_own _ latched h = absurd h

-- ---- refusals

may_refuse : (z : Sizes) (c : ℕ) (Can : Type 0) (r : Refusal) → RefusesTag z c Can r → MayHaveNoPlan r
may_refuse z c Can why.NoMemory h = tt
may_refuse z c Can (why.Damaged d) h = tt
may_refuse z c Can why.Latched h = absurd h
may_refuse z c Can _ h = absurd h

refuses_one : (z : Option Sizes) (t : Option Tagging) (k : LevelState) (given : List Given) (r : Refusal) (after : LevelState) → PlansTag z t k given (Err r) after → MayHaveNoPlan r × (after ≡ k)
refuses_one (Some z) (Some t) k given r after h = (may_refuse z t.client (CanTag z given t.client) r h.0, h.1)
refuses_one (Some z) None k given r after h = may_damage k r after h
refuses_one None (Some t) k given r after h = may_damage k r after h
refuses_one None None k given r after h = may_damage k r after h

refuses_for : (undo : Bool) (z : Option Sizes) (t : Option Tagging) (k : LevelState) (given : List Given) (r : Refusal) (after : LevelState) → TagsFor undo z t k given (Err r) after → MayHaveNoPlan r × (after ≡ k)
refuses_for true z t k given r after h = may_damage k r after h
refuses_for false z t k given r after h = refuses_one z t k given r after h

refuses_back : (z : Option Sizes) (d : Option Deed) (k : LevelState) (given : List Given) (r : Refusal) (after : LevelState) → UndoesTag z d k given (Err r) after → MayHaveNoPlan r × (after ≡ k)
refuses_back (Some z) (Some (Mark c tag previous)) k given r after h = (may_refuse z c (CanUntag z given c tag) r h.0, h.1)
refuses_back (Some z) (Some (Append s n tag previous body)) k given r after h = may_damage k r after h
refuses_back (Some z) (Some (UnlinkHead s n tag body)) k given r after h = may_damage k r after h
refuses_back (Some z) (Some (Close s)) k given r after h = may_damage k r after h
refuses_back (Some z) None k given r after h = may_damage k r after h
refuses_back None (Some d) k given r after h = may_damage k r after h
refuses_back None None k given r after h = may_damage k r after h

refuses_record : (k : LevelState) (told : Record) (given : List Given) (latched : List ℕ) (r : Refusal) (after : LevelState) → tag_undoes k told given latched (Err r) after → MayHaveNoPlan r × (after ≡ k)
refuses_record k (records.OpEnd t n level deed) given latched r after h = refuses_back k.sizes (deed_by level deed) k given r after h
refuses_record k _ given latched r after h = may_damage k r after h

-- ---- what it keeps

note_far : (k : LevelState) (a : ℕ) (x : List ℕ) → a ≢ 1 → tag_note k a x ≡ k
note_far k a x n = rw (ne_eqb a 1 n) refl

note_again : (k : LevelState) (a : ℕ) (x y : List ℕ) → tag_note (tag_note k a x) a y ≡ tag_note k a y
note_again k a x y = elim (cases_Bool (nat_eq a 1)) [ inl b ↦ rw b refl | inr n ↦ rw n refl ]

note_room : (k : LevelState) (a : ℕ) (x : List ℕ) → (length (tag_note k a x).free ≡ length k.free) × (length (tag_note k a x).reserved ≡ length k.reserved)
note_room k a x = elim (cases_Bool (nat_eq a 1)) [ inl b ↦ rw b (refl, refl) | inr n ↦ rw n (refl, refl) ]

-- ---- what takes a mark back

-- each write is over what those before it leave; they leave this view of the group, and each other group as it was
abbrev LeavesBy : Sizes → List Write → Slots → ℕ → View → Type 0
LeavesBy z ws q g v = HasBefores ws q × (ShowsOf (layout_of z) (applied ws q) g v
    × ((r : ℕ) (x : View) → g ≢ r → ShowsOf (layout_of z) q r x → ShowsOf (layout_of z) (applied ws q) r x))

-- one write of a client's slot, which leaves this view of its group there
one_leaves : (z : Sizes) (q : Slots) (held new : ClientSlot) (w : View) → Client held ≡ q (client_slot_at z held.client) → new.client ≡ held.client → new.count ≡ length w.messages → new.tag ≡ w.last_tag → w.closed ≡ false → w.received ≡ 0
    → LeavesBy z (client_write (layout_of z) held new ∷ []) q (client_group held.client) w
one_leaves z q held new w over own count tag open_one none_taken =
    let c = held.client in
    let ws : List Write = client_write (layout_of z) held new ∷ [] in (
      (over, tt),
      (
        record {
          sender = λ low. absurd (omega (arith, low));
          client = λ i e. subst (λ n. ShowsTag (layout_of z) (applied ws q) n w) (let same : c ≡ i = omega (arith, e) in same) (record {
            held = new;
            at = put_at q (client_slot_at z c) (Client new) (client_slot_at z c) refl;
            own = own;
            count = count;
            tag = tag;
            open_one = open_one;
            none_taken = none_taken;
          });
        },
        λ r x ne h. record {
          sender = λ low. others (layout_of z) q ws r x (tt, tt) (over, tt) (h.sender low);
          client = λ i e. tag_stays (layout_of z) q ws i x ((λ same. ne (ap client_group same ∙ sym e)), tt) (over, tt) (h.client i e);
        },
      ),
    )

client_is : (j k : ClientSlot) → Client j ≡ Client k → j ≡ k
client_is j k e = cc

module _ (z : Sizes) (p : Plan) (q : Slots) (c : ℕ) (v : View) (over : AreOverHeld q (newest_first z p)) (shows : ShowsTag (layout_of z) q c v) (held : ClientSlot) (own : held.client ≡ c) where
  -- what a client's write is over stands there
  stands : (new : ClientSlot) → newest_first z p ≡ client_write (layout_of z) held new ∷ [] → Client held ≡ q (client_slot_at z held.client)
  stands new e = (recursion_from_All (λ (w : Write). w.before ≡ q w.at) (client_write (layout_of z) held new ∷ []) (subst (AreOverHeld q) e over)).0

  held_is : Client held ≡ q (client_slot_at z held.client) → held ≡ shows.held
  held_is e = client_is held shows.held (e ∙ ap (λ i. q (client_slot_at z i)) own ∙ shows.at)

  leaves : (new : ClientSlot) (w : View) → newest_first z p ≡ client_write (layout_of z) held new ∷ [] → new.client ≡ held.client → new.count ≡ length w.messages → new.tag ≡ w.last_tag → w.closed ≡ false → w.received ≡ 0
      → HasBefores (newest_first z p) q × LeavesAt z p q (client_group c) w
  leaves new w e is count tag open_one none_taken =
      subst (λ g. LeavesBy z (newest_first z p) q (client_group g) w) own
      (subst (λ ws. LeavesBy z ws q (client_group held.client) w) (sym e) (one_leaves z q held new w (stands new e) is count tag open_one none_taken))

  marked : (tag : ℕ) → newest_first z p ≡ client_write (layout_of z) held (record held { count = held.count + 1; tag = tag }) ∷ []
      → (HasBefores (newest_first z p) q × LeavesAt z p q (client_group c) (view_appended v tag [])) × TellsView (Mark c tag held.tag) v
  marked tag e =
      let new : ClientSlot = record held { count = held.count + 1; tag = tag } in
      let same = held_is (stands new e) in
      let count : held.count ≡ shows.held.count = ap (λ (x : ClientSlot). x.count) same in
      let more = length-append v.messages ((tag, []) ∷ []) in (
        leaves new (view_appended v tag []) e refl (omega (arith, count, more, shows.count)) refl shows.open_one shows.none_taken,
        (ap (λ (x : ClientSlot). x.tag) same ∙ shows.tag, shows.open_one),
      )

  unmarked : (previous : ℕ) → newest_first z p ≡ client_write (layout_of z) held (record held { count = held.count - 1; tag = previous }) ∷ []
      → HasBefores (newest_first z p) q × LeavesAt z p q (client_group c) (view_tail_unlinked v previous)
  unmarked previous e =
      let new : ClientSlot = record held { count = held.count - 1; tag = previous } in
      let count : held.count ≡ shows.held.count = ap (λ (x : ClientSlot). x.count) (held_is (stands new e)) in
      let fewer = length_but_last v.messages in
      leaves new (view_tail_unlinked v previous) e refl (omega (arith, count, fewer, shows.count)) refl shows.open_one shows.none_taken

-- it is taken back to what the others alone led to
module _ (z : Sizes) (p : Plan) (q : Slots) (v : View) (c tag previous : ℕ) (reads : deed_by 2 p.deed ≡ Some (Mark c tag previous)) where
  back_to : (u w : View) → view_tail_unlinked u previous ≡ w → LeadsBack 2 tag_meaning z (client_group c) p.deed u w
  back_to u w e l t n back held r kept x sizes h over shown =
      let is : IsUntagPlan z l back c tag previous r kept = subst (λ o. UndoesTag o (Some (Mark c tag previous)) l back (Ok r) kept) sizes (subst (λ o. UndoesTag l.sizes o l back (Ok r) kept) reads h) in
      let m = unmarked z r x c u over (shown.client c refl) is.can.held is.can.own previous is.writes in
      (m.0, subst (LeavesAt z r x (client_group c)) e m.1)

  leaves_others : (k : LevelState) (given : List Given) (after : LevelState) (m : IsTagPlan z k given c tag p after) → m.can.held.tag ≡ previous → AreOverHeld q (newest_first z p) → ShowsOf (layout_of z) q (client_group c) v
      → LeavesOthers 2 tag_meaning z (Mark c tag previous) v q p
  leaves_others k given after m last over shows =
      let f = marked z p q c v over (shows.client c refl) m.can.held m.can.own tag m.writes in
      let tells_it : TellsView (Mark c tag previous) v = subst (λ n. TellsView (Mark c tag n) v) last f.1 in
      record {
        over = f.0.0;
        does = f.0.1;
        takings = λ e closed ops u w a b. back_to u w (inverses_leave.sending (Did (Mark c tag previous)) ops v w u e tells_it b a);
        sendings = λ e. absurd (false≢true e);
      }

inverse_of : (z : Sizes) (t : Option Tagging) (k : LevelState) (given : List Given) (p : Plan) (after : LevelState) (d : Deed) (v : View) (q : Slots) → PlansTag (Some z) t k given (Ok p) after
    → deed_by 2 p.deed ≡ Some d → AreOverHeld q (newest_first z p) → ShowsOf (layout_of z) q (deed_sender d) v → LeavesOthers 2 tag_meaning z d v q p
inverse_of z (Some t) k given p after d v q h told over =
    subst (λ e. ShowsOf (layout_of z) q (deed_sender e) v → LeavesOthers 2 tag_meaning z e v q p) (same_deed (Mark t.client t.tag h.can.held.tag) d (sym h.reads ∙ told))
    (leaves_others z p q v t.client t.tag h.can.held.tag h.reads k given after h refl over)
inverse_of z None k given p after d v q h told over = absurd h

inverse : (undo : Bool) (z : Sizes) (t : Option Tagging) (k : LevelState) (given : List Given) (p : Plan) (after : LevelState) (d : Deed) (v : View) (q : Slots) → k.sizes ≡ Some z → TagsFor undo k.sizes t k given (Ok p) after
    → deed_by 2 p.deed ≡ Some d → AreOverHeld q (newest_first z p) → ShowsOf (layout_of z) q (deed_sender d) v → LeavesOthers 2 tag_meaning z d v q p
inverse true z t k given p after d v q sizes h = absurd h
inverse false z t k given p after d v q sizes h = inverse_of z t k given p after d v q (subst (λ o. PlansTag o t k given (Ok p) after) sizes h)

-- ---- all of them

pub tags_lawful : IsLawful 2 tag_meaning
tags_lawful = record {
  refuses = λ k job given latched r after h. refuses_for job.undo k.sizes (tagging_by job.level job.bytes) k given r after h;
  refuses_undo = refuses_record;
  count = λ k job given latched p after h. few_writes k given p after _ (planned k given p after job latched h);
  count_undo = λ k told given latched p after h. few_writes k given p after _ (backed k given p after told latched h);
  before = λ k job given latched p after h slots noted_so. over k given p after _ (planned k given p after job latched h) latched slots;
  before_undo = λ k told given latched p after h slots noted_so. over_back k given p after told latched h slots;
  holds = λ q k job given latched p after h knows slots as_is. over_slots k given p after _ (planned k given p after job latched h) q slots as_is;
  holds_undo = λ q k told given latched p after h knows slots as_is stands. over_slots k given p after _ (backed k given p after told latched h) q slots as_is;
  asked_is_written = λ k job given latched p after h. (planned k given p after job latched h).asked;
  asked_is_written_undo = λ k told given latched p after h. (backed k given p after told latched h).asked;
  spares = λ k job given latched p after h g noted_so ne. absurd (ne (planned k given p after job latched h).kept);
  spares_undo = λ k told given latched p after h g noted_so ne. absurd (ne (backed k given p after told latched h).kept);
  takes = λ k job given latched p after h. takes k given p after _ (planned k given p after job latched h);
  takes_undo = λ k told given latched p after h. takes_back k given p after told latched h;
  slots = λ k job given latched p after h. of_slots k given p after _ (planned k given p after job latched h);
  slots_undo = λ k told given latched p after h. slots_back k given p after told latched h;
  asks = λ z job given. asks_client given z (cond job.undo (client_marked (deed_by job.level job.bytes)) (client_to_mark (tagging_by job.level job.bytes)));
  few = λ z job given h. few_of_client z (cond job.undo (client_marked (deed_by job.level job.bytes)) (client_to_mark (tagging_by job.level job.bytes))) given h;
  told = λ k job given latched p after h. tells k given p after job latched h;
  silent = λ k told given latched p after h. (silent k given p after told latched h).0;
  replies = λ k job given latched p after h. answers k given p after job latched h;
  replies_undo = λ k told given latched p after h. (silent k given p after told latched h).1;
  inverse = λ z d v q k job given latched p after h sizes. inverse job.undo z (tagging_by job.level job.bytes) k given p after d v q sizes h;
  chooses = λ k job given latched p after h. same_kept tag_meaning p.writes.items after k (planned k given p after job latched h).kept;
  chooses_undo = λ k told given latched p after h. same_kept tag_meaning p.writes.items after k (backed k given p after told latched h).kept;
  last = note_again;
  commutes = λ k a b x y m n o. note_far (tag_note k a x) b y n ∙ note_far k a x m ∙ sym (note_far (tag_note k b y) a x m ∙ note_far k b y n);
  alone = λ k z a i x e n o. subst (λ (l : LevelState). IsUntouchedAt i l k) (sym (note_far k a x n)) (refl, refl, refl);
  room = note_room;
  no_others = λ k z y h told. (let is : Some y ≡ Some z = sym told ∙ h in cc);
  stays = λ k z a x ne h. ap (λ (l : LevelState). l.sizes) (note_far k a x ne) ∙ h;
  reads = there_is 2;
  own = λ k job given latched p after h. plan_own k given p after job latched h;
  own_back = λ k told given latched p after h. back_own k given p after told latched h;
}
