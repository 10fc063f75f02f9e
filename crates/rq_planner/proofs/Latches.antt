-- What a plan keeps to of latches, whatever slots its level was given.
use Rattle.std.proofs.Common.{◌≡◌, ℕ, ◌/◌, ◌<◌, ◌&&◌, length, List, [], ◌∷◌, All, Bool, true, false, cond, not, map, nat_eq, Option, None, Some, Result, Ok, Err, IfOk, refl, sym, ◌∙◌, ap, subst, inl, inr}
use Rattle.std.proofs.lemmas.Bool.{and_parts, eqb-true, false≢true, not-true, or_cases}
use Rattle.std.proofs.lemmas.List.Elements.{All-append, All-cons, All-nil, recursion_from_All}
use Rattle.std.specs.List.{AllByRecursion}
use Rattle.rq_model.specs.declared.record.Record.{Record}
use Rattle.rq_model.specs.declared.record.Record.TheVariants.{OpEnd}
use Rattle.rq_model.specs.declared.refusal.Damage.TheVariants as damage
use Rattle.rq_model.specs.declared.refusal.Refusal.{Refusal}
use Rattle.rq_model.specs.declared.refusal.Refusal.TheVariants as why
use Rattle.rq_model.specs.Deeds.{deed_by}
use Rattle.rq_model.specs.Vocabulary.{is_some}
use Rattle.rq_disk.specs.declared.device.PageDevice.{Ghosts}
use Rattle.rq_page.specs.Sizes.{Sizes, cell_at, client_slot_at, directory_at}
use Rattle.rq_views.specs.Stored.{slot_at}
use Rattle.rq_level.specs.Asked.{AreOver, IsOver, deed_back}
use Rattle.rq_level.specs.ChainPlans.{PlansFor, RefusesOther, TellsDamage, unless_given, undo_wanted, wanted}
use Rattle.rq_level.specs.declared.slots.Given.{Given}
use Rattle.rq_level.specs.declared.writes.Plan.{Plan}
use Rattle.rq_level.specs.declared.writes.SlotWrite.{SlotWrite}
use Rattle.rq_level.specs.Given.{given_at, has_page}
use Rattle.rq_level.specs.LevelState.{LevelState, flag_at}
use Rattle.rq_level.specs.Meaning.{AreOf, kept_at, meaning_of}
use Rattle.rq_level.specs.Ops.{Doing, Job, Tagging, doing_by, tagging_by}
use Rattle.rq_level.specs.Ops.Doing.{Send, Receive, Close}
use Rattle.rq_level.specs.TagPlans.{RefusesTag, TagsFor, client_marked, client_to_mark, client_wanted}
use Rattle.rq_level.proofs.Based.{was_given}
use Rattle.rq_level.proofs.EachLevel.{all_lawful}
use Rattle.rq_txn.specs.Rows.{Row, latched_in}
use Rattle.rq_sound.specs.Plans.{AreUnlatched}
use Rattle.rq_pool.specs.Fetching.{IsUnread}
use Rattle.rq_pool.specs.Pooled.{Pooled}
use Rattle.rq_planner.specs.Answered.{IsGivenMore, KnowsCells, wants_of}
use Rattle.rq_planner.specs.Asked.{Task, known, task_by}
use Rattle.rq_planner.specs.Asked.Task.{Chain, Tag}
use Rattle.rq_planner.specs.Lawful.{AreFreelyGiven, IsByOwnLatch, IsExactlyLatched, IsForLatch, IsHeldBack}
use Rattle.rq_planner.proofs.Asking.{task_cases}
use Rattle.rq_planner.proofs.Tags.{tags_know}

-- ---- what is given

-- one more slot, of a page that nobody has latched
pub freely_more : (rows : List Row) (z : Sizes) (images : List (List ℕ)) (levels : List LevelState) (n a : ℕ) (given now : List Given) → KnowsCells z images levels → n < length levels → AreFreelyGiven rows (meaning_of n) (kept_at levels n) given → IsGivenMore z images a given now
    → latched_in rows (a / 16) ≡ false → AreFreelyGiven rows (meaning_of n) (kept_at levels n) now
freely_more rows z images levels n a given now knows lt h m off =
    let k = kept_at levels n in
    let one : Given = record { at = a; bytes = slot_at images a } in
    subst (AreFreelyGiven rows (meaning_of n) k) (sym m.more) (record {
      unlatched = All-append (λ (g : Given). latched_in rows (g.at / 16) ≡ false) given (one ∷ []) h.unlatched (All-cons (λ (g : Given). latched_in rows (g.at / 16) ≡ false) one [] off (All-nil (λ (g : Given). latched_in rows (g.at / 16) ≡ false)));
      noted = All-append (λ (g : Given). (meaning_of n).note k g.at g.bytes ≡ k) given (one ∷ []) h.noted (All-cons (λ (g : Given). (meaning_of n).note k g.at g.bytes ≡ k) one [] (knows.again n a lt m.place) (All-nil (λ (g : Given). (meaning_of n).note k g.at g.bytes ≡ k)));
    })

-- a page that was not read is refused as no latch
pub unread_unlatched : {P : Type 0} (g : Ghosts P) (old new : Pooled P) (latched : Bool) (e : Refusal) → IsUnread g old e new → latched ≡ false → IsForLatch latched e
unread_unlatched g old new latched why.DiskRead is off = off
unread_unlatched g old new latched (why.Damaged (damage.Page n)) is off = off
unread_unlatched g old new latched _ is off = absurd is

-- what was given is of a page that nobody has latched
given_unlatched : (rows : List Row) (a : ℕ) (given : List Given) (bytes : List ℕ) → All (λ g. latched_in rows (g.at / 16) ≡ false) given → given_at a given ≡ Some bytes → latched_in rows (a / 16) ≡ false
given_unlatched rows a given bytes h e = was_given (λ n x. latched_in rows (n / 16) ≡ false) a given bytes h e

-- ---- what is written

module _ (rows : List Row) (k : LevelState) (given : List Given) (latched : List ℕ) (on : (p : ℕ) → has_page p latched ≡ latched_in rows p) (unlatched : All (λ g. latched_in rows (g.at / 16) ≡ false) given) where
  write_unlatched : (w : SlotWrite) (o : Option (List ℕ)) → given_at w.at given ≡ o → IsOver k latched w o → latched_in rows (w.at / 16) ≡ false
  write_unlatched w (Some bytes) e over = given_unlatched rows w.at given bytes unlatched e
  write_unlatched w None e over =
      let low = over.lowest in
      let page = cell_at over.sizes low.place / 16 in
      let one = and_parts (flag_at k.free low.place) (not (flag_at k.reserved low.place) && not (has_page page latched)) low.may in
      let two = and_parts (not (flag_at k.reserved low.place)) (not (has_page page latched)) one.1 in
      ap (λ n. latched_in rows (n / 16)) low.at ∙ sym (on page) ∙ not-true (has_page page latched) two.1

  each_unlatched : (z : Sizes) (images : List (List ℕ)) (ws : List SlotWrite) → AllByRecursion (λ w. IsOver k latched w (given_at w.at given)) ws → AreUnlatched (known z images rows) ws
  each_unlatched z images [] h p at = absurd (false≢true at)
  each_unlatched z images (w ∷ ws) h p at = elim (or_cases (nat_eq (w.at / 16) p) (has_page p (map (λ (x : SlotWrite). x.at / 16) ws)) at) [
    | inl same ↦ subst (λ n. latched_in rows n ≡ false) (eqb-true (w.at / 16) p same) (write_unlatched w (given_at w.at given) refl h.0)
    | inr rest ↦ each_unlatched z images ws h.1 p rest
  ]

  pub over_unlatched : (z : Sizes) (images : List (List ℕ)) (ws : List SlotWrite) → AreOver k given latched ws → AreUnlatched (known z images rows) ws
  over_unlatched z images ws h = each_unlatched z images ws (recursion_from_All (λ (w : SlotWrite). IsOver k latched w (given_at w.at given)) ws h)

module _ (z : Sizes) (images : List (List ℕ)) (rows : List Row) (n : ℕ) (k : LevelState) (given : List Given) (latched : List ℕ) (on : (p : ℕ) → has_page p latched ≡ latched_in rows p) (freely : AreFreelyGiven rows (meaning_of n) k given) (of : AreOf k.sizes given) where
  -- by a plan, and by one of what takes a deed back
  pub plan_unlatched : (job : Job) (answer : Result Plan Refusal) (after : LevelState) → (meaning_of n).plans k job given latched answer after → IfOk answer (λ p. AreUnlatched (known z images rows) p.writes.items)
  plan_unlatched job (Err r) after m = tt
  plan_unlatched job (Ok p) after m = over_unlatched rows k given latched on freely.unlatched z images p.writes.items ((all_lawful n).before k job given latched p after m of freely.noted)

  pub inverse_unlatched : (told : Record) (answer : Result Plan Refusal) (after : LevelState) → is_some (deed_back told) ≡ true → (meaning_of n).undoes k told given latched answer after → IfOk answer (λ p. AreUnlatched (known z images rows) p.writes.items)
  inverse_unlatched told (Err r) after some m = tt
  inverse_unlatched (OpEnd t j level deed) (Ok p) after some m =
      over_unlatched rows k given latched on freely.unlatched z images p.writes.items ((all_lawful n).before_undo k (OpEnd t j level deed) given latched p after m of freely.noted)
  inverse_unlatched _ (Ok p) after some m = absurd (false≢true some)

-- ---- a close and a mark

damage_unlatched : (r : Refusal) → TellsDamage r → IsForLatch false r
damage_unlatched (why.Damaged x) h = refl
damage_unlatched _ h = absurd h

close_refused : (g : ℕ) (Can : Type 0) (r : Refusal) → RefusesOther g Can r → IsForLatch false r
close_refused g Can why.NoMemory h = refl
close_refused g Can (why.Damaged x) h = refl
close_refused g Can _ h = absurd h

mark_refused : (z : Sizes) (c : ℕ) (Can : Type 0) (r : Refusal) → RefusesTag z c Can r → IsForLatch false r
mark_refused z c Can why.NoMemory h = refl
mark_refused z c Can (why.Damaged x) h = refl
mark_refused z c Can _ h = absurd h

-- the level refuses neither as latched
close_unlatched : (undo : Bool) (z : Option Sizes) (g : ℕ) (k : LevelState) (given : List Given) (latched : List ℕ) (answer : Result Plan Refusal) (after : LevelState) → PlansFor undo z (Some (Close g)) k given latched answer after → IsExactlyLatched false answer
close_unlatched undo z g k given latched (Ok p) after m = refl
close_unlatched true z g k given latched (Err r) after m = damage_unlatched r m.0
close_unlatched false (Some z) g k given latched (Err r) after m = close_refused g _ r m.0
close_unlatched false None g k given latched (Err r) after m = damage_unlatched r m.0

mark_unlatched : (undo : Bool) (z : Option Sizes) (t : Tagging) (k : LevelState) (given : List Given) (answer : Result Plan Refusal) (after : LevelState) → TagsFor undo z (Some t) k given answer after → IsExactlyLatched false answer
mark_unlatched undo z t k given (Ok p) after m = refl
mark_unlatched true z t k given (Err r) after m = damage_unlatched r m.0
mark_unlatched false (Some z) t k given (Err r) after m = mark_refused z t.client _ r m.0
mark_unlatched false None t k given (Err r) after m = damage_unlatched r m.0

some_number : {a b : ℕ} → Some a ≡ Some b → a ≡ b
some_number e = cc

module _ (rows : List Row) (want : List Given → Option ℕ) (a : ℕ) (own : (given : List Given) → want given ≡ unless_given a (given_at a given)) where
  -- where the one slot that is wanted was given, its page is nobody's
  own_unlatched : (given : List Given) → All (λ g. latched_in rows (g.at / 16) ≡ false) given → want given ≡ None → latched_in rows (a / 16) ≡ false
  own_unlatched given h none = by (given_at a given) refl (sym (own given) ∙ none) where
    by : (o : Option (List ℕ)) → given_at a given ≡ o → unless_given a o ≡ None → latched_in rows (a / 16) ≡ false
    by (Some bytes) e stops = given_unlatched rows a given bytes h e
    by None e stops = absurd (let no : Some a ≡ None = stops in cc)

  -- and where one is not given, it is that one
  own_held : (r : Refusal) → IsHeldBack rows want r → IsForLatch (latched_in rows (a / 16)) r
  own_held r h = subst (λ (n : ℕ). IsForLatch (latched_in rows (n / 16)) r) (by (given_at a h.given) (sym (own h.given) ∙ h.next)) h.latch where
    by : (o : Option (List ℕ)) → unless_given a o ≡ Some h.at → h.at ≡ a
    by None e = sym (some_number e)
    by (Some bytes) e = absurd (let no : None ≡ Some h.at = e in cc)

module _ (z : Sizes) (images : List (List ℕ)) (rows : List Row) (levels : List LevelState) (knows : KnowsCells z images levels) (job : Job) (forward : job.undo ≡ false) where
  abbrev Wants : ℕ → ℕ → Type 0
  Wants n a = (given : List Given) → wants_of levels n job given ≡ unless_given a (given_at a given)

  close_wants : (g : ℕ) → doing_by job.level job.bytes ≡ Some (Close g) → Wants 1 (directory_at g)
  unfolding meaning_of
  close_wants g told given = ap (λ (b : Bool). cond b (undo_wanted (deed_by job.level job.bytes) given) (wanted (doing_by job.level job.bytes) given)) forward ∙ ap (λ (o : Option Doing). wanted o given) told

  mark_wants : (t : Tagging) → tagging_by job.level job.bytes ≡ Some t → Wants 2 (client_slot_at z t.client)
  unfolding meaning_of
  mark_wants t told given =
      ap (λ (y : Option Sizes). client_wanted y (cond job.undo (client_marked (deed_by job.level job.bytes)) (client_to_mark (tagging_by job.level job.bytes))) given) (tags_know z images levels knows)
      ∙ ap (λ (b : Bool). client_wanted (Some z) (cond b (client_marked (deed_by job.level job.bytes)) (client_to_mark (tagging_by job.level job.bytes))) given) forward
      ∙ ap (λ (o : Option Tagging). client_wanted (Some z) (client_to_mark o) given) told

  -- a slot that is wanted was not given
  held_chain : (d : Doing) (r : Refusal) → doing_by job.level job.bytes ≡ Some d → IsHeldBack rows (wants_of levels 1 job) r → IsByOwnLatch z rows (Chain d) (Err r)
  held_chain (Send g tag body) r told h = tt
  held_chain (Receive g) r told h = tt
  held_chain (Close g) r told h = own_held rows (wants_of levels 1 job) (directory_at g) (close_wants g told) r h

  pub held_by_latch : (r : Refusal) → IsHeldBack rows (wants_of levels job.level job) r → (d : Task) → task_by job.level job.bytes ≡ Some d → IsByOwnLatch z rows d (Err r)
  held_by_latch r h d told = task_cases (λ (x : Task). IsByOwnLatch z rows x (Err r)) job.level job.bytes d told
      (λ d e one. held_chain d r e (subst (λ (n : ℕ). IsHeldBack rows (wants_of levels n job) r) one h))
      (λ t e two. own_held rows (wants_of levels 2 job) (client_slot_at z t.client) (mark_wants t e) r (subst (λ (n : ℕ). IsHeldBack rows (wants_of levels n job) r) two h))

  -- all that is wanted was given
  module _ (given : List Given) (latched : List ℕ) (answer : Result Plan Refusal) (after : LevelState) (unlatched : All (λ g. latched_in rows (g.at / 16) ≡ false) given) where
    -- it wants no other, and answers so
    abbrev Answers : ℕ → Type 0
    Answers n = (wants_of levels n job given ≡ None) × (meaning_of n).plans (kept_at levels n) job given latched answer after

    planned_chain : (d : Doing) → doing_by job.level job.bytes ≡ Some d → Answers 1 → IsByOwnLatch z rows (Chain d) answer
    unfolding meaning_of
    planned_chain (Send g tag body) told h = tt
    planned_chain (Receive g) told h = tt
    planned_chain (Close g) told h =
        subst (λ (b : Bool). IsExactlyLatched b answer) (sym (own_unlatched rows (wants_of levels 1 job) (directory_at g) (close_wants g told) given unlatched h.0))
        (close_unlatched job.undo (kept_at levels 1).sizes g (kept_at levels 1) given latched answer after (subst (λ (o : Option Doing). PlansFor job.undo (kept_at levels 1).sizes o (kept_at levels 1) given latched answer after) told h.1))

    planned_tag : (t : Tagging) → tagging_by job.level job.bytes ≡ Some t → Answers 2 → IsByOwnLatch z rows (Tag t) answer
    unfolding meaning_of
    planned_tag t told h =
        subst (λ (b : Bool). IsExactlyLatched b answer) (sym (own_unlatched rows (wants_of levels 2 job) (client_slot_at z t.client) (mark_wants t told) given unlatched h.0))
        (mark_unlatched job.undo (kept_at levels 2).sizes t (kept_at levels 2) given answer after (subst (λ (o : Option Tagging). TagsFor job.undo (kept_at levels 2).sizes o (kept_at levels 2) given answer after) told h.1))

    pub planned_by_latch : Answers job.level → (d : Task) → task_by job.level job.bytes ≡ Some d → IsByOwnLatch z rows d answer
    planned_by_latch h d told = task_cases (λ (x : Task). IsByOwnLatch z rows x answer) job.level job.bytes d told
        (λ d e one. planned_chain d e (subst Answers one h))
        (λ t e two. planned_tag t e (subst Answers two h))
