-- The slots that a level wants are gathered, and come to an end.
use Rattle.std.proofs.Common.{◌≡◌, ℕ, ◌-◌, ◌/◌, ◌%◌, ◌<◌, ◌++◌, List, [], ◌∷◌, false, length, Option, Some, None, Result, Ok, Err, sym, ◌∙◌, ap, subst, arith}
use Rattle.std.proofs.lemmas.List.{append_assoc, append-nil, length-append}
use Rattle.std.proofs.lemmas.List.Elements.{All-append, All-cons}
use Rattle.rq_model.specs.declared.refusal.Refusal.{Refusal}
use Rattle.rq_page.specs.Sizes.{Sizes}
use Rattle.rq_page.specs.Slots.{IsSlotOf, held_in}
use Rattle.rq_views.specs.Stored.{IsStoreSlot, slot_at}
use Rattle.rq_level.specs.declared.level.Want.{Want}
use Rattle.rq_level.specs.declared.level.Want.TheVariants as wants
use Rattle.rq_level.specs.declared.slots.Given.{Given}
use Rattle.rq_level.specs.declared.writes.Plan.{Plan}
use Rattle.rq_level.specs.Asked.{AreWanted}
use Rattle.rq_level.specs.Given.{AreGiven, IsGiven}
use Rattle.rq_level.specs.LevelState.{LevelState}
use Rattle.rq_level.specs.Meaning.{kept_at, wish}
use Rattle.rq_level.specs.Ops.{Job}
use Rattle.rq_level.proofs.EachLevel.{all_lawful}
use Rattle.rq_store.specs.State.{State}
use Rattle.rq_txn.specs.Rows.{latched_in}
use Rattle.rq_sound.specs.Gathering.{with_slot}
use Rattle.rq_sound.specs.Groups.{slots_now}
use Rattle.rq_sound.proofs.Gathering.{slots_gathered}
use Rattle.rq_planner.specs.Answered.{ComesFrom, HasGathered, IsAnswered, IsGivenMore, IsWithheld, Wants, wants_of}
use Rattle.rq_planner.proofs.Told.{slot_is}

-- ---- what is wanted

pub wish_slot : (o : Option ℕ) (answer : Want) (a : ℕ) → answer ≡ wish o → answer ≡ wants.Slot a → o ≡ Some a
wish_slot None answer a e slot = absurd (let no : wants.Ready ≡ wants.Slot a = sym e ∙ slot in cc)
wish_slot (Some b) answer a e slot = let is : wants.Slot b ≡ wants.Slot a = sym e ∙ slot in cc

-- ---- gathering

more_wanted : (want : List Given → Option ℕ) (front given : List Given) (g : Given) → AreWanted want front given → want (front ++ given) ≡ Some g.at → AreWanted want front (given ++ g ∷ [])
more_wanted want front [] g w e = (ap want (sym (append-nil front)) ∙ e, tt)
more_wanted want front (f ∷ given) g w e = (w.0, more_wanted want (front ++ f ∷ []) given g w.1 (ap want (append_assoc front (f ∷ []) given) ∙ e))

one_more : (s : State) (want : Wants) (job : Job) (given now : List Given) (a : ℕ) (bytes : List ℕ) → now ≡ with_slot given a bytes → want job given ≡ Some a → HasGathered s want job given → IsStoreSlot s.sizes a → IsSlotOf s.sizes (a / 16) (a % 16) bytes
    → slots_now s a ≡ held_in s.sizes (a / 16) bytes → latched_in s.rows (a / 16) ≡ false → HasGathered s want job now
one_more s want job given now a bytes e next h stands slot is off = subst (HasGathered s want job) (sym e) (record {
  wanted = more_wanted (want job) [] given (record { at = a; bytes = bytes }) h.wanted next;
  from = slots_gathered.one_given s given a bytes h.from stands slot is;
  gathered = slots_gathered.one_gathered s given a bytes h.gathered is off;
})

-- one more slot of the store was given
pub given_more : (z : Sizes) (images : List (List ℕ)) (a : ℕ) (given now : List Given) → AreGiven z given → IsGivenMore z images a given now → AreGiven z now
given_more z images a given now h m =
    let one : Given = record { at = a; bytes = slot_at images a } in
    subst (AreGiven z) (sym m.more) (All-append (IsGiven z) given (one ∷ []) h (All-cons (IsGiven z) one [] (record { place = m.place; bytes = m.slot }) (λ k d lt. absurd (omega (arith, lt)))))

-- it was wanted
pub wanted_more : (want : List Given → Option ℕ) (z : Sizes) (images : List (List ℕ)) (a : ℕ) (given now : List Given) → AreWanted want [] given → want given ≡ Some a → IsGivenMore z images a given now → AreWanted want [] now
wanted_more want z images a given now h next m = subst (AreWanted want []) (sym m.more) (more_wanted want [] given (record { at = a; bytes = slot_at images a }) h next)

-- and is as it is, of a page that nobody has latched
pub gathered_more : (s : State) (want : Wants) (job : Job) (a : ℕ) (given now : List Given) → want job given ≡ Some a → HasGathered s want job given → IsGivenMore s.sizes s.images a given now → latched_in s.rows (a / 16) ≡ false → HasGathered s want job now
gathered_more s want job a given now next h m off =
    one_more s want job given now a (slot_at s.images a) m.more next h m.place m.slot (slot_is s.sizes s.images a m.place) off

-- no level asks for more than three
pub fewer_left : (levels : List LevelState) (n : ℕ) (job : Job) (z : Sizes) (images : List (List ℕ)) (a : ℕ) (given now : List Given) → IsGivenMore z images a given now → AreWanted (wants_of levels n job) [] now → 4 - length now < 4 - length given
fewer_left levels n job z images a given now m wanted =
    let few = (all_lawful n).few (kept_at levels n).sizes job now wanted in
    let more = ap length m.more ∙ length-append given (record { at = a; bytes = slot_at images a } ∷ []) in
    omega (arith, few, more)

-- ---- answers

module _ (s : State) (want : Wants) (job : Job) (May : List Given → Result Plan Refusal → Type 0) where
  -- it wants a slot that is not given to it
  pub withheld : (given : List Given) (a : ℕ) (r : Refusal) → HasGathered s want job given → want job given ≡ Some a → IsWithheld s a r → IsAnswered s want job May (Err r)
  withheld given a r h next kept = record { given = given; has = h; comes = subst (λ o. ComesFrom s o (May given) (Err r)) (sym next) kept }

  -- all that it wants is given to it
  pub answered : (given : List Given) (answer : Result Plan Refusal) → HasGathered s want job given → want job given ≡ None → May given answer → IsAnswered s want job May answer
  answered given answer h next may = record { given = given; has = h; comes = subst (λ o. ComesFrom s o (May given) answer) (sym next) may }

  -- a plan is the level's, from slots that it was given
  pub given_to : (p : Plan) → IsAnswered s want job May (Ok p) → (given : List Given) × May given (Ok p)
  given_to p h = (h.given, by (want job h.given) h.comes) where
    by : (o : Option ℕ) → ComesFrom s o (May h.given) (Ok p) → May h.given (Ok p)
    by None c = c
    by (Some a) c = absurd c

-- what was not answered from any slots
pub not_from : (s : State) (want : Wants) (job : Job) (May : List Given → Result Plan Refusal → Type 0) (r : Refusal) → IsAnswered s want job (λ given answer. ⊥) (Err r) → IsAnswered s want job May (Err r)
not_from s want job May r h = record { given = h.given; has = h.has; comes = weaker (want job h.given) h.comes } where
  weaker : (o : Option ℕ) → ComesFrom s o (λ answer. ⊥) (Err r) → ComesFrom s o (May h.given) (Err r)
  weaker None c = absurd c
  weaker (Some a) c = c
