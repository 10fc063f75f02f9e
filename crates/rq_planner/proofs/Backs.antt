-- The level plans what takes back a deed exactly where the slots hold what that needs.
use Rattle.std.proofs.Common.{◌≡◌, ℕ, ◌<◌, not, List, [], ◌∷◌, true, false, Option, Some, None, Result, Ok, Err, refl, sym, ◌∙◌, ap, subst, inl, inr, arith, ◌⊎◌}
use Rattle.std.proofs.lemmas.Bool.{cases_eq, cases_lt, false≢true, true≢false}
use Rattle.rq_model.specs.declared.record.Deed.{Deed}
use Rattle.rq_model.specs.declared.record.Deed.TheVariants.{Append, UnlinkHead, Close, Mark}
use Rattle.rq_model.specs.declared.refusal.Refusal.{Refusal}
use Rattle.rq_model.specs.declared.refusal.Refusal.TheVariants as why
use Rattle.rq_model.specs.Deeds.{deed_by, deed_level}
use Rattle.rq_model.proofs.Deeds.{told_by_its_level}
use Rattle.rq_model.specs.declared.record.Record.{Record}
use Rattle.rq_model.specs.declared.record.Record.TheVariants.{OpEnd}
use Rattle.rq_model.specs.declared.txn.Txn.{Txn}
use Rattle.rq_model.specs.Vocabulary.{is_some}
use Rattle.rq_page.specs.declared.cell.Cell.{Cell}
use Rattle.rq_page.specs.Sizes.{Sizes, IsCellAddress, client_count, client_slot_at, directory_at, place_of, sender_count}
use Rattle.rq_page.specs.Slots.Slot.{Free, Used, Sender}
use Rattle.rq_page.proofs.Addresses.{places_are_cells}
use Rattle.rq_views.specs.Log.{Slots}
use Rattle.rq_views.specs.InStore.{IsDeedOf}
use Rattle.rq_views.specs.Plans.Turn.{Undid}
use Rattle.rq_views.specs.Stored.{is_used, slots_in}
use Rattle.rq_level.specs.Asked.{deed_back, job_back}
use Rattle.rq_level.specs.ChainPlans.{Beside, CanMark, CanPutBack, CanUnlinkTail, TellsDamage, Undoes, job_wanted}
use Rattle.rq_level.specs.declared.slots.Given.{Given}
use Rattle.rq_level.specs.declared.writes.Plan.{Plan}
use Rattle.rq_level.specs.Given.{GivenHolds}
use Rattle.rq_level.specs.LevelState.{LevelState, NoneFree, flag_at}
use Rattle.rq_level.specs.Writes.{AreSlotWrites}
use Rattle.rq_level.specs.Meaning.{chain_meaning, kept_at, meaning_of, tag_meaning}
use Rattle.rq_level.specs.TagPlans.{tag_wants}
use Rattle.rq_txn.specs.Rows.{Row}
use Rattle.rq_store.specs.Plans.{Stands_at}
use Rattle.rq_store.specs.State.{State}
use Rattle.rq_sound.specs.Groups.{slots_now}
use Rattle.rq_sound.specs.Latching.{any_latched, at_head, at_tail, before_tail, head_in, named, needed, prev_in, tail_in}
use Rattle.rq_sound.specs.Levels.{AreLatched, IsGathered, KeepsCells}
use Rattle.rq_sound.specs.Wants.{AreGivenOf}
use Rattle.rq_sound.proofs.Levels.{levels_plan}
use Rattle.rq_sound.specs.Inverses.{InverseIsLatched, InverseTakesLowest}
use Rattle.rq_sound.proofs.Wants.{given_parts, given_named}
use Rattle.rq_planner.specs.Asked.{HasPlace, known}
use Rattle.rq_planner.specs.Asked.Asked.{Undo}
use Rattle.rq_planner.specs.Answered.{IsAnswered, IsAnsweredBack, IsHeldUp, IsPlanBack, KnowsCells, MayUndo, wants_of}
use Rattle.rq_planner.proofs.Gathered.{given_to}
use Rattle.rq_planner.proofs.Knowing.{cells_known}
use Rattle.rq_planner.proofs.Replies.{HasGatheredFor, from_wanted, of_undo, wants_undo}
use Rattle.rq_planner.proofs.Tags.{planned_below, tags_know, unmark_judged}
use Rattle.rq_planner.specs.Backs.{CanBeTakenBack, IsJudgedBack, IsRefusedBack, IsShut, IsTakingBack, MayRefuseBack, SentLast, TakenLast}
use Rattle.rq_planner.specs.Lawful.{MayRefuse, unlatched_refusal}

-- ---- what was given of slots that hold it

module _ (s : State) (given : List Given) where
  -- no cell stands at 0
  above : (a : ℕ) (c : Cell) → slots_now s a ≡ Used c → 0 < a
  above a c e = elim (cases_eq a 0) [
    | inl z ↦ absurd (let bad : Free ≡ Used c = sym (ap (slots_now s) z) ∙ e in cc bad)
    | inr ne ↦ omega (arith, ne)
  ]

  beside_given : (a : ℕ) (o : Option Cell) → Stands_at (slots_now s) a o → AreGivenOf s given (named a) → Beside s.sizes given a o
  beside_given a None e h = e
  beside_given a (Some c) e h = subst (GivenHolds s.sizes given a) e (given_named s given a (above a c e) h)

  can_unlink : (g n : ℕ) → SentLast s.sizes (slots_now s) g n → AreGivenOf s given (before_tail (slots_now s) g) → CanUnlinkTail s.sizes given g n
  can_unlink g n x h =
      let p = given_parts s given (at_tail (slots_now s) g) (named (prev_in (slots_now s (tail_in (slots_now s (directory_at g)))))) h in
      let pos : 0 < x.directory.tail = above x.directory.tail x.cell x.tail_is in
      let tail : AreGivenOf s given (named x.directory.tail) = subst (λ y. AreGivenOf s given (named (tail_in y))) x.directory_is p.0.1 in
      let front : AreGivenOf s given (named x.cell.prev) = subst (λ y. AreGivenOf s given (named (prev_in y))) x.tail_is (subst (λ y. AreGivenOf s given (named (prev_in (slots_now s (tail_in y))))) x.directory_is p.1) in
      record {
        below = x.below;
        directory = x.directory;
        directory_is = subst (GivenHolds s.sizes given (directory_at g)) x.directory_is p.0.0;
        some = x.some;
        sequence = x.sequence;
        used = pos;
        cell = x.cell;
        tail_is = subst (GivenHolds s.sizes given x.directory.tail) x.tail_is (given_named s given x.directory.tail pos tail);
        last = x.last;
        front = x.front;
        beside = beside_given x.cell.prev x.front x.beside front;
      }

  can_return : (g n : ℕ) → TakenLast s.sizes (slots_now s) g n → AreGivenOf s given (at_head (slots_now s) g) → CanPutBack s.sizes given g n
  can_return g n x h = record {
    below = x.below;
    directory = x.directory;
    directory_is = subst (GivenHolds s.sizes given (directory_at g)) x.directory_is h.0;
    some = x.some;
    sequence = x.sequence;
    old = x.old;
    beside = beside_given x.directory.head x.old x.beside (subst (λ y. AreGivenOf s given (named (head_in y))) x.directory_is h.1);
  }

  can_open : (g : ℕ) → IsShut s.sizes (slots_now s) g → AreGivenOf s given (directory_at g ∷ []) → CanMark s.sizes given g false
  can_open g x h = record {
    below = x.below;
    directory = x.directory;
    directory_is = subst (GivenHolds s.sizes given (directory_at g)) x.directory_is h.0;
    other = x.closed;
  }

-- what is taken back is of a group or a client of the store
pub can_below : (z : Sizes) (q : Slots) (d : Deed) → CanBeTakenBack z q d → HasPlace z d
can_below z q (Append g n tag previous body) c = c.below
can_below z q (UnlinkHead g n tag body) c = c.below
can_below z q (Close g) c = c.below
can_below z q (Mark e tag previous) c = c.below

plan_below : (s : State) (k : LevelState) (given : List Given) (latched : List ℕ) (after : LevelState) (d : Deed) (p : Plan) → Undoes (Some s.sizes) (Some d) k given latched (Ok p) after → HasPlace s.sizes d
plan_below s k given latched after (Append g n tag previous body) p m = m.can.below
plan_below s k given latched after (UnlinkHead g n tag body) p m = m.can.below
plan_below s k given latched after (Close g) p m = m.marked.can.below
plan_below s k given latched after (Mark c tag previous) p m = absurd m

-- the level knows a cell that is free
not_full : (s : State) (k : LevelState) (a : ℕ) → KeepsCells s k → IsCellAddress s.sizes a → slots_now s a ≡ Free → NoneFree s.sizes k → ⊥
not_full s k a keeps cell free none =
    let i = places_are_cells s.sizes a cell in
    let known : flag_at k.free (place_of s.sizes a) ≡ true = keeps.free (place_of s.sizes a) i.0 ∙ ap (λ n. not (is_used (slots_now s n))) i.1 ∙ ap (λ x. not (is_used x)) free in
    false≢true (sym (none (place_of s.sizes a) i.0) ∙ known)

-- ---- what the level of chains answers

module _ (s : State) (k : LevelState) (given : List Given) (latched : List ℕ) (keeps : KeepsCells s k) (on : AreLatched s latched) (after : LevelState) where
  beside_is : (h : IsGathered s given) (a : ℕ) (o : Option Cell) → Beside s.sizes given a o → Stands_at (slots_now s) a o
  beside_is h a None e = e
  beside_is h a (Some c) e = h.as_is a (Used c) e

  -- a plan is of what can be taken back
  can_be : (d : Deed) (p : Plan) → IsGathered s given → Undoes (Some s.sizes) (Some d) k given latched (Ok p) after → CanBeTakenBack s.sizes (slots_now s) d
  can_be (Append g n tag previous body) p h m = record {
    below = m.can.below;
    directory = m.can.directory;
    directory_is = h.as_is (directory_at g) (Sender g m.can.directory) m.can.directory_is;
    some = m.can.some;
    sequence = m.can.sequence;
    cell = m.can.cell;
    tail_is = h.as_is m.can.directory.tail (Used m.can.cell) m.can.tail_is;
    last = m.can.last;
    front = m.can.front;
    beside = beside_is h m.can.cell.prev m.can.front m.can.beside;
  }
  can_be (UnlinkHead g n tag body) p h m =
      let x = levels_plan.lowest s k latched m.new keeps on m.lowest in
      record {
        below = m.can.below;
        directory = m.can.directory;
        directory_is = h.as_is (directory_at g) (Sender g m.can.directory) m.can.directory_is;
        some = m.can.some;
        sequence = m.can.sequence;
        old = m.can.old;
        beside = beside_is h m.can.directory.head m.can.old m.can.beside;
        cell = m.new;
        is_cell = x.0;
        free = x.1;
      }
  can_be (Close g) p h m = record {
    below = m.marked.can.below;
    directory = m.marked.can.directory;
    directory_is = h.as_is (directory_at g) (Sender g m.marked.can.directory) m.marked.can.directory_is;
    closed = m.marked.can.other;
  }
  can_be (Mark c tag previous) p h m = absurd m

  -- and what can be is not refused as damage
  judged : (d : Deed) (r : Refusal) → deed_level d ≡ 1 → AreGivenOf s given (needed s.sizes (slots_now s) (Undid d)) → Undoes (Some s.sizes) (Some d) k given latched (Err r) after → TellsDamage r → CanBeTakenBack s.sizes (slots_now s) d → ⊥
  judged (Append g n tag previous body) (why.Damaged x) one h m damage can = m.0.1 (can_unlink s given g n can h)
  judged (UnlinkHead g n tag body) (why.Damaged x) one h m damage can = not_full s k can.cell keeps can.is_cell can.free (m.0.1 (can_return s given g n can h))
  judged (Close g) (why.Damaged x) one h m damage can = m.0.1 (can_open s given g can h)
  judged (Mark c tag previous) (why.Damaged x) one h m damage can = omega (arith, one)
  judged d r one h m damage can = absurd damage

  pub judged_back : (d : Deed) (answer : Result Plan Refusal) → deed_level d ≡ 1 → HasGatheredFor s given (Undo d) → Undoes (Some s.sizes) (Some d) k given latched answer after → IsJudgedBack s.sizes (slots_now s) d answer
  judged_back d (Ok p) one h m = record { can = can_be d p h.gathered m; damaged = tt }
  judged_back d (Err r) one h m = record { can = tt; damaged = λ damage can. judged d r one h.all m damage can }

below_or_not : (n m : ℕ) → (n < m) ⊎ (n < m → ⊥)
below_or_not n m = elim (cases_lt n m) [ inl below ↦ inl below | inr above ↦ inr (λ below. omega (arith, above, below)) ]

module _ (z : Sizes) (images : List (List ℕ)) (rows : List Row) (levels : List LevelState) (knows : KnowsCells z images levels) (answer : Result Plan Refusal) where
  abbrev s : State
  s = known z images rows

  abbrev keeps : KeepsCells s (kept_at levels 1)
  keeps = cells_known z images levels rows knows

  -- without a plan there is none of what is not the store's
  unplanned : (d : Deed) → ((p : Plan) → answer ≡ Ok p → ⊥) → (HasPlace z d → ⊥) → IsJudgedBack z (slots_now s) d answer
  unplanned d none out = by answer none where
    by : (a : Result Plan Refusal) → ((p : Plan) → a ≡ Ok p → ⊥) → IsJudgedBack z (slots_now s) d a
    by (Ok p) n = absurd (n p refl)
    by (Err r) n = record { can = tt; damaged = λ damage can. out (can_below z (slots_now s) d can) }

  module _ (t : Txn) (j : ℕ) where
    abbrev MayBack : (asked level : ℕ) → List ℕ → Type 0
    MayBack n level deed = IsAnswered s (wants_of levels n) (job_back (OpEnd t j level deed)) (MayUndo s (meaning_of n) (kept_at levels n) (OpEnd t j level deed)) answer

    of_one : (level : ℕ) (deed : List ℕ) → MayBack 1 level deed → (d : Deed) → deed_by level deed ≡ Some d → deed_level d ≡ 1 → IsDeedOf z d → IsJudgedBack z (slots_now s) d answer
    unfolding meaning_of
    of_one level deed h d told one inside =
        from_wanted s job_wanted (job_back (OpEnd t j level deed)) (Undo d) (wants_undo s (kept_at levels 1) keeps t j level d deed told one inside) (MayUndo s chain_meaning (kept_at levels 1) (OpEnd t j level deed)) (IsJudgedBack z (slots_now s) d)
        (record { can = tt; damaged = λ x. absurd x }) (λ held. record { can = tt; damaged = λ x. absurd x })
        (λ given a has m. judged_back s (kept_at levels 1) given m.latched keeps m.on m.after d a one has (of_undo s (kept_at levels 1) keeps t j d deed level given a told m)) answer h

    -- a deed of another store's group has no plan
    outside : (level : ℕ) (deed : List ℕ) → MayBack 1 level deed → (d : Deed) → deed_by level deed ≡ Some d → (HasPlace z d → ⊥) → IsJudgedBack z (slots_now s) d answer
    unfolding meaning_of
    outside level deed h d told out = unplanned d (λ p is.
        let m = given_to s job_wanted (job_back (OpEnd t j level deed)) (MayUndo s chain_meaning (kept_at levels 1) (OpEnd t j level deed)) p (subst (IsAnswered s job_wanted (job_back (OpEnd t j level deed)) (MayUndo s chain_meaning (kept_at levels 1) (OpEnd t j level deed))) is h) in
        out (plan_below s (kept_at levels 1) m.0 m.1.latched m.1.after d p (of_undo s (kept_at levels 1) keeps t j d deed level m.0 (Ok p) told m.1))) out

    of_chain : (level : ℕ) (deed : List ℕ) (d : Deed) → deed_level d ≡ 1 → deed_by level deed ≡ Some d → (HasPlace z d → IsDeedOf z d) → (HasPlace z d ⊎ (HasPlace z d → ⊥)) → MayBack level level deed → IsJudgedBack z (slots_now s) d answer
    of_chain level deed d one told low where_is h =
        let by_chains : MayBack 1 level deed = subst (λ n. MayBack n level deed) (sym (told_by_its_level level deed d told) ∙ one) h in
        elim where_is [ inl inside ↦ of_one level deed by_chains d told one (low inside) | inr out ↦ outside level deed by_chains d told out ]

    -- a mark of one of the store's clients, or of another's
    of_tags : (level : ℕ) (deed : List ℕ) → MayBack 2 level deed → (c tag previous : ℕ) → deed_by level deed ≡ Some (Mark c tag previous) → ((c < client_count z) ⊎ (c < client_count z → ⊥)) → IsJudgedBack z (slots_now s) (Mark c tag previous) answer
    unfolding meaning_of
    of_tags level deed h c tag previous told where_is = elim where_is [
      | inl inside ↦ unmark_judged s (kept_at levels 2) (tags_know z images levels knows) t j level deed c tag previous told answer inside h
      | inr out ↦ unplanned (Mark c tag previous) (λ p is.
          let k = kept_at levels 2 in
          let m = given_to s (tag_wants k.sizes) (job_back (OpEnd t j level deed)) (MayUndo s tag_meaning k (OpEnd t j level deed)) p (subst (IsAnswered s (tag_wants k.sizes) (job_back (OpEnd t j level deed)) (MayUndo s tag_meaning k (OpEnd t j level deed))) is h) in
          out (planned_below s k (tags_know z images levels knows) t j level deed c tag previous told m.0 p m.1)) out
    ]

    back_told : (level : ℕ) (deed : List ℕ) (d : Deed) → deed_by level deed ≡ Some d → MayBack level level deed → IsJudgedBack z (slots_now s) d answer
    back_told level deed (Append g n tag previous body) told h = of_chain level deed (Append g n tag previous body) refl told (λ low. low) (below_or_not g (sender_count z)) h
    back_told level deed (UnlinkHead g n tag body) told h = of_chain level deed (UnlinkHead g n tag body) refl told (λ low. low) (below_or_not g (sender_count z)) h
    back_told level deed (Close g) told h = of_chain level deed (Close g) refl told (λ low. low) (below_or_not g (sender_count z)) h
    back_told level deed (Mark c tag previous) told h = of_tags level deed (subst (λ n. MayBack n level deed) (sym (told_by_its_level level deed _ told)) h) c tag previous told (below_or_not c (client_count z))

  pub back_judged : (told : Record) (d : Deed) → deed_back told ≡ Some d → IsAnsweredBack s levels told answer → IsJudgedBack z (slots_now s) d answer
  back_judged (OpEnd t j level deed) d told h = back_told t j level deed d told h
  back_judged _ d told h = absurd (let no : None ≡ Some d = told in cc)

-- ---- where nothing is under way

nobody : (xs : List ℕ) → any_latched [] xs ≡ false
nobody [] = refl
nobody (a ∷ xs) = nobody xs

never_latched : (z : Sizes) (q : Slots) (d : Deed) → CanBeTakenBack z q d → InverseIsLatched z q [] d → ⊥
never_latched z q (Append g n tag previous body) c h = true≢false (sym h ∙ nobody (before_tail q g))
never_latched z q (UnlinkHead g n tag body) c h = elim h [
  | inl y ↦ true≢false (sym y ∙ nobody (at_head q g))
  | inr all ↦ false≢true (all c.cell c.is_cell c.free)
]
never_latched z q (Close g) c h = false≢true h
never_latched z q (Mark e tag previous) c h = true≢false (sym h ∙ nobody (client_slot_at z e ∷ []))

module _ (z : Sizes) (images : List (List ℕ)) (rows : List Row) (none : rows ≡ []) where
  pub taken_back : (told : Option Deed) (d : Deed) (p : Plan) → told ≡ Some d → IsPlanBack (known z images rows) d p → AreSlotWrites z p.writes.items → CanBeTakenBack z (slots_in z images) d → IsTakingBack z (slots_in z images) told p.writes.items
  taken_back told d p reads back slots can = record {
    deed = d;
    reads = reads;
    can = can;
    planned = back.follows.0;
    slots = slots;
    lowest = subst (λ (rs : List Row). InverseTakesLowest z (slots_in z images) rs d p.writes.items) none back.lowest;
  }

  pub not_held_up : (d : Deed) → IsHeldUp (known z images rows) (Undo d) → CanBeTakenBack z (slots_in z images) d → ⊥
  not_held_up d held can = never_latched z (slots_in z images) d can (subst (λ (rs : List Row). InverseIsLatched z (slots_in z images) rs d) none held)

-- why there is no plan
pub refused_back : (z : Sizes) (q : Slots) (told : Option Deed) (e : Refusal) → is_some told ≡ true → MayRefuse e → (e ≡ why.DiskRead → ⊥) → ((d : Deed) → told ≡ Some d → TellsDamage e → CanBeTakenBack z q d → ⊥)
    → ((d : Deed) → told ≡ Some d → e ≡ why.Latched → CanBeTakenBack z q d → ⊥) → IsRefusedBack z q told (unlatched_refusal e)
refused_back z q told why.NoMemory some may read damaged latched = some
refused_back z q told why.Latched some may read damaged latched = λ d is can. latched d is refl can
refused_back z q told (why.Damaged x) some may read damaged latched = λ d is can. damaged d is tt can
refused_back z q told why.DiskRead some may read damaged latched = absurd (read refl)
refused_back z q told _ some may read damaged latched = absurd may

pub may_refuse_back : (told : Option Deed) (e : Refusal) → is_some told ≡ true → MayRefuse e → MayRefuseBack told (unlatched_refusal e)
may_refuse_back told why.NoMemory some may = some
may_refuse_back told why.Latched some may = tt
may_refuse_back told (why.Damaged x) some may = tt
may_refuse_back told why.DiskRead some may = some
may_refuse_back told _ some may = absurd may
