-- What a plan chose is given back.
use Rattle.std.proofs.Common.{set, ◌≡◌, ◌≢◌, ◌⊎◌, ℕ, zero, suc, ◌<◌, List, [], ◌∷◌, length, refl, sym, ◌∙◌, ap, subst, Bool, true, false, not, Option, None, Some, Result, Ok, Err, IfOk, IfErr, inl, inr, arith}
use Rattle.std.specs.List.{slice_get}
use Rattle.std.proofs.lemmas.Bool.{cases_eq}
use Rattle.std.proofs.lemmas.List.{get_or-set_other, length-set}
use Rattle.rq_model.specs.declared.record.Deed.{Deed}
use Rattle.rq_model.specs.declared.record.Deed.TheVariants.{Append, UnlinkHead, Close as Close_deed, Mark}
use Rattle.rq_model.specs.declared.record.Record.{Record}
use Rattle.rq_model.specs.declared.record.Record.TheVariants.{OpEnd}
use Rattle.rq_model.specs.declared.refusal.Refusal.{Refusal}
use Rattle.rq_model.specs.Deeds.{deed_by}
use Rattle.rq_page.specs.Sizes.{IsCellAddress, Sizes}
use Rattle.rq_views.specs.Stored.{IsStoreSlot, is_used, slot_at}
use Rattle.rq_level.specs.declared.slots.Given.{Given}
use Rattle.rq_level.specs.declared.writes.Plan.{Plan}
use Rattle.rq_level.specs.declared.writes.SlotWrite.{SlotWrite}
use Rattle.rq_level.specs.Asked.{MayChoose}
use Rattle.rq_level.specs.ChainPlans.{PlansFor, Undoes, chain_undoes}
use Rattle.rq_level.specs.LevelState.{IsLowest, LevelState, is_free_slot, noted}
use Rattle.rq_level.specs.Meaning.{AreTold, kept_at, meaning_of}
use Rattle.rq_level.specs.Ops.{Doing, Job, Tagging, doing_by, tagging_by}
use Rattle.rq_level.specs.Ops.Doing.{Send, Receive, Close}
use Rattle.rq_level.specs.TagPlans.{TagsFor, UndoesTag, tag_undoes}
use Rattle.rq_level.specs.Writes.{IsFirstAt}
use Rattle.rq_level.proofs.Based.{holds_free, known_free, lowest_cell}
use Rattle.rq_level.proofs.EachLevel.{all_lawful}
use Rattle.rq_level.proofs.PageLaws.{back_kept}
use Rattle.rq_sound.proofs.Gathering.{cell_of_store}
use Rattle.rq_planner.specs.Answered.{IsFreeCell, IsOverFree, KnowsCells, MayBeTold}
use Rattle.rq_planner.proofs.Knowing.{free_is_told, not_sizes, notes_alike, notes_one}
use Rattle.rq_planner.proofs.Replies.{first_new}
use Rattle.rq_planner.proofs.Told.{slot_is}

-- ---- what a plan takes

-- the first write is of the lowest cell that may be taken
abbrev pub TakesFirst : LevelState → List ℕ → List SlotWrite → Type 0
TakesFirst k latched [] = ⊥
TakesFirst k latched (w ∷ ws) = (z : Sizes) × (k.sizes ≡ Some z) × IsLowest z k latched w.at

first_taken : (z : Sizes) (k : LevelState) (latched : List ℕ) (a : ℕ) (ws : List SlotWrite) → k.sizes ≡ Some z → IsFirstAt a ws → IsLowest z k latched a → TakesFirst k latched ws
first_taken z k latched a [] told at low = absurd at
first_taken z k latched a (w ∷ ws) told at low = (z, told, subst (IsLowest z k latched) (sym at) low)

chain_takes : (undo : Bool) (z : Option Sizes) (d : Option Doing) (k : LevelState) (given : List Given) (latched : List ℕ) (p : Plan) (after : LevelState) → k.sizes ≡ z → PlansFor undo z d k given latched (Ok p) after → (after ≡ k) ⊎ TakesFirst k latched p.writes.items
chain_takes true z d k given latched p after told m = absurd m
chain_takes false (Some z) (Some (Send g tag body)) k given latched p after told m = inr (first_taken z k latched m.new p.writes.items told (first_new z p.writes.items m.can.directory.tail m.can.old _ _ _ m.writes) m.lowest)
chain_takes false (Some z) (Some (Receive g)) k given latched p after told m = inl m.kept
chain_takes false (Some z) (Some (Close g)) k given latched p after told m = inl m.kept
chain_takes false (Some z) None k given latched p after told m = absurd m
chain_takes false None d k given latched p after told m = absurd m

chain_takes_back : (z : Option Sizes) (d : Option Deed) (k : LevelState) (given : List Given) (latched : List ℕ) (p : Plan) (after : LevelState) → k.sizes ≡ z → Undoes z d k given latched (Ok p) after → (after ≡ k) ⊎ TakesFirst k latched p.writes.items
chain_takes_back (Some z) (Some (Append g n tag previous body)) k given latched p after told m = inl m.kept
chain_takes_back (Some z) (Some (UnlinkHead g n tag body)) k given latched p after told m = inr (first_taken z k latched m.new p.writes.items told (first_new z p.writes.items m.can.directory.head m.can.old _ _ _ m.writes) m.lowest)
chain_takes_back (Some z) (Some (Close_deed g)) k given latched p after told m = inl m.kept
chain_takes_back (Some z) (Some (Mark c tag previous)) k given latched p after told m = absurd m
chain_takes_back (Some z) None k given latched p after told m = absurd m
chain_takes_back None d k given latched p after told m = absurd m

tag_kept : (undo : Bool) (z : Option Sizes) (t : Option Tagging) (k : LevelState) (given : List Given) (p : Plan) (after : LevelState) → TagsFor undo z t k given (Ok p) after → after ≡ k
tag_kept true z t k given p after m = absurd m
tag_kept false (Some z) (Some t) k given p after m = m.kept
tag_kept false (Some z) None k given p after m = absurd m
tag_kept false None t k given p after m = absurd m

untag_kept : (z : Option Sizes) (d : Option Deed) (k : LevelState) (given : List Given) (p : Plan) (after : LevelState) → UndoesTag z d k given (Ok p) after → after ≡ k
untag_kept (Some z) (Some (Mark c tag previous)) k given p after m = m.kept
untag_kept (Some z) (Some (Append g n tag previous body)) k given p after m = absurd m
untag_kept (Some z) (Some (UnlinkHead g n tag body)) k given p after m = absurd m
untag_kept (Some z) (Some (Close_deed g)) k given p after m = absurd m
untag_kept (Some z) None k given p after m = absurd m
untag_kept None d k given p after m = absurd m

-- a level keeps what it kept, or it is that of chains, and takes a cell
abbrev pub MayTake : ℕ → LevelState → List ℕ → List SlotWrite → LevelState → Type 0
MayTake n k latched ws after = (after ≡ k) ⊎ ((n ≡ 1) × TakesFirst k latched ws)

by_chains : (k : LevelState) (latched : List ℕ) (ws : List SlotWrite) (after : LevelState) → (after ≡ k) ⊎ TakesFirst k latched ws → MayTake 1 k latched ws after
by_chains k latched ws after h = elim h [ inl same ↦ inl same | inr takes ↦ inr (refl, takes) ]

plan_takes : (n : ℕ) (k : LevelState) (job : Job) (given : List Given) (latched : List ℕ) (p : Plan) (after : LevelState) → (meaning_of n).plans k job given latched (Ok p) after → MayTake n k latched p.writes.items after
unfolding meaning_of
plan_takes zero k job given latched p after m = absurd m
plan_takes (suc zero) k job given latched p after m = by_chains k latched p.writes.items after (chain_takes job.undo k.sizes (doing_by job.level job.bytes) k given latched p after refl m)
plan_takes (suc (suc zero)) k job given latched p after m = inl (tag_kept job.undo k.sizes (tagging_by job.level job.bytes) k given p after m)
plan_takes (suc (suc (suc n))) k job given latched p after m = absurd m

chains_back : (k : LevelState) (told : Record) (given : List Given) (latched : List ℕ) (p : Plan) (after : LevelState) → chain_undoes k told given latched (Ok p) after → (after ≡ k) ⊎ TakesFirst k latched p.writes.items
chains_back k (OpEnd t j level deed) given latched p after m = chain_takes_back k.sizes (deed_by level deed) k given latched p after refl m
chains_back k _ given latched p after m = absurd m

tags_back : (k : LevelState) (told : Record) (given : List Given) (latched : List ℕ) (p : Plan) (after : LevelState) → tag_undoes k told given latched (Ok p) after → after ≡ k
tags_back k (OpEnd t j level deed) given latched p after m = untag_kept k.sizes (deed_by level deed) k given p after m
tags_back k _ given latched p after m = absurd m

back_takes : (n : ℕ) (k : LevelState) (told : Record) (given : List Given) (latched : List ℕ) (p : Plan) (after : LevelState) → (meaning_of n).undoes k told given latched (Ok p) after → MayTake n k latched p.writes.items after
unfolding meaning_of
back_takes zero k told given latched p after m = inl (back_kept k given latched p after told m)
back_takes (suc zero) k told given latched p after m = by_chains k latched p.writes.items after (chains_back k told given latched p after m)
back_takes (suc (suc zero)) k told given latched p after m = inl (tags_back k told given latched p after m)
back_takes (suc (suc (suc n))) k told given latched p after m = absurd m

-- ---- levels that keep what others keep

pub same_levels : (old now : List LevelState) → length now ≡ length old → ((i : ℕ) → i < length old → kept_at now i ≡ kept_at old i) → now ≡ old
same_levels [] [] n h = refl
same_levels [] (y ∷ now) n h = absurd (omega (arith, n))
same_levels (x ∷ old) [] n h = absurd (omega (arith, n))
same_levels (x ∷ old) (y ∷ now) n h =
    let rest : now ≡ old = same_levels old now (omega (arith, n)) (λ i lt. h (suc i) (omega (arith, lt))) in
    ap (λ z. z ∷ now) (h zero (omega arith)) ∙ ap (λ zs. x ∷ zs) rest

module _ (old mid : List LevelState) (n : ℕ) (changed : mid ≡ set old n (kept_at mid n)) where
  count_stays : length mid ≡ length old
  count_stays = ap length changed ∙ length-set old n (kept_at mid n)

  others_stay : (i : ℕ) → i ≢ n → kept_at mid i ≡ kept_at old i
  others_stay i ne = ap (λ ks. kept_at ks i) changed ∙ get_or-set_other old n i (kept_at mid n) _ ne

  -- one that keeps what it kept
  pub one_stays : kept_at mid n ≡ kept_at old n → mid ≡ old
  one_stays same = same_levels old mid count_stays (λ i lt. elim (cases_eq i n) [ inl e ↦ ap (kept_at mid) e ∙ same ∙ ap (kept_at old) (sym e) | inr ne ↦ others_stay i ne ])

  module _ (z : Sizes) (images : List (List ℕ)) (knows : KnowsCells z images old) (inside : n < length old) (now : List LevelState) where
    -- a free cell is told that is free
    told_free : (w : SlotWrite) → IsOverFree z images w → AreTold w.at w.before mid now → (meaning_of n).note (kept_at mid n) w.at w.before ≡ (meaning_of n).note (kept_at old n) w.at w.before → now ≡ old
    told_free w over told back = same_levels old now (told.count ∙ count_stays) (λ i lt.
        let store : IsStoreSlot z w.at = cell_of_store z w.at over.1.0 in
        told.each i (let c = count_stays in omega (arith, c, lt)) ∙ elim (cases_eq i n) [
          | inl e ↦ subst (λ m. (meaning_of m).note (kept_at mid m) w.at w.before ≡ (meaning_of m).note (kept_at old m) w.at w.before) (sym e) back
          | inr ne ↦ ap (λ k. (meaning_of i).note k w.at w.before) (others_stay i ne)
        ]
        ∙ notes_alike i (kept_at old i) z w.at w.before (slot_at images w.at) (knows.ready i lt) (not_sizes z w.at store) (λ cell.
        over.0 ∙ sym (free_is_told z images w.at store cell ∙ ap (λ x. not (is_used x)) over.1.1))
        ∙ knows.again i w.at lt store)

    -- the lowest cell that may be taken is free
    taken_free : (latched : List ℕ) (w : SlotWrite) (y : Sizes) → n ≡ 1 → (kept_at old n).sizes ≡ Some y → IsLowest y (kept_at old n) latched w.at → IsFreeCell z images w.at
    taken_free latched w y one told low =
        let same : y ≡ z = (all_lawful n).no_others (kept_at old n) z y (knows.ready n inside) told in
        let cell : IsCellAddress z w.at = subst (λ (x : Sizes). IsCellAddress x w.at) same (lowest_cell y (kept_at old n) latched w.at low) in
        let store : IsStoreSlot z w.at = cell_of_store z w.at cell in
        let byte : is_free_slot (slot_at images w.at) ≡ true = known_free y (kept_at old n) latched w.at (slot_at images w.at) told low
        (subst (λ (m : ℕ). noted (kept_at old m) w.at (slot_at images w.at) ≡ kept_at old m) (sym one) (notes_one z images old w.at knows store)) in
        (cell, slot_is z images w.at store ∙ holds_free z w.at (slot_at images w.at) cell byte)

    -- what it chose is given back
    given_back : (latched : List ℕ) (ws : List SlotWrite) → MayChoose (meaning_of n) (kept_at old n) ws (kept_at mid n) → MayTake n (kept_at old n) latched ws (kept_at mid n) → MayBeTold z images (slice_get ws 0) mid now → now ≡ old
    given_back latched [] same takes told = told ∙ one_stays same
    given_back latched (w ∷ ws) may takes told = elim told [
      | inl t ↦ told_free w t.0 t.1 (elim may [
        | inl same ↦ ap (λ k. (meaning_of n).note k w.at w.before) same
        | inr chosen ↦ chosen.back w.before
      ])
      | inr t ↦ t.1 ∙ one_stays (elim may [
        | inl same ↦ same
        | inr chosen ↦ elim takes [
          | inl same ↦ same
          | inr one ↦ absurd (t.0 (chosen.free, taken_free latched w one.1.0 one.0 one.1.1 one.1.2))
        ]
      ])
    ]

    -- after a plan, and after one of what takes something back
    pub plan_same : (job : Job) (given : List Given) (latched : List ℕ) (answer : Result Plan Refusal) → (meaning_of n).plans (kept_at old n) job given latched answer (kept_at mid n)
        → IfOk answer (λ p. MayBeTold z images (slice_get p.writes.items 0) mid now) → IfErr answer (λ _. now ≡ mid) → now ≡ old
    plan_same job given latched (Ok p) m told left =
        given_back latched p.writes.items ((all_lawful n).chooses (kept_at old n) job given latched p (kept_at mid n) m) (plan_takes n (kept_at old n) job given latched p (kept_at mid n) m) told
    plan_same job given latched (Err r) m told left = left ∙ one_stays (((all_lawful n).refuses (kept_at old n) job given latched r (kept_at mid n) m).1)

    pub undo_same : (r : Record) (given : List Given) (latched : List ℕ) (answer : Result Plan Refusal) → (meaning_of n).undoes (kept_at old n) r given latched answer (kept_at mid n)
        → IfOk answer (λ p. MayBeTold z images (slice_get p.writes.items 0) mid now) → IfErr answer (λ _. now ≡ mid) → now ≡ old
    undo_same r given latched (Ok p) m told left =
        given_back latched p.writes.items ((all_lawful n).chooses_undo (kept_at old n) r given latched p (kept_at mid n) m) (back_takes n (kept_at old n) r given latched p (kept_at mid n) m) told
    undo_same r given latched (Err e) m told left = left ∙ one_stays (((all_lawful n).refuses_undo (kept_at old n) r given latched e (kept_at mid n) m).1)
