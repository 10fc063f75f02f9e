-- Each level keeps its laws.
use Rattle.std.proofs.Common.{◌≡◌, ◌≢◌, ℕ, zero, suc, ◌+◌, ◌*◌, nat_lt, Err, arith, List, [], ◌∷◌, Bool, true, false, cond, nat_eq, Option, None, Some, length, set, refl, sym, ap, ◌∙◌, inl, inr}
use Rattle.std.proofs.lemmas.Bool.{cases_Bool, le-ltb}
use Rattle.rq_page.specs.Pages.{lsn_of}
use Rattle.std.proofs.lemmas.List.{length-set, set-set}
use Rattle.rq_page.specs.Sizes.{Sizes, directory_at, place_of}
use Rattle.rq_level.specs.LevelState.{LevelState, KnowsStore, noted, noted_in, noted_cell, is_cell_address, is_free_slot}
use Rattle.rq_level.specs.Ops.{Doing, doing_by}
use Rattle.rq_level.specs.PagePlans.{TakesBack, is_slot_number, page_undoes}
use Rattle.rq_model.specs.declared.record.Record.{Record}
use Rattle.rq_model.specs.declared.record.Record.TheVariants as records
use Rattle.rq_model.specs.declared.refusal.Refusal.{Refusal}
use Rattle.rq_model.specs.declared.refusal.Refusal.TheVariants as why
use Rattle.rq_level.specs.Ops.Doing.{Send, Receive, Close}
use Rattle.rq_level.specs.ChainPlans.{to_head, to_next, to_prev, to_tail, wanted, undo_wanted, Plans, PlansFor, Undoes, RefusesTaking, RefusesOther, CanSend, CanReceive, CanMark, CanUnlinkTail, CanPutBack, chain_undoes}
use Rattle.rq_model.specs.Deeds.{deed_by}
use Rattle.rq_model.specs.declared.record.Deed.{Deed}
use Rattle.rq_model.specs.declared.record.Deed.TheVariants.{Append, UnlinkHead, Close as Close_deed, Mark}
use Rattle.rq_level.specs.Meaning.{Redo, IsAppliedOnce, meaning_of, page_meaning, chain_meaning, no_meaning}
use Rattle.rq_level.specs.Lawful.{IsNotGiven, IsLawful, AllLawful, AppliedTwiceIsOnce, MayHaveNoPlan}
use Rattle.rq_level.specs.declared.slots.Given.{Given}
use Rattle.rq_level.proofs.Counted.{few_planned, few_undone, few_taken_back, silent_undone, silent_taken_back}
use Rattle.rq_level.proofs.Noting.{alone, any_order}
use Rattle.rq_level.proofs.ChainLaws as chains
use Rattle.rq_level.proofs.Gathered.{asks_along}
use Rattle.rq_level.proofs.Gathered as gathered
use Rattle.rq_level.proofs.PageLaws as pages
use Rattle.rq_level.proofs.TagLaws.{tags_lawful}
use Rattle.rq_level.proofs.TakenBack as back
use Rattle.rq_level.proofs.Unread.{may_damage, there_is}

asks_chain : (given : List Given) (d : Option Doing) → IsNotGiven given (wanted d given)
asks_chain given None = tt
asks_chain given (Some (Send s tag body)) = asks_along given (to_tail ∷ []) (directory_at s)
asks_chain given (Some (Receive s)) = asks_along given (to_head ∷ to_next ∷ []) (directory_at s)
asks_chain given (Some (Close s)) = asks_along given [] (directory_at s)

asks_undo : (given : List Given) (d : Option Deed) → IsNotGiven given (undo_wanted d given)
asks_undo given None = tt
asks_undo given (Some (Append s n tag previous body)) = asks_along given (to_tail ∷ to_prev ∷ []) (directory_at s)
asks_undo given (Some (UnlinkHead s n tag body)) = asks_along given (to_head ∷ []) (directory_at s)
asks_undo given (Some (Close_deed s)) = asks_along given [] (directory_at s)
asks_undo given (Some (Mark c tag previous)) = tt

asks_job : (given : List Given) (undo : Bool) (e : Option Deed) (d : Option Doing) → IsNotGiven given (cond undo (undo_wanted e given) (wanted d given))
asks_job given true e d = asks_undo given e
asks_job given false e d = asks_chain given d

cell_twice : (z : Sizes) (k : LevelState) (place : ℕ) (x y : Bool) → noted_cell z (noted_cell z k place x) place y ≡ noted_cell z k place y
cell_twice z k place x y = ap (λ (f : List Bool). record k { free = f; reserved = set (set k.reserved place false) place false }) (set-set k.free place x y) ∙ ap (λ (r : List Bool). record k { free = set k.free place y; reserved = r }) (set-set k.reserved place false false)

in_twice : (z : Option Sizes) (k : LevelState) (a : ℕ) (x y : List ℕ) → k.sizes ≡ z → noted_in (noted_in z k a x).sizes (noted_in z k a x) a y ≡ noted_in z k a y
in_twice None k a x y e = ap (λ (o : Option Sizes). noted_in o k a y) e
in_twice (Some z) k a x y e = elim (cases_Bool (is_cell_address z a)) [
  | inl b ↦ rw b (ap (λ (o : Option Sizes). noted_in o (noted_cell z k (place_of z a) (is_free_slot x)) a y) e ∙ rw b (cell_twice z k (place_of z a) (is_free_slot x) (is_free_slot y)))
  | inr n ↦ rw n (ap (λ (o : Option Sizes). noted_in o k a y) e ∙ rw n refl)
]

twice : (k : LevelState) (a : ℕ) (x y : List ℕ) → noted (noted k a x) a y ≡ noted k a y
twice k a x y = elim (cases_Bool (nat_eq a 1)) [
  | inl b ↦ rw b refl
  | inr n ↦ rw n (in_twice k.sizes k a x y refl)
]

abbrev KeepsRoom : LevelState → LevelState → Type 0
KeepsRoom now k = (length now.free ≡ length k.free) × (length now.reserved ≡ length k.reserved)

in_room : (z : Option Sizes) (k : LevelState) (a : ℕ) (x : List ℕ) → KeepsRoom (noted_in z k a x) k
in_room None k a x = (refl, refl)
in_room (Some z) k a x = elim (cases_Bool (is_cell_address z a)) [ inl b ↦ rw b (length-set k.free (place_of z a) (is_free_slot x), length-set k.reserved (place_of z a) false) | inr n ↦ rw n (refl, refl) ]

keeps_room : (k : LevelState) (a : ℕ) (x : List ℕ) → KeepsRoom (noted k a x) k
keeps_room k a x = elim (cases_Bool (nat_eq a 1)) [ inl b ↦ rw b (refl, refl) | inr n ↦ rw n (in_room k.sizes k a x) ]

stays_ready : (k : LevelState) (z : Sizes) (a : ℕ) (x : List ℕ) → a ≢ 1 → KnowsStore z k → KnowsStore z (noted k a x)
stays_ready k z a x ne h = record {
  sizes = (alone k z a (suc (place_of z a)) x h.sizes ne (λ cell e. omega (arith, e))).0 ∙ h.sizes;
  free = (let n = h.free in let same = (keeps_room k a x).0 in omega (arith, n, same));
  reserved = (let n = h.reserved in let same = (keeps_room k a x).1 in omega (arith, n, same));
}

no_sizes : (k : LevelState) (z y : Sizes) → k.sizes ≡ None → k.sizes ≡ Some y → y ≡ z
no_sizes k z y none some = absurd (let no : None ≡ Some y = sym none ∙ some in cc)

-- refusals
may_take_none : (z : Sizes) (k : LevelState) (latched : List ℕ) (s : ℕ) (Can : Type 0) (r : Refusal) → RefusesTaking z k latched s Can r → MayHaveNoPlan r
may_take_none z k latched s Can why.NoMemory h = tt
may_take_none z k latched s Can why.Latched h = tt
may_take_none z k latched s Can (why.Damaged d) h = tt
may_take_none z k latched s Can _ h = absurd h

may_other : (s : ℕ) (Can : Type 0) (r : Refusal) → RefusesOther s Can r → MayHaveNoPlan r
may_other s Can why.NoMemory h = tt
may_other s Can (why.Damaged d) h = tt
may_other s Can why.Latched h = absurd h
may_other s Can _ h = absurd h

refuses_one : (z : Option Sizes) (d : Option Doing) (k : LevelState) (given : List Given) (latched : List ℕ) (r : Refusal) (after : LevelState)
    → Plans z d k given latched (Err r) after → MayHaveNoPlan r × (after ≡ k)
refuses_one (Some z) (Some (Send s tag body)) k given latched r after h = (may_take_none z k latched s (CanSend z given s) r h.0, h.1)
refuses_one (Some z) (Some (Receive s)) k given latched r after h = (may_other s (CanReceive z given s) r h.0, h.1)
refuses_one (Some z) (Some (Close s)) k given latched r after h = (may_other s (CanMark z given s true) r h.0, h.1)
refuses_one (Some z) None k given latched r after h = may_damage k r after h
refuses_one None (Some d) k given latched r after h = may_damage k r after h
refuses_one None None k given latched r after h = may_damage k r after h

refuses_back : (z : Option Sizes) (d : Option Deed) (k : LevelState) (given : List Given) (latched : List ℕ) (r : Refusal) (after : LevelState)
    → Undoes z d k given latched (Err r) after → MayHaveNoPlan r × (after ≡ k)
refuses_back (Some z) (Some (Append s n tag previous body)) k given latched r after h = (may_other s (CanUnlinkTail z given s n) r h.0, h.1)
refuses_back (Some z) (Some (UnlinkHead s n tag body)) k given latched r after h = (may_take_none z k latched s (CanPutBack z given s n) r h.0, h.1)
refuses_back (Some z) (Some (Close_deed s)) k given latched r after h = (may_other s (CanMark z given s false) r h.0, h.1)
refuses_back (Some z) (Some (Mark c tag previous)) k given latched r after h = may_damage k r after h
refuses_back (Some z) None k given latched r after h = may_damage k r after h
refuses_back None (Some d) k given latched r after h = may_damage k r after h
refuses_back None None k given latched r after h = may_damage k r after h

refuses_record : (k : LevelState) (told : Record) (given : List Given) (latched : List ℕ) (r : Refusal) (after : LevelState)
    → chain_undoes k told given latched (Err r) after → MayHaveNoPlan r × (after ≡ k)
refuses_record k (records.OpEnd t n level deed) given latched r after h = refuses_back k.sizes (deed_by level deed) k given latched r after h
refuses_record k _ given latched r after h = may_damage k r after h

refuses_taking : (k : LevelState) (is : Bool) (a : ℕ) (before after : List ℕ) (r : Refusal) (kept : LevelState) → TakesBack k is a before after (Err r) kept → MayHaveNoPlan r × (kept ≡ k)
refuses_taking k true a before after why.NoMemory kept h = (tt, h)
refuses_taking k true a before after _ kept h = absurd h
refuses_taking k false a before after r kept h = may_damage k r kept h

refuses_page : (k : LevelState) (told : Record) (given : List Given) (latched : List ℕ) (r : Refusal) (after : LevelState)
    → page_undoes k told given latched (Err r) after → MayHaveNoPlan r × (after ≡ k)
refuses_page k (records.PageOp t n page slot x y) given latched r after h = refuses_taking k (is_slot_number slot) (page * 16 + slot) x y r after h
refuses_page k _ given latched r after h = may_damage k r after h

plans_for : (undo : Bool) (z : Option Sizes) (d : Option Doing) (k : LevelState) (given : List Given) (latched : List ℕ) (r : Refusal) (after : LevelState)
    → PlansFor undo z d k given latched (Err r) after → MayHaveNoPlan r × (after ≡ k)
plans_for true z d k given latched r after h = may_damage k r after h
plans_for false z d k given latched r after h = refuses_one z d k given latched r after h

pages_lawful : IsLawful 0 page_meaning
pages_lawful = record {
  refuses = λ k job given latched r after h. may_damage k r after h;
  refuses_undo = refuses_page;
  count = λ k job given latched p after h. absurd h;
  count_undo = few_taken_back;
  before = λ k job given latched p after h. absurd h;
  before_undo = λ k told given latched p after h slots noted_so. pages.over_back k given latched p after told h;
  holds = λ q k job given latched p after h. absurd h;
  holds_undo = λ q k told given latched p after h knows slots as_is stands. pages.back_holds k given latched p after q told h stands;
  asked_is_written = λ k job given latched p after h. absurd h;
  asked_is_written_undo = λ k told given latched p after h. pages.back_writes k given latched p after told h;
  spares = λ k job given latched p after h. absurd h;
  spares_undo = λ k told given latched p after h g noted_so ne. absurd (ne (pages.back_kept k given latched p after told h));
  takes = λ k job given latched p after h. absurd h;
  takes_undo = λ k told given latched p after h. pages.back_takes k given latched p after told h;
  slots = λ k job given latched p after h. absurd h;
  slots_undo = λ k told given latched p after h. pages.back_slots k given latched p after told h;
  asks = λ z job given. tt;
  few = λ z job given h. gathered.few_asks_none given h;
  told = λ k job given latched p after h. absurd h;
  silent = λ k told given latched p after h. (silent_taken_back k told given latched p after h).0;
  replies = λ k job given latched p after h. absurd h;
  replies_undo = λ k told given latched p after h. (silent_taken_back k told given latched p after h).1;
  inverse = λ z d v q k job given latched p after h. absurd h;
  chooses = λ k job given latched p after h. absurd h;
  chooses_undo = λ k told given latched p after h. chains.same_kept page_meaning p.writes.items after k (pages.back_kept k given latched p after told h);
  last = λ k a x y. refl;
  commutes = λ k a b x y m n o. refl;
  alone = λ k z a i x e n o. (refl, refl, refl);
  room = λ k a x. (refl, refl);
  no_others = no_sizes;
  stays = λ k z a x ne h. h;
  reads = there_is 0;
  own = λ k job given latched p after h. absurd h;
  own_back = λ k told given latched p after h. pages.back_read k given latched p after told h;
}

chains_lawful : IsLawful 1 chain_meaning
chains_lawful = record {
  refuses = λ k job given latched r after h. plans_for job.undo k.sizes (doing_by job.level job.bytes) k given latched r after h;
  refuses_undo = refuses_record;
  count = λ k job given latched p after h. few_planned job.undo k.sizes (doing_by job.level job.bytes) k given latched p after h;
  count_undo = few_undone;
  before = chains.over_plan;
  before_undo = chains.over_back;
  holds = chains.plan_holds;
  holds_undo = λ q k told given latched p after h knows slots as_is stands. chains.back_holds q k told given latched p after h knows slots as_is;
  asked_is_written = chains.plan_writes;
  asked_is_written_undo = chains.back_writes;
  spares = chains.plan_spares;
  spares_undo = chains.back_spares;
  takes = chains.plan_takes;
  takes_undo = chains.back_takes;
  slots = chains.plan_slots;
  slots_undo = chains.back_slots;
  asks = λ z job given. asks_job given job.undo (deed_by job.level job.bytes) (doing_by job.level job.bytes);
  few = λ z job given h. gathered.few_asked job.undo (deed_by job.level job.bytes) (doing_by job.level job.bytes) given h;
  told = λ k job given latched p after h. chains.plan_told job.undo k.sizes (doing_by job.level job.bytes) k given latched p after h;
  silent = λ k told given latched p after h. (silent_undone k told given latched p after h).0;
  replies = λ k job given latched p after h. chains.plan_replies job.undo k.sizes (doing_by job.level job.bytes) k given latched p after h;
  replies_undo = λ k told given latched p after h. (silent_undone k told given latched p after h).1;
  inverse = λ z d v q k job given latched p after h sizes. back.taken_back job.undo z (doing_by job.level job.bytes) k given latched p after d v q sizes h;
  chooses = λ k job given latched p after h. chains.plan_chooses job.undo k (doing_by job.level job.bytes) given latched p after h;
  chooses_undo = chains.back_chooses;
  last = twice;
  commutes = any_order;
  alone = alone;
  room = keeps_room;
  no_others = λ k z y h told. (let is : Some y ≡ Some z = sym told ∙ h.sizes in cc);
  stays = stays_ready;
  reads = there_is 1;
  own = chains.plan_own;
  own_back = chains.back_read;
}

none_lawful : (n : ℕ) → IsLawful n no_meaning
none_lawful n = record {
  refuses = λ k job given latched r after h. may_damage k r after h;
  refuses_undo = λ k told given latched r after h. may_damage k r after h;
  count = λ k job given latched p after h. absurd h;
  count_undo = λ k told given latched p after h. absurd h;
  before = λ k job given latched p after h. absurd h;
  before_undo = λ k told given latched p after h. absurd h;
  holds = λ q k job given latched p after h. absurd h;
  holds_undo = λ q k told given latched p after h. absurd h;
  asked_is_written = λ k job given latched p after h. absurd h;
  asked_is_written_undo = λ k told given latched p after h. absurd h;
  spares = λ k job given latched p after h. absurd h;
  spares_undo = λ k told given latched p after h. absurd h;
  takes = λ k job given latched p after h. absurd h;
  takes_undo = λ k told given latched p after h. absurd h;
  slots = λ k job given latched p after h. absurd h;
  slots_undo = λ k told given latched p after h. absurd h;
  asks = λ z job given. tt;
  few = λ z job given h. gathered.few_asks_none given h;
  told = λ k job given latched p after h. absurd h;
  silent = λ k told given latched p after h. absurd h;
  replies = λ k job given latched p after h. absurd h;
  replies_undo = λ k told given latched p after h. absurd h;
  inverse = λ z d v q k job given latched p after h. absurd h;
  chooses = λ k job given latched p after h. absurd h;
  chooses_undo = λ k told given latched p after h. absurd h;
  last = λ k a x y. refl;
  commutes = λ k a b x y m n o. refl;
  alone = λ k z a i x e n o. (refl, refl, refl);
  room = λ k a x. (refl, refl);
  no_others = no_sizes;
  stays = λ k z a x ne h. h;
  reads = there_is n;
  own = λ k job given latched p after h. absurd h;
  own_back = λ k told given latched p after h. absurd h;
}

pub all_lawful : AllLawful
unfolding meaning_of
all_lawful zero = pages_lawful
all_lawful (suc zero) = chains_lawful
all_lawful (suc (suc zero)) = tags_lawful
all_lawful (suc (suc (suc n))) = none_lawful (suc (suc (suc n)))

-- applying a record again
not_less : (n m : ℕ) → n ≡ m → nat_lt n m ≡ false
not_less n m e = le-ltb n m (omega (arith, e))

again : (w : Redo) (old once twice : List ℕ) (lsn : ℕ) (first second : Bool) → IsAppliedOnce old lsn w first once → IsAppliedOnce once lsn w second twice → (second ≡ false) × (twice ≡ once)
again w old once twice lsn true second a b =
    let no : second ≡ false = b.answer ∙ not_less (lsn_of once) lsn ((a.done refl).lsn) in
    (no, b.kept no)
again w old once twice lsn false second a b =
    let same : once ≡ old = a.kept refl in
    let no : second ≡ false = b.answer ∙ ap (λ l. nat_lt (lsn_of l) lsn) same ∙ sym a.answer in
    (no, b.kept no)

pub twice_is_once : AppliedTwiceIsOnce
twice_is_once None old once twice lsn first second a b = b
twice_is_once (Some w) old once twice lsn first second a b = again w old once twice lsn first second a b
