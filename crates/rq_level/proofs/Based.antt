-- What the writes of the level of chains are over.
use Rattle.std.proofs.Common.{◌≡◌, ◌⊎◌, ℕ, zero, suc, ◌/◌, ◌%◌, ◌&&◌, nat_eq, cond, List, [], ◌∷◌, Bool, true, false, not, Option, None, Some, Ok, map, reverse, set, All, refl, sym, ap, ◌∙◌, subst, inl, inr, arith}
use Rattle.std.specs.List.{AllByRecursion}
use Rattle.std.proofs.lemmas.Bool.{and_from, and_parts, cases_Bool, eqb-true, false≢true, lt-ltb}
use Rattle.std.proofs.lemmas.List.{reverse-reverse}
use Rattle.std.proofs.lemmas.List.Elements.{All-cons, All-nil, All-weaker, recursion_from_All}
use Rattle.rq_model.specs.declared.record.Deed.{Deed}
use Rattle.rq_model.specs.declared.record.Deed.TheVariants.{Append, UnlinkHead, Close as Close_deed, Mark}
use Rattle.rq_model.specs.Vocabulary.{In}
use Rattle.rq_model.proofs.Lists.{In-map, In-reverse, In-to}
use Rattle.rq_page.specs.declared.cell.Cell.{Cell}
use Rattle.rq_page.specs.declared.layout.PageKind.{PageKind}
use Rattle.rq_page.specs.Cells.{free_bytes}
use Rattle.rq_page.specs.Sizes.{Sizes, IsCellAddress, cell_at, tags_from, place_of}
use Rattle.rq_page.specs.Slots.{Slot, Free, Used, Sender, Client, IsSlotOf, held_for, held_in, slot_bytes}
use Rattle.rq_page.proofs.Addresses.{cells_have_places, kind_cells}
use Rattle.rq_page.proofs.Spellings.{slot_is_spelling}
use Rattle.rq_views.specs.Log.{Write}
use Rattle.rq_views.specs.Plans.{relinked}
use Rattle.rq_level.specs.Asked.{AreNoted, AreOver, IsOver, TakesCell, Knows, AreAsGiven, AreOverSlots}
use Rattle.rq_level.specs.ChainPlans.{Beside, IsMarked, Plans, Undoes}
use Rattle.rq_level.specs.Given.{AreGiven, GivenHolds, HoldsBytes, IsGiven, given_at, has_page}
use Rattle.rq_level.specs.LevelState.{LevelState, IsLowest, flag_at, is_cell_address, is_free_slot, noted, noted_cell, noted_in, reserved_at}
use Rattle.rq_level.specs.Meaning.{chain_meaning}
use Rattle.rq_level.specs.Ops.{Doing}
use Rattle.rq_level.specs.Ops.Doing.{Send, Receive, Close}
use Rattle.rq_level.specs.Writes.{AreSlotWrites, IsSlotWrite, write_of, writes_of}
use Rattle.rq_level.specs.declared.slots.Given.{Given}
use Rattle.rq_level.specs.declared.writes.Plan.{Plan}
use Rattle.rq_level.specs.declared.writes.SlotWrite.{SlotWrite}
use Rattle.rq_level.proofs.Noting.{not_first}

-- ---- lists

pub each_in : {X : Type 0} (P : X → Type 0) (xs : List X) → AllByRecursion P xs → (x : X) → In x xs → P x
each_in P [] h x i = absurd i
each_in P (y ∷ xs) h x i = elim i [ inl e ↦ subst P (sym e) h.0 | inr m ↦ each_in P xs h.1 x m ]

pub all_each : {X : Type 0} (P : X → Type 0) (xs : List X) → ((x : X) → In x xs → P x) → All P xs
all_each P [] h = All-nil P
all_each P (x ∷ xs) h = All-cons P x xs (h x (inl refl)) (all_each P xs (λ y i. h y (inr i)))

-- ---- slots that were given

-- of each that was given this is so
one_given : (P : ℕ → List ℕ → Type 0) (a : ℕ) (g : Given) (b : Bool) (rest : Option (List ℕ)) (bytes : List ℕ) → P g.at g.bytes → nat_eq g.at a ≡ b → (rest ≡ Some bytes → P a bytes) → cond b (Some g.bytes) rest ≡ Some bytes → P a bytes
one_given P a g true rest bytes is same next e = let it : g.bytes ≡ bytes = cc in subst (P a) it (subst (λ n. P n g.bytes) (eqb-true g.at a same) is)
one_given P a g false rest bytes is same next e = next e

given_of : (P : ℕ → List ℕ → Type 0) (a : ℕ) (given : List Given) (bytes : List ℕ) → AllByRecursion (λ g. P g.at g.bytes) given → given_at a given ≡ Some bytes → P a bytes
given_of P a [] bytes h e = absurd (let no : None ≡ Some bytes = e in cc)
given_of P a (g ∷ gs) bytes h e = one_given P a g (nat_eq g.at a) (given_at a gs) bytes h.0 refl (given_of P a gs bytes h.1) e

pub was_given : (P : ℕ → List ℕ → Type 0) (a : ℕ) (given : List Given) (bytes : List ℕ) → All (λ g. P g.at g.bytes) given → given_at a given ≡ Some bytes → P a bytes
was_given P a given bytes h e = given_of P a given bytes (recursion_from_All (λ g. P g.at g.bytes) given h) e

-- a slot holds what its bytes tell
pub holds_at : (z : Sizes) (given : List Given) (a : ℕ) (x : Slot) (bytes : List ℕ) → given_at a given ≡ Some bytes → GivenHolds z given a x → held_in z (a / 16) bytes ≡ x
holds_at z given a x bytes e h = subst (HoldsBytes z a x) e h

-- bytes of a slot are the spelling of what it holds
pub same_bytes : (z : Sizes) (page slot : ℕ) (x y : List ℕ) → IsSlotOf z page slot x → IsSlotOf z page slot y → held_in z page x ≡ held_in z page y → x ≡ y
same_bytes z page slot x y is it e = sym (slot_is_spelling z page slot x is).1 ∙ ap slot_bytes e ∙ (slot_is_spelling z page slot y it).1

pub free_is : (z : Sizes) (page slot : ℕ) (x : List ℕ) → IsSlotOf z page slot x → held_in z page x ≡ Free → x ≡ free_bytes
free_is z page slot x is e = sym (slot_is_spelling z page slot x is).1 ∙ ap slot_bytes e

-- ---- a cell that may be taken

flag_gone : (flags : List Bool) (i : ℕ) → flag_at (set flags i false) i ≡ false
flag_gone [] i = refl
flag_gone (f ∷ flags) zero = refl
flag_gone (f ∷ flags) (suc i) = flag_gone flags i

pub cell_is : (z : Sizes) (a : ℕ) → IsCellAddress z a → is_cell_address z a ≡ true
cell_is z a c = and_from _ _ (lt-ltb z.directory (a / 16) c.above) (and_from _ _ (lt-ltb (a / 16) (tags_from z) c.below) (lt-ltb 0 (a % 16) c.slot))

pub lowest_cell : (z : Sizes) (k : LevelState) (latched : List ℕ) (a : ℕ) → IsLowest z k latched a → IsCellAddress z a
lowest_cell z k latched a l = subst (IsCellAddress z) (sym l.at) (cells_have_places z l.place l.below).0

-- the flag of a cell is what is noted of it
pub noted_there : (z : Sizes) (k : LevelState) (a : ℕ) (x : List ℕ) → k.sizes ≡ Some z → IsCellAddress z a → noted k a x ≡ noted_cell z k (place_of z a) (is_free_slot x)
noted_there z k a x told cell =
    not_first k a x (λ e. let above = cell.above in omega (arith, e, above))
    ∙ ap (λ (o : Option Sizes). noted_in o k a x) told
    ∙ ap (λ b. cond b (noted_cell z k (place_of z a) (is_free_slot x)) k) (cell_is z a cell)

may_be_taken : (z : Sizes) (k : LevelState) (latched : List ℕ) (a : ℕ) → IsLowest z k latched a → flag_at k.free (place_of z a) ≡ true
may_be_taken z k latched a l =
    ap (λ n. flag_at k.free (place_of z n)) l.at ∙ ap (flag_at k.free) (cells_have_places z l.place l.below).1
    ∙ (and_parts (flag_at k.free l.place) (not (flag_at k.reserved l.place) && not (has_page (cell_at z l.place / 16) latched)) l.may).0

-- a cell that may be taken is free, where it was noted so
pub known_free : (z : Sizes) (k : LevelState) (latched : List ℕ) (a : ℕ) (x : List ℕ) → k.sizes ≡ Some z → IsLowest z k latched a → noted k a x ≡ k → is_free_slot x ≡ true
known_free z k latched a x told l known = elim (cases_Bool (is_free_slot x)) [
  | inl y ↦ y
  | inr n ↦
      let made : noted_cell z k (place_of z a) (is_free_slot x) ≡ k = sym (noted_there z k a x told (lowest_cell z k latched a l)) ∙ known in
      let off : flag_at k.free (place_of z a) ≡ false = ap (λ (m : LevelState). flag_at m.free (place_of z a)) (sym made) ∙ ap (λ b. flag_at (set k.free (place_of z a) b) (place_of z a)) n ∙ flag_gone k.free (place_of z a) in
      absurd (false≢true (sym off ∙ may_be_taken z k latched a l))
]

-- the bytes of a cell's slot that begin with zero are those of a free one
pub holds_free : (z : Sizes) (a : ℕ) (x : List ℕ) → IsCellAddress z a → is_free_slot x ≡ true → held_in z (a / 16) x ≡ Free
holds_free z a x cell e = ap (λ (o : Option PageKind). held_for o x) (kind_cells z (a / 16) cell.above cell.below) ∙ (rw e refl)

-- ---- the writes of a plan

abbrev pub IsSomething : Slot → Type 0
IsSomething Free = ⊥
IsSomething (Used c) = Unit {0}
IsSomething (Sender s d) = Unit {0}
IsSomething (Client k) = Unit {0}

-- the slot was given and holds something, or it is the lowest cell that may be taken, which is chosen
abbrev pub IsBased : Sizes → LevelState → List Given → List ℕ → LevelState → Write → Type 0
IsBased z k given latched after v = (GivenHolds z given v.at v.before × IsSomething v.before) ⊎ (IsLowest z k latched v.at × (v.before ≡ Free) × (after ≡ reserved_at z k v.at))

pub record IsChainPlan (z : Sizes) (k : LevelState) (given : List Given) (latched : List ℕ) (p : Plan) (after : LevelState) : Type 0 where
  pub all : List Write
  pub writes : reverse (writes_of z p.writes.items) ≡ all
  pub slots : AreSlotWrites z p.writes.items
  pub based : AllByRecursion (IsBased z k given latched after) all

pub relinked_based : (z : Sizes) (k : LevelState) (given : List Given) (latched : List ℕ) (after : LevelState) (at : ℕ) (o : Option Cell) (f : Cell → Cell) (ws : List Write) → Beside z given at o
    → AllByRecursion (IsBased z k given latched after) ws → AllByRecursion (IsBased z k given latched after) (relinked at o f ws)
relinked_based z k given latched after at None f ws b h = h
relinked_based z k given latched after at (Some c) f ws b h = (inl (b, tt), h)

abbrev marked : (z : Sizes) (k : LevelState) (given : List Given) (latched : List ℕ) (s : ℕ) (closed : Bool) (p : Plan) (after : LevelState) → IsMarked z given s closed p → IsChainPlan z k given latched p after
marked z k given latched s closed p after m = record { all = _; writes = m.writes; slots = m.slots; based = (inl (m.can.directory_is, tt), tt) }

abbrev pub done : (z : Sizes) (d : Option Doing) (k : LevelState) (given : List Given) (latched : List ℕ) (p : Plan) (after : LevelState) → Plans (Some z) d k given latched (Ok p) after → IsChainPlan z k given latched p after
done z (Some (Send s tag body)) k given latched p after m = record {
  all = _;
  writes = m.writes;
  slots = m.slots;
  based = (inl (m.can.directory_is, tt), relinked_based z k given latched after _ m.can.old _ _ m.can.beside (inr (m.lowest, refl, m.kept), tt));
}
done z (Some (Receive s)) k given latched p after m = record {
  all = _;
  writes = m.writes;
  slots = m.slots;
  based = (inl (m.can.directory_is, tt), relinked_based z k given latched after _ m.can.next _ _ m.can.beside (inl (m.can.head_is, tt), tt));
}
done z (Some (Close s)) k given latched p after m = marked z k given latched s true p after m.marked
done z None k given latched p after m = absurd m

abbrev pub undone : (z : Sizes) (d : Option Deed) (k : LevelState) (given : List Given) (latched : List ℕ) (p : Plan) (after : LevelState) → Undoes (Some z) d k given latched (Ok p) after → IsChainPlan z k given latched p after
undone z (Some (Append s n tag previous body)) k given latched p after m = record {
  all = _;
  writes = m.writes;
  slots = m.slots;
  based = (inl (m.can.directory_is, tt), relinked_based z k given latched after _ m.can.front _ _ m.can.beside (inl (m.can.tail_is, tt), tt));
}
undone z (Some (UnlinkHead s n tag body)) k given latched p after m = record {
  all = _;
  writes = m.writes;
  slots = m.slots;
  based = (inl (m.can.directory_is, tt), relinked_based z k given latched after _ m.can.old _ _ m.can.beside (inr (m.lowest, refl, m.kept), tt));
}
undone z (Some (Close_deed s)) k given latched p after m = marked z k given latched s false p after m.marked
undone z (Some (Mark c tag previous)) k given latched p after m = absurd m
undone z None k given latched p after m = absurd m

module _ (z : Sizes) (k : LevelState) (given : List Given) (latched : List ℕ) (p : Plan) (after : LevelState) (m : IsChainPlan z k given latched p after) where
  -- what each write is over
  based_one : (w : SlotWrite) → In w p.writes.items → IsBased z k given latched after (write_of z w) × IsSlotWrite z w
  based_one w i =
      let there : In (write_of z w) m.all = subst (λ (ws : List Write). In (write_of z w) ws) m.writes (In-reverse (write_of z w) (writes_of z p.writes.items) (In-to (write_of z) p.writes.items w i)) in
      (each_in (IsBased z k given latched after) m.all m.based (write_of z w) there, each_in (IsSlotWrite z) p.writes.items (recursion_from_All (IsSlotWrite z) p.writes.items m.slots) w i)

  -- a slot that is written
  pub is_written : (v : Write) → In v m.all → In v.at (map (λ (w : SlotWrite). w.at) p.writes.items)
  is_written v i =
      let back : In v (writes_of z p.writes.items) = subst (λ (ws : List Write). In v ws) (reverse-reverse (writes_of z p.writes.items)) (In-reverse v (reverse (writes_of z p.writes.items)) (subst (λ (ws : List Write). In v ws) (sym m.writes) i)) in
      let found = In-map (write_of z) p.writes.items v back in
      subst (λ n. In n (map (λ (w : SlotWrite). w.at) p.writes.items)) (sym (ap (λ (x : Write). x.at) found.2)) (In-to (λ (w : SlotWrite). w.at) p.writes.items found.0 found.1)

  -- where nothing was given of its slot, that cell is chosen
  pub chosen : (w : SlotWrite) → In w p.writes.items → given_at w.at given ≡ None → after ≡ reserved_at z k w.at
  chosen w i e = elim (based_one w i).0 [ inl h ↦ absurd (subst (HoldsBytes z w.at (held_in z (w.at / 16) w.before)) e h.0) | inr h ↦ h.2 ]

  module _ (told : k.sizes ≡ Some z) (slots : AreGiven z given) (noted_so : AreNoted chain_meaning k given) where
    over_given : (w : SlotWrite) (bytes : List ℕ) → IsSlotWrite z w → IsBased z k given latched after (write_of z w) → given_at w.at given ≡ Some bytes → w.before ≡ bytes
    over_given w bytes is b e =
        let given_is : IsSlotOf z (w.at / 16) (w.at % 16) bytes = was_given (λ a x. IsSlotOf z (a / 16) (a % 16) x) w.at given bytes (All-weaker (IsGiven z) _ (λ g h. h.bytes) given slots) e in
        same_bytes z (w.at / 16) (w.at % 16) w.before bytes is.before given_is (elim b [
          | inl h ↦ sym (holds_at z given w.at _ bytes e h.0)
          | inr h ↦ h.1 ∙ sym (holds_free z w.at bytes (lowest_cell z k latched w.at h.0) (known_free z k latched w.at bytes told h.0 (was_given (λ a x. noted k a x ≡ k) w.at given bytes noted_so e)))
        ])

    over_none : (w : SlotWrite) → IsSlotWrite z w → IsBased z k given latched after (write_of z w) → given_at w.at given ≡ None → TakesCell k latched w
    over_none w is b e = elim b [
      | inl h ↦ absurd (subst (HoldsBytes z w.at (held_in z (w.at / 16) w.before)) e h.0)
      | inr h ↦ record { sizes = z; told = told; lowest = h.0; free = free_is z (w.at / 16) (w.at % 16) w.before is.before h.1 }
    ]

    over : (w : SlotWrite) → IsSlotWrite z w → IsBased z k given latched after (write_of z w) → (o : Option (List ℕ)) → given_at w.at given ≡ o → IsOver k latched w o
    over w is b None e = over_none w is b e
    over w is b (Some bytes) e = over_given w bytes is b e

    pub are_over : AreOver k given latched p.writes.items
    are_over = all_each (λ w. IsOver k latched w (given_at w.at given)) p.writes.items (λ w i. let it = based_one w i in over w it.1 it.0 (given_at w.at given) refl)

  -- over slots that the level knows
  module _ (told : k.sizes ≡ Some z) (q : ℕ → List ℕ) (knows : Knows chain_meaning k q) (slots : AreGiven z given) (as_is : AreAsGiven q given) where
    over_slot : (w : SlotWrite) → IsSlotWrite z w → IsBased z k given latched after (write_of z w) → w.before ≡ q w.at
    over_slot w is b = same_bytes z (w.at / 16) (w.at % 16) w.before (q w.at) is.before (knows.slots z w.at told is.place) (elim b [
      | inl h ↦ sym (holds_now (given_at w.at given) refl h.0)
      | inr h ↦ h.1 ∙ sym (holds_free z w.at (q w.at) (lowest_cell z k latched w.at h.0) (known_free z k latched w.at (q w.at) told h.0 (knows.noted w.at)))
    ])
      where
        holds_now : (o : Option (List ℕ)) → given_at w.at given ≡ o → GivenHolds z given w.at (held_in z (w.at / 16) w.before) → held_in z (w.at / 16) (q w.at) ≡ held_in z (w.at / 16) w.before
        holds_now None e h = absurd (subst (HoldsBytes z w.at (held_in z (w.at / 16) w.before)) e h)
        holds_now (Some bytes) e h = ap (held_in z (w.at / 16)) (sym (was_given (λ a x. x ≡ q a) w.at given bytes as_is e)) ∙ holds_at z given w.at _ bytes e h

    pub over_slots : AreOverSlots q p.writes.items
    over_slots = all_each (λ w. w.before ≡ q w.at) p.writes.items (λ w i. let it = based_one w i in over_slot w it.1 it.0)
