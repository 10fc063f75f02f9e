-- A level asks for the slots that its operation needs, and is given them one after the other.
use Rattle.std.proofs.Common.{◌≡◌, ◌⊎◌, ⊎_elim, ℕ, ◌/◌, ◌%◌, ◌<◌, ◌++◌, List, [], ◌∷◌, refl, sym, ◌∙◌, ap, subst, Bool, true, false, cond, nat_eq, Option, None, Some, inl, inr, arith}
use Rattle.std.proofs.lemmas.Bool.{cases_Bool, eq-eqb, eqb-true, or_left, or_right, true≢false}
use Rattle.std.proofs.lemmas.List.Elements.{All-append, All-cons, All-head, All-tail}
use Rattle.rq_model.specs.declared.record.Deed.{Deed}
use Rattle.rq_model.specs.declared.record.Deed.TheVariants.{Append, UnlinkHead, Close, Mark}
use Rattle.rq_model.specs.Deeds.{deed_by, deed_level}
use Rattle.rq_page.specs.declared.cell.CellSlot.{CellSlot}
use Rattle.rq_page.specs.declared.cell.CellSlot.TheVariants as cells
use Rattle.rq_page.specs.declared.layout.PageKind.{PageKind}
use Rattle.rq_page.specs.declared.layout.PageKind.TheVariants as kind
use Rattle.rq_page.specs.Cells.{cell_slot_in}
use Rattle.rq_page.specs.Directories.{directory_in}
use Rattle.rq_page.specs.Kinds.{kind_of}
use Rattle.rq_page.specs.Sizes.{Sizes, IsCellAddress, IsLink, client_count, client_slot_at, directory_at, sender_at, sender_count}
use Rattle.rq_page.specs.Slots.{HoldsCell, HoldsDirectory, IsSlotFor, IsSlotOf, MayStand, Slot, held_for, held_in, of_cell_slot}
use Rattle.rq_page.specs.Slots.Slot.{Free, Sender}
use Rattle.rq_page.proofs.Addresses.{clients_have_slots, kind_cells, kind_directory, senders_have_slots}
use Rattle.rq_views.specs.InStore.{IsDeedOf}
use Rattle.rq_views.specs.Plans.Turn.{Undid}
use Rattle.rq_views.specs.Stored.{IsStoreSlot}
use Rattle.rq_level.specs.declared.slots.Given.{Given}
use Rattle.rq_level.specs.ChainPlans as chain
use Rattle.rq_level.specs.ChainPlans.{along, along_from, asking, job_wanted, link_of, to_head, to_next, to_prev, to_tail, unless_given}
use Rattle.rq_level.specs.Given.{AreGiven, GivenHolds, HoldsBytes, IsGiven, given_at}
use Rattle.rq_level.specs.TagPlans.{client_wanted}
use Rattle.rq_level.specs.Ops.{Doing, Job, doing_by}
use Rattle.rq_store.specs.State.{State}
use Rattle.rq_txn.specs.Rows.{latched_in}
use Rattle.rq_sound.specs.Groups.{slots_now}
use Rattle.rq_sound.specs.Latching.{any_latched, at_head, at_tail, before_tail, behind_head, head_in, named, needed, next_in, prev_in, tail_in}
use Rattle.rq_sound.specs.Gathering.{AreGivenFrom, IsToDo, IsToUndo, IsWantedOf, SlotsAreGathered, WantsAreNeeded, with_slot}

-- what was given is a slot
one_slot : (z : Sizes) (a : ℕ) (g : Given) (b : Bool) (rest : Option (List ℕ)) (bytes : List ℕ) → nat_eq g.at a ≡ b → IsGiven z g
    → (rest ≡ Some bytes → IsSlotOf z (a / 16) (a % 16) bytes) → cond b (Some g.bytes) rest ≡ Some bytes → IsSlotOf z (a / 16) (a % 16) bytes
one_slot z a g true rest bytes same is next e =
    let at : g.at ≡ a = eqb-true g.at a same in
    let it : g.bytes ≡ bytes = cc in
    subst (IsSlotOf z (a / 16) (a % 16)) it (subst (λ (n : ℕ). IsSlotOf z (n / 16) (n % 16) g.bytes) at is.bytes)
one_slot z a g false rest bytes same is next e = next e

given_slot : (z : Sizes) (a : ℕ) (given : List Given) (bytes : List ℕ) → AreGiven z given → given_at a given ≡ Some bytes → IsSlotOf z (a / 16) (a % 16) bytes
given_slot z a [] bytes all e = absurd (let no : None ≡ Some bytes = e in cc)
given_slot z a (g ∷ gs) bytes all e =
    one_slot z a g (nat_eq g.at a) (given_at a gs) bytes refl (All-head (IsGiven z) g gs all) (given_slot z a gs bytes (All-tail (IsGiven z) g gs all)) e

some_is : (b a : ℕ) → Some b ≡ Some a → b ≡ a
some_is b a e = cc

not_some : {X : Type 0} (a : ℕ) → None ≡ Some a → X
not_some a e = absurd (let no : None ≡ Some a = e in cc)

-- a link that is not 0 names a cell, which is a slot of the store
names_cell : (z : Sizes) (b : ℕ) → IsLink z b → nat_eq b 0 ≡ false → IsCellAddress z b
names_cell z b l n = ⊎_elim (λ (e : b ≡ 0). absurd (true≢false (sym (eq-eqb b 0 e) ∙ n))) (λ (c : IsCellAddress z b). c) l

pub cell_of_store : (z : Sizes) (b : ℕ) → IsCellAddress z b → IsStoreSlot z b
cell_of_store z b c = record { page_low = (let low = c.above in omega (arith, low)); page_high = (let high = c.below in omega (arith, high)); slot = c.slot }

module _ (s : State) (given : List Given) (h : AreGivenFrom s given) where
  -- what a slot holds that was given
  is_now : (a : ℕ) (bytes : List ℕ) → given_at a given ≡ Some bytes → slots_now s a ≡ held_in s.sizes (a / 16) bytes
  is_now a bytes e = h.as_is a (held_in s.sizes (a / 16) bytes) (subst (HoldsBytes s.sizes a (held_in s.sizes (a / 16) bytes)) (sym e) refl)

  given_now : (a : ℕ) (bytes : List ℕ) → given_at a given ≡ Some bytes → GivenHolds s.sizes given a (slots_now s a)
  given_now a bytes e = subst (HoldsBytes s.sizes a (slots_now s a)) (sym e) (sym (is_now a bytes e))

  -- nothing is needed; a slot that was not given, and others; one that was
  pub nothing : IsWantedOf s given None []
  nothing = record {
    one = λ a e. not_some a e;
    of_store = λ a e. not_some a e;
    new = λ a e. not_some a e;
    latched = λ a e on. not_some a e;
    none = λ e. tt;
  }

  first_wanted : (b : ℕ) (rest : List ℕ) → IsStoreSlot s.sizes b → given_at b given ≡ None → IsWantedOf s given (Some b) (b ∷ rest)
  first_wanted b rest store e = record {
    one = λ a w. inl (sym (some_is b a w));
    of_store = λ a w. subst (IsStoreSlot s.sizes) (some_is b a w) store;
    new = λ a w. subst (λ n. given_at n given ≡ None) (some_is b a w) e;
    latched = λ a w on. or_left (latched_in s.rows (b / 16)) (any_latched s.rows rest) (subst (λ n. latched_in s.rows (n / 16) ≡ true) (sym (some_is b a w)) on);
    none = λ w. absurd (let no : Some b ≡ None = w in cc);
  }

  more_wanted : (b : ℕ) (bytes : List ℕ) (o : Option ℕ) (rest : List ℕ) → given_at b given ≡ Some bytes → IsWantedOf s given o rest → IsWantedOf s given o (b ∷ rest)
  more_wanted b bytes o rest e m = record {
    one = λ a w. inr (m.one a w);
    of_store = m.of_store;
    new = m.new;
    latched = λ a w on. or_right (latched_in s.rows (b / 16)) (any_latched s.rows rest) (m.latched a w on);
    none = λ w. (given_now b bytes e, m.none w);
  }

  one_wanted : (b : ℕ) → IsStoreSlot s.sizes b → (o : Option (List ℕ)) → given_at b given ≡ o → IsWantedOf s given (unless_given b o) (b ∷ [])
  one_wanted b store None e = first_wanted b [] store e
  one_wanted b store (Some bytes) e = more_wanted b bytes None [] e nothing

  link_wants : (b : ℕ) → IsLink s.sizes b → IsWantedOf s given (along_from [] b given) (named b)
  link_wants b l = elim (cases_Bool (nat_eq b 0)) [
    | inl y ↦ rw y nothing
    | inr n ↦ rw n (one_wanted b (cell_of_store s.sizes b (names_cell s.sizes b l n)) (given_at b given) refl)
  ]

  -- the slots beside a cell
  behind_slot : (x : CellSlot) → MayStand s.sizes x → IsWantedOf s given (along_from [] (link_of (λ c. c.next) x) given) (named (next_in (of_cell_slot x)))
  behind_slot cells.Free m = nothing
  behind_slot (cells.Used c) m = link_wants c.next m.next

  before_slot : (x : CellSlot) → MayStand s.sizes x → IsWantedOf s given (along_from [] (link_of (λ c. c.prev) x) given) (named (prev_in (of_cell_slot x)))
  before_slot cells.Free m = nothing
  before_slot (cells.Used c) m = link_wants c.prev m.prev

  -- a cell, and then the one that a link of its slot names
  module _ (b : ℕ) (w : Option (List ℕ) → Option ℕ) (link : Slot → ℕ) (asks : w None ≡ Some b)
      (then : (bytes : List ℕ) → MayStand s.sizes (cell_slot_in bytes) → IsWantedOf s given (w (Some bytes)) (named (link (of_cell_slot (cell_slot_in bytes))))) where
    by_cell : IsCellAddress s.sizes b → (o : Option (List ℕ)) → given_at b given ≡ o → IsWantedOf s given (w o) (b ∷ named (link (slots_now s b)))
    by_cell c None e = subst (λ x. IsWantedOf s given x (b ∷ named (link (slots_now s b)))) (sym asks) (first_wanted b (named (link (slots_now s b))) (cell_of_store s.sizes b c) e)
    by_cell c (Some bytes) e =
        let kind = kind_cells s.sizes (b / 16) c.above c.below in
        let is : slots_now s b ≡ of_cell_slot (cell_slot_in bytes) = is_now b bytes e ∙ ap (λ (k : Option PageKind). held_for k bytes) kind in
        let holds : HoldsCell s.sizes bytes = subst (λ (k : Option PageKind). IsSlotFor k s.sizes (b / 16) (b % 16) bytes) kind (given_slot s.sizes b given bytes h.of_store e).held in
        more_wanted b bytes (w (Some bytes)) (named (link (slots_now s b))) e (subst (λ x. IsWantedOf s given (w (Some bytes)) (named (link x))) (sym is) (then bytes holds.held))

    from_cell : IsLink s.sizes b → link Free ≡ 0 → IsWantedOf s given (cond (nat_eq b 0) None (w (given_at b given))) (named b ++ named (link (slots_now s b)))
    from_cell l free = elim (cases_Bool (nat_eq b 0)) [
      | inl y ↦
          let none : named (link (slots_now s b)) ≡ [] = ap (λ n. named (link (slots_now s n))) (eqb-true b 0 y) ∙ ap named free in
          rw y (subst (IsWantedOf s given None) (sym none) nothing)
      | inr n ↦ rw n (by_cell (names_cell s.sizes b l n) (given_at b given) refl)
    ]

  -- the directory slot of a group, and then what it names
  module _ (g : ℕ) (inside : g < sender_count s.sizes) where
    group_of_store : IsStoreSlot s.sizes (directory_at g)
    group_of_store =
        let place = senders_have_slots s.sizes g inside in
        let high = place.1 in
        record { page_low = place.0; page_high = omega (arith, high); slot = place.2 }

    group_kind : kind_of s.sizes (directory_at g / 16) ≡ Some kind.Directory
    group_kind = (let place = senders_have_slots s.sizes g inside in kind_directory s.sizes (directory_at g / 16) place.0 place.1)

    from_group : (w : Option (List ℕ) → Option ℕ) (ends : Slot → List ℕ) → w None ≡ Some (directory_at g)
        → ((bytes : List ℕ) → IsLink s.sizes (directory_in bytes).directory.head → IsLink s.sizes (directory_in bytes).directory.tail → IsWantedOf s given (w (Some bytes)) (ends (Sender (directory_in bytes).sender (directory_in bytes).directory)))
        → (o : Option (List ℕ)) → given_at (directory_at g) given ≡ o → IsWantedOf s given (w o) (directory_at g ∷ ends (slots_now s (directory_at g)))
    from_group w ends asks then None e =
        subst (λ x. IsWantedOf s given x (directory_at g ∷ ends (slots_now s (directory_at g)))) (sym asks) (first_wanted (directory_at g) (ends (slots_now s (directory_at g))) group_of_store e)
    from_group w ends asks then (Some bytes) e =
        let is : slots_now s (directory_at g) ≡ Sender (directory_in bytes).sender (directory_in bytes).directory = is_now (directory_at g) bytes e ∙ ap (λ (k : Option PageKind). held_for k bytes) group_kind in
        let holds : HoldsDirectory s.sizes (sender_at (directory_at g / 16) (directory_at g % 16)) bytes =
        subst (λ (k : Option PageKind). IsSlotFor k s.sizes (directory_at g / 16) (directory_at g % 16) bytes) group_kind (given_slot s.sizes (directory_at g) given bytes h.of_store e).held in
        more_wanted (directory_at g) bytes (w (Some bytes)) (ends (slots_now s (directory_at g))) e
        (subst (λ x. IsWantedOf s given (w (Some bytes)) (ends x)) (sym is) (then bytes holds.held.head holds.held.tail))

    -- what each operation wants
    abbrev told : Option (List ℕ)
    told = given_at (directory_at g) given

    sends : IsWantedOf s given (along (to_tail ∷ []) (directory_at g) given) (at_tail (slots_now s) g)
    sends = from_group (λ o. asking (directory_at g) (λ bytes. along_from [] (to_tail bytes)) o given) (λ x. named (tail_in x)) refl (λ bytes head tail. link_wants (directory_in bytes).directory.tail tail) told refl

    receives : IsWantedOf s given (along (to_head ∷ to_next ∷ []) (directory_at g) given) (behind_head (slots_now s) g)
    receives = from_group (λ o. asking (directory_at g) (λ bytes. along_from (to_next ∷ []) (to_head bytes)) o given) (λ x. named (head_in x) ++ named (next_in (slots_now s (head_in x)))) refl
        (λ bytes head tail. from_cell (directory_in bytes).directory.head (λ o. asking (directory_in bytes).directory.head (λ b. along_from [] (to_next b)) o given) next_in refl (λ b may. behind_slot (cell_slot_in b) may) head refl) told refl

    marks : IsWantedOf s given (unless_given (directory_at g) told) (directory_at g ∷ [])
    marks = one_wanted (directory_at g) group_of_store told refl

    unsends : IsWantedOf s given (along (to_tail ∷ to_prev ∷ []) (directory_at g) given) (before_tail (slots_now s) g)
    unsends = from_group (λ o. asking (directory_at g) (λ bytes. along_from (to_prev ∷ []) (to_tail bytes)) o given) (λ x. named (tail_in x) ++ named (prev_in (slots_now s (tail_in x)))) refl
        (λ bytes head tail. from_cell (directory_in bytes).directory.tail (λ o. asking (directory_in bytes).directory.tail (λ b. along_from [] (to_prev b)) o given) prev_in refl (λ b may. before_slot (cell_slot_in b) may) tail refl) told refl

    returns : IsWantedOf s given (along (to_head ∷ []) (directory_at g) given) (at_head (slots_now s) g)
    returns = from_group (λ o. asking (directory_at g) (λ bytes. along_from [] (to_head bytes)) o given) (λ x. named (head_in x)) refl (λ bytes head tail. link_wants (directory_in bytes).directory.head head) told refl

  undoes : (d : Deed) → deed_level d ≡ 1 → IsDeedOf s.sizes d → IsWantedOf s given (chain.undo_wanted (Some d) given) (needed s.sizes (slots_now s) (Undid d))
  undoes (Append g n tag previous body) one inside = unsends g inside
  undoes (UnlinkHead g n tag body) one inside = returns g inside
  undoes (Close g) one inside = marks g inside
  undoes (Mark c tag previous) one inside = absurd (omega (arith, one))

  -- the slot of a client
  client_of_store : (c : ℕ) → c < client_count s.sizes → IsStoreSlot s.sizes (client_slot_at s.sizes c)
  client_of_store c below = let a = clients_have_slots s.sizes c below in record { page_low = (let low = a.0 in omega (arith, low)); page_high = a.1; slot = a.2 }

  tags : (c : ℕ) → c < client_count s.sizes → IsWantedOf s given (client_wanted (Some s.sizes) (Some c) given) (client_slot_at s.sizes c ∷ [])
  tags c below = one_wanted (client_slot_at s.sizes c) (client_of_store c below) (given_at (client_slot_at s.sizes c) given) refl

-- what a job asks for is what it tells
to_do : (given : List Given) (job : Job) (d : Doing) → IsToDo job d → job_wanted job given ≡ chain.wanted (Some d) given
to_do given job d t =
    ap (λ (b : Bool). cond b (chain.undo_wanted (deed_by job.level job.bytes) given) (chain.wanted (doing_by job.level job.bytes) given)) t.forward
    ∙ ap (λ (o : Option Doing). chain.wanted o given) t.told

to_undo : (given : List Given) (job : Job) (d : Deed) → IsToUndo job d → job_wanted job given ≡ chain.undo_wanted (Some d) given
to_undo given job d t =
    ap (λ (b : Bool). cond b (chain.undo_wanted (deed_by job.level job.bytes) given) (chain.wanted (doing_by job.level job.bytes) given)) t.back
    ∙ ap (λ (o : Option Deed). chain.undo_wanted o given) t.told

pub wants_needed : WantsAreNeeded
wants_needed = record {
  sends = λ s given job g tag body h t inside. subst (λ o. IsWantedOf s given o (at_tail (slots_now s) g)) (sym (to_do given job _ t)) (sends s given h g inside);
  receives = λ s given job g h t inside. subst (λ o. IsWantedOf s given o (behind_head (slots_now s) g)) (sym (to_do given job _ t)) (receives s given h g inside);
  closes = λ s given job g h t inside. subst (λ o. IsWantedOf s given o (directory_at g ∷ [])) (sym (to_do given job _ t)) (marks s given h g inside);
  undoes = λ s given job d h t one inside. subst (λ o. IsWantedOf s given o (needed s.sizes (slots_now s) (Undid d))) (sym (to_undo given job d t)) (undoes s given h d one inside);
  tags = λ s given c h below. tags s given h c below;
}

-- what is held behind one slot more was held before, or is that slot's
behind_more : (z : Sizes) (given : List Given) (g : Given) (b : ℕ) (x : Slot) → GivenHolds z (given ++ g ∷ []) b x → GivenHolds z given b x ⊎ ((g.at ≡ b) × (held_in z (b / 16) g.bytes ≡ x))
behind_more z [] g b x h = elim (cases_Bool (nat_eq g.at b)) [
  | inl y ↦ inr (eqb-true g.at b y, subst (HoldsBytes z b x) (ap (λ (t : Bool). cond t (Some g.bytes) None) y) h)
  | inr n ↦ absurd (subst (HoldsBytes z b x) (ap (λ (t : Bool). cond t (Some g.bytes) None) n) h)
]
behind_more z (f ∷ fs) g b x h = elim (cases_Bool (nat_eq f.at b)) [
  | inl y ↦ inl (rw y (subst (HoldsBytes z b x) (ap (λ (t : Bool). cond t (Some f.bytes) (given_at b (fs ++ g ∷ []))) y) h))
  | inr n ↦ ⊎_elim (λ (k : GivenHolds z fs b x). inl (rw n k)) (λ k. inr k) (behind_more z fs g b x (subst (HoldsBytes z b x) (ap (λ (t : Bool). cond t (Some f.bytes) (given_at b (fs ++ g ∷ []))) n) h))
]

module _ (s : State) (given : List Given) (a : ℕ) (bytes : List ℕ) (now : slots_now s a ≡ held_in s.sizes (a / 16) bytes) where
  as_is_more : ((b : ℕ) (x : Slot) → GivenHolds s.sizes given b x → slots_now s b ≡ x) → (b : ℕ) (x : Slot) → GivenHolds s.sizes (with_slot given a bytes) b x → slots_now s b ≡ x
  as_is_more old b x h =
      ⊎_elim (old b x)
      (λ (k : (a ≡ b) × (held_in s.sizes (b / 16) bytes ≡ x)). ap (slots_now s) (sym k.0) ∙ now ∙ ap (λ n. held_in s.sizes (n / 16) bytes) k.0 ∙ k.1)
      (behind_more s.sizes given (record { at = a; bytes = bytes }) b x h)

  off_more : ((b : ℕ) (x : Slot) → GivenHolds s.sizes given b x → latched_in s.rows (b / 16) ≡ false) → latched_in s.rows (a / 16) ≡ false → (b : ℕ) (x : Slot) → GivenHolds s.sizes (with_slot given a bytes) b x → latched_in s.rows (b / 16) ≡ false
  off_more old off b x h =
      ⊎_elim (old b x)
      (λ (k : (a ≡ b) × (held_in s.sizes (b / 16) bytes ≡ x)). ap (λ n. latched_in s.rows (n / 16)) (sym k.0) ∙ off)
      (behind_more s.sizes given (record { at = a; bytes = bytes }) b x h)

pub slots_gathered : SlotsAreGathered
slots_gathered = record {
  none_given = λ s. record { of_store = λ k d lt. absurd (omega (arith, lt)); as_is = λ a x h. absurd h };
  one_given = λ s given a bytes h place slot now. record {
    of_store = All-append (IsGiven s.sizes) given (record { at = a; bytes = bytes } ∷ []) h.of_store (All-cons (IsGiven s.sizes) (record { at = a; bytes = bytes }) [] (record { place = place; bytes = slot }) (λ k d lt. absurd (omega (arith, lt))));
    as_is = as_is_more s given a bytes now h.as_is;
  };
  none_gathered = λ s. record { as_is = λ a x h. absurd h; unlatched = λ a x h. absurd h };
  one_gathered = λ s given a bytes h now off. record {
    as_is = as_is_more s given a bytes now h.as_is;
    unlatched = off_more s given a bytes now h.unlatched off;
  };
}
