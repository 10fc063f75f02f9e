-- Several operations under way, each with its own latched pages: what is so of one stays so while another makes a write
-- or ends.
use Rattle.std.proofs.Common.{◌≡◌, ◌≢◌, ℕ, ◌+◌, ◌/◌, ◌%◌, ◌<◌, ◌==◌, ◌&&◌, ◌||◌, ◌++◌, ◌⊎◌, List, [], ◌∷◌, length, map, take, drop, reverse, refl, sym, ◌∙◌, ap, subst, zero, suc, Bool, true, false, not, Some, inl, inr, nat_eq, cond, if◌then◌else◌, arith}
use Rattle.std.proofs.lemmas.Bool.{false≢true, true≢false, cases_Bool, or_from, or_parts, eqb-true, eq-eqb, cond-false, or_right, and_right}
use Rattle.std.proofs.lemmas.List.{reverse-append}
use Rattle.std.specs.List.{slice_get}
use Rattle.std.proofs.Math.Bool.{and-false}
use Rattle.rq_model.specs.declared.txn.Txn.{Txn}
use Rattle.rq_model.specs.declared.txn.Sub.{Sub}
use Rattle.rq_model.specs.declared.record.Deed.{Deed}
use Rattle.rq_model.specs.declared.record.Record.{Record}
use Rattle.rq_model.specs.declared.record.Record.TheVariants.{Commit, AbortEnd}
use Rattle.rq_model.specs.Vocabulary.{same_txn}
use Rattle.rq_model.specs.Deeds.{deed_by, deed_level, spelled_deed, TellsItself}
use Rattle.rq_page.specs.Sizes.{Sizes, address, directory_at, sender_count}
use Rattle.rq_page.specs.Slots.{held_in}
use Rattle.rq_views.specs.Log.{Write, HasBefores, Untouched, same_op, Wrote, Done}
use Rattle.rq_views.specs.Legal.{Placed, open_deeds, undoing, IsLegalLog, began, under_way, onto, view, view_after}
use Rattle.rq_level.specs.Given.{has_page}
use Rattle.rq_views.specs.Plans.{ShowsAt, IsPlan, deed_sender, with_turn}
use Rattle.rq_views.specs.Plans.Turn.{Did, Undid}
use Rattle.rq_views.specs.InStore.{IsDeedOf}
use Rattle.rq_views.specs.Items.{items, layout_of, operation, told_deed}
use Rattle.rq_views.specs.Owed.{Owes}
use Rattle.rq_level.specs.Writes.{write_of, writes_of}
use Rattle.rq_level.specs.declared.writes.SlotWrite.{SlotWrite}
use Rattle.rq_views.proofs.Overlay.{Good, same_self as same_op_self}
use Rattle.rq_txn.specs.Rows.{Under, deed_of, latched_by}
use Rattle.rq_sound.proofs.Latched.{slots_are_quiet, IsFor, shown_unlatched}
use Rattle.rq_views.proofs.Stands.{store_is_layout}
use Rattle.rq_views.proofs.Idle.{idle_writes, idle_stands, unbegun_writes, unbegun_stands, unbegun_over, unbegun_forward, unbegun_uncrossed}
use Rattle.rq_views.proofs.Views.{good}
use Rattle.rq_views.proofs.Owes.{owes_start, owes_rest, owes_other}
use Rattle.rq_groups.specs.Ends.{HeldEnds}
use Rattle.rq_store.specs.Fitting.{left_by}
use Rattle.rq_store.specs.Rows.{HoldsFor}
use Rattle.rq_sound.specs.Rows.{comp_end, turn_of}
use Rattle.rq_sound.specs.Standing.{TellsFor, ReadsFor, FollowsPlan}
use Rattle.rq_store.specs.Steps.{page_op, op_end}
use Rattle.rq_store.proofs.Others.{other_op}
use Rattle.rq_store.proofs.Owing.{onto_whole, onto_nil}

never : (a c : Bool) → (a && (false && c)) ≡ false
never true c = refl
never false c = refl

unless_same : (a : ℕ) (p : ℕ) (latched : ℕ → Bool) → latched a ≡ false → latched p ≡ true → (a == p) ≡ false
unless_same a p latched off on = elim (cases_Bool (a == p)) [
  | inl y ↦ absurd (false≢true (sym off ∙ ap latched (eqb-true a p y) ∙ on))
  | inr n ↦ n
]

pub page_is : (a : ℕ) → address (a / 16) (a % 16) / 16 ≡ a / 16
page_is a = omega arith

module _ (z : Sizes) (log : List Record) (ends : HeldEnds) (t : Txn) (u : Under) (v : Txn) (n : ℕ) (apart : same_txn v t ≡ false) (apart_back : same_txn t v ≡ false)
    (slots_good : Good (layout_of z).page (left_by z log)) (g : FollowsPlan z log ends t u) where
  abbrev o : Sub
  o = operation t u.number

  abbrev by : Sub
  by = operation v n

  not_own : same_op by o ≡ false
  not_own = other_op v t n u.number apart

  not_own_back : same_op o by ≡ false
  not_own_back = other_op t v u.number n apart_back

  -- another operation makes a write, on a page that this one has not latched
  pub other_steps : (w : SlotWrite) → latched_by u (w.at / 16) ≡ false → FollowsPlan z (page_op v n w ∷ log) ends t u
  other_steps w off =
      let wr : Write = record { at = address (w.at / 16) (w.at % 16); before = held_in z (w.at / 16) w.before; after = held_in z (w.at / 16) w.after } in
      let off' : latched_by u (wr.at / 16) ≡ false = ap (latched_by u) (page_is w.at) ∙ off in
      record {
        made = g.made;
        going = g.going;
        forward = g.forward;
        uncrossed = λ p on. or_from _ _ (ap (λ b. began o (items z log) && (b && not (same_op by o))) (unless_same (wr.at / 16) p (latched_by u) off' on) ∙ never (began o (items z log)) (not (same_op by o))) (g.uncrossed p on);
        stands = λ p none. or_from _ _ (ap (λ b. b && (wr.at / 16 == p)) not_own) (g.stands p none);
        written = cond-false (same_op by o) _ _ not_own ∙ g.written;
        owes = owes_other (layout_of z).page (left_by z log) o (latched_by u) (drop u.made (writes_of z u.writes)) (Wrote by wr) slots_good (not_own, off') g.owes;
        plan = g.plan;
        told = g.told;
        held = g.held;
        of_store = g.of_store;
        reads = g.reads;
      }

  -- another operation ends, of another sender
  pub other_ends : (d : Deed) → TellsItself d → deed_sender d ≢ deed_sender (deed_of u.aim) → FollowsPlan z (op_end v n d ∷ log) ends t u
  other_ends d reads ne =
      let deed_is : told_deed (deed_by (deed_level d) (spelled_deed d)) ≡ d = ap told_deed reads in
      let other : (deed_sender (told_deed (deed_by (deed_level d) (spelled_deed d))) == deed_sender (deed_of u.aim)) ≡ false = elim (cases_Bool (deed_sender (told_deed (deed_by (deed_level d) (spelled_deed d))) == deed_sender (deed_of u.aim))) [
        | inl y ↦ absurd (ne (sym (ap deed_sender deed_is) ∙ eqb-true _ _ y))
        | inr k ↦ k
      ] in
      record {
        made = g.made;
        going = or_from _ _ not_own g.going;
        forward = g.forward;
        uncrossed = λ p on. or_from _ _ (never (began o (items z log)) (not (same_op by o))) (g.uncrossed p on);
        stands = λ p none. cond-false (same_op by o) _ _ not_own ∙ g.stands p none;
        written = cond-false (same_op by o) _ _ not_own ∙ g.written;
        owes = owes_other (layout_of z).page (left_by z log) o (latched_by u) (drop u.made (writes_of z u.writes)) (Done by) slots_good (not_own, not_own_back) g.owes;
        plan = g.plan;
        told = subst (TellsFor u.aim) (sym (ap (λ b. if b then with_turn (Did (told_deed (deed_by (deed_level d) (spelled_deed d)))) (view (items z log) (deed_sender (deed_of u.aim))) else view (items z log) (deed_sender (deed_of u.aim))) other)) g.told;
        held = g.held;
        of_store = g.of_store;
        reads = g.reads;
      }

  -- another operation's compensation ends, of another sender
  pub other_undoes : (lsn : ℕ) (p : Placed) (ps : List Placed) → open_deeds v (items z log) ≡ p ∷ ps → deed_sender p.deed ≢ deed_sender (deed_of u.aim) → FollowsPlan z (comp_end v n lsn ∷ log) ends t u
  other_undoes lsn p ps is ne =
      let other : (deed_sender p.deed == deed_sender (deed_of u.aim)) ≡ false = elim (cases_Bool (deed_sender p.deed == deed_sender (deed_of u.aim))) [
        | inl y ↦ absurd (ne (eqb-true _ _ y))
        | inr k ↦ k
      ] in
      let same : view (items z (comp_end v n lsn ∷ log)) (deed_sender (deed_of u.aim)) ≡ view (items z log) (deed_sender (deed_of u.aim)) =
      ap (λ qs. view_after (deed_sender (deed_of u.aim)) (undoing qs) (view (items z log) (deed_sender (deed_of u.aim)))) is
      ∙ ap (λ b. if b then with_turn (Undid p.deed) (view (items z log) (deed_sender (deed_of u.aim))) else view (items z log) (deed_sender (deed_of u.aim))) other in
      record {
        made = g.made;
        going = or_from _ _ not_own g.going;
        forward = g.forward;
        uncrossed = λ p on. or_from _ _ (never (began o (items z log)) (not (same_op by o))) (g.uncrossed p on);
        stands = λ p none. cond-false (same_op by o) _ _ not_own ∙ g.stands p none;
        written = cond-false (same_op by o) _ _ not_own ∙ g.written;
        owes = owes_other (layout_of z).page (left_by z log) o (latched_by u) (drop u.made (writes_of z u.writes)) (Done by) slots_good (not_own, not_own_back) g.owes;
        plan = g.plan;
        told = subst (TellsFor u.aim) (sym same) g.told;
        held = g.held;
        of_store = g.of_store;
        reads = g.reads;
      }

-- another transaction ends, and the ends may be others
pub other_gone : (z : Sizes) (log : List Record) (ends after : HeldEnds) (t : Txn) (u : Under) (v : Txn) → HoldsFor after t (deed_of u.aim) → FollowsPlan z log ends t u → FollowsPlan z (Commit v ∷ log) after t u × FollowsPlan z (AbortEnd v ∷ log) after t u
other_gone z log ends after t u v held g = (
  record { made = g.made; going = g.going; forward = g.forward; uncrossed = λ p on. or_from _ _ (and-false (began (operation t u.number) (items z log))) (g.uncrossed p on); stands = g.stands; written = g.written; owes = g.owes; plan = g.plan; told = g.told; held = held; of_store = g.of_store; reads = g.reads },
  record { made = g.made; going = g.going; forward = g.forward; uncrossed = λ p on. or_from _ _ (and-false (began (operation t u.number) (items z log))) (g.uncrossed p on); stands = g.stands; written = g.written; owes = g.owes; plan = g.plan; told = g.told; held = held; of_store = g.of_store; reads = g.reads },
)

-- other ends
pub with_ends : (z : Sizes) (log : List Record) (ends after : HeldEnds) (t : Txn) (u : Under) → HoldsFor after t (deed_of u.aim) → FollowsPlan z log ends t u → FollowsPlan z log after t u
with_ends z log ends after t u held g = record { made = g.made; going = g.going; forward = g.forward; uncrossed = g.uncrossed; stands = g.stands; written = g.written; owes = g.owes; plan = g.plan; told = g.told; held = held; of_store = g.of_store; reads = g.reads }

-- the page of a planned write is latched
pub page_latched : (us : List SlotWrite) (k : ℕ) (w : SlotWrite) → slice_get us k ≡ Some w → has_page (w.at / 16) (map (λ x. x.at / 16) us) ≡ true
page_latched [] k w e = cc
page_latched (x ∷ us) zero w e = let same : x ≡ w = cc in ap (λ b. b || has_page (w.at / 16) (map (λ y. y.at / 16) us)) (eq-eqb (x.at / 16) (w.at / 16) (ap (λ (y : SlotWrite). y.at / 16) same))
page_latched (x ∷ us) (suc k) w e = or_right (nat_eq (x.at / 16) (w.at / 16)) (has_page (w.at / 16) (map (λ y. y.at / 16) us)) (page_latched us k w e)

-- no planned write is on a page that is not latched
pub off_latched : (z : Sizes) (a : ℕ) (us : List SlotWrite) (ws : List Write) → has_page (a / 16) (map (λ w. w.at / 16) us) ≡ false → Untouched a ws → Untouched a (onto (writes_of z us) ws)
off_latched z a [] ws e h = h
off_latched z a (w ∷ us) ws e h =
    let parts = or_parts (nat_eq (w.at / 16) (a / 16)) (has_page (a / 16) (map (λ x. x.at / 16) us)) e in
    off_latched z a us (write_of z w ∷ ws) parts.1 ((λ same. true≢false (sym (eq-eqb (w.at / 16) (a / 16) (ap (λ n. n / 16) (sym same))) ∙ parts.0)), h)

pub drop_next : {X : Type 0} (xs : List X) (k : ℕ) (x : X) → slice_get xs k ≡ Some x → drop k xs ≡ x ∷ drop (k + 1) xs
drop_next [] k x e = cc
drop_next (y ∷ xs) zero x e = let k : y ≡ x = cc in ap (λ z. z ∷ xs) k
drop_next (y ∷ xs) (suc k) x e = let n : suc k + 1 ≡ suc (k + 1) = omega arith in rw n (drop_next xs k x e)

pub take_next : {X : Type 0} (xs : List X) (k : ℕ) (x : X) → slice_get xs k ≡ Some x → take (k + 1) xs ≡ take k xs ++ x ∷ []
take_next [] k x e = cc
take_next (y ∷ xs) zero x e = let k : y ≡ x = cc in ap (λ z. z ∷ []) k
take_next (y ∷ xs) (suc k) x e = let n : suc k + 1 ≡ suc (k + 1) = omega arith in rw n (ap (λ l. y ∷ l) (take_next xs k x e))

pub get_written : {X Y : Type 0} (f : X → Y) (xs : List X) (k : ℕ) (x : X) → slice_get xs k ≡ Some x → slice_get (map f xs) k ≡ Some (f x)
get_written f [] k x e = cc
get_written f (y ∷ xs) zero x e = let k : y ≡ x = cc in ap (λ z. Some (f z)) k
get_written f (y ∷ xs) (suc k) x e = get_written f xs k x e

own_never : (a b : Bool) → (a && (b && not true)) ≡ false
own_never true true = refl
own_never true false = refl
own_never false b = refl

module _ (z : Sizes) (log : List Record) (ends : HeldEnds) (t : Txn) (u : Under) (w : SlotWrite) (next : slice_get u.writes u.made ≡ Some w) (more : u.made < length u.writes)
    (slots_good : Good (layout_of z).page (left_by z log)) (g : FollowsPlan z log ends t u) where
  abbrev own : Sub
  own = operation t u.number

  abbrev whole : List Write
  whole = writes_of z u.writes

  abbrev wr : Write
  wr = record { at = address (w.at / 16) (w.at % 16); before = held_in z (w.at / 16) w.before; after = held_in z (w.at / 16) w.after }

  wr_is : wr ≡ write_of z w
  wr_is = ap (λ (a : ℕ). record { at = a; before = held_in z (w.at / 16) w.before; after = held_in z (w.at / 16) w.after }) (let e : address (w.at / 16) (w.at % 16) ≡ w.at = omega arith in e)

  next_is : slice_get whole u.made ≡ Some wr
  next_is = get_written (write_of z) u.writes u.made w next ∙ ap (λ (y : Write). Some y) (sym wr_is)

  on_latched : latched_by u (wr.at / 16) ≡ true
  on_latched = ap (latched_by u) (page_is w.at) ∙ page_latched u.writes u.made w next

  -- it makes its own next write
  pub own_steps : FollowsPlan z (page_op t u.number w ∷ log) ends t (record u { made = u.made + 1 })
  own_steps = record {
    made = omega (arith, more);
    going = g.going;
    forward = g.forward;
    uncrossed = λ p on. rw (same_op_self own) (or_from _ _ (own_never (began own (items z log)) (wr.at / 16 == p)) (g.uncrossed p on));
    stands = λ p none. or_from _ _ (and_right (same_op own own) (wr.at / 16 == p) (elim (cases_Bool (wr.at / 16 == p)) [
      | inl y ↦ absurd (true≢false (sym on_latched ∙ ap (latched_by u) (eqb-true (wr.at / 16) p y) ∙ none))
      | inr k ↦ k
    ])) (g.stands p none);
    written = ap (λ b. cond b (wr ∷ (left_by z log).writes own) ((left_by z log).writes own)) (same_op_self own) ∙ ap (λ l. wr ∷ l) g.written ∙ sym (ap reverse (take_next whole u.made wr next_is) ∙ reverse-append (take u.made whole) (wr ∷ []));
    owes = owes_rest (layout_of z).page (left_by z log) slots_good own (latched_by u) wr (drop (u.made + 1) whole) (subst (λ ws. Owes (layout_of z).page (left_by z log) own (latched_by u) ws) (drop_next whole u.made wr next_is) g.owes);
    plan = g.plan;
    told = g.told;
    held = g.held;
    of_store = g.of_store;
    reads = g.reads;
  }

-- An operation starts whose latched pages are nobody else's: its plan fits the slots as they are.
pub starts : (z : Sizes) (log : List Record) (ends : HeldEnds) (t : Txn) (u : Under) → IsLegalLog (layout_of z) (items z log) → began (operation t u.number) (items z log) ≡ false → u.made ≡ 0
    → ((p : ℕ) → latched_by u p ≡ true → (v : Sub) → same_op (operation t u.number) v ≡ false → (left_by z log).stands v p ≡ false)
    → HasBefores (reverse (writes_of z u.writes)) (left_by z log).slots → IsPlan (layout_of z) (turn_of u.aim) (reverse (writes_of z u.writes)) → TellsFor u.aim (view (items z log) (deed_sender (deed_of u.aim)))
    → HoldsFor ends t (deed_of u.aim) → IsDeedOf z (deed_of u.aim) → ReadsFor u.aim → FollowsPlan z log ends t u
starts z log ends t u legal fresh made alone fits plan told held of_store reads =
    let o = operation t u.number in
    let whole = writes_of z u.writes in
    let none = unbegun_writes (layout_of z) (items z log) o fresh in
    let all : Owes (layout_of z).page (left_by z log) o (latched_by u) whole =
    owes_start (layout_of z).page (left_by z log) (good (layout_of z) (items z log) legal) o (latched_by u) whole none (λ p. unbegun_stands (layout_of z) (items z log) o p fresh)
    (subst (λ ws. HasBefores ws (left_by z log).slots) (sym (onto_nil whole)) fits) (λ a off. off_latched z a u.writes [] off tt) alone in
    record {
      made = (let e = made in omega (arith, e));
      going = unbegun_over (items z log) o fresh;
      forward = unbegun_forward (items z log) o fresh;
      uncrossed = λ p on. unbegun_uncrossed (layout_of z).page (items z log) o p fresh;
      stands = λ p off. unbegun_stands (layout_of z) (items z log) o p fresh;
      written = none ∙ sym (ap (λ (n : ℕ). reverse (take n whole)) made);
      owes = subst (λ (n : ℕ). Owes (layout_of z).page (left_by z log) o (latched_by u) (drop n whole)) (sym made) all;
      plan = plan;
      told = told;
      held = held;
      of_store = of_store;
      reads = reads;
    }

-- an operation is not under way, or this is so of it
pub data IsOne (z : Sizes) (log : List Record) (ends : HeldEnds) (latched : ℕ → Bool) (o : Sub) : Type 0 where
  Idle : under_way o (items z log) ≡ false → IsOne z log ends latched o
  Going : (t : Txn) (u : Under) → operation t u.number ≡ o → FollowsPlan z log ends t u → ((p : ℕ) → latched p ≡ false → latched_by u p ≡ false) → IsOne z log ends latched o

-- nobody stands on a page that nobody has latched
stands_not : (z : Sizes) (log : List Record) (ends : HeldEnds) (latched : ℕ → Bool) (o : Sub) (p : ℕ) → IsLegalLog (layout_of z) (items z log) → latched p ≡ false → IsOne z log ends latched o → (left_by z log).stands o p ≡ false
stands_not z log ends latched o p legal off (Idle e) = idle_stands (layout_of z) (items z log) o p legal e
stands_not z log ends latched o p legal off (Going t u is g within) = subst (λ (v : Sub). (left_by z log).stands v p ≡ false) is (g.stands p (within p off))

pub nobody_stands : (z : Sizes) (log : List Record) (ends : HeldEnds) (latched : ℕ → Bool) (p : ℕ) → IsLegalLog (layout_of z) (items z log) → ((o : Sub) → IsOne z log ends latched o) → latched p ≡ false → (o : Sub) → (left_by z log).stands o p ≡ false
nobody_stands z log ends latched p legal all off o = stands_not z log ends latched o p legal off (all o)

-- so its slots are those that whole operations have written
pub unlatched_is_quiet : (z : Sizes) (log : List Record) (ends : HeldEnds) (latched : ℕ → Bool) (a : ℕ) → IsLegalLog (layout_of z) (items z log) → ((o : Sub) → IsOne z log ends latched o) → latched (a / 16) ≡ false
    → (left_by z log).slots a ≡ (left_by z log).quiet a
unlatched_is_quiet z log ends latched a legal all off = slots_are_quiet (layout_of z).page (left_by z log) a (good (layout_of z) (items z log) legal) (nobody_stands z log ends latched (a / 16) legal all off)

is_for : (z : Sizes) (log : List Record) (ends : HeldEnds) (latched : ℕ → Bool) (s : ℕ) (o : Sub) → IsLegalLog (layout_of z) (items z log) → latched (directory_at s / 16) ≡ false → IsOne z log ends latched o
    → ((left_by z log).writes o ≡ []) ⊎ IsFor (layout_of z) s ((left_by z log).writes o)
is_for z log ends latched s o legal off (Idle e) = inl (idle_writes (layout_of z) (items z log) o legal e)
is_for z log ends latched s o legal off (Going t u is g within) =
    let whole = writes_of z u.writes in
    let all : onto (drop u.made whole) ((left_by z log).writes (operation t u.number)) ≡ reverse whole = ap (onto (drop u.made whole)) g.written ∙ onto_whole whole u.made in
    inr (subst (λ (v : Sub). IsFor (layout_of z) s ((left_by z log).writes v)) is (record {
      turn = turn_of u.aim;
      owed = drop u.made whole;
      plan = subst (IsPlan (layout_of z) (turn_of u.aim)) (sym all) g.plan;
      off = g.owes.within (directory_at s) (within (directory_at s / 16) off);
    }))

-- and where nobody has latched the page of a sender's directory slot, the slots show the sender's view
pub shown_beside : (z : Sizes) (log : List Record) (ends : HeldEnds) (latched : ℕ → Bool) (s : ℕ) → IsLegalLog (layout_of z) (items z log) → ((o : Sub) → IsOne z log ends latched o) → s < sender_count z → latched (directory_at s / 16) ≡ false
    → ShowsAt (layout_of z) (left_by z log).slots s (view (items z log) s)
shown_beside z log ends latched s legal all below off = shown_unlatched (layout_of z) (items z log) s (store_is_layout z) legal below (λ o. is_for z log ends latched s o legal off (all o))
