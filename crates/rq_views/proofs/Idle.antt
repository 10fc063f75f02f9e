-- Operations that have no record, or have their end: they have written nothing that is not whole, and stand on no page.
use Rattle.rq_model.specs.declared.txn.Sub.{Sub}
use Rattle.std.proofs.Common.{◌≡◌, ℕ, ◌&&◌, inl, inr, List, [], ◌∷◌, Bool, true, false, refl, sym, ap, ◌∙◌}
use Rattle.std.specs.Prelude.{not}
use Rattle.std.proofs.lemmas.Bool.{cases_Bool, cond-true, cond-false, and_parts, and_cases, and_left, and_right, or_cases, or_parts, or_from, not-false, false≢true, true≢false}
use Rattle.rq_views.specs.Log.{Write, Places, LogState, Item, act, same_op, writes_after, stands_after, state_of}
use Rattle.rq_views.specs.Log.Item.{PageOp, PageUndo, OpEnd, OpVoid, CompEnd}
use Rattle.rq_views.specs.Legal.{of_op, is_of, began, is_end, over, under_way, is_undo, turned_back, on_page, crossed, MayFollow, IsLegalLog}
use Rattle.rq_views.proofs.Overlay.{Good, same_is}
use Rattle.rq_views.proofs.Views.{good}

-- a record of no operation, or of another
other_writes : (r : Item) (o : Sub) (ws : List Write) → is_of o (of_op r) ≡ false → writes_after (act r) o ws ≡ ws
other_writes (PageOp u w) o ws n = cond-false (same_op u o) (w ∷ ws) ws n
other_writes (PageUndo u k at after) o ws n = cond-false (same_op u o) _ ws n
other_writes (OpEnd u d) o ws n = cond-false (same_op u o) [] ws n
other_writes (OpVoid u) o ws n = cond-false (same_op u o) [] ws n
other_writes (CompEnd u k) o ws n = cond-false (same_op u o) [] ws n
other_writes _ o ws n = refl

other_stands : (page : ℕ → ℕ) (r : Item) (o : Sub) (p : ℕ) (b : Bool) → is_of o (of_op r) ≡ false → stands_after page (act r) o p b ≡ b
other_stands page (PageOp u w) o p b n = rw n refl
other_stands page (OpEnd u d) o p b n = cond-false (same_op u o) false b n
other_stands page (OpVoid u) o p b n = cond-false (same_op u o) false b n
other_stands page (CompEnd u k) o p b n = cond-false (same_op u o) false b n
other_stands page _ o p b n = refl

-- the operation's own end
ended_writes : (r : Item) (o : Sub) (ws : List Write) → is_end r ≡ true → is_of o (of_op r) ≡ true → writes_after (act r) o ws ≡ []
ended_writes (OpEnd u d) o ws e y = cond-true (same_op u o) [] ws y
ended_writes (OpVoid u) o ws e y = cond-true (same_op u o) [] ws y
ended_writes (CompEnd u k) o ws e y = cond-true (same_op u o) [] ws y
ended_writes _ o ws e y = absurd (false≢true e)

ended_stands : (page : ℕ → ℕ) (r : Item) (o : Sub) (p : ℕ) (b : Bool) → is_end r ≡ true → is_of o (of_op r) ≡ true → stands_after page (act r) o p b ≡ false
ended_stands page (OpEnd u d) o p b e y = cond-true (same_op u o) false b y
ended_stands page (OpVoid u) o p b e y = cond-true (same_op u o) false b y
ended_stands page (CompEnd u k) o p b e y = cond-true (same_op u o) false b y
ended_stands page _ o p b e y = absurd (false≢true e)

-- an operation that never began has written nothing
pub unbegun_writes : (l : Places) (log : List Item) (o : Sub) → began o log ≡ false → (state_of l log).writes o ≡ []
unbegun_writes l [] o h = refl
unbegun_writes l (r ∷ log) o h = let p = or_parts (is_of o (of_op r)) (began o log) h in other_writes r o ((state_of l log).writes o) p.0 ∙ unbegun_writes l log o p.1

-- and stands nowhere
pub unbegun_stands : (l : Places) (log : List Item) (o : Sub) (p : ℕ) → began o log ≡ false → (state_of l log).stands o p ≡ false
unbegun_stands l [] o p h = refl
unbegun_stands l (r ∷ log) o p h = let k = or_parts (is_of o (of_op r)) (began o log) h in other_stands l.page r o p ((state_of l log).stands o p) k.0 ∙ unbegun_stands l log o p k.1

-- has no end
pub unbegun_over : (log : List Item) (o : Sub) → began o log ≡ false → over o log ≡ false
unbegun_over [] o h = refl
unbegun_over (r ∷ log) o h = let p = or_parts (is_of o (of_op r)) (began o log) h in or_from (is_end r && is_of o (of_op r)) (over o log) (and_right (is_end r) (is_of o (of_op r)) p.0) (unbegun_over log o p.1)

-- has undone no write
pub unbegun_forward : (log : List Item) (o : Sub) → began o log ≡ false → turned_back o log ≡ false
unbegun_forward [] o h = refl
unbegun_forward (r ∷ log) o h = let p = or_parts (is_of o (of_op r)) (began o log) h in or_from (is_undo r && is_of o (of_op r)) (turned_back o log) (and_right (is_undo r) (is_of o (of_op r)) p.0) (unbegun_forward log o p.1)

-- and is crossed on no page
pub unbegun_uncrossed : (page : ℕ → ℕ) (log : List Item) (o : Sub) (p : ℕ) → began o log ≡ false → crossed page o p log ≡ false
unbegun_uncrossed page [] o p h = refl
unbegun_uncrossed page (r ∷ log) o p h =
    let k = or_parts (is_of o (of_op r)) (began o log) h in
    or_from (began o log && (on_page page p r && not (is_of o (of_op r)))) (crossed page o p log) (and_left (began o log) (on_page page p r && not (is_of o (of_op r))) k.1) (unbegun_uncrossed page log o p k.1)

-- an operation with a record may have it only while it has no end
may_going : (l : Places) (log : List Item) (r : Item) (o : Sub) → MayFollow l log r → is_of o (of_op r) ≡ true → over o log ≡ false
may_going l log (PageOp u w) o may y = ap (λ x. over x log) (sym (same_is u o y)) ∙ may.going
may_going l log (PageUndo u k at after) o may y = ap (λ x. over x log) (sym (same_is u o y)) ∙ may.going
may_going l log (OpEnd u d) o may y = ap (λ x. over x log) (sym (same_is u o y)) ∙ may.going
may_going l log (OpVoid u) o may y = ap (λ x. over x log) (sym (same_is u o y)) ∙ may.going
may_going l log (CompEnd u k) o may y = ap (λ x. over x log) (sym (same_is u o y)) ∙ may.going
may_going l log _ o may y = absurd (false≢true y)

-- an operation that has its end has no writes that are not whole
pub over_writes : (l : Places) (log : List Item) (o : Sub) → IsLegalLog l log → over o log ≡ true → (state_of l log).writes o ≡ []
over_writes l [] o k h = absurd (false≢true h)
over_writes l (r ∷ log) o k h = elim (or_cases (is_end r && is_of o (of_op r)) (over o log) h) [
  | inl y ↦ let p = and_parts (is_end r) (is_of o (of_op r)) y in ended_writes r o ((state_of l log).writes o) p.0 p.1
  | inr y ↦ elim (cases_Bool (is_of o (of_op r))) [
    | inl own ↦ absurd (false≢true (sym (may_going l log r o k.0 own) ∙ y))
    | inr other ↦ other_writes r o ((state_of l log).writes o) other ∙ over_writes l log o k.1 y
  ]
]

-- and stands nowhere
pub over_stands : (l : Places) (log : List Item) (o : Sub) (p : ℕ) → IsLegalLog l log → over o log ≡ true → (state_of l log).stands o p ≡ false
over_stands l [] o p k h = refl
over_stands l (r ∷ log) o p k h = elim (or_cases (is_end r && is_of o (of_op r)) (over o log) h) [
  | inl y ↦ let e = and_parts (is_end r) (is_of o (of_op r)) y in ended_stands l.page r o p ((state_of l log).stands o p) e.0 e.1
  | inr y ↦ elim (cases_Bool (is_of o (of_op r))) [
    | inl own ↦ absurd (false≢true (sym (may_going l log r o k.0 own) ∙ y))
    | inr other ↦ other_stands l.page r o p ((state_of l log).stands o p) other ∙ over_stands l log o p k.1 y
  ]
]

-- an operation that is not under way has no writes that are not whole
pub idle_writes : (l : Places) (log : List Item) (o : Sub) → IsLegalLog l log → under_way o log ≡ false → (state_of l log).writes o ≡ []
idle_writes l log o k h = elim (and_cases (began o log) (not (over o log)) h) [
  | inl n ↦ unbegun_writes l log o n
  | inr y ↦ over_writes l log o k (not-false (over o log) y)
]

-- and stands nowhere
pub idle_stands : (l : Places) (log : List Item) (o : Sub) (p : ℕ) → IsLegalLog l log → under_way o log ≡ false → (state_of l log).stands o p ≡ false
idle_stands l log o p k h = elim (and_cases (began o log) (not (over o log)) h) [
  | inl n ↦ unbegun_stands l log o p n
  | inr y ↦ over_stands l log o p k (not-false (over o log) y)
]

-- where nobody stands, the slots are those that whole operations have written
pub nowhere_quiet : (page : ℕ → ℕ) (z : LogState) → Good page z → ((o : Sub) (p : ℕ) → z.stands o p ≡ false) → (a : ℕ) → z.slots a ≡ z.quiet a
nowhere_quiet page z g h a = elim (g.each a) [
  | inl k ↦ absurd (true≢false (sym k.1 ∙ h k.0 (page a)))
  | inr k ↦ k.1
]

-- and so they are where no operation is under way
pub idle_quiet : (l : Places) (log : List Item) → IsLegalLog l log → ((o : Sub) → under_way o log ≡ false) → (a : ℕ) → (state_of l log).slots a ≡ (state_of l log).quiet a
idle_quiet l log k h a = nowhere_quiet l.page (state_of l log) (good l log k) (λ o p. idle_stands l log o p k (h o)) a
