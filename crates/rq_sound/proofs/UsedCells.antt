-- The cells that the slots use, while operations are under way: an operation uses at most one cell more than before it,
-- and only where it appends or puts back.
use Rattle.std.proofs.Common.{◌≡◌, ℕ, zero, suc, ◌+◌, ◌-◌, ◌<◌, ◌≤◌, ◌++◌, List, [], ◌∷◌, take, reverse, refl, sym, ap, subst, Bool, true, false, cond, Option, Some, None, inl, inr, arith}
use Rattle.std.specs.List.{sum_by}
use Rattle.std.proofs.lemmas.Bool.{cases_Bool, true≢false}
use Rattle.std.proofs.lemmas.List.{reverse-append}
use Rattle.std.proofs.lemmas.List.Sums.{sum_by-cons, sum_by-append, sum_by-take-le, length-filter}
use Rattle.rq_model.specs.declared.record.Deed.TheVariants.{Append, UnlinkHead, Close, Mark}
use Rattle.rq_model.specs.Tests.{below}
use Rattle.rq_model.proofs.Counts.{sum_more}
use Rattle.rq_page.specs.declared.cell.Cell.{Cell}
use Rattle.rq_page.specs.Sizes.{Sizes, IsCellAddress, cell_count, cell_at}
use Rattle.rq_page.specs.Slots.{Slot}
use Rattle.rq_page.specs.Slots.Slot.{Free, Used, Sender, Client}
use Rattle.rq_page.proofs.Addresses.{cells_have_places}
use Rattle.rq_views.specs.Log.{Slots, Write, Places, applied, HasBefores}
use Rattle.rq_views.specs.Chain.{directory_appended}
use Rattle.rq_views.specs.Plans.{Turn, IsPlan, relinked, with_next, with_prev, client_write, directory_write, directory_head_unlinked, directory_tail_unlinked, directory_put_back}
use Rattle.rq_views.specs.Plans.Turn.{Did, Undid}
use Rattle.rq_views.specs.Stored.{is_used, count_used}
use Rattle.rq_views.specs.InStore.{AllStand, IsInPlace, WritesStand}
use Rattle.rq_views.proofs.Counting.{used_before, used_after, gained, lost, count_writes}
use Rattle.rq_sound.specs.Counted.{uses_before, uses_after}

-- one write uses a cell that was free
abbrev pub rise : Write → ℕ
rise w = uses_after w - uses_before w

pub sum_reverse : {X : Type 0} (f : X → ℕ) (xs : List X) → sum_by f (reverse xs) ≡ sum_by f xs
sum_reverse f [] = refl
sum_reverse f (x ∷ xs) =
    let a : sum_by f (reverse (x ∷ xs)) ≡ sum_by f (reverse xs ++ x ∷ []) = ap (sum_by f) (reverse-append (x ∷ []) xs) in
    let b = sum_by-append f (reverse xs) (x ∷ []) in
    let c = sum_by-cons f x xs in
    let d = sum_by-cons f x [] in
    let e = sum_reverse f xs in
    omega (arith, a, b, c, d, e)

-- by their rises, writes use no more than before
after_within : (ws : List Write) → sum_by uses_after ws ≤ sum_by uses_before ws + sum_by rise ws
after_within [] = omega arith
after_within (w ∷ ws) =
    let a = sum_by-cons uses_after w ws in
    let b = sum_by-cons uses_before w ws in
    let c = sum_by-cons rise w ws in
    let d = after_within ws in
    omega (arith, a, b, c, d)

one_rise : (w : Write) → sum_by rise (w ∷ []) ≡ rise w
one_rise w = let c = sum_by-cons rise w [] in omega (arith, c)

relinked_rises : (at : ℕ) (o : Option Cell) (f : Cell → Cell) (ws : List Write) → sum_by rise (relinked at o f ws) ≡ sum_by rise ws
relinked_rises at None f ws = refl
relinked_rises at (Some c) f ws = let a = sum_by-cons rise (record { at = at; before = Used c; after = Used (f c) }) ws in omega (arith, a)

abbrev RisesBy : ℕ → List Write → Type 0
RisesBy n ws = sum_by rise ws ≡ n

three_rise : (w : Write) (at : ℕ) (o : Option Cell) (f : Cell → Cell) (v : Write) (n : ℕ) → rise w ≡ 0 → rise v ≡ n → RisesBy n (w ∷ relinked at o f (v ∷ []))
three_rise w at o f v n e k =
    let a = sum_by-cons rise w (relinked at o f (v ∷ [])) in
    let b = relinked_rises at o f (v ∷ []) in
    let c = one_rise v in
    omega (arith, a, b, c, e, k)

-- a plan's rises are what it adds to its chain
plan_rises : (l : Places) (t : Turn) (ws : List Write) → IsPlan l t ws → RisesBy (gained t) ws
plan_rises l (Did (Append s n tag previous body)) ws p =
    let d = p.directory in
    let w : Write = record { at = p.new; before = Free; after = Used (record { sender = s; sequence = d.sent + 1; tag = tag; body = body; next = 0; prev = d.tail }) } in
    subst (RisesBy 1) (sym p.writes) (three_rise (directory_write l s d (directory_appended d p.new tag)) d.tail p.old (with_next p.new) w 1 refl refl)
plan_rises l (Did (UnlinkHead s n tag body)) ws p =
    let d = p.directory in
    let w : Write = record { at = d.head; before = Used p.cell; after = Free } in
    subst (RisesBy 0) (sym p.writes) (three_rise (directory_write l s d (directory_head_unlinked d p.cell)) p.cell.next p.next (with_prev 0) w 0 refl refl)
plan_rises l (Did (Close s)) ws p = subst (RisesBy 0) (sym p.writes) (one_rise (directory_write l s p.directory (record p.directory { closed = true })))
plan_rises l (Did (Mark c tag previous)) ws p = subst (RisesBy 0) (sym p.writes) (one_rise (client_write l p.held (record p.held { count = p.held.count + 1; tag = tag })))
plan_rises l (Undid (Append s n tag previous body)) ws p =
    let d = p.directory in
    let w : Write = record { at = d.tail; before = Used p.cell; after = Free } in
    subst (RisesBy 0) (sym p.writes) (three_rise (directory_write l s d (directory_tail_unlinked d p.cell previous)) p.cell.prev p.front (with_next 0) w 0 refl refl)
plan_rises l (Undid (UnlinkHead s n tag body)) ws p =
    let d = p.directory in
    let w : Write = record { at = p.new; before = Free; after = Used (record { sender = s; sequence = d.received; tag = tag; body = body; next = d.head; prev = 0 }) } in
    subst (RisesBy 1) (sym p.writes) (three_rise (directory_write l s d (directory_put_back d p.new)) d.head p.old (with_prev p.new) w 1 refl refl)
plan_rises l (Undid (Close s)) ws p = subst (RisesBy 0) (sym p.writes) (one_rise (directory_write l s p.directory (record p.directory { closed = false })))
plan_rises l (Undid (Mark c tag previous)) ws p = subst (RisesBy 0) (sym p.writes) (one_rise (client_write l p.held (record p.held { count = p.held.count - 1; tag = previous })))

-- a plan's writes, counted
abbrev Balanced : ℕ → ℕ → List Write → Type 0
Balanced n m ws = sum_by uses_after ws + n ≡ sum_by uses_before ws + m

one_counts : (v : Write) → Balanced (uses_before v) (uses_after v) (v ∷ [])
one_counts v =
    let a = sum_by-cons uses_after v [] in
    let b = sum_by-cons uses_before v [] in
    omega (arith, a, b)

relinked_counts : (at : ℕ) (o : Option Cell) (f : Cell → Cell) (v : Write) → Balanced (uses_before v) (uses_after v) (relinked at o f (v ∷ []))
relinked_counts at None f v = one_counts v
relinked_counts at (Some c) f v =
    let w : Write = record { at = at; before = Used c; after = Used (f c) } in
    let a = sum_by-cons uses_after w (v ∷ []) in
    let b = sum_by-cons uses_before w (v ∷ []) in
    let d = one_counts v in
    omega (arith, a, b, d)

three_count : (w : Write) (at : ℕ) (o : Option Cell) (f : Cell → Cell) (v : Write) → uses_before w ≡ uses_after w → Balanced (uses_before v) (uses_after v) (w ∷ relinked at o f (v ∷ []))
three_count w at o f v e =
    let a = sum_by-cons uses_after w (relinked at o f (v ∷ [])) in
    let b = sum_by-cons uses_before w (relinked at o f (v ∷ [])) in
    let d = relinked_counts at o f v in
    omega (arith, a, b, d, e)

plan_balance : (l : Places) (t : Turn) (ws : List Write) → IsPlan l t ws → Balanced (lost t) (gained t) ws
plan_balance l (Did (Append s n tag previous body)) ws p =
    let d = p.directory in
    let w : Write = record { at = p.new; before = Free; after = Used (record { sender = s; sequence = d.sent + 1; tag = tag; body = body; next = 0; prev = d.tail }) } in
    subst (Balanced 0 1) (sym p.writes) (three_count (directory_write l s d (directory_appended d p.new tag)) d.tail p.old (with_next p.new) w refl)
plan_balance l (Did (UnlinkHead s n tag body)) ws p =
    let d = p.directory in
    let w : Write = record { at = d.head; before = Used p.cell; after = Free } in
    subst (Balanced 1 0) (sym p.writes) (three_count (directory_write l s d (directory_head_unlinked d p.cell)) p.cell.next p.next (with_prev 0) w refl)
plan_balance l (Did (Close s)) ws p = subst (Balanced 0 0) (sym p.writes) (one_counts (directory_write l s p.directory (record p.directory { closed = true })))
plan_balance l (Did (Mark c tag previous)) ws p = subst (Balanced 0 0) (sym p.writes) (one_counts (client_write l p.held (record p.held { count = p.held.count + 1; tag = tag })))
plan_balance l (Undid (Append s n tag previous body)) ws p =
    let d = p.directory in
    let w : Write = record { at = d.tail; before = Used p.cell; after = Free } in
    subst (Balanced 1 0) (sym p.writes) (three_count (directory_write l s d (directory_tail_unlinked d p.cell previous)) p.cell.prev p.front (with_next 0) w refl)
plan_balance l (Undid (UnlinkHead s n tag body)) ws p =
    let d = p.directory in
    let w : Write = record { at = p.new; before = Free; after = Used (record { sender = s; sequence = d.received; tag = tag; body = body; next = d.head; prev = 0 }) } in
    subst (Balanced 0 1) (sym p.writes) (three_count (directory_write l s d (directory_put_back d p.new)) d.head p.old (with_prev p.new) w refl)
plan_balance l (Undid (Close s)) ws p = subst (Balanced 0 0) (sym p.writes) (one_counts (directory_write l s p.directory (record p.directory { closed = false })))
plan_balance l (Undid (Mark c tag previous)) ws p = subst (Balanced 0 0) (sym p.writes) (one_counts (client_write l p.held (record p.held { count = p.held.count - 1; tag = previous })))

-- the whole plan
pub plan_counts : (l : Places) (t : Turn) (ws : List Write) → IsPlan l t (reverse ws) → sum_by uses_after ws + lost t ≡ sum_by uses_before ws + gained t
plan_counts l t ws p =
    let a = plan_balance l t (reverse ws) p in
    let b = sum_reverse uses_after ws in
    let c = sum_reverse uses_before ws in
    omega (arith, a, b, c)

-- the writes made so far use at most what the whole plan adds
pub made_within : (l : Places) (t : Turn) (ws : List Write) (k : ℕ) → IsPlan l t (reverse ws) → sum_by uses_after (take k ws) ≤ sum_by uses_before (take k ws) + gained t
made_within l t ws k p =
    let a = after_within (take k ws) in
    let b : sum_by rise (take k ws) ≤ sum_by rise ws = sum_by-take-le rise ws k in
    let c : sum_by rise (reverse ws) ≡ gained t = plan_rises l t (reverse ws) p in
    let d = sum_reverse rise ws in
    omega (arith, a, b, c, d)

before_is : (ws : List Write) → used_before ws ≡ sum_by uses_before ws
before_is [] = refl
before_is (w ∷ ws) = let a = before_is ws in let b = sum_by-cons uses_before w ws in omega (arith, a, b)

after_is : (ws : List Write) → used_after ws ≡ sum_by uses_after ws
after_is [] = refl
after_is (w ∷ ws) = let a = after_is ws in let b = sum_by-cons uses_after w ws in omega (arith, a, b)

-- writes that fit count what they use and no longer what they were over
pub count_made : (z : Sizes) (ws : List Write) (q : Slots) → AllStand z q → WritesStand z (reverse ws) → HasBefores (reverse ws) q → count_used z (applied (reverse ws) q) + sum_by uses_before ws ≡ count_used z q + sum_by uses_after ws
count_made z ws q h k f =
    let a = count_writes z (reverse ws) q h k f in
    let b = before_is (reverse ws) in
    let c = after_is (reverse ws) in
    let d = sum_reverse uses_before ws in
    let e = sum_reverse uses_after ws in
    omega (arith, a, b, c, d, e)

find : (f : ℕ → Bool) (n : ℕ) → sum_by (λ i. cond (f i) 1 0) (below n) < n → (i : ℕ) × (i < n) × (f i ≡ false)
find f zero h = absurd (omega (arith, h))
find f (suc n) h = elim (cases_Bool (f n)) [
  | inr k ↦ (n, omega arith, k)
  | inl y ↦
      let a = sum_more (λ i. cond (f i) 1 0) n in
      let one : Bool → ℕ = (λ b. cond b 1 0) in
      let b : one (f n) ≡ 1 = ap one y in
      let r = find f n (omega (arith, a, b, h)) in
      let lt : r.0 < n = r.1 in
      (r.0, omega (arith, lt), r.2)
]

pub free_from : (z : Sizes) (a : ℕ) (x : Slot) → IsInPlace z a x → IsCellAddress z a → is_used x ≡ false → x ≡ Free
free_from z a Free h c n = refl
free_from z a (Used x) h c n = absurd (true≢false n)
free_from z a (Sender s d) h c n = absurd (let x = h.high in let y = c.above in omega (arith, x, y))
free_from z a (Client k) h c n = absurd (let x = h.low in let y = c.below in omega (arith, x, y))

-- where fewer cells are used than there are, one is free
pub some_free : (z : Sizes) (q : Slots) → AllStand z q → count_used z q < cell_count z → (a : ℕ) × IsCellAddress z a × (q a ≡ Free)
some_free z q h lt =
    let e : count_used z q ≡ sum_by (λ i. cond (is_used (q (cell_at z i))) 1 0) (below (cell_count z)) = length-filter (λ i. is_used (q (cell_at z i))) (below (cell_count z)) in
    let r = find (λ i. is_used (q (cell_at z i))) (cell_count z) (omega (arith, e, lt)) in
    let c = cells_have_places z r.0 r.1 in
    (cell_at z r.0, c.0, free_from z (cell_at z r.0) (q (cell_at z r.0)) (h (cell_at z r.0)) c.0 r.2)
