-- Somebody is next, and the move is there.
use Rattle.std.proofs.Common.{Bool, ◌≡◌, ◌≢◌, ◌⊎◌, ℕ, ◌+◌, ◌<◌, ◌≤◌, false, cond, List, [], ◌∷◌, ◌++◌, length, map, reverse, inl, inr, refl, sym, ◌∙◌, ap, subst, arith, true}
use Rattle.std.proofs.lemmas.Bool.{cases_Bool, cases_lt}
use Rattle.std.proofs.lemmas.Bool.Decides.{nat_tests}
use Rattle.rq_model.specs.declared.txn.Txn.{Txn}
use Rattle.rq_model.specs.Vocabulary.{In, same_txn}
use Rattle.rq_model.proofs.Lists.{In-map, same_is, In-last, In-reverse, In-to}
use Rattle.rq_views.specs.Items.{items, layout_of}
use Rattle.rq_views.specs.Legal.{Placed, open_deeds, rest_placed}
use Rattle.rq_views.specs.Log.{HasBefores, Item, Write}
use Rattle.rq_views.specs.Log.Item.{PageOp, OpEnd, CompEnd, Commit}
use Rattle.rq_views.specs.Plans.{IsPlan}
use Rattle.rq_views.specs.Plans.Turn.{Undid}
use Rattle.rq_level.specs.Writes.{writes_of}
use Rattle.rq_txn.specs.declared.Finished.{Finished}
use Rattle.rq_txn.specs.declared.Aim.TheVariants as aims
use Rattle.rq_txn.specs.Rows.{Row, Under, any_under, change_row, row_started, row_stepped, row_undone}
use Rattle.rq_txn.proofs.Finding.{in_found}
use Rattle.rq_store.specs.Fitting.{left_by}
use Rattle.rq_store.specs.Rows.{placed, placed_one}
use Rattle.rq_store.specs.State.{State}
use Rattle.rq_store.proofs.Placed.{placed_more}
use Rattle.rq_store.proofs.Others.{none_of}
use Rattle.rq_store.proofs.RowLists.{gone, none_under, unique}
use Rattle.rq_sound.specs.Calls.{IsIdle, aborted, started}
use Rattle.rq_sound.specs.Sound.{IsSound}
use Rattle.rq_sound.proofs.Contracts.{planned}
use Rattle.rq_sound.proofs.Groups.{none_latched}
use Rattle.rq_model.specs.declared.record.Record.{Record}
use Rattle.rq_model.specs.Unended.{lost}
use Rattle.rq_model.proofs.Same.{In-append}
use Rattle.rq_page.specs.Sizes.{Sizes}
use Rattle.rq_sound.specs.Inverses.{InverseTakesLowest}
use Rattle.rq_sound.specs.Groups.{slots_now}
use Rattle.rq_analysis.specs.Lost.{lost_row, lost_rows}
use Rattle.rq_analysis.specs.Moves.{IsAbortMove}
use Rattle.rq_analysis.specs.Moves.IsAbortMove.{Starts, Writes, Undoes, Ends}
use Rattle.rq_analysis.specs.Pages.{txn_less}
use Rattle.rq_analysis.specs.Turns.{AreAborting, EndsNext, NextTurn, TakesBackNext}
use Rattle.rq_analysis.specs.Turns.NextTurn.{End, TakeBack}

-- the row of the greatest number
greatest_row : (f : Row → ℕ) (q : Row) (qs : List Row) → (r : Row) × In r (q ∷ qs) × ((p : Row) → In p (q ∷ qs) → f p ≤ f r)
greatest_row f q [] = (q, inl refl, λ p i. elim i [ inl e ↦ (let a : f p ≡ f q = ap f e in omega (arith, a)) | inr j ↦ absurd j ])
greatest_row f q (x ∷ qs) =
    let g = greatest_row f x qs in
    elim (cases_lt (f g.0) (f q)) [
      | inl lt ↦ (
        q,
        inl refl,
        λ p i. elim i [
          | inl e ↦ (let a : f p ≡ f q = ap f e in omega (arith, a))
          | inr j ↦ (let a = g.2 p j in omega (arith, a, lt))
        ],
      )
      | inr ge ↦ (
        g.0,
        inr g.1,
        λ p i. elim i [
          | inl e ↦ (let a : f p ≡ f q = ap f e in omega (arith, a, ge))
          | inr j ↦ g.2 p j
        ],
      )
    ]

pub nil_or : (fs : List Finished) → (fs ≡ []) ⊎ (fs ≢ [])
nil_or [] = inl refl
nil_or (f ∷ fs) = inr (λ e. cc e)

abbrev LeastEmpty : (Row → ℕ) → List Row → Type 0
LeastEmpty f qs = (r : Row) × In r qs × (r.finished ≡ []) × ((p : Row) → In p qs → p.finished ≡ [] → f r ≤ f p)

-- none has nothing left, or one of these is the least
least_empty : (f : Row → ℕ) (qs : List Row) → ((q : Row) → In q qs → q.finished ≢ []) ⊎ LeastEmpty f qs
least_empty f [] = inl (λ q i. absurd i)
least_empty f (x ∷ qs) = elim (nil_or x.finished) [
  | inl none ↦ elim (least_empty f qs) [
    | inl all ↦ inr (
      x,
      inl refl,
      none,
      λ p i e. elim i [
        | inl is ↦ (let a : f p ≡ f x = ap f is in omega (arith, a))
        | inr j ↦ absurd (all p j e)
      ],
    )
    | inr g ↦ elim (cases_lt (f x) (f g.0)) [
      | inl lt ↦ inr (
        x,
        inl refl,
        none,
        λ p i e. elim i [
          | inl is ↦ (let a : f p ≡ f x = ap f is in omega (arith, a))
          | inr j ↦ (let a = g.3 p j e in omega (arith, a, lt))
        ],
      )
      | inr ge ↦ inr (
        g.0,
        inr g.1,
        g.2,
        λ p i e. elim i [
          | inl is ↦ (let a : f p ≡ f x = ap f is in omega (arith, a, ge))
          | inr j ↦ g.3 p j e
        ],
      )
    ]
  ]
  | inr some ↦ elim (least_empty f qs) [
    | inl all ↦ inl (λ q i. elim i [ inl is ↦ (λ e. some (sym (ap (λ (y : Row). y.finished) is) ∙ e)) | inr j ↦ all q j ])
    | inr g ↦ inr (
      g.0,
      inr g.1,
      g.2,
      λ p i e. elim i [
        | inl is ↦ absurd (some (sym (ap (λ (y : Row). y.finished) is) ∙ e))
        | inr j ↦ g.3 p j e
      ],
    )
  ]
]

-- the LSN of the newest
abbrev newest_lsn : List Finished → ℕ
newest_lsn [] = 0
newest_lsn (f ∷ []) = f.lsn
newest_lsn (f ∷ g ∷ fs) = newest_lsn (g ∷ fs)

newest_last : (rest : List Finished) (f : Finished) → newest_lsn (rest ++ f ∷ []) ≡ f.lsn
newest_last [] f = refl
newest_last (g ∷ []) f = refl
newest_last (g ∷ h ∷ rest) f = newest_last (h ∷ rest) f

pub split_last : (fs : List Finished) → fs ≢ [] → (rest : List Finished) × (f : Finished) × (fs ≡ rest ++ f ∷ [])
split_last [] ne = absurd (ne refl)
split_last (f ∷ []) ne = ([], f, refl)
split_last (f ∷ g ∷ fs) ne = let h = split_last (g ∷ fs) (λ e. cc e) in (f ∷ h.0, h.1, ap (λ l. f ∷ l) h.2)

-- the deeds of a transaction stand in the log in the order in which they were done
open_within : (t : Txn) (log : List Item) (p : Placed) → In p (open_deeds t log) → p.lsn ≤ length log
open_within t [] p i = absurd i
open_within t (OpEnd o d ∷ log) p i = elim (cases_Bool (same_txn o.txn t)) [
  | inl y ↦ elim (rw y at i) [
    | inl e ↦ (let a : p.lsn ≡ length log + 1 = ap (λ (x : Placed). x.lsn) e in omega (arith, a))
    | inr j ↦ (let a = open_within t log p j in omega (arith, a))
  ]
  | inr n ↦ (let a = open_within t log p (rw n at i) in omega (arith, a))
]
open_within t (CompEnd o u ∷ log) p i = elim (cases_Bool (same_txn o.txn t)) [
  | inl y ↦ (let a = open_within t log p (in_rest (open_deeds t log) p (rw y at i)) in omega (arith, a))
  | inr n ↦ (let a = open_within t log p (rw n at i) in omega (arith, a))
] where
  in_rest : (ps : List Placed) (p : Placed) → In p (rest_placed ps) → In p ps
  in_rest [] p i = i
  in_rest (x ∷ ps) p i = inr i
open_within t (Commit u ∷ log) p i = elim (cases_Bool (same_txn u t)) [
  | inl y ↦ absurd (rw y at i)
  | inr n ↦ (let a = open_within t log p (rw n at i) in omega (arith, a))
]
open_within t (_ ∷ log) p i = let a = open_within t log p i in omega (arith, a)

abbrev AreFalling : List Placed → Type 0
AreFalling [] = Unit {0}
AreFalling (p ∷ ps) = ((q : Placed) → In q ps → q.lsn < p.lsn) × AreFalling ps

rest_falls : (ps : List Placed) → AreFalling ps → AreFalling (rest_placed ps)
rest_falls [] h = h
rest_falls (p ∷ ps) h = h.1

open_falls : (t : Txn) (log : List Item) → AreFalling (open_deeds t log)
open_falls t [] = tt
open_falls t (OpEnd o d ∷ log) = elim (cases_Bool (same_txn o.txn t)) [
  | inl y ↦ rw y ((λ q i. (let a = open_within t log q i in omega (arith, a))), open_falls t log)
  | inr n ↦ rw n (open_falls t log)
]
open_falls t (CompEnd o u ∷ log) = elim (cases_Bool (same_txn o.txn t)) [
  | inl y ↦ rw y (rest_falls (open_deeds t log) (open_falls t log))
  | inr n ↦ rw n (open_falls t log)
]
open_falls t (Commit u ∷ log) = elim (cases_Bool (same_txn u t)) [
  | inl y ↦ rw y tt
  | inr n ↦ rw n (open_falls t log)
]
open_falls t (_ ∷ log) = open_falls t log

pub in_placed : (fs : List Finished) (g : Finished) → In g fs → In (placed_one g) (placed fs)
in_placed fs g i = In-reverse (placed_one g) (map placed_one fs) (In-to placed_one fs g i)

-- no two transactions have a deed at one place
in_shorter : (b : Bool) (ps qs : List Placed) (p : Placed) → (In p ps → In p qs) → In p (cond b ps qs) → In p qs
in_shorter true ps qs p h i = h i
in_shorter false ps qs p h i = i

in_rest_placed : (ps : List Placed) (p : Placed) → In p (rest_placed ps) → In p ps
in_rest_placed [] p i = i
in_rest_placed (x ∷ ps) p i = inr i

-- the deed is the newest of the log, or one before
newest_or : (b : Bool) (x : Placed) (ps : List Placed) (p : Placed) → In p (cond b (x ∷ ps) ps) → ((b ≡ true) × (p ≡ x)) ⊎ In p ps
newest_or true x ps p i = elim i [ inl e ↦ inl (refl, e) | inr j ↦ inr j ]
newest_or false x ps p i = inr i

owner : (t u : Txn) (log : List Item) (p q : Placed) → In p (open_deeds t log) → In q (open_deeds u log) → p.lsn ≡ q.lsn → t ≡ u
owner t u [] p q i j e = absurd i
owner t u (PageOp o w ∷ log) p q i j e = owner t u log p q i j e
owner t u (CompEnd o n ∷ log) p q i j e =
    owner t u log p q
    (in_shorter (same_txn o.txn t) (rest_placed (open_deeds t log)) (open_deeds t log) p (in_rest_placed (open_deeds t log) p) i)
    (in_shorter (same_txn o.txn u) (rest_placed (open_deeds u log)) (open_deeds u log) q (in_rest_placed (open_deeds u log) q) j) e
owner t u (Commit v ∷ log) p q i j e =
    owner t u log p q
    (in_shorter (same_txn v t) [] (open_deeds t log) p (λ x. absurd x) i)
    (in_shorter (same_txn v u) [] (open_deeds u log) q (λ x. absurd x) j) e
owner t u (OpEnd o d ∷ log) p q i j e =
    let x : Placed = record { lsn = length log + 1; deed = d } in
    elim (newest_or (same_txn o.txn t) x (open_deeds t log) p i) [
      | inl y ↦ elim (newest_or (same_txn o.txn u) x (open_deeds u log) q j) [
        | inl z ↦ sym (same_is o.txn t y.0) ∙ same_is o.txn u z.0
        | inr z ↦ (let a = open_within u log q z in let b : p.lsn ≡ length log + 1 = ap (λ (w : Placed). w.lsn) y.1 in absurd (omega (arith, a, b, e)))
      ]
      | inr y ↦ elim (newest_or (same_txn o.txn u) x (open_deeds u log) q j) [
        | inl z ↦ (let a = open_within t log p y in let b : q.lsn ≡ length log + 1 = ap (λ (w : Placed). w.lsn) z.1 in absurd (omega (arith, a, b, e)))
        | inr z ↦ owner t u log p q y z e
      ]
    ]
owner t u (_ ∷ log) p q i j e = owner t u log p q i j e

same_numbers : (a b : Txn) → a.incarnation ≡ b.incarnation → a.count ≡ b.count → a ≡ b
same_numbers a b i c = ap (λ (n : ℕ). record { incarnation = n; count = a.count }) i ∙ ap (λ (n : ℕ). record { incarnation = b.incarnation; count = n }) c

neither_less : (a b : Txn) → txn_less a b ≡ false → txn_less b a ≡ false → a ≡ b
neither_less a b n m = same_numbers a b (grind (arith, nat_tests, n, m)) (grind (arith, nat_tests, n, m))

-- in one incarnation none is less than that of the least count
none_less : (a b : Txn) → a.incarnation ≡ b.incarnation → a.count ≤ b.count → txn_less b a ≡ false
none_less a b i n = grind (arith, nat_tests, i, n)

module _ (s : State) (k : IsSound s) where
  -- no more than one is next
  pub one_ends : (r q : Row) → EndsNext s.rows r → EndsNext s.rows q → r ≡ q
  one_ends r q n m = unique s.rows r q k.standing.distinct n.row m.row (neither_less r.txn q.txn (m.least r n.row n.empty) (n.least q m.row m.empty))

  last_in : (r : Row) (rest : List Finished) (f : Finished) → r.finished ≡ rest ++ f ∷ [] → In f r.finished
  last_in r rest f e = subst (In f) (sym e) (In-last f rest)

  deed_of_row : (r : Row) (f : Finished) → In r s.rows → In f r.finished → In (placed_one f) (open_deeds r.txn (items s.sizes s.records))
  deed_of_row r f j i = subst (In (placed_one f)) (sym (k.standing.each r j).done) (in_placed r.finished f i)

  pub one_back : (r q : Row) (rest others : List Finished) (f g : Finished) → TakesBackNext s.rows r rest f → TakesBackNext s.rows q others g → r ≡ q
  one_back r q rest others f g n m =
      let i = last_in r rest f n.last in
      let j = last_in q others g m.last in
      let a = n.newest q g m.row j in
      let b = m.newest r f n.row i in
      unique s.rows r q k.standing.distinct n.row m.row (owner r.txn q.txn (items s.sizes s.records) (placed_one f) (placed_one g) (deed_of_row r f n.row i) (deed_of_row q g m.row j) (omega (arith, a, b)))

  -- the last of a row is its newest
  row_newest : (q : Row) (g : Finished) → In q s.rows → In g q.finished → g.lsn ≤ newest_lsn q.finished
  row_newest q g j i = elim (nil_or q.finished) [
    | inl none ↦ absurd (subst (In g) none i)
    | inr some ↦
        let h = split_last q.finished some in
        let falls : AreFalling (placed_one h.1 ∷ placed h.0) = subst AreFalling ((k.standing.each q j).done ∙ ap placed h.2 ∙ placed_more h.0 h.1) (open_falls q.txn (items s.sizes s.records)) in
        let last : newest_lsn q.finished ≡ h.1.lsn = ap newest_lsn h.2 ∙ newest_last h.0 h.1 in
        elim (In-append h.0 h.1 g (subst (In g) h.2 i)) [
          | inl m ↦ (let a = falls.0 (placed_one g) (in_placed h.0 g m) in omega (arith, a, last))
          | inr e ↦ (let a : g.lsn ≡ h.1.lsn = ap (λ (x : Finished). x.lsn) e in omega (arith, a, last))
        ]
  ]

  takes_back : (q : Row) (qs : List Row) → s.rows ≡ q ∷ qs → ((p : Row) → In p s.rows → p.finished ≢ []) → NextTurn s.rows
  takes_back q qs e some =
      let g = greatest_row (λ (p : Row). newest_lsn p.finished) q qs in
      let here : In g.0 s.rows = subst (In g.0) (sym e) g.1 in
      let h = split_last g.0.finished (some g.0 here) in
      let last : newest_lsn g.0.finished ≡ h.1.lsn = ap newest_lsn h.2 ∙ newest_last h.0 h.1 in
      TakeBack g.0 h.0 h.1 (record {
        row = here;
        last = h.2;
        some = some;
        newest = λ p x j i. (let a = row_newest p x j i in let b = g.2 p (subst (In p) e j) in omega (arith, a, b, last));
      })

  pub next_turn : s.rows ≢ [] → NextTurn s.rows
  next_turn ne = elim (least_empty (λ (p : Row). p.txn.count) s.rows) [
    | inl some ↦ at s.rows refl some
    | inr g ↦ End g.0 (record {
      row = g.1;
      empty = g.2;
      least = λ q j none. none_less g.0.txn q.txn ((k.standing.each g.0 g.1).of_incarnation ∙ sym (k.standing.each q j).of_incarnation) (g.3 q j none);
    })
  ] where
    at : (rows : List Row) → s.rows ≡ rows → ((p : Row) → In p s.rows → p.finished ≢ []) → NextTurn s.rows
    at [] e some = absurd (ne e)
    at (q ∷ qs) e some = takes_back q qs e some

  idle_row : (r : Row) → any_under s.rows ≡ false → In r s.rows → IsIdle s r
  idle_row r off j = record {
    at_row = in_found s.rows r k.standing.distinct j;
    idle = none_of r.under (none_under s.rows r off j);
  }

  pub ends_next : (r : Row) → any_under s.rows ≡ false → AreAborting s.rows → EndsNext s.rows r → IsAbortMove s (aborted s r)
  ends_next r off all n = Ends r (idle_row r off n.row) (all r n.row) n.empty refl

  pub plan_next : (r : Row) (rest : List Finished) (f : Finished) → any_under s.rows ≡ false → TakesBackNext s.rows r rest f
      → (ws : List Write) × IsPlan (layout_of s.sizes) (Undid f.deed) ws × HasBefores ws (left_by s.sizes s.records).slots
  plan_next r rest f off n = planned.planned s r rest f k (idle_row r off n.row) n.last (none_latched s.rows _ off)

  pub starts_next : (r : Row) (rest : List Finished) (f : Finished) (u : Under) → any_under s.rows ≡ false → AreAborting s.rows → TakesBackNext s.rows r rest f
      → u.number ≡ r.number + 1 → u.made ≡ 0 → u.aim ≡ aims.Undoing f.lsn f.deed
      → IsPlan (layout_of s.sizes) (Undid f.deed) (reverse (writes_of s.sizes u.writes))
      → HasBefores (reverse (writes_of s.sizes u.writes)) (left_by s.sizes s.records).slots
      → InverseTakesLowest s.sizes (slots_now s) s.rows f.deed u.writes
      → IsAbortMove s (started s r u s.ends)
  starts_next r rest f u off all n number made aim plan fits lowest =
      let idle = idle_row r off n.row in
      Starts r u rest f (record {
        planned = record {
          at_row = idle.at_row;
          idle = idle.idle;
          number = number;
          made = made;
          free = λ p on. none_latched s.rows p off;
          plan = plan;
          fits = fits;
        };
        aim = aim;
        aborting = all r n.row;
        newest = n.last;
      }) lowest refl

-- who is to be undone stays so
kept_one : (t : Txn) (f : Row → Row) (rows : List Row) → ((r : Row) → (f r).aborting ≡ r.aborting) → AreAborting rows → AreAborting (change_row t f rows)
kept_one t f rows same all q j =
    let x = In-map (λ (r : Row). cond (same_txn r.txn t) (f r) r) rows q j in
    ap (λ (y : Row). y.aborting) x.2 ∙ elim (cases_Bool (same_txn x.0.txn t)) [
      | inl y ↦ rw y (same x.0 ∙ all x.0 x.1)
      | inr n ↦ rw n (all x.0 x.1)
    ]

pub still_aborting : (s now : State) → IsAbortMove s now → AreAborting s.rows → AreAborting now.rows
still_aborting s now (Starts r u rest f may lowest e) all = subst (λ (n : State). AreAborting n.rows) (sym e) (kept_one r.txn (row_started u) s.rows (λ q. refl) all)
still_aborting s now (Writes r u w images lsn d aim next e) all = subst (λ (n : State). AreAborting n.rows) (sym e) (kept_one r.txn row_stepped s.rows (λ q. refl) all)
still_aborting s now (Undoes r u lsn d waiting ready more e) all = subst (λ (n : State). AreAborting n.rows) (sym e) (kept_one r.txn (row_undone _) s.rows (λ q. refl) all)
still_aborting s now (Ends r idle aborting none e) all = subst (λ (n : State). AreAborting n.rows) (sym e) (λ q j. all q (gone r.txn s.rows q j).0)

pub lost_aborting : (z : Sizes) (log : List Record) → AreAborting (lost_rows z log)
lost_aborting z log r j = let x = In-map (lost_row z log) (lost log) r j in ap (λ (y : Row). y.aborting) x.2

none_under_way : (z : Sizes) (log : List Record) (ts : List Txn) → any_under (map (lost_row z log) ts) ≡ false
none_under_way z log [] = refl
none_under_way z log (t ∷ ts) = none_under_way z log ts

pub lost_idle : (z : Sizes) (log : List Record) → any_under (lost_rows z log) ≡ false
lost_idle z log = none_under_way z log (lost log)
