-- Pages are fixed in frames exactly where operations under way have latched them.
use Rattle.std.proofs.Common.{◌≡◌, ◌≢◌, ℕ, zero, suc, ◌+◌, ◌/◌, ◌≤◌, ◌||◌, nat_eq, Bool, true, false, List, [], ◌∷◌, length, refl, sym, ◌∙◌, ap, subst, Option, Some, None, inl, inr, ◌⊎◌, arith}
use Rattle.std.proofs.lemmas.Bool.{cases_Bool, eqb-true, false≢true, true≢false, or_cases, or_left, or_right}
use Rattle.std.proofs.lemmas.Option.{same_Some}
use Rattle.rq_model.specs.declared.txn.Txn.{Txn}
use Rattle.rq_model.specs.Vocabulary.{In, same_txn}
use Rattle.rq_model.proofs.Lists.{In-to, same_is, same_self, not_same}
use Rattle.rq_model.proofs.Same.{other_same}
use Rattle.rq_page.specs.Sizes.{Sizes}
use Rattle.rq_level.specs.declared.writes.SlotWrite.{SlotWrite}
use Rattle.rq_level.specs.Given.{has_page}
use Rattle.rq_level.specs.Writes.{AreSlotWrites}
use Rattle.rq_txn.specs.Rows.{AreDistinct, Row, Under, change_row, change_row_one, found_row, fresh_row, latched_by, latched_in, latched_under, row_aborting, row_started, row_stepped, under_stepped, without_row}
use Rattle.rq_txn.proofs.Finding.{without_first, without_later}
use Rattle.rq_pool.specs.Held.{Held, IsFixed, IsFramed}
use Rattle.rq_pool.specs.Want.{AreOfStore, NoneFixed, StayFixed, among}
use Rattle.rq_store.proofs.RowLists.{changed, found_in, gone, unique}
use Rattle.rq_sound.specs.Standing.{AreApart}
use Rattle.rq_sound.proofs.Going.{page_latched}
use Rattle.rq_engine.specs.Frames.{AreFixedAsLatched, pages_of}
use Rattle.rq_model.specs.declared.txn.Sub.{Sub}
use Rattle.rq_model.specs.Legal.{OnFound}
use Rattle.rq_store.specs.State.{State}
use Rattle.rq_engine.specs.Answers.{IsUnderWay, OnUnder}
use Rattle.rq_engine.specs.Invariant.{IsConsistent}
use Rattle.rq_engine.proofs.Calls.{Next, going_of, next_slot}
use Rattle.rq_engine.proofs.Keeping.{under_at}
use Rattle.rq_engine.proofs.Refusals.{found_of, on_found}

-- ---- pages of writes

-- they are pages of the store
pub pages_stored : (z : Sizes) (ws : List SlotWrite) → AreSlotWrites z ws → AreOfStore z (pages_of ws)
pages_stored z [] h i lt = absurd (omega (arith, lt))
pages_stored z (w ∷ ws) h zero lt = let p = (h 0 w (omega arith)).place in (p.page_low, p.page_high)
pages_stored z (w ∷ ws) h (suc i) lt = pages_stored z ws (λ j d below. h (suc j) d (omega (arith, below))) i (omega (arith, lt))

pub among_has : (ps : List ℕ) (q : ℕ) → among ps q ≡ has_page q ps
among_has [] q = refl
among_has (p ∷ ps) q = ap (λ b. nat_eq p q || b) (among_has ps q)

pub among_stored : (z : Sizes) (ps : List ℕ) (q : ℕ) → AreOfStore z ps → among ps q ≡ true → 1 ≤ q
among_stored z [] q h e = absurd (false≢true e)
among_stored z (p ∷ ps) q h e = elim (or_cases (nat_eq p q) (among ps q) e) [
  | inl here ↦ (let low = (h 0 (omega arith)).0 in let same = eqb-true p q here in omega (arith, low, same))
  | inr there ↦ among_stored z ps q (λ i lt. h (suc i) (omega (arith, lt))) there
]

-- ---- rows that have latched a page

latched_row : (rows : List Row) (p : ℕ) → latched_in rows p ≡ true → (q : Row) × In q rows × (latched_under q.under p ≡ true)
latched_row [] p e = absurd (false≢true e)
latched_row (r ∷ rows) p e = elim (or_cases (latched_under r.under p) (latched_in rows p) e) [
  | inl here ↦ (r, inl refl, here)
  | inr there ↦ let q = latched_row rows p there in (q.0, inr q.1, q.2)
]

row_latched : (rows : List Row) (q : Row) (p : ℕ) → In q rows → latched_under q.under p ≡ true → latched_in rows p ≡ true
row_latched [] q p i e = absurd i
row_latched (r ∷ rows) q p i e = elim i [
  | inl same ↦ or_left (latched_under r.under p) (latched_in rows p) (ap (λ (x : Row). latched_under x.under p) (sym same) ∙ e)
  | inr j ↦ or_right (latched_under r.under p) (latched_in rows p) (row_latched rows q p j e)
]

-- an operation under way that has latched it
some_under : (o : Option Under) (p : ℕ) → latched_under o p ≡ true → (u : Under) × (o ≡ Some u) × (latched_by u p ≡ true)
some_under None p e = absurd (false≢true e)
some_under (Some u) p e = (u, refl, e)

not_gone : (t : Txn) (rows : List Row) (q : Row) → In q rows → q.txn ≢ t → In q (without_row t rows)
not_gone t [] q i ne = i
not_gone t (r ∷ rows) q i ne = elim (cases_Bool (same_txn r.txn t)) [
  | inl y ↦ subst (In q) (sym (without_first t r rows y)) (elim i [
    | inl same ↦ absurd (ne (ap (λ (x : Row). x.txn) same ∙ same_is r.txn t y))
    | inr j ↦ not_gone t rows q j ne
  ])
  | inr n ↦ subst (In q) (sym (without_later t r rows n)) (elim i [
    | inl same ↦ inl same
    | inr j ↦ inr (not_gone t rows q j ne)
  ])
]

-- ---- one row changes

module _ (t : Txn) (f : Row → Row) (rows : List Row) (r : Row) (distinct : AreDistinct rows) (at_row : found_row t rows ≡ Some r) where
  place : In r rows × (r.txn ≡ t)
  place = found_in t rows r at_row

  abbrev now : List Row
  now = change_row t f rows

  changed_here : In (f r) now
  changed_here =
      let one : change_row_one t f r ≡ f r = rw (ap (λ (x : Txn). same_txn x t) place.1 ∙ same_self t) refl in
      subst (λ (x : Row). In x now) one (In-to (change_row_one t f) rows r place.0)

  changed_there : (q : Row) → In q rows → q.txn ≢ t → In q now
  changed_there q i ne =
      let one : change_row_one t f q ≡ q = rw (other_same q.txn t ne) refl in
      subst (λ (x : Row). In x now) one (In-to (change_row_one t f) rows q i)

  -- who has latched a page is t, or another
  pub latched_before : (p : ℕ) → latched_in rows p ≡ true → (latched_under r.under p ≡ true) ⊎ (latched_in now p ≡ true)
  latched_before p e =
      let q = latched_row rows p e in
      elim (cases_Bool (same_txn q.0.txn t)) [
        | inl y ↦ inl (ap (λ (x : Row). latched_under x.under p) (unique rows r q.0 distinct place.0 q.1 (place.1 ∙ sym (same_is q.0.txn t y))) ∙ q.2)
        | inr n ↦ inr (row_latched now q.0 p (changed_there q.0 q.1 (not_same q.0.txn t n)) q.2)
      ]

  pub latched_now : (p : ℕ) → latched_in now p ≡ true → (latched_under (f r).under p ≡ true) ⊎ ((q : Row) × In q rows × (q.txn ≢ t) × (latched_under q.under p ≡ true))
  latched_now p e =
      let q = latched_row now p e in
      elim (changed t f rows r q.0 distinct at_row q.1) [
        | inl own ↦ inl (ap (λ (x : Row). latched_under x.under p) (sym own) ∙ q.2)
        | inr other ↦ inr (q.0, other.0, other.1, q.2)
      ]

  pub own_latched : (p : ℕ) → latched_under (f r).under p ≡ true → latched_in now p ≡ true
  own_latched p e = row_latched now (f r) p changed_here e

  apart_changed : AreApart rows → ((u : Under) → (f r).under ≡ Some u → (q : Row) → In q rows → q.txn ≢ t → (v : Under) → q.under ≡ Some v → (p : ℕ) → latched_by u p ≡ true → latched_by v p ≡ false) → AreApart now
  apart_changed apart own a b u v p i j ne x y on = elim (changed t f rows r a distinct at_row i) [
    | inl m ↦ elim (changed t f rows r b distinct at_row j) [
      | inl n ↦ absurd (ne (ap (λ (w : Row). w.txn) (m ∙ sym n)))
      | inr n ↦ own u (ap (λ (w : Row). w.under) (sym m) ∙ x) b n.0 n.1 v y p on
    ]
    | inr m ↦ elim (changed t f rows r b distinct at_row j) [
      | inl n ↦ elim (cases_Bool (latched_by v p)) [
        | inl e ↦ absurd (true≢false (sym on ∙ own v (ap (λ (w : Row). w.under) (sym n) ∙ y) a m.0 m.1 u x p e))
        | inr e ↦ e
      ]
      | inr n ↦ apart a b u v p m.0 n.0 ne x y on
    ]
  ]

  -- ---- what its operation has latched stays so

  pub fixed_same : (frames : List Held) → ((p : ℕ) → latched_under (f r).under p ≡ latched_under r.under p) → AreFixedAsLatched rows frames → AreFixedAsLatched now frames
  fixed_same frames same k = record {
    fixed = λ q low e. k.fixed q low (elim (latched_now q e) [
      | inl own ↦ row_latched rows r q place.0 (sym (same q) ∙ own)
      | inr other ↦ row_latched rows other.0 q other.1 other.3
    ]);
    latched = λ q low e. elim (latched_before q (k.latched q low e)) [
      | inl own ↦ own_latched q (same q ∙ own)
      | inr others ↦ others
    ];
    apart = apart_changed k.apart (λ u is q i ne v y p on.
        let was = some_under r.under p (sym (same p) ∙ ap (λ (o : Option Under). latched_under o p) is ∙ on) in
        k.apart r q was.0 v p place.0 i (λ e. ne (sym e ∙ place.1)) was.1 y was.2);
  }

  -- ---- one begins, on pages that nobody has latched, and has them fixed

  module _ (u : Under) (idle : r.under ≡ None) (starts : (f r).under ≡ Some u) (free : (p : ℕ) → has_page p (pages_of u.writes) ≡ true → latched_in rows p ≡ false) where
    others_free : (q : Row) → In q rows → (v : Under) → q.under ≡ Some v → (p : ℕ) → latched_by u p ≡ true → latched_by v p ≡ false
    others_free q i v is p on = elim (cases_Bool (latched_by v p)) [
      | inl e ↦ absurd (true≢false (sym (row_latched rows q p i (ap (λ (o : Option Under). latched_under o p) is ∙ e)) ∙ free p on))
      | inr e ↦ e
    ]

    pub fixed_started : (old new : List Held) → ((q : ℕ) → among (pages_of u.writes) q ≡ true → IsFixed new q) → StayFixed (pages_of u.writes) old new → AreFixedAsLatched rows old → AreFixedAsLatched now new
    fixed_started old new all stay k = record {
      fixed = λ q low e. elim (cases_Bool (among (pages_of u.writes) q)) [
        | inl one ↦ all q one
        | inr none ↦ stay.to q none (k.fixed q low (elim (latched_now q e) [
          | inl own ↦ absurd (true≢false (sym (among_has (pages_of u.writes) q ∙ ap (λ (o : Option Under). latched_under o q) (sym starts) ∙ own) ∙ none))
          | inr other ↦ row_latched rows other.0 q other.1 other.3
        ]))
      ];
      latched = λ q low e. elim (cases_Bool (among (pages_of u.writes) q)) [
        | inl one ↦ own_latched q (ap (λ (o : Option Under). latched_under o q) starts ∙ sym (among_has (pages_of u.writes) q) ∙ one)
        | inr none ↦ elim (latched_before q (k.latched q low (stay.from q none e))) [
          | inl own ↦ absurd (false≢true (sym (ap (λ (o : Option Under). latched_under o q) idle) ∙ own))
          | inr others ↦ others
        ]
      ];
      apart = apart_changed k.apart (λ v is q i ne w y p on.
          others_free q i w y p (ap (λ (x : Under). latched_by x p) (same_Some u v (sym starts ∙ is)) ∙ on));
    }

  -- ---- one ends, and lets go of its pages

  module _ (u : Under) (going : r.under ≡ Some u) (ends : (f r).under ≡ None) where
    pub fixed_ended : (old new : List Held) → NoneFixed (pages_of u.writes) new → StayFixed (pages_of u.writes) old new → AreFixedAsLatched rows old → AreFixedAsLatched now new
    fixed_ended old new none stay k = record {
      fixed = λ q low e. elim (latched_now q e) [
        | inl own ↦ absurd (false≢true (sym (ap (λ (o : Option Under). latched_under o q) ends) ∙ own))
        | inr other ↦
            let v = some_under other.0.under q other.3 in
            elim (cases_Bool (among (pages_of u.writes) q)) [
              | inl one ↦ absurd (true≢false (sym v.2 ∙ k.apart r other.0 u v.0 q place.0 other.1 (λ same. other.2 (sym same ∙ place.1)) going v.1 (sym (among_has (pages_of u.writes) q) ∙ one)))
              | inr off ↦ stay.to q off (k.fixed q low (row_latched rows other.0 q other.1 other.3))
            ]
      ];
      latched = λ q low e. elim (cases_Bool (among (pages_of u.writes) q)) [
        | inl one ↦ absurd (none q one e)
        | inr off ↦ elim (latched_before q (k.latched q low (stay.from q off e))) [
          | inl own ↦ absurd (true≢false (sym (among_has (pages_of u.writes) q ∙ ap (λ (o : Option Under). latched_under o q) (sym going) ∙ own) ∙ off))
          | inr others ↦ others
        ]
      ];
      apart = apart_changed k.apart (λ v is q i ne w y p on. absurd (let no : None ≡ Some v = sym ends ∙ is in cc));
    }

  -- ---- it goes, with nothing under way

  pub fixed_gone : (frames : List Held) → r.under ≡ None → AreFixedAsLatched rows frames → AreFixedAsLatched (without_row t rows) frames
  fixed_gone frames idle k = record {
    fixed = λ q low e. (let x = latched_row (without_row t rows) q e in k.fixed q low (row_latched rows x.0 q (gone t rows x.0 x.1).0 x.2));
    latched = λ q low e.
        let x = latched_row rows q (k.latched q low e) in
        elim (cases_Bool (same_txn x.0.txn t)) [
          | inl y ↦ absurd (false≢true (sym (ap (λ (o : Option Under). latched_under o q) (sym (ap (λ (w : Row). w.under) (unique rows r x.0 distinct place.0 x.1 (place.1 ∙ sym (same_is x.0.txn t y)))) ∙ idle)) ∙ x.2))
          | inr n ↦ row_latched (without_row t rows) x.0 q (not_gone t rows x.0 x.1 (not_same x.0.txn t n)) x.2
        ];
    apart = λ a b u v p i j. k.apart a b u v p (gone t rows a i).0 (gone t rows b j).0;
  }

-- a transaction begins, with nothing under way
pub fixed_begun : (t : Txn) (rows : List Row) (frames : List Held) → AreFixedAsLatched rows frames → AreFixedAsLatched (fresh_row t ∷ rows) frames
fixed_begun t rows frames k = record {
  fixed = k.fixed;
  latched = k.latched;
  apart = λ a b u v p i j ne x y on. elim i [
    | inl new ↦ absurd (let no : None ≡ Some u = sym (ap (λ (w : Row). w.under) new) ∙ x in cc)
    | inr old ↦ elim j [
      | inl new ↦ absurd (let no : None ≡ Some v = sym (ap (λ (w : Row). w.under) new) ∙ y in cc)
      | inr other ↦ k.apart a b u v p old other ne x y on
    ]
  ];
}

-- nothing is under way, and no page is fixed
pub fixed_none : (frames : List Held) → ((q : ℕ) → 1 ≤ q → IsFixed frames q → ⊥) → AreFixedAsLatched [] frames
fixed_none frames loose = record {
  fixed = λ q low e. absurd (false≢true e);
  latched = λ q low e. absurd (loose q low e);
  apart = λ a b u v p i. absurd i;
}

-- ---- the calls

-- of two calls that fix pages, or let go of them, each leaves all others as they were
pub stay_then : (ps : List ℕ) (old mid new : List Held) → StayFixed ps old mid → StayFixed ps mid new → StayFixed ps old new
stay_then ps old mid new a b = record { to = λ q no e. b.to q no (a.to q no e); from = λ q no e. a.from q no (b.from q no e) }

-- pages that nobody has latched are to be fixed
module _ (rows : List Row) (ws : List SlotWrite) (old : List Held) (k : AreFixedAsLatched rows old) (free : (p : ℕ) → has_page p (pages_of ws) ≡ true → latched_in rows p ≡ false) where
  unlatched : (q : ℕ) → among (pages_of ws) q ≡ true → latched_in rows q ≡ false
  unlatched q one = free q (sym (among_has (pages_of ws) q) ∙ one)

  -- none of them is
  pub none_fixed : (z : Sizes) → AreSlotWrites z ws → NoneFixed (pages_of ws) old
  none_fixed z slots q one fixed = true≢false (sym (k.latched q (among_stored z (pages_of ws) q (pages_stored z ws slots) one) fixed) ∙ unlatched q one)

  -- nor is one behind a refusal
  pub fixed_left : (new : List Held) → NoneFixed (pages_of ws) new → StayFixed (pages_of ws) old new → AreFixedAsLatched rows new
  fixed_left new none stay = record {
    fixed = λ q low e. elim (cases_Bool (among (pages_of ws) q)) [
      | inl one ↦ absurd (true≢false (sym e ∙ unlatched q one))
      | inr off ↦ stay.to q off (k.fixed q low e)
    ];
    latched = λ q low e. elim (cases_Bool (among (pages_of ws) q)) [
      | inl one ↦ absurd (none q one e)
      | inr off ↦ k.latched q low (stay.from q off e)
    ];
    apart = k.apart;
  }

-- a transaction with nothing under way
module _ (rows : List Row) (t : Txn) (n : ℕ) (distinct : AreDistinct rows) (ready : OnFound (found_row t rows) (λ r. (r.under ≡ None) × (n ≡ r.number + 1))) where
  idle_row : (r : Row) × (found_row t rows ≡ Some r) × ((r.under ≡ None) × (n ≡ r.number + 1))
  idle_row = found_of (λ r. (r.under ≡ None) × (n ≡ r.number + 1)) (found_row t rows) ready

  pub fixed_start : (u : Under) (old new : List Held) → ((p : ℕ) → has_page p (pages_of u.writes) ≡ true → latched_in rows p ≡ false) → ((q : ℕ) → among (pages_of u.writes) q ≡ true → IsFixed new q) → StayFixed (pages_of u.writes) old new
      → AreFixedAsLatched rows old → AreFixedAsLatched (change_row t (row_started u) rows) new
  fixed_start u old new free all stay k = (let r = idle_row in fixed_started t (row_started u) rows r.0 distinct r.1 u r.2.0 refl free old new all stay k)

  pub fixed_aborting : (frames : List Held) → AreFixedAsLatched rows frames → AreFixedAsLatched (change_row t row_aborting rows) frames
  fixed_aborting frames k = (let r = idle_row in fixed_same t row_aborting rows r.0 distinct r.1 frames (λ p. refl) k)

  pub fixed_without : (frames : List Held) → AreFixedAsLatched rows frames → AreFixedAsLatched (without_row t rows) frames
  fixed_without frames k = (let r = idle_row in fixed_gone t (λ q. q) rows r.0 distinct r.1 frames r.2.0 k)

-- an operation under way
module _ (s : State) (f : Bool) (o res : ℕ) (k : IsConsistent s f o res) (sub : Sub) (P : Row → Under → Type 0) (h : IsUnderWay s sub P) where
  -- it has three writes at most
  pub going_few : IsUnderWay s sub (λ r u. length u.writes ≤ 3)
  going_few =
      let g = going_of s sub P h in
      let few = (under_at s f o res sub.txn g.row g.under k g.found g.is).few in
      on_found (λ r. OnUnder sub.number (λ x u. length u.writes ≤ 3) r r.under) (found_row sub.txn s.rows) g.row g.found
      (subst (λ (w : Option Under). OnUnder sub.number (λ x u. length u.writes ≤ 3) g.row w) (sym g.is) (g.number, few))

  step_latched : (w : Option Under) (p : ℕ) → latched_under (under_stepped w) p ≡ latched_under w p
  step_latched None p = refl
  step_latched (Some u) p = refl

  pub fixed_stepped : (frames : List Held) → AreFixedAsLatched s.rows frames → AreFixedAsLatched (change_row sub.txn row_stepped s.rows) frames
  fixed_stepped frames fixed = (let g = going_of s sub P h in fixed_same sub.txn row_stepped s.rows g.row k.distinct g.found frames (step_latched g.row.under) fixed)

-- these are its pages
module _ (s : State) (f : Bool) (o res : ℕ) (k : IsConsistent s f o res) (sub : Sub) (ps : List ℕ) (named : IsUnderWay s sub (λ r u. ps ≡ pages_of u.writes)) where
  pub going_stored : AreOfStore s.sizes ps
  going_stored =
      let g = going_of s sub (λ r u. ps ≡ pages_of u.writes) named in
      subst (AreOfStore s.sizes) (sym g.so) (pages_stored s.sizes g.under.writes (under_at s f o res sub.txn g.row g.under k g.found g.is).slots)

  -- it ends, and lets go of them
  pub fixed_finished : (to : Row → Row) → ((r : Row) → (to r).under ≡ None) → (old new : List Held) → NoneFixed ps new → StayFixed ps old new → AreFixedAsLatched s.rows old → AreFixedAsLatched (change_row sub.txn to s.rows) new
  fixed_finished to ends old new none stay fixed =
      let g = going_of s sub (λ r u. ps ≡ pages_of u.writes) named in
      fixed_ended sub.txn to s.rows g.row k.distinct g.found g.under g.is (ends g.row) old new
      (subst (λ (l : List ℕ). NoneFixed l new) g.so none) (subst (λ (l : List ℕ). StayFixed l old new) g.so stay) fixed

-- the page of the write that it makes next stands in a frame
module _ (s : State) (f : Bool) (o res : ℕ) (k : IsConsistent s f o res) (sub : Sub) (w : SlotWrite) (h : IsUnderWay s sub (Next w)) where
  pub next_framed : (frames : List Held) → AreFixedAsLatched s.rows frames → IsFramed frames (w.at / 16)
  next_framed frames are =
      let g = going_of s sub (Next w) h in
      let latched = row_latched s.rows g.row (w.at / 16) (found_in sub.txn s.rows g.row g.found).0 (ap (λ (u : Option Under). latched_under u (w.at / 16)) g.is ∙ page_latched g.under.writes g.under.made w g.so) in
      let fixed = are.fixed (w.at / 16) (next_slot s f o res k sub w h).place.page_low latched in
      record { at = fixed.at; within = fixed.within; is = fixed.is }
