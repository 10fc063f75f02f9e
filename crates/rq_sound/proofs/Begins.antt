-- A transaction begins.
use Rattle.std.proofs.Common.{◌≡◌, ℕ, ◌+◌, ◌≤◌, ◌&&◌, List, ◌∷◌, refl, sym, ◌∙◌, ap, subst, Bool, true, not, Option, Some, None, inl, inr, arith}
use Rattle.std.proofs.lemmas.Bool.{cases_Bool, cases_lt, true≢false, false≢true}
use Rattle.std.proofs.lemmas.List.Sums.{sum_by-cons}
use Rattle.rq_model.specs.declared.txn.Txn.{Txn}
use Rattle.rq_model.specs.declared.record.Record.{Record}
use Rattle.rq_model.specs.Vocabulary.{In, same_txn}
use Rattle.rq_model.specs.Content.{Said, deeds}
use Rattle.rq_model.specs.Rules.{any_use, uses_send, uses_receive}
use Rattle.rq_page.specs.Sizes.{Sizes}
use Rattle.rq_views.specs.Legal.{over}
use Rattle.rq_views.specs.Items.{items, operation, layout_of}
use Rattle.rq_views.specs.InStore.{IsStranger}
use Rattle.rq_views.proofs.Strangers.{stranger_deeds, stranger_end, stranger_undone, stranger_began, stranger_said}
use Rattle.rq_groups.specs.declared.Held.{Held}
use Rattle.rq_groups.specs.Ends.{HeldEnds}
use Rattle.rq_store.specs.Whole.{IsWhole}
use Rattle.rq_views.proofs.Numbers.{all_begun}
use Rattle.rq_views.specs.Numbers.{greatest}
use Rattle.rq_txn.specs.Rows.{Under, Row, found_row, fresh_row}
use Rattle.rq_store.specs.Settled.{AreEnds}
use Rattle.rq_store.proofs.RowLists.{found_in}
use Rattle.rq_store.proofs.Behind.{stranger_earlier}
use Rattle.rq_sound.specs.Standing.{IsRow, AreStanding}
use Rattle.rq_sound.specs.Counted.{AreCounted, IsCovered, appends_all, appending_in, takes_all, before_in, after_in, takes_in}
use Rattle.rq_sound.proofs.Beside.{SaysSame, row_beside}

module _ (z : Sizes) (log : List Record) (ends : HeldEnds) (rows : List Row) (i b cells : ℕ) (waiting : List ℕ) (whole : IsWhole z log) (k : AreStanding z log ends rows i b) (c : AreCounted z log rows cells waiting) where
  abbrev t : Txn
  t = record { incarnation = i; count = b + 1 }

  abbrev new : List Row
  new = fresh_row t ∷ rows

  stranger : IsStranger t log
  stranger = k.strangers t refl (omega arith)

  not_there : found_row t rows ≡ None
  not_there = at (found_row t rows) refl where
    at : (o : Option Row) → found_row t rows ≡ o → o ≡ None
    at None e = refl
    at (Some r) e = let j = found_in t rows r e in let c : r.txn.count ≤ b = (k.each r j.0).counted in let v : r.txn.count ≡ b + 1 = ap (λ (y : Txn). y.count) j.1 in absurd (omega (arith, c, v))

  no_use : (f : Said → Bool) → any_use f (deeds (λ v. same_txn v t) log) ≡ true → ⊥
  no_use f y = false≢true (sym (ap (any_use f) (stranger_said t log stranger)) ∙ y)

  no_number : greatest t (items z log) ≡ 0
  no_number = elim (cases_lt 0 (greatest t (items z log))) [
    | inl some ↦ absurd (true≢false (sym (all_begun (layout_of z) t (greatest t (items z log)) (items z log) whole.legal whole.numbers (omega (arith, some)) (omega arith)) ∙ stranger_began z t (greatest t (items z log)) log stranger))
    | inr none ↦ omega (arith, none)
  ]

  fresh : IsRow z log ends i (b + 1) (fresh_row t)
  fresh = record {
    of_incarnation = refl;
    counted = omega arith;
    running = stranger_end t log stranger;
    forward = λ e. stranger_undone t log stranger;
    done = stranger_deeds z t log stranger;
    held = record { sends = λ s y. absurd (no_use (uses_send s) y); takes = λ s y. absurd (no_use (uses_receive s) y) };
    behind = stranger_earlier t log stranger;
    numbered = (let e = no_number in omega (arith, e));
    idle = λ n m. ap (λ b. b && not (over (operation t n) (items z log))) (stranger_began z t n log stranger);
    going = tt;
  }

  same : (q : Txn) → SaysSame z log log q
  same q = record { running = refl; earlier_is = refl; undone = refl; done = refl; told = refl; greatest_is = refl; under_way_is = λ n. refl }

  more_ends : (hs : List Held) → AreEnds rows hs → AreEnds new hs
  more_ends hs a = record {
    one = a.one;
    living = λ q e h. elim (cases_Bool (same_txn t q)) [ inl y ↦ rw y refl | inr n ↦ rw n (a.living q e h) ];
  }

  other_none : (q : Txn) → found_row q new ≡ None → found_row q rows ≡ None
  other_none q e = elim (cases_Bool (same_txn t q)) [ inl y ↦ let bad : Some (fresh_row t) ≡ None = rw y at e in cc | inr n ↦ rw n at e ]

  busy : (q : Row) (u : Under) → In q new → q.under ≡ Some u → In q rows
  busy q u j e = elim j [ inl x ↦ (let bad : ◌≡◌ {A = Option Under} None (Some u) = sym (ap (λ (y : Row). y.under) x) ∙ e in absurd (cc)) | inr y ↦ y ]

  pub stands_begin : AreStanding z log ends new i (b + 1)
  stands_begin = record {
    each = λ q j. elim j [
      | inl e ↦ subst (λ (y : Row). IsRow z log ends i (b + 1) y) (sym e) fresh
      | inr h ↦ row_beside z log log ends ends i b (b + 1) q (omega arith) (same q.txn) (λ x. x) (k.each q h).going (k.each q h)
    ];
    distinct = (not_there, k.distinct);
    others = λ q e. k.others q (other_none q e);
    apart = λ p q u v a j l ne e g on. k.apart p q u v a (busy p u j e) (busy q v l g) ne e g on;
    sending = more_ends ends.sending k.sending;
    receiving = more_ends ends.receiving k.receiving;
    strangers = λ q e m. k.strangers q e (omega (arith, m));
  }

  pub counts_begin : AreCounted z log new cells waiting
  counts_begin =
      let a = sum_by-cons appends_all (fresh_row t) rows in
      let d = sum_by-cons appending_in (fresh_row t) rows in
      let e = sum_by-cons takes_all (fresh_row t) rows in
      let f = sum_by-cons (before_in z) (fresh_row t) rows in
      let h = sum_by-cons (after_in z) (fresh_row t) rows in
      let k1 = c.committed in
      let k3 = c.used in
      let k4 = c.room in
      record {
        committed = omega (arith, a, d, k1);
        used = omega (arith, d, e, k3);
        room = omega (arith, f, h, k4);
        bound = c.bound;
        waited = λ g m. (let x = sum_by-cons (takes_in g) (fresh_row t) rows in let y = c.waited g m in omega (arith, x, y));
        covered = λ q j. elim j [ inl e ↦ subst (λ (y : Row). IsCovered waiting y.under) (sym e) tt | inr l ↦ c.covered q l ];
      }
