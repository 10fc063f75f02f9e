-- The ends that lost transactions used: each has one user.
use Rattle.std.proofs.Common.{◌≡◌, ℕ, Bool, true, false, not, ◌&&◌, ◌||◌, ◌⊎◌, nat_eq, List, [], ◌∷◌, map, Option, Some, None, inl, inr, refl, sym, ◌∙◌, ap, subst}
use Rattle.std.proofs.lemmas.Bool.{cases_Bool, false≢true, or_parts, or_cases, and_parts, and_from, eqb-true, not-true}
use Rattle.std.proofs.Math.Bool.{and-false}
use Rattle.rq_model.specs.declared.txn.Txn.{Txn}
use Rattle.rq_model.specs.declared.record.Record.{Record}
use Rattle.rq_model.specs.Vocabulary.{In, is_some, same_txn, has_txn}
use Rattle.rq_model.specs.Content.{Ending, Said, ending, kept, deeds, has_end, ends_txn}
use Rattle.rq_model.specs.Content.Said.{Added, Removed, Ended, Marked}
use Rattle.rq_model.specs.Rules.{EndingMay, KeepsRules, any_use, holds, uses_receive, uses_send}
use Rattle.rq_model.specs.Unended.{lost}
use Rattle.rq_model.proofs.Lists.{same_is}
use Rattle.rq_model.proofs.Ends.{in_has, has_in}
use Rattle.rq_page.specs.Sizes.{Sizes}
use Rattle.rq_groups.specs.declared.Held.{Held}
use Rattle.rq_groups.specs.Ends.{has_held, with_held}
use Rattle.rq_txn.specs.Rows.{AreDistinct, found_row}
use Rattle.rq_views.proofs.OpenCounts.{AreApart}
use Rattle.rq_store.specs.Settled.{AreEnds}
use Rattle.rq_sound.specs.Standing.{HoldsAll}
use Rattle.rq_analysis.specs.Lost.{lost_ends, lost_row, lost_rows, receiving_end, sending_end, used_by, with_all_used, with_used}
use Rattle.rq_analysis.proofs.Workers.{lost_apart, lost_running}

-- Two that use one end and have not ended are one: the later one found nobody there.
abbrev OthersAreOut : (Said → Bool) → Type 0
OthersAreOut f = (log : List Record) (e : Ending) → EndingMay log (Some e) → f e.said ≡ true → (u : Txn) → holds f log u ≡ true → u ≡ e.txn

-- who used the end used it before, or does so now
used_before : (f : Said → Bool) (t : Txn) (x : Option Ending) (ds : List Said) → any_use f (kept (λ u. same_txn u t) x ds) ≡ true → (any_use f ds ≡ true) ⊎ ((e : Ending) × (x ≡ Some e) × (e.txn ≡ t) × (f e.said ≡ true))
used_before f t None ds h = inl h
used_before f t (Some e) ds h = elim (cases_Bool (same_txn e.txn t)) [
  | inl own ↦ elim (or_cases (f e.said) (any_use f ds) (rw own at h)) [
    | inl y ↦ inr (e, refl, same_is e.txn t own, y)
    | inr n ↦ inl n
  ]
  | inr other ↦ inl (rw other at h)
]

one_user : (f : Said → Bool) → OthersAreOut f → (log : List Record) → KeepsRules log → (t u : Txn) → holds f log t ≡ true → holds f log u ≡ true → t ≡ u
one_user f out [] k t u a b = absurd (false≢true a)
one_user f out (r ∷ log) k t u a b =
    let p = split t a in
    let q = split u b in
    elim (used_before f t (ending r) (deeds (λ v. same_txn v t) log) p.0) [
      | inl before ↦ elim (used_before f u (ending r) (deeds (λ v. same_txn v u) log) q.0) [
        | inl too ↦ one_user f out log k.2 t u (join t before p.1) (join u too q.1)
        | inr now ↦ out log now.0 (subst (EndingMay log) now.1 k.0) now.3 t (join t before p.1) ∙ now.2
      ]
      | inr new ↦ elim (used_before f u (ending r) (deeds (λ v. same_txn v u) log) q.0) [
        | inl before ↦ sym new.2 ∙ sym (out log new.0 (subst (EndingMay log) new.1 k.0) new.3 u (join u before q.1))
        | inr now ↦ sym new.2 ∙ ap (λ (e : Ending). e.txn) (same_one new.0 now.0 (sym new.1 ∙ now.1)) ∙ now.2
      ]
    ]
  where
    same_one : (d e : Ending) → Some d ≡ Some e → d ≡ e
    same_one d e h = cc

    split : (v : Txn) → holds f (r ∷ log) v ≡ true → (any_use f (kept (λ w. same_txn w v) (ending r) (deeds (λ w. same_txn w v) log)) ≡ true) × (has_end log v ≡ false)
    split v h =
        let g = and_parts (any_use f (deeds (λ w. same_txn w v) (r ∷ log))) (not (has_end (r ∷ log) v)) h in
        (g.0, (or_parts (ends_txn v r) (has_end log v) (not-true (has_end (r ∷ log) v) g.1)).1)

    join : (v : Txn) → any_use f (deeds (λ w. same_txn w v) log) ≡ true → has_end log v ≡ false → holds f log v ≡ true
    join v used running = and_from (any_use f (deeds (λ w. same_txn w v) log)) (not (has_end log v)) used (ap not running)

sends_out : (s : ℕ) → OthersAreOut (uses_send s)
sends_out s log e may = (may s).alone_send

takes_out : (s : ℕ) → OthersAreOut (uses_receive s)
takes_out s log e may = (may s).alone_receive

-- one end more
has_with : (u t : Txn) (s e : ℕ) (hs : List Held) → has_held u s (with_held t e hs) ≡ ((same_txn t u && nat_eq e s) || has_held u s hs)
has_with u t s e hs = elim (cases_Bool (has_held t e hs)) [
  | inl y ↦ rw y (elim (cases_Bool (same_txn t u && nat_eq e s)) [
    | inl own ↦
        let p = and_parts (same_txn t u) (nat_eq e s) own in
        let same : has_held t e hs ≡ has_held u s hs = ap (λ (v : Txn). has_held v e hs) (same_is t u p.0) ∙ ap (λ n. has_held u n hs) (eqb-true e s p.1) in
        sym same ∙ y ∙ sym (ap (λ b. b || has_held u s hs) own)
    | inr other ↦ sym (ap (λ b. b || has_held u s hs) other)
  ])
  | inr n ↦ rw n refl
]

abbrev is_end_of : ℕ → Option ℕ → Bool
is_end_of s None = false
is_end_of s (Some e) = nat_eq e s

has_used : (u t : Txn) (s : ℕ) (x : Option ℕ) (hs : List Held) → has_held u s (with_used t x hs) ≡ ((same_txn t u && is_end_of s x) || has_held u s hs)
has_used u t s None hs = sym (ap (λ b. b || has_held u s hs) (and-false (same_txn t u)))
has_used u t s (Some e) hs = has_with u t s e hs

either : (a b c d : Bool) → ((a && b) || ((a && c) || d)) ≡ ((a && (b || c)) || d)
either true true c d = refl
either true false c d = refl
either false b c d = refl

has_all_used : (side : Said → Option ℕ) (f : Said → Bool) (s : ℕ) → ((d : Said) → is_end_of s (side d) ≡ f d) → (u t : Txn) (ds : List Said) (hs : List Held) → has_held u s (with_all_used side t ds hs) ≡ ((same_txn t u && any_use f ds) || has_held u s hs)
has_all_used side f s same u t [] hs = sym (ap (λ b. b || has_held u s hs) (and-false (same_txn t u)))
has_all_used side f s same u t (d ∷ ds) hs =
    has_used u t s (side d) (with_all_used side t ds hs)
    ∙ ap (λ b. (same_txn t u && b) || has_held u s (with_all_used side t ds hs)) (same d)
    ∙ ap (λ b. (same_txn t u && f d) || b) (has_all_used side f s same u t ds hs)
    ∙ either (same_txn t u) (f d) (any_use f ds) (has_held u s hs)

absorbed : (a h : Bool) → (a || (h && a)) ≡ a
absorbed true h = refl
absorbed false true = refl
absorbed false false = refl

-- who holds an end is one of these, and used it
has_used_by : (side : Said → Option ℕ) (f : Said → Bool) (s : ℕ) → ((d : Said) → is_end_of s (side d) ≡ f d) → (log : List Record) (u : Txn) (ts : List Txn) → has_held u s (used_by side log ts) ≡ (has_txn u ts && any_use f (deeds (λ v. same_txn v u) log))
has_used_by side f s same log u [] = refl
has_used_by side f s same log u (t ∷ ts) =
    let own : Txn → Bool = λ v. any_use f (deeds (λ w. same_txn w v) log) in
    has_all_used side f s same u t (deeds (λ v. same_txn v t) log) (used_by side log ts)
    ∙ ap (λ b. (same_txn t u && own t) || b) (has_used_by side f s same log u ts)
    ∙ elim (cases_Bool (same_txn t u)) [
      | inl y ↦ rw y (ap (λ b. b || (has_txn u ts && own u)) (ap own (same_is t u y)) ∙ absorbed (own u) (has_txn u ts))
      | inr n ↦ rw n refl
    ]

sending_is : (s : ℕ) (d : Said) → is_end_of s (sending_end d) ≡ uses_send s d
sending_is s (Added m) = refl
sending_is s (Removed m) = refl
sending_is s (Ended e) = refl
sending_is s (Marked c tag) = refl

receiving_is : (s : ℕ) (d : Said) → is_end_of s (receiving_end d) ≡ uses_receive s d
receiving_is s (Added m) = refl
receiving_is s (Removed m) = refl
receiving_is s (Ended e) = refl
receiving_is s (Marked c tag) = refl

sends_are : (log : List Record) (s : ℕ) (u : Txn) → has_held u s (lost_ends log).sending ≡ (has_txn u (lost log) && any_use (uses_send s) (deeds (λ v. same_txn v u) log))
sends_are log s u = has_used_by sending_end (uses_send s) s (sending_is s) log u (lost log)

takes_are : (log : List Record) (s : ℕ) (u : Txn) → has_held u s (lost_ends log).receiving ≡ (has_txn u (lost log) && any_use (uses_receive s) (deeds (λ v. same_txn v u) log))
takes_are log s u = has_used_by receiving_end (uses_receive s) s (receiving_is s) log u (lost log)

pub lost_holds : (log : List Record) (t : Txn) → In t (lost log) → HoldsAll (lost_ends log) t log
lost_holds log t i =
    let here = in_has t (lost log) i in
    record {
      sends = λ s e. sends_are log s t ∙ and_from (has_txn t (lost log)) (any_use (uses_send s) (deeds (λ u. same_txn u t) log)) here e;
      takes = λ s e. takes_are log s t ∙ and_from (has_txn t (lost log)) (any_use (uses_receive s) (deeds (λ u. same_txn u t) log)) here e;
    }

-- a lost transaction has its row
pub row_none : (z : Sizes) (log : List Record) (t : Txn) (ts : List Txn) → found_row t (map (lost_row z log) ts) ≡ None → has_txn t ts ≡ false
row_none z log t [] e = refl
row_none z log t (u ∷ ts) e = elim (cases_Bool (same_txn u t)) [
  | inl y ↦ let bad : Some (lost_row z log u) ≡ None = rw y at e in absurd (cc)
  | inr n ↦ rw n (row_none z log t ts (rw n at e))
]

pub none_row : (z : Sizes) (log : List Record) (t : Txn) (ts : List Txn) → has_txn t ts ≡ false → found_row t (map (lost_row z log) ts) ≡ None
none_row z log t [] n = refl
none_row z log t (u ∷ ts) n = let p = or_parts (same_txn u t) (has_txn t ts) n in rw p.0 (none_row z log t ts p.1)

some_row : (z : Sizes) (log : List Record) (t : Txn) (ts : List Txn) → has_txn t ts ≡ true → is_some (found_row t (map (lost_row z log) ts)) ≡ true
some_row z log t [] h = absurd (false≢true h)
some_row z log t (u ∷ ts) h = elim (cases_Bool (same_txn u t)) [
  | inl y ↦ rw y refl
  | inr n ↦ rw n (some_row z log t ts (rw n at h))
]

distinct : (z : Sizes) (log : List Record) (ts : List Txn) → AreApart ts → AreDistinct (map (lost_row z log) ts)
distinct z log [] a = tt
distinct z log (t ∷ ts) a = (none_row z log t ts a.0, distinct z log ts a.1)

pub lost_distinct : (z : Sizes) (log : List Record) → AreDistinct (lost_rows z log)
lost_distinct z log = distinct z log (lost log) (lost_apart log)

-- each end has one holder at most, who is lost
ends_stand : (z : Sizes) (log : List Record) (f : ℕ → Said → Bool) (hs : List Held) → ((s : ℕ) → OthersAreOut (f s)) → KeepsRules log → ((s : ℕ) (u : Txn) → has_held u s hs ≡ (has_txn u (lost log) && any_use (f s) (deeds (λ v. same_txn v u) log))) → AreEnds (lost_rows z log) hs
ends_stand z log f hs out k are = record {
  one = λ t u s a b. one_user (f s) (out s) log k t u (user t s a) (user u s b);
  living = λ t s a. some_row z log t (lost log) (parts t s a).0;
} where
  parts : (t : Txn) (s : ℕ) → has_held t s hs ≡ true → (has_txn t (lost log) ≡ true) × (any_use (f s) (deeds (λ v. same_txn v t) log) ≡ true)
  parts t s a = and_parts (has_txn t (lost log)) (any_use (f s) (deeds (λ v. same_txn v t) log)) (sym (are s t) ∙ a)

  user : (t : Txn) (s : ℕ) → has_held t s hs ≡ true → holds (f s) log t ≡ true
  user t s a =
      let p = parts t s a in
      and_from (any_use (f s) (deeds (λ v. same_txn v t) log)) (not (has_end log t)) p.1 (ap not (lost_running log t (has_in t (lost log) p.0)))

pub sends_stand : (z : Sizes) (log : List Record) → KeepsRules log → AreEnds (lost_rows z log) (lost_ends log).sending
sends_stand z log k = ends_stand z log uses_send (lost_ends log).sending sends_out k (sends_are log)

pub takes_stand : (z : Sizes) (log : List Record) → KeepsRules log → AreEnds (lost_rows z log) (lost_ends log).receiving
takes_stand z log k = ends_stand z log uses_receive (lost_ends log).receiving takes_out k (takes_are log)
