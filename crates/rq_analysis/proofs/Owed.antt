-- The OpEnds of a transaction that no CompEnd names are kept.
use Rattle.std.proofs.Common.{◌≡◌, ℕ, suc, ◌+◌, ◌<◌, ◌≤◌, Bool, true, false, not, ◌||◌, ◌&&◌, nat_eq, List, [], ◌∷◌, length, map, Some, inl, inr, refl, sym, ◌∙◌, ap, subst, arith}
use Rattle.std.specs.List.{filter}
use Rattle.std.proofs.lemmas.Bool.{cases_Bool, eq-eqb, ne_eqb, or_parts}
use Rattle.rq_model.specs.declared.txn.Txn.{Txn}
use Rattle.rq_model.specs.declared.record.Record.{Record}
use Rattle.rq_model.specs.declared.record.Record.TheVariants as records
use Rattle.rq_model.specs.Content.{has_end}
use Rattle.rq_model.specs.Unended.{any_record}
use Rattle.rq_model.specs.Vocabulary.{In, first, same_txn}
use Rattle.rq_model.proofs.Lists.{In-filter, same_is}
use Rattle.rq_views.proofs.AllOpen.{tail}
use Rattle.rq_analysis.proofs.Stacks.{other_newest, other_none, own_newest}
use Rattle.rq_analysis.specs.declared.dues.PendingUndo.{PendingUndo}
use Rattle.rq_analysis.specs.Dues.{but_newest, due_of, dues, lsn_due}
use Rattle.rq_analysis.proofs.Marks.{none_finished}
use Rattle.rq_analysis.proofs.Noting.{filter_twice, filter_same}
use Rattle.rq_analysis.specs.Rules.{FollowAll, ends_of, left_of, takes_back}
use Rattle.rq_analysis.proofs.Lists.{first_in, first_split}

abbrev pub lsn_of : PendingUndo → ℕ
lsn_of d = d.lsn

abbrev pub is_left : Txn → List Record → ℕ → Bool
is_left t log n = not (any_record (takes_back t n) log)

-- the newest stands first, and all are below this one
abbrev pub AreBelow : ℕ → List ℕ → Type 0
AreBelow n [] = Unit {0}
AreBelow n (m ∷ ms) = (m < n) × AreBelow m ms

below_more : (m n : ℕ) (ns : List ℕ) → m ≤ n → AreBelow m ns → AreBelow n ns
below_more m n [] le h = tt
below_more m n (k ∷ ns) le h = ((let a = h.0 in omega (arith, a, le)), h.1)

below_filter : (f : ℕ → Bool) (n : ℕ) (ns : List ℕ) → AreBelow n ns → AreBelow n (filter f ns)
below_filter f n [] h = tt
below_filter f n (m ∷ ns) h = elim (cases_Bool (f m)) [
  | inl y ↦ rw y (h.0, below_filter f m ns h.1)
  | inr off ↦ rw off (let a = h.0 in below_more m n (filter f ns) (omega (arith, a)) (below_filter f m ns h.1))
]

pub all_below : (n : ℕ) (ns : List ℕ) (m : ℕ) → AreBelow n ns → In m ns → m < n
all_below n [] m h i = absurd i
all_below n (k ∷ ns) m h i = elim i [
  | inl e ↦ (let b = h.0 in omega (arith, e, b))
  | inr j ↦ (let a = all_below k ns m h.1 j in let b = h.0 in omega (arith, a, b))
]

older_below : (t : Txn) (log : List Record) → AreBelow (length log + 1) (ends_of t log) → AreBelow (suc (length log) + 1) (ends_of t log)
older_below t log h = below_more (length log + 1) (suc (length log) + 1) (ends_of t log) (omega arith) h

pub ends_below : (t : Txn) (log : List Record) → AreBelow (length log + 1) (ends_of t log)
ends_below t [] = tt
ends_below t (records.OpEnd u n level deed ∷ log) = elim (cases_Bool (same_txn u t)) [
  | inl y ↦ rw y (omega arith, ends_below t log)
  | inr m ↦ rw m (older_below t log (ends_below t log))
]
ends_below t (_ ∷ log) = older_below t log (ends_below t log)

pub names_older : (t : Txn) (log : List Record) (n : ℕ) → first (left_of t log) ≡ Some n → n < length log + 1
names_older t log n e =
    let k = In-filter (is_left t log) (ends_of t log) n (first_in (left_of t log) n e) in
    all_below (length log + 1) (ends_of t log) n (ends_below t log) k.0

none_later : (t : Txn) (log : List Record) (n : ℕ) → FollowAll log → length log < n → any_record (takes_back t n) log ≡ false
none_later t [] n f lt = refl
none_later t (records.CompEnd u m undone ∷ log) n f lt =
    let a = names_older u log undone f.0.takes_back in
    let other : nat_eq undone n ≡ false = ne_eqb undone n (λ e. absurd (omega (arith, a, e, lt))) in
    rw other (none_there (same_txn u t) (any_record (takes_back t n) log) (none_later t log n f.1 (omega (arith, lt))))
  where
    none_there : (b c : Bool) → c ≡ false → ((b && false) || c) ≡ false
    none_there true c e = e
    none_there false c e = e
none_later t (records.PageOp u m page slot before after ∷ log) n f lt = none_later t log n f.1 (omega (arith, lt))
none_later t (_ ∷ log) n f lt = none_later t log n f.1 (omega (arith, lt))

-- the first alone is left out
but : (n m : ℕ) (ns : List ℕ) → m ≤ n → AreBelow m ns → filter (λ k. not (nat_eq n k)) ns ≡ ns
but n m [] le h = refl
but n m (k ∷ ns) le h =
    let lt = h.0 in
    let other : nat_eq n k ≡ false = ne_eqb n k (λ e. absurd (omega (arith, e, lt, le))) in
    rw other (ap (λ l. k ∷ l) (but n k ns (omega (arith, lt, le)) h.1))

but_first : (n : ℕ) (ms : List ℕ) (m : ℕ) → AreBelow n ms → first ms ≡ Some m → filter (λ k. not (nat_eq m k)) ms ≡ tail ms
but_first n ms m h e =
    let k = first_split ms m e in
    let b : AreBelow n (m ∷ k.0) = subst (AreBelow n) k.1 h in
    let own : nat_eq m m ≡ true = eq-eqb m m refl in
    ap (filter (λ q. not (nat_eq m q))) k.1 ∙ rw own (but m m k.0 (omega arith) b.1) ∙ ap tail (sym k.1)

-- what is due of a transaction
apart : (u t : Txn) → same_txn u t ≡ false → (d : PendingUndo) → due_of u d ≡ true → due_of t d ≡ false
apart u t n d e = ap (λ v. same_txn v t) (same_is d.txn u e) ∙ n

map_rest : (ds : List PendingUndo) → map lsn_of (tail ds) ≡ tail (map lsn_of ds)
map_rest [] = refl
map_rest (d ∷ ds) = refl

taken_other : (u t : Txn) (lsn : ℕ) (log : List Record) → same_txn u t ≡ false → left_of t log ≡ filter (λ n. not ((same_txn u t && nat_eq lsn n) || any_record (takes_back t n) log)) (ends_of t log)
taken_other u t lsn log off = filter_same (is_left t log) (λ n. not ((same_txn u t && nat_eq lsn n) || any_record (takes_back t n) log)) (ends_of t log) (λ n. rw off refl)

taken_own : (u t : Txn) (lsn : ℕ) (log : List Record) → same_txn u t ≡ true
    → filter (λ n. not (nat_eq lsn n)) (left_of t log) ≡ filter (λ n. not ((same_txn u t && nat_eq lsn n) || any_record (takes_back t n) log)) (ends_of t log)
taken_own u t lsn log y =
    sym (filter_twice (λ n. nat_eq lsn n) (λ n. any_record (takes_back t n) log) (ends_of t log))
    ∙ filter_same (λ n. not (nat_eq lsn n || any_record (takes_back t n) log)) (λ n. not ((same_txn u t && nat_eq lsn n) || any_record (takes_back t n) log)) (ends_of t log) (λ n. rw y refl)

-- of a transaction without an end that is due which no CompEnd names
pub dues_kept : (log : List Record) → FollowAll log → (t : Txn) → has_end log t ≡ false → map lsn_of (filter (due_of t) (dues log)) ≡ left_of t log
dues_kept [] f t g = refl
dues_kept (records.OpEnd u n level deed ∷ log) f t g = elim (cases_Bool (same_txn u t)) [
  | inl y ↦
      let none : any_record (takes_back t (length log + 1)) log ≡ false = none_later t log (length log + 1) f.1 (omega arith) in
      rw (y, none) (ap (λ l. (length log + 1) ∷ l) (dues_kept log f.1 t g))
  | inr m ↦ rw m (dues_kept log f.1 t g)
]
dues_kept (records.CompEnd u n lsn ∷ log) f t g = elim (cases_Bool (same_txn u t)) [
  | inl y ↦
      let is : u ≡ t = same_is u t y in
      let named : first (left_of t log) ≡ Some lsn = ap (λ (v : Txn). first (left_of v log)) (sym is) ∙ f.0.takes_back in
      ap (λ (v : Txn). map lsn_of (filter (due_of t) (but_newest v (dues log)))) is ∙ ap (map lsn_of) (own_newest (due_of t) (dues log)) ∙ map_rest (filter (due_of t) (dues log)) ∙ ap tail (dues_kept log f.1 t g)
      ∙ sym (but_first (length log + 1) (left_of t log) lsn (below_filter (is_left t log) (length log + 1) (ends_of t log) (ends_below t log)) named)
      ∙ taken_own u t lsn log y
  | inr m ↦ ap (map lsn_of) (other_newest (due_of u) (due_of t) (dues log) (apart u t m)) ∙ dues_kept log f.1 t g ∙ taken_other u t lsn log m
]
dues_kept (records.Commit u ∷ log) f t g =
    let k = or_parts (same_txn u t || false) (has_end log t) g in
    ap (map lsn_of) (other_none (due_of u) (due_of t) (dues log) (apart u t (or_parts (same_txn u t) false k.0).0)) ∙ dues_kept log f.1 t k.1
dues_kept (records.AbortEnd u ∷ log) f t g =
    let k = or_parts (same_txn u t) (has_end log t) g in
    ap (map lsn_of) (other_none (due_of u) (due_of t) (dues log) (apart u t k.0)) ∙ dues_kept log f.1 t k.1
dues_kept (records.Base many i ∷ log) f t g = sym (ap (filter (is_left t (records.Base many i ∷ log))) (ap (ends_of t) f.0.begins ∙ none_finished t many))
dues_kept (_ ∷ log) f t g = dues_kept log f.1 t g

first_lsn : (ds : List PendingUndo) → lsn_due (first ds) ≡ first (map lsn_of ds)
first_lsn [] = refl
first_lsn (d ∷ ds) = refl

pub due_kept : (log : List Record) → FollowAll log → (t : Txn) → has_end log t ≡ false → lsn_due (first (filter (due_of t) (dues log))) ≡ first (left_of t log)
due_kept log f t g = first_lsn (filter (due_of t) (dues log)) ∙ ap first (dues_kept log f t g)
