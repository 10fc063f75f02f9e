-- What a log says of what is due in it, and of the transactions that have no end.
use Rattle.rq_analysis.specs.Pages.{txn_less}
use Rattle.std.proofs.Common.{◌≡◌, ℕ, ◌+◌, ◌<◌, true, false, not, List, [], ◌∷◌, ◌++◌, length, Option, Some, None, inl, inr, ◌⊎◌, refl, sym, ◌∙◌, ap, subst, arith}
use Rattle.std.proofs.lemmas.Bool.{cases_Bool, false≢true, or_parts, true≢false}
use Rattle.rq_model.specs.declared.record.Record.{Record}
use Rattle.rq_model.specs.declared.record.Record.TheVariants.{PageOp, PageUndo, OpEnd, OpVoid, CompEnd, Commit, Restart, AbortEnd, Base}
use Rattle.rq_model.specs.declared.txn.Txn.{Txn}
use Rattle.rq_model.specs.Content.{commits_txn, ends_txn, has_end}
use Rattle.rq_model.specs.Vocabulary.{In, has_txn, same_txn}
use Rattle.rq_model.proofs.Lists.{In-filter, same_is, same_self}
use Rattle.rq_record.specs.Spelling.{IsTxnInRange}
use Rattle.rq_model.specs.Bases.{is_base}
use Rattle.rq_log.specs.Spelled.{AreSpelled}
use Rattle.rq_analysis.specs.OpenWorkView.{open_work_of, with_txn, without_txn}
use Rattle.rq_analysis.specs.declared.dues.PendingUndo.{PendingUndo}
use Rattle.rq_analysis.specs.Choices.{least_free, lesser_in}
use Rattle.rq_analysis.specs.Dues.{any_due, but_own, due_of, dues}
use Rattle.rq_analysis.proofs.Stacks.{in_newest}

own_in : (t : Txn) (ds : List PendingUndo) (d : PendingUndo) → In d (but_own t ds) → In d ds
own_in t ds d i = (In-filter (λ (x : PendingUndo). not (due_of t x)) ds d i).0

-- where nothing is the transaction's, all stay
pub own_stay : (t : Txn) (ds : List PendingUndo) → any_due t ds ≡ false → but_own t ds ≡ ds
own_stay t [] off = refl
own_stay t (d ∷ ds) off = let k = or_parts (same_txn d.txn t) (any_due t ds) off in rw k.0 (ap (λ l. d ∷ l) (own_stay t ds k.1))

-- what is due is told by an OpEnd of the log
pub due_told : (P : PendingUndo → Type 0) (Q : List Record → Type 0) → ((r : Record) (log : List Record) → is_base r ≡ false → Q (r ∷ log) → Q log)
    → ((t : Txn) (n level : ℕ) (deed : List ℕ) (log : List Record) → Q (OpEnd t n level deed ∷ log) → P (record { txn = t; lsn = length log + 1; number = n; level = level; deed = deed }))
    → (log : List Record) → Q log → (d : PendingUndo) → In d (dues log) → P d
due_told P Q older one [] q d i = absurd i
due_told P Q older one (OpEnd t n level deed ∷ log) q d i = elim i [
  | inl e ↦ subst P (sym e) (one t n level deed log q)
  | inr j ↦ due_told P Q older one log (older (OpEnd t n level deed) log refl q) d j
]
due_told P Q older one (CompEnd t n undone ∷ log) q d i = due_told P Q older one log (older (CompEnd t n undone) log refl q) d (in_newest (due_of t) (dues log) d i)
due_told P Q older one (Commit t ∷ log) q d i = due_told P Q older one log (older (Commit t) log refl q) d (own_in t (dues log) d i)
due_told P Q older one (PageOp t n page slot before after ∷ log) q d i = due_told P Q older one log (older (PageOp t n page slot before after) log refl q) d i
due_told P Q older one (PageUndo t n undone page slot after ∷ log) q d i = due_told P Q older one log (older (PageUndo t n undone page slot after) log refl q) d i
due_told P Q older one (OpVoid t n ∷ log) q d i = due_told P Q older one log (older (OpVoid t n) log refl q) d i
due_told P Q older one (Restart n ∷ log) q d i = due_told P Q older one log (older (Restart n) log refl q) d i
due_told P Q older one (Base many n ∷ log) q d i = absurd i
due_told P Q older one (AbortEnd t ∷ log) q d i = due_told P Q older one log (older (AbortEnd t) log refl q) d (own_in t (dues log) d i)

abbrev IsDueInRange : PendingUndo → Type 0
IsDueInRange d = IsTxnInRange d.txn × (0 < d.lsn)

told_less : (r : Record) (log : List Record) → is_base r ≡ false → AreSpelled (r ∷ log) → AreSpelled log
told_less (Base many n) log plain h = absurd (cc plain)
told_less _ log plain h = h.1

pub due_range : (log : List Record) → AreSpelled log → (d : PendingUndo) → In d (dues log) → IsDueInRange d
due_range log a d i = due_told IsDueInRange AreSpelled told_less (λ t n level deed older h. (h.0.0.0, omega arith)) log a d i

-- transactions without an end are in range
with_in : (t : Txn) (ts : List Txn) (x : Txn) → In x (with_txn t ts) → (x ≡ t) ⊎ In x ts
with_in t ts x i = elim (cases_Bool (has_txn t ts)) [
  | inl y ↦ inr (rw y at i)
  | inr n ↦ by ts (rw n at i)
] where
  by : (us : List Txn) → In x (us ++ t ∷ []) → (x ≡ t) ⊎ In x us
  by [] j = elim j [ inl e ↦ inl e | inr k ↦ absurd k ]
  by (u ∷ us) j = elim j [ inl e ↦ inr (inl e) | inr k ↦ elim (by us k) [ inl e ↦ inl e | inr m ↦ inr (inr m) ] ]

pub active_range : (log : List Record) → AreSpelled log → (t : Txn) → In t (open_work_of log).active → IsTxnInRange t
active_range [] a t i = absurd i
active_range (OpEnd u n level deed ∷ log) a t i = elim (with_in u (open_work_of log).active t i) [
  | inl e ↦ subst IsTxnInRange (sym e) a.0.0.0
  | inr j ↦ active_range log a.1 t j
]
active_range (Commit u ∷ log) a t i = active_range log a.1 t (In-filter (λ (x : Txn). not (same_txn u x)) (open_work_of log).active t i).0
active_range (AbortEnd u ∷ log) a t i = active_range log a.1 t (In-filter (λ (x : Txn). not (same_txn u x)) (open_work_of log).active t i).0
active_range (Base many i ∷ log) a t j = absurd j
active_range (_ ∷ log) a t i = active_range log a.1 t i

-- ---- which transaction is next, once the first due is taken back

-- each of these has something due
abbrev AllOwe : List PendingUndo → List Txn → Type 0
AllOwe ds [] = Unit {0}
AllOwe ds (t ∷ ts) = (any_due t ds ≡ true) × AllOwe ds ts

all_owe : (ds : List PendingUndo) (ts : List Txn) → least_free ds ts ≡ None → AllOwe ds ts
all_owe ds [] e = tt
all_owe ds (t ∷ ts) e = elim (cases_Bool (any_due t ds)) [
  | inl y ↦ (y, all_owe ds ts (rw y at e))
  | inr n ↦ (let bad : Some (lesser_in t (least_free ds ts)) ≡ None = rw n at e in absurd (cc bad))
]

none_owes : (ds : List PendingUndo) (ts : List Txn) → AllOwe ds ts → least_free ds ts ≡ None
none_owes ds [] h = refl
none_owes ds (t ∷ ts) h = rw h.0 (none_owes ds ts h.1)

-- of nothing due all are free
pub nobody_left : (ts : List Txn) → least_free [] ts ≡ None → ts ≡ []
nobody_left [] e = refl
nobody_left (t ∷ ts) e = absurd (cc e)

module _ (d : PendingUndo) (ds : List PendingUndo) where
  turned : (t : Txn) → same_txn d.txn t ≡ false → any_due t (d ∷ ds) ≡ true → any_due t ds ≡ true
  turned t n y = rw n at y

  still_owe : (ts : List Txn) → any_due d.txn ds ≡ true → AllOwe (d ∷ ds) ts → AllOwe ds ts
  still_owe [] y h = tt
  still_owe (t ∷ ts) y h = (
    elim (cases_Bool (same_txn d.txn t)) [
      | inl same ↦ ap (λ (u : Txn). any_due u ds) (sym (same_is d.txn t same)) ∙ y
      | inr other ↦ turned t other h.0
    ],
    still_owe ts y h.1,
  )

  -- it has more due
  pub none_then : (ts : List Txn) → any_due d.txn ds ≡ true → least_free (d ∷ ds) ts ≡ None → least_free ds ts ≡ None
  none_then ts y e = none_owes ds ts (still_owe ts y (all_owe (d ∷ ds) ts e))

  others_owe : (ts : List Txn) → AllOwe (d ∷ ds) ts → AllOwe ds (without_txn d.txn ts)
  others_owe [] h = tt
  others_owe (t ∷ ts) h = elim (cases_Bool (same_txn d.txn t)) [
    | inl same ↦ rw same (others_owe ts h.1)
    | inr other ↦ rw other (turned t other h.0, others_owe ts h.1)
  ]

  -- it has not, and is ended
  pub none_behind : (ts : List Txn) → least_free (d ∷ ds) ts ≡ None → least_free ds (without_txn d.txn ts) ≡ None
  none_behind ts e = none_owes ds (without_txn d.txn ts) (others_owe ts (all_owe (d ∷ ds) ts e))

  abbrev IsOneOf : List Txn → Type 0
  IsOneOf ts = ((least_free ds ts ≡ None) × (In d.txn ts → ⊥)) ⊎ (least_free ds ts ≡ Some d.txn)

  lesser_self : (t : Txn) → lesser_in t (Some t) ≡ t
  lesser_self t = elim (cases_Bool (txn_less t t)) [ inl y ↦ rw y refl | inr n ↦ rw n refl ]

  is_one : (ts : List Txn) → any_due d.txn ds ≡ false → AllOwe (d ∷ ds) ts → IsOneOf ts
  is_one [] n h = inl (refl, λ i. i)
  is_one (t ∷ ts) n h = elim (cases_Bool (same_txn d.txn t)) [
    | inl same ↦
        let e : d.txn ≡ t = same_is d.txn t same in
        let off : any_due t ds ≡ false = ap (λ (u : Txn). any_due u ds) (sym e) ∙ n in
        inr (rw off (elim (is_one ts n h.1) [
          | inl none ↦ ap (λ (o : Option Txn). Some (lesser_in t o)) none.0 ∙ ap (λ (u : Txn). Some u) (sym e)
          | inr some ↦ ap (λ (o : Option Txn). Some (lesser_in t o)) (some ∙ ap (λ (u : Txn). Some u) e) ∙ ap (λ (u : Txn). Some u) (lesser_self t ∙ sym e)
        ]))
    | inr other ↦
        let y : any_due t ds ≡ true = turned t other h.0 in
        elim (is_one ts n h.1) [
          | inl none ↦ inl (rw y none.0, λ i. elim i [ inl e ↦ true≢false (sym (same_self d.txn) ∙ ap (same_txn d.txn) e ∙ other) | inr j ↦ none.1 j ])
          | inr some ↦ inr (rw y some)
        ]
  ]

  -- it has not, and is next
  pub one_next : (ts : List Txn) → any_due d.txn ds ≡ false → least_free (d ∷ ds) ts ≡ None → In d.txn ts → least_free ds ts ≡ Some d.txn
  one_next ts n e i = elim (is_one ts n (all_owe (d ∷ ds) ts e)) [
    | inl none ↦ absurd (none.1 i)
    | inr some ↦ some
  ]

-- ---- a transaction of which something is due, and that has not ended, is one of those without an end

stays_in : (t : Txn) (ts : List Txn) (x : Txn) → In x ts → In x (with_txn t ts)
stays_in t ts x i = elim (cases_Bool (has_txn t ts)) [
  | inl y ↦ rw y i
  | inr n ↦ rw n (by ts i)
] where
  by : (us : List Txn) → In x us → In x (us ++ t ∷ [])
  by [] j = absurd j
  by (u ∷ us) j = elim j [ inl e ↦ inl e | inr k ↦ inr (by us k) ]

comes_in : (t : Txn) (ts : List Txn) → In t (with_txn t ts)
comes_in t ts = elim (cases_Bool (has_txn t ts)) [
  | inl y ↦ rw y (found ts y)
  | inr n ↦ rw n (last ts)
] where
  last : (us : List Txn) → In t (us ++ t ∷ [])
  last [] = inl refl
  last (u ∷ us) = inr (last us)

  found : (us : List Txn) → has_txn t us ≡ true → In t us
  found [] e = absurd (false≢true e)
  found (u ∷ us) e = elim (cases_Bool (same_txn u t)) [
    | inl y ↦ inl (sym (same_is u t y))
    | inr n ↦ inr (found us (rw n at e))
  ]

other_in : (t x : Txn) (ts : List Txn) → same_txn t x ≡ false → In x ts → In x (without_txn t ts)
other_in t x [] off i = absurd i
other_in t x (u ∷ ts) off i = elim i [
  | inl e ↦ (let o : same_txn t u ≡ false = ap (same_txn t) (sym e) ∙ off in rw o (inl e))
  | inr j ↦ elim (cases_Bool (same_txn t u)) [ inl y ↦ rw y (other_in t x ts off j) | inr n ↦ rw n (inr (other_in t x ts off j)) ]
]

pub due_active : (log : List Record) (d : PendingUndo) → In d (dues log) → has_end log d.txn ≡ false → In d.txn (open_work_of log).active
due_active [] d i e = absurd i
due_active (OpEnd u n level deed ∷ log) d i e = elim i [
  | inl is ↦ subst (λ t. In t (with_txn u (open_work_of log).active)) (sym (ap (λ (x : PendingUndo). x.txn) is)) (comes_in u (open_work_of log).active)
  | inr j ↦ stays_in u (open_work_of log).active d.txn (due_active log d j e)
]
due_active (Commit u ∷ log) d i e =
    let k = or_parts (ends_txn d.txn (Commit u)) (has_end log d.txn) e in
    other_in u d.txn (open_work_of log).active (or_parts (commits_txn d.txn (Commit u)) false k.0).0 (due_active log d (own_in u (dues log) d i) k.1)
due_active (AbortEnd u ∷ log) d i e =
    let k = or_parts (ends_txn d.txn (AbortEnd u)) (has_end log d.txn) e in
    other_in u d.txn (open_work_of log).active k.0 (due_active log d (own_in u (dues log) d i) k.1)
due_active (CompEnd u n undone ∷ log) d i e = due_active log d (in_newest (due_of u) (dues log) d i) e
due_active (Base many j ∷ log) d i e = absurd i
due_active (_ ∷ log) d i e = due_active log d i e

-- what is read again of what is due first is due first
pub as_told : (ds : List PendingUndo) (first d : PendingUndo) (older : List PendingUndo) → ds ≡ first ∷ older → d ≡ first → (rest : List PendingUndo) × (ds ≡ d ∷ rest)
as_told ds first d older is same = (older, is ∙ ap (λ (x : PendingUndo). x ∷ older) (sym same))

pub with_first : (ds : List PendingUndo) (a b : PendingUndo) (xs ys : List PendingUndo) → ds ≡ a ∷ xs → ds ≡ b ∷ ys → ds ≡ a ∷ ys
with_first ds a b xs ys e f = (let k : a ∷ xs ≡ b ∷ ys = sym e ∙ f in let same : a ≡ b = cc in f ∙ ap (λ (x : PendingUndo). x ∷ ys) (sym same))
