-- The stack of what is to be taken back, against the rows.
use Rattle.std.proofs.Common.{◌≡◌, ℕ, suc, ◌+◌, ◌≤◌, List, [], ◌∷◌, ◌++◌, length, map, Option, Some, None, inl, inr, refl, sym, ◌∙◌, ap, subst, arith}
use Rattle.std.specs.List.{filter}
use Rattle.std.proofs.lemmas.Bool.{cases_Bool}
use Rattle.std.proofs.lemmas.List.{length-map}
use Rattle.rq_model.specs.declared.txn.Txn.{Txn}
use Rattle.rq_model.specs.declared.record.Deed.{Deed}
use Rattle.rq_model.specs.declared.record.Record.{Record}
use Rattle.rq_model.specs.declared.record.Record.TheVariants as records
use Rattle.rq_model.specs.Deeds.{deed_by}
use Rattle.rq_model.specs.Vocabulary.{In, same_txn}
use Rattle.rq_model.proofs.Lists.{In-filter, In-map, same_self, In-last}
use Rattle.rq_page.specs.Sizes.{Sizes}
use Rattle.rq_views.specs.Items.{items, item_of, layout_of, told_deed}
use Rattle.rq_views.specs.Legal.{IsLegalLog, Placed, open_deeds}
use Rattle.rq_views.proofs.AllOpen.{Owned, all_open, but_all, but_first, own_open, owned_by, placed_of}
use Rattle.rq_txn.specs.declared.Finished.{Finished}
use Rattle.rq_txn.specs.Rows.{Row, found_row}
use Rattle.rq_store.specs.Rows.{placed, placed_one}
use Rattle.rq_store.specs.State.{State}
use Rattle.rq_store.proofs.Placed.{placed_more}
use Rattle.rq_store.proofs.RowLists.{found_in}
use Rattle.rq_sound.specs.Sound.{IsSound}
use Rattle.rq_analysis.specs.declared.dues.PendingUndo.{PendingUndo}
use Rattle.rq_analysis.specs.Dues.{IsNewestDue, but_newest, but_own, deed_due, due_of, dues}
use Rattle.rq_analysis.proofs.Quiet.{all_closed}
use Rattle.rq_analysis.proofs.Turning.{in_placed, nil_or, split_last}

abbrev pub placed_due : PendingUndo → Placed
placed_due d = record { lsn = d.lsn; deed = deed_due d }

abbrev owned_due : PendingUndo → Owned
owned_due d = record { txn = d.txn; placed = placed_due d }

map_but_newest : (t : Txn) (ds : List PendingUndo) → map owned_due (but_newest t ds) ≡ but_first (owned_by t) (map owned_due ds)
map_but_newest t [] = refl
map_but_newest t (d ∷ ds) = elim (cases_Bool (same_txn d.txn t)) [
  | inl y ↦ rw y refl
  | inr n ↦ rw n (ap (λ l. owned_due d ∷ l) (map_but_newest t ds))
]

map_but_own : (t : Txn) (ds : List PendingUndo) → map owned_due (but_own t ds) ≡ but_all (owned_by t) (map owned_due ds)
map_but_own t [] = refl
map_but_own t (d ∷ ds) = elim (cases_Bool (same_txn d.txn t)) [
  | inl y ↦ rw y (map_but_own t ds)
  | inr n ↦ rw n (ap (λ l. owned_due d ∷ l) (map_but_own t ds))
]

-- where a transaction has nothing open, all are of others
others_stay : (t : Txn) (xs : List Owned) → map placed_of (filter (owned_by t) xs) ≡ [] → but_all (owned_by t) xs ≡ xs
others_stay t [] e = refl
others_stay t (x ∷ xs) e = elim (cases_Bool (owned_by t x)) [
  | inl y ↦ (let bad : placed_of x ∷ map placed_of (filter (owned_by t) xs) ≡ [] = rw y at e in absurd (cc bad))
  | inr n ↦ rw n (ap (λ l. x ∷ l) (others_stay t xs (rw n at e)))
]

-- of a legal log they are the open deeds of all
dues_are : (z : Sizes) (log : List Record) → IsLegalLog (layout_of z) (items z log) → map owned_due (dues log) ≡ all_open (items z log)
dues_are z [] k = refl
dues_are z (records.CompEnd t n undone ∷ log) k = map_but_newest t (dues log) ∙ ap (but_first (owned_by t)) (dues_are z log k.1)
dues_are z (records.Commit t ∷ log) k = map_but_own t (dues log) ∙ ap (but_all (owned_by t)) (dues_are z log k.1)
dues_are z (records.AbortEnd t ∷ log) k =
    map_but_own t (dues log) ∙ ap (but_all (owned_by t)) (dues_are z log k.1)
    ∙ others_stay t (all_open (items z log)) (own_open t (items z log) ∙ k.0.empty)
dues_are z (records.OpEnd t n level deed ∷ log) k =
    let d : Deed = told_deed (deed_by level deed) in
    ap (λ (l : List Owned). record { txn = t; placed = record { lsn = length log + 1; deed = d } } ∷ l) (dues_are z log k.1)
    ∙ ap (λ (k : ℕ). record { txn = t; placed = record { lsn = k + 1; deed = d } } ∷ all_open (items z log)) (sym (length-map log (item_of z)))
dues_are z (records.Base many i ∷ log) k = sym (all_closed (items z log) i k.0 (layout_of z) k.1)
dues_are z (_ ∷ log) k = dues_are z log k.1

map_own : (t : Txn) (ds : List PendingUndo) → map placed_of (filter (owned_by t) (map owned_due ds)) ≡ map placed_due (filter (due_of t) ds)
map_own t [] = refl
map_own t (d ∷ ds) = elim (cases_Bool (same_txn d.txn t)) [
  | inl y ↦ rw y (ap (λ l. placed_due d ∷ l) (map_own t ds))
  | inr n ↦ rw n (map_own t ds)
]

pub own_dues : (z : Sizes) (log : List Record) (t : Txn) → IsLegalLog (layout_of z) (items z log) → map placed_due (filter (due_of t) (dues log)) ≡ open_deeds t (items z log)
own_dues z log t k = sym (map_own t (dues log)) ∙ ap (λ (l : List Owned). map placed_of (filter (owned_by t) l)) (dues_are z log k) ∙ own_open t (items z log)

-- the newest stands first
abbrev AreBelow : ℕ → List PendingUndo → Type 0
AreBelow n [] = Unit {0}
AreBelow n (d ∷ ds) = (d.lsn ≤ n) × AreBelow d.lsn ds

below_more : (m n : ℕ) (ds : List PendingUndo) → m ≤ n → AreBelow m ds → AreBelow n ds
below_more m n [] le h = tt
below_more m n (d ∷ ds) le h = ((let a = h.0 in omega (arith, a, le)), h.1)

below_newest : (t : Txn) (n : ℕ) (ds : List PendingUndo) → AreBelow n ds → AreBelow n (but_newest t ds)
below_newest t n [] h = tt
below_newest t n (d ∷ ds) h = elim (cases_Bool (same_txn d.txn t)) [
  | inl y ↦ rw y (below_more d.lsn n ds h.0 h.1)
  | inr off ↦ rw off (h.0, below_newest t d.lsn ds h.1)
]

below_own : (t : Txn) (n : ℕ) (ds : List PendingUndo) → AreBelow n ds → AreBelow n (but_own t ds)
below_own t n [] h = tt
below_own t n (d ∷ ds) h = elim (cases_Bool (same_txn d.txn t)) [
  | inl y ↦ rw y (below_own t n ds (below_more d.lsn n ds h.0 h.1))
  | inr off ↦ rw off (h.0, below_own t d.lsn ds h.1)
]

older_below : (log : List Record) (ds : List PendingUndo) → AreBelow (length log) ds → AreBelow (suc (length log)) ds
older_below log ds h = below_more (length log) (suc (length log)) ds (omega arith) h

dues_below : (log : List Record) → AreBelow (length log) (dues log)
dues_below [] = tt
dues_below (records.CompEnd t n undone ∷ log) = below_newest t (suc (length log)) (dues log) (older_below log (dues log) (dues_below log))
dues_below (records.Commit t ∷ log) = below_own t (suc (length log)) (dues log) (older_below log (dues log) (dues_below log))
dues_below (records.AbortEnd t ∷ log) = below_own t (suc (length log)) (dues log) (older_below log (dues log) (dues_below log))
dues_below (records.OpEnd t n level deed ∷ log) = (omega arith, below_more (length log) (length log + 1) (dues log) (omega arith) (dues_below log))
dues_below (records.Base many i ∷ log) = tt
dues_below (_ ∷ log) = older_below log (dues log) (dues_below log)

all_below : (n : ℕ) (ds : List PendingUndo) (d : PendingUndo) → AreBelow n ds → In d ds → d.lsn ≤ n
all_below n [] d h i = absurd i
all_below n (x ∷ ds) d h i = elim i [
  | inl e ↦ (let a : d.lsn ≡ x.lsn = ap (λ (y : PendingUndo). y.lsn) e in let b = h.0 in omega (arith, a, b))
  | inr j ↦ (let a = all_below x.lsn ds d h.1 j in let b = h.0 in omega (arith, a, b))
]

pub rest_due : (log : List Record) (d : PendingUndo) (ds : List PendingUndo) (n undone : ℕ) → dues log ≡ d ∷ ds → dues (records.CompEnd d.txn n undone ∷ log) ≡ ds
rest_due log d ds n undone e = ap (but_newest d.txn) e ∙ rw (same_self d.txn) refl

same_first : (p q : Placed) (ps qs : List Placed) → p ∷ ps ≡ q ∷ qs → p ≡ q
same_first p q ps qs e = cc

module _ (s : State) (k : IsSound s) where
  -- what is finished is due
  is_due : (q : Row) (g : Finished) → In q s.rows → In g q.finished → (d : PendingUndo) × In d (dues s.records) × (g.lsn ≡ d.lsn)
  is_due q g j i =
      let there : In (placed_one g) (map placed_due (filter (due_of q.txn) (dues s.records))) = subst (In (placed_one g)) (sym (k.standing.each q j).done ∙ sym (own_dues s.sizes s.records q.txn k.log.legal)) (in_placed q.finished g i) in
      let m = In-map placed_due (filter (due_of q.txn) (dues s.records)) (placed_one g) there in
      let f = In-filter (due_of q.txn) (dues s.records) m.0 m.1 in
      (m.0, f.0, ap (λ (p : Placed). p.lsn) m.2)

  pub none_due : (r : Row) → dues s.records ≡ [] → In r s.rows → r.finished ≡ []
  none_due r e j = elim (nil_or r.finished) [
    | inl none ↦ none
    | inr some ↦
        let h = split_last r.finished some in
        let d = is_due r h.1 j (subst (In h.1) (sym h.2) (In-last h.1 h.0)) in
        absurd (subst (In d.0) e d.1)
  ]

  module _ (d : PendingUndo) (ds : List PendingUndo) (e : dues s.records ≡ d ∷ ds) where
    opens : open_deeds d.txn (items s.sizes s.records) ≡ placed_due d ∷ map placed_due (filter (due_of d.txn) ds)
    opens = sym (own_dues s.sizes s.records d.txn k.log.legal) ∙ ap (λ l. map placed_due (filter (due_of d.txn) l)) e ∙ rw (same_self d.txn) refl

    newest : (q : Row) (g : Finished) → In q s.rows → In g q.finished → g.lsn ≤ d.lsn
    newest q g j i =
        let x = is_due q g j i in
        let here : In x.0 (d ∷ ds) = subst (In x.0) e x.1 in
        let falls : AreBelow (length s.records) (d ∷ ds) = subst (AreBelow (length s.records)) e (dues_below s.records) in
        elim here [
          | inl is ↦ (let a : x.0.lsn ≡ d.lsn = ap (λ (y : PendingUndo). y.lsn) is in let b = x.2 in omega (arith, a, b))
          | inr l ↦ (let a = all_below d.lsn ds x.0 falls.1 l in let b = x.2 in omega (arith, a, b))
        ]

    pub first_due : IsNewestDue s d
    first_due = at (found_row d.txn s.rows) refl where
      at : (o : Option Row) → found_row d.txn s.rows ≡ o → IsNewestDue s d
      at None f = (let bad = sym opens ∙ (k.standing.others d.txn f).settled in absurd (cc bad))
      at (Some r) f =
          let j = found_in d.txn s.rows r f in
          let done : placed r.finished ≡ placed_due d ∷ map placed_due (filter (due_of d.txn) ds) = sym (k.standing.each r j.0).done ∙ ap (λ t. open_deeds t (items s.sizes s.records)) j.1 ∙ opens in
          elim (nil_or r.finished) [
            | inl none ↦ (let bad = sym done ∙ ap placed none in absurd (cc bad))
            | inr some ↦
                let h = split_last r.finished some in
                let is : placed_one h.1 ≡ placed_due d = same_first (placed_one h.1) (placed_due d) (placed h.0) (map placed_due (filter (due_of d.txn) ds)) (sym (placed_more h.0 h.1) ∙ ap placed (sym h.2) ∙ done) in
                record {
                  row = r;
                  rest = h.0;
                  number = h.1.number;
                  at_row = f;
                  last = h.2 ∙ ap (λ (p : Placed). h.0 ++ record { lsn = p.lsn; number = h.1.number; deed = p.deed } ∷ []) is;
                  newest = newest;
                }
          ]
