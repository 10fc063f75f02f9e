-- Which transaction is next is told by the stack and the transactions that are lost.
use Rattle.rq_analysis.specs.Pages.{txn_less}
use Rattle.std.proofs.Common.{ℕ, ◌≡◌, ◌≢◌, true, false, not, List, [], ◌∷◌, map, Option, Some, None, inl, inr, refl, sym, ◌∙◌, ap, subst, arith}
use Rattle.std.specs.List.{filter}
use Rattle.std.proofs.lemmas.Bool.{cases_Bool, true≢false, false≢true, false_from_ne_true}
use Rattle.std.proofs.lemmas.Bool.Decides.{nat_tests}
use Rattle.rq_model.specs.declared.txn.Txn.{Txn}
use Rattle.rq_model.specs.declared.record.Record.{Record}
use Rattle.rq_model.specs.declared.record.Record.TheVariants as records
use Rattle.rq_model.specs.Content.{has_end}
use Rattle.rq_model.specs.Unended.{lost, workers}
use Rattle.rq_model.specs.Vocabulary.{In, same_txn}
use Rattle.rq_model.proofs.Lists.{In-map, same_is, same_self, In-to}
use Rattle.rq_page.specs.Sizes.{Sizes}
use Rattle.rq_txn.specs.declared.Finished.{Finished}
use Rattle.rq_txn.specs.Rows.{Row, change_row, row_started, row_stepped, row_undone, without_row}
use Rattle.rq_txn.proofs.Finding.{same_swap}
use Rattle.rq_store.specs.Rows.{placed, placed_one}
use Rattle.rq_store.specs.State.{State}
use Rattle.rq_store.proofs.Placed.{placed_more}
use Rattle.rq_store.proofs.RowLists.{found_in}
use Rattle.rq_sound.specs.Sound.{IsSound}
use Rattle.rq_sound.proofs.UndoStarts.{txns}
use Rattle.rq_analysis.specs.declared.dues.PendingUndo.{PendingUndo}
use Rattle.rq_analysis.specs.Choices.{AreLost, least_free, lesser_in}
use Rattle.rq_analysis.proofs.Stacks.{none_own}
use Rattle.rq_analysis.specs.Dues.{any_due, due_of, dues, finished_due}
use Rattle.rq_analysis.specs.Lost.{lost_row}
use Rattle.rq_analysis.specs.Moves.{IsAbortMove}
use Rattle.rq_analysis.specs.Moves.IsAbortMove.{Starts, Writes, Undoes, Ends}
use Rattle.rq_analysis.specs.Turns.{EndsNext, TakesBackNext}
use Rattle.rq_analysis.proofs.Owing.{first_due, own_dues, placed_due}
use Rattle.rq_analysis.proofs.Turning.{nil_or, split_last}
use Rattle.rq_analysis.proofs.Noting.{filter_twice}

txns_changed : (t : Txn) (f : Row → Row) (rows : List Row) → ((r : Row) → (f r).txn ≡ r.txn) → txns (change_row t f rows) ≡ txns rows
txns_changed t f [] same = refl
txns_changed t f (r ∷ rows) same = elim (cases_Bool (same_txn r.txn t)) [
  | inl y ↦ rw y (ap (λ (u : Txn). u ∷ txns (change_row t f rows)) (same r) ∙ ap (λ (l : List Txn). r.txn ∷ l) (txns_changed t f rows same))
  | inr n ↦ rw n (ap (λ (l : List Txn). r.txn ∷ l) (txns_changed t f rows same))
]

txn_turns : (a b : Txn) → same_txn a b ≡ true → same_txn b a ≡ true
txn_turns a b y = ap (λ (t : Txn). same_txn b t) (same_is a b y) ∙ same_self b

txns_without : (t : Txn) (rows : List Row) → txns (without_row t rows) ≡ filter (λ u. not (same_txn t u)) (txns rows)
txns_without t [] = refl
txns_without t (r ∷ rows) = elim (cases_Bool (same_txn r.txn t)) [
  | inl y ↦ rw (y, txn_turns r.txn t y) (txns_without t rows)
  | inr n ↦ rw (n, same_swap r.txn t n) (ap (λ (l : List Txn). r.txn ∷ l) (txns_without t rows))
]

pub lost_ended : (t : Txn) (log : List Record) → lost (records.AbortEnd t ∷ log) ≡ filter (λ u. not (same_txn t u)) (lost log)
lost_ended t log = filter_twice (λ (u : Txn). same_txn t u) (has_end log) (workers log)

pub lost_first : (z : Sizes) (log : List Record) (ts : List Txn) → txns (map (lost_row z log) ts) ≡ ts
lost_first z log [] = refl
lost_first z log (t ∷ ts) = ap (λ (l : List Txn). t ∷ l) (lost_first z log ts)

pub lost_stay : (s now : State) → IsAbortMove s now → AreLost s → AreLost now
lost_stay s now (Starts r u rest f may lowest e) k = subst AreLost (sym e) (txns_changed r.txn (row_started u) s.rows (λ q. refl) ∙ k)
lost_stay s now (Writes r u w images lsn d aim next e) k = subst AreLost (sym e) (txns_changed r.txn row_stepped s.rows (λ q. refl) ∙ k)
lost_stay s now (Undoes r u lsn d waiting ready more e) k = subst AreLost (sym e) (txns_changed r.txn (row_undone _) s.rows (λ q. refl) ∙ k)
lost_stay s now (Ends r idle aborting none e) k = subst AreLost (sym e)
    (txns_without r.txn s.rows ∙ ap (filter (λ (u : Txn). not (same_txn r.txn u))) k ∙ sym (lost_ended r.txn s.records))

-- nothing is due of a transaction that has no finished deed left
some_filtered : (t : Txn) (ds : List PendingUndo) → any_due t ds ≡ true → filter (due_of t) ds ≢ []
some_filtered t [] e = absurd (false≢true e)
some_filtered t (d ∷ ds) e = elim (cases_Bool (due_of t d)) [
  | inl y ↦ rw y (λ n. absurd (let bad = n in cc bad))
  | inr n ↦ rw n (some_filtered t ds (rw n at e))
]

map_some : (ds : List PendingUndo) → map placed_due ds ≡ [] → ds ≡ []
map_some [] e = refl
map_some (d ∷ ds) e = absurd (cc e)

module _ (s : State) (k : IsSound s) (r : Row) (j : In r s.rows) where
  own : map placed_due (filter (due_of r.txn) (dues s.records)) ≡ placed r.finished
  own = own_dues s.sizes s.records r.txn k.log.legal ∙ (k.standing.each r j).done

  none_left : any_due r.txn (dues s.records) ≡ false → r.finished ≡ []
  none_left e = elim (nil_or r.finished) [
    | inl none ↦ none
    | inr some ↦
        let h = split_last r.finished some in
        let bad : placed_one h.1 ∷ placed h.0 ≡ [] = sym (placed_more h.0 h.1) ∙ ap placed (sym h.2) ∙ sym own ∙ ap (map placed_due) (none_own (due_of r.txn) (dues s.records) e) in
        absurd (cc bad)
  ]

  some_left : any_due r.txn (dues s.records) ≡ true → r.finished ≢ []
  some_left e none = some_filtered r.txn (dues s.records) e (map_some (filter (due_of r.txn) (dues s.records)) (own ∙ ap placed none))

-- the least that is found
record IsLeast (ds : List PendingUndo) (ts : List Txn) (t : Txn) : Type 0 where
  there : In t ts
  free : any_due t ds ≡ false
  least : (u : Txn) → In u ts → any_due u ds ≡ false → txn_less u t ≡ false

abbrev IsLooked : List PendingUndo → List Txn → Option Txn → Type 0
IsLooked ds ts None = (u : Txn) → In u ts → any_due u ds ≡ true
IsLooked ds ts (Some t) = IsLeast ds ts t

looked_past : (ds : List PendingUndo) (t : Txn) (ts : List Txn) (o : Option Txn) → any_due t ds ≡ true → IsLooked ds ts o → IsLooked ds (t ∷ ts) o
looked_past ds t ts None y h = λ u i. elim i [ inl e ↦ ap (λ (v : Txn). any_due v ds) e ∙ y | inr j ↦ h u j ]
looked_past ds t ts (Some o) y h = record {
  there = inr h.there;
  free = h.free;
  least = λ u i n. elim i [ inl e ↦ absurd (true≢false (sym y ∙ ap (λ (v : Txn). any_due v ds) (sym e) ∙ n)) | inr j ↦ h.least u j n ];
}

-- numbers are in order
not_self : (t : Txn) → txn_less t t ≡ false
not_self t = grind (arith, nat_tests)

not_turned : (a b : Txn) → txn_less a b ≡ true → txn_less b a ≡ false
not_turned a b y = grind (arith, nat_tests, y)

not_through : (a b c : Txn) → txn_less a b ≡ false → txn_less b c ≡ false → txn_less a c ≡ false
not_through a b c n m = grind (arith, nat_tests, n, m)

looked_at : (ds : List PendingUndo) (t : Txn) (ts : List Txn) (o : Option Txn) → any_due t ds ≡ false → IsLooked ds ts o → IsLooked ds (t ∷ ts) (Some (lesser_in t o))
looked_at ds t ts None n h = record {
  there = inl refl;
  free = n;
  least = λ u i m. elim i [
    | inl e ↦ ap (λ (v : Txn). txn_less v t) e ∙ not_self t
    | inr j ↦ absurd (true≢false (sym (h u j) ∙ m))
  ];
}
looked_at ds t ts (Some o) n h = elim (cases_Bool (txn_less o t)) [
  | inl y ↦ rw y (record {
    there = inr h.there;
    free = h.free;
    least = λ u i m. elim i [
      | inl e ↦ ap (λ (v : Txn). txn_less v o) e ∙ not_turned o t y
      | inr j ↦ h.least u j m
    ];
  })
  | inr z ↦ rw z (record {
    there = inl refl;
    free = n;
    least = λ u i m. elim i [
      | inl e ↦ ap (λ (v : Txn). txn_less v t) e ∙ not_self t
      | inr j ↦ not_through u o t (h.least u j m) z
    ];
  })
]

looked : (ds : List PendingUndo) (ts : List Txn) → IsLooked ds ts (least_free ds ts)
looked ds [] = λ u i. absurd i
looked ds (t ∷ ts) = elim (cases_Bool (any_due t ds)) [
  | inl y ↦ rw y (looked_past ds t ts (least_free ds ts) y (looked ds ts))
  | inr n ↦ rw n (looked_at ds t ts (least_free ds ts) n (looked ds ts))
]

pub least_there : (ds : List PendingUndo) (ts : List Txn) (t : Txn) → least_free ds ts ≡ Some t → In t ts
least_there ds ts t e = (let h : IsLeast ds ts t = subst (IsLooked ds ts) e (looked ds ts) in h.there)

nothing_in : (rows : List Row) → ((r : Row) → In r rows → ⊥) → rows ≡ []
nothing_in [] f = refl
nothing_in (r ∷ rows) f = absurd (f r (inl refl))

module _ (s : State) (k : IsSound s) (are : AreLost s) where
  row_lost : (r : Row) → In r s.rows → In r.txn (lost s.records)
  row_lost r j = subst (In r.txn) are (In-to (λ (x : Row). x.txn) s.rows r j)

  all_due : least_free (dues s.records) (lost s.records) ≡ None → (r : Row) → In r s.rows → any_due r.txn (dues s.records) ≡ true
  all_due e r j = subst (IsLooked (dues s.records) (lost s.records)) e (looked (dues s.records) (lost s.records)) r.txn (row_lost r j)

  pub chosen_ends : (t : Txn) → least_free (dues s.records) (lost s.records) ≡ Some t → (r : Row) × (r.txn ≡ t) × EndsNext s.rows r
  chosen_ends t e =
      let h : IsLeast (dues s.records) (lost s.records) t = subst (IsLooked (dues s.records) (lost s.records)) e (looked (dues s.records) (lost s.records)) in
      let m = In-map (λ (r : Row). r.txn) s.rows t (subst (In t) (sym are) h.there) in
      let free : any_due m.0.txn (dues s.records) ≡ false = ap (λ (u : Txn). any_due u (dues s.records)) (sym m.2) ∙ h.free in (
        m.0,
        sym m.2,
        record {
          row = m.1;
          empty = none_left s k m.0 m.1 free;
          least = λ q j none.
              let off : any_due q.txn (dues s.records) ≡ false = false_from_ne_true (any_due q.txn (dues s.records)) (λ y. some_left s k q j y none) in
              ap (txn_less q.txn) (sym m.2) ∙ h.least q.txn (row_lost q j) off;
        },
      )

  pub chosen_back : (d : PendingUndo) (ds : List PendingUndo) → least_free (dues s.records) (lost s.records) ≡ None → dues s.records ≡ d ∷ ds
      → (r : Row) × (rest : List Finished) × (n : ℕ) × (r.txn ≡ d.txn) × TakesBackNext s.rows r rest (finished_due n d)
  chosen_back d ds e first =
      let n = first_due s k d ds first in
      let at = found_in d.txn s.rows n.row n.at_row in (
        n.row,
        n.rest,
        n.number,
        at.1,
        record {
          row = at.0;
          last = n.last;
          some = λ q j. some_left s k q j (all_due e q j);
          newest = n.newest;
        },
      )

  pub chosen_done : least_free (dues s.records) (lost s.records) ≡ None → dues s.records ≡ [] → s.rows ≡ []
  chosen_done e none = nothing_in s.rows (λ r j. false≢true (ap (any_due r.txn) (sym none) ∙ all_due e r j))
