-- The records of a whole log follow the rules.
use Rattle.std.proofs.Common.{◌≡◌, ℕ, zero, suc, ◌+◌, ◌≤◌, true, false, List, [], ◌∷◌, map, Some, inl, inr, refl, sym, ◌∙◌, ap, subst, arith}
use Rattle.std.specs.List.{filter}
use Rattle.std.proofs.lemmas.Bool.{cases_Bool, false≢true, true≢false, false_from_ne_true, or_cases}
use Rattle.rq_model.specs.declared.txn.Txn.{Txn}
use Rattle.rq_model.specs.declared.txn.Sub.{Sub}
use Rattle.rq_model.specs.declared.record.Record.{Record}
use Rattle.rq_model.specs.declared.record.Record.TheVariants as records
use Rattle.rq_model.specs.Bases.{earlier, is_base, marked, marks}
use Rattle.rq_model.specs.Content.{has_end}
use Rattle.rq_model.specs.Deeds.{deed_by}
use Rattle.rq_model.specs.Vocabulary.{first, is_some, same_txn}
use Rattle.rq_model.proofs.Lists.{In-filter, same_is}
use Rattle.rq_page.specs.Sizes.{Sizes, address}
use Rattle.rq_page.specs.Slots.{Slot, IsSlotOf, held_in, slot_bytes}
use Rattle.rq_page.proofs.Spellings.{slot_is_spelling}
use Rattle.rq_views.specs.Log.{Item, IsNewest, Places, Write, same_op, state_of}
use Rattle.rq_views.specs.Log.Item.{PageOp, PageUndo, OpEnd, OpVoid, CompEnd, Commit, AbortEnd, Restart}
use Rattle.rq_views.specs.Plans.{IsPlan}
use Rattle.rq_views.specs.Plans.Turn.{Did}
use Rattle.rq_views.specs.InStore.{IsStranger}
use Rattle.rq_views.specs.Items.{items, layout_of, operation, told_deed}
use Rattle.rq_views.specs.Legal as legal
use Rattle.rq_views.specs.Legal.{IsFirst, IsLegalLog, Placed, Undoes, began, lsns, open_deeds, over, under_way}
use Rattle.rq_views.proofs.Overlay.{same_is as op_is}
use Rattle.rq_views.proofs.Strangers.{has_end_same}
use Rattle.rq_views.specs.Numbers.{greatest}
use Rattle.rq_views.proofs.Numbers.{written_began, plan_some, undoes_some}
use Rattle.rq_store.specs.Fitting.{left_by}
use Rattle.rq_store.specs.Whole.{IsWhole}
use Rattle.rq_store.proofs.Cutting.{whole_older}
use Rattle.rq_analysis.specs.declared.open_work.UndoableWrite.{UndoableWrite}
use Rattle.rq_analysis.specs.OpenWorkView.{OpenWorkView, has_sub, open_work_of, undoable_at, undoable_by}
use Rattle.rq_analysis.proofs.Undoable.{Place, lsn_of, own_lsns, own_writes, undoable_before, undoable_place, way_parts, write_place}
use Rattle.rq_analysis.specs.declared.dues.PendingUndo.{PendingUndo}
use Rattle.rq_analysis.specs.Dues.{due_of, dues}
use Rattle.rq_analysis.proofs.Owing.{own_dues, placed_due}
use Rattle.rq_analysis.specs.Numbers.{number_of}
use Rattle.rq_analysis.specs.Rules.{FollowAll, FollowsRules, greatest_number, has_op, has_op_end, left_of, standing}
use Rattle.rq_analysis.specs.RuleTheorems.{WholeLogsFollow}
use Rattle.rq_analysis.proofs.Lists.{first_in}
use Rattle.rq_analysis.proofs.Marked.{marked_dues, marked_going, marked_numbers, marked_order, marked_running, marked_work}
use Rattle.rq_analysis.proofs.Numbering.{kept, none_below}
use Rattle.rq_analysis.proofs.Operations.{has_op_end_same, noted_there, number_kept, unfinished_kept}
use Rattle.rq_analysis.proofs.Owed.{dues_kept}
use Rattle.rq_analysis.proofs.Owed as owed
use Rattle.rq_analysis.proofs.Writes.{undoable_kept}

way : (l : Places) (log : List Item) (o : Sub) → began o log ≡ true → over o log ≡ false → under_way o log ≡ true
way l log o b g = rw (b, g) refl

newest_began : (l : Places) (log : List Item) (o : Sub) (at : ℕ) (x : Slot) → IsNewest ((state_of l log).writes o) at x → began o log ≡ true
newest_began l log o at x h = written_began l log o (λ e. subst (λ (ws : List Write). IsNewest ws at x) e h)

-- an operation of a transaction that has ended is not under way
ended_idle : (l : Places) (log : List Item) → IsLegalLog l log → (o : Sub) → legal.has_end o.txn log ≡ true → under_way o log ≡ false
ended_idle l [] k o h = absurd (false≢true h)
ended_idle l (PageOp u w ∷ log) k o h = elim (cases_Bool (same_op u o)) [
  | inl own ↦ absurd (true≢false (sym h ∙ ap (λ (v : Sub). legal.has_end v.txn log) (sym (op_is u o own)) ∙ k.0.running))
  | inr off ↦ rw off (ended_idle l log k.1 o h)
]
ended_idle l (PageUndo u n at after ∷ log) k o h = elim (cases_Bool (same_op u o)) [
  | inl own ↦
      let b = newest_began l log u at after k.0.newest in
      let y : under_way o log ≡ true = ap (λ (v : Sub). under_way v log) (sym (op_is u o own)) ∙ way l log u b k.0.going in
      absurd (true≢false (sym y ∙ ended_idle l log k.1 o h))
  | inr off ↦ rw off (ended_idle l log k.1 o h)
]
ended_idle l (OpEnd u d ∷ log) k o h = elim (cases_Bool (same_op u o)) [
  | inl own ↦ rw own refl
  | inr off ↦ rw off (ended_idle l log k.1 o h)
]
ended_idle l (OpVoid u ∷ log) k o h = elim (cases_Bool (same_op u o)) [
  | inl own ↦ rw own refl
  | inr off ↦ rw off (ended_idle l log k.1 o h)
]
ended_idle l (CompEnd u n ∷ log) k o h = elim (cases_Bool (same_op u o)) [
  | inl own ↦ rw own refl
  | inr off ↦ rw off (ended_idle l log k.1 o h)
]
ended_idle l (Commit u ∷ log) k o h = elim (or_cases (same_txn u o.txn) (legal.has_end o.txn log) h) [
  | inl y ↦ k.0.idle o (sym (same_is u o.txn y))
  | inr n ↦ ended_idle l log k.1 o n
]
ended_idle l (AbortEnd u ∷ log) k o h = elim (or_cases (same_txn u o.txn) (legal.has_end o.txn log) h) [
  | inl y ↦ k.0.idle o (sym (same_is u o.txn y))
  | inr n ↦ ended_idle l log k.1 o n
]
ended_idle l (Restart i ∷ log) k o h = k.0.idle o

abbrev place : ℕ → Slot → Place
place a x = (a, x)

-- what a list of writes and their LSNs tells of the newest
named : (z : Sizes) (qs : List UndoableWrite) (ns : List ℕ) (ws : List Write) (u at : ℕ) (x : Slot) → map lsn_of qs ≡ ns → map (undoable_place z) qs ≡ map write_place ws → IsFirst u ns → IsNewest ws at x
    → (p : UndoableWrite) × (first qs ≡ Some p) × (p.lsn ≡ u) × (undoable_place z p ≡ place at x)
named z [] ns ws u at x a b c d = absurd (subst (IsFirst u) (sym a) c)
named z (p ∷ qs) [] ws u at x a b c d = absurd c
named z (p ∷ qs) (m ∷ ns) [] u at x a b c d = absurd d
named z (p ∷ qs) (m ∷ ns) (w ∷ ws) u at x a b c d =
    let e : p.lsn ≡ m = cc in
    let g : undoable_place z p ≡ write_place w = cc in
    (p, refl, e ∙ c, g ∙ both w.at at w.before x d.0 d.1)
  where
    both : (i j : ℕ) (y v : Slot) → i ≡ j → y ≡ v → place i y ≡ place j v
    both i j y v h k = cc

place_page : (p q s r : ℕ) → s ≤ 15 → r ≤ 15 → address p s ≡ address q r → p ≡ q
place_page p q s r a b e = omega (arith, a, b, e)

place_slot : (p q s r : ℕ) → s ≤ 15 → r ≤ 15 → address p s ≡ address q r → s ≡ r
place_slot p q s r a b e = omega (arith, a, b, e)

-- slots of one place that hold the same are the same bytes
same_bytes : (z : Sizes) (p q s r : ℕ) (xs ys : List ℕ) → IsSlotOf z p s xs → IsSlotOf z q r ys → p ≡ q → held_in z p xs ≡ held_in z q ys → xs ≡ ys
same_bytes z p q s r xs ys a b e h = sym (slot_is_spelling z p s xs a).1 ∙ ap slot_bytes h ∙ (slot_is_spelling z q r ys b).1

module _ (z : Sizes) (log : List Record) (w : IsWhole z log) (f : FollowAll (marked log)) where
  -- the newest write that stands
  undoes_newest : (o : Sub) (undone page slot : ℕ) (after : List ℕ) → IsSlotOf z page slot after → over o (items z log) ≡ false → IsFirst undone (lsns o (items z log))
      → IsNewest ((left_by z log).writes o) (address page slot) (held_in z page after) → first (standing o (marked log)) ≡ Some (undoable_at undone o page slot after)
  undoes_newest o undone page slot after there going one newest =
      let qs = filter (undoable_by o) (open_work_of log).undoable in
      let k = named z qs (lsns o (items z log)) ((left_by z log).writes o) undone (address page slot) (held_in z page after) (own_lsns z o log w.legal going) (own_writes z o log w.legal) one newest in
      let p = k.0 in
      let i = In-filter (undoable_by o) (open_work_of log).undoable p (first_in qs p k.1) in
      let stood = undoable_before z log w.befores p i.0 in
      let at : address p.page p.slot ≡ address page slot = ap (λ (x : Place). x.0) k.3 in
      let holds : held_in z p.page p.before ≡ held_in z page after = ap (λ (x : Place). x.1) k.3 in
      let a = place_page p.page page p.slot slot stood.high there.high at in
      let b = place_slot p.page page p.slot slot stood.high there.high at in
      let d = same_bytes z p.page page p.slot slot p.before after stood there a holds in
      sym (ap first (undoable_kept (marked log) f o (marked_going o log (has_op_end_same z o log ∙ going)))) ∙ ap (λ (h : OpenWorkView). first (filter (undoable_by o) h.undoable)) (marked_work log w.based) ∙ k.1 ∙ ap Some (same_undoable p undone o page slot after k.2 (op_is p.by o i.1) a b d)
    where
      same_undoable : (p : UndoableWrite) (lsn : ℕ) (o : Sub) (page slot : ℕ) (bytes : List ℕ) → p.lsn ≡ lsn → p.by ≡ o → p.page ≡ page → p.slot ≡ slot → p.before ≡ bytes → p ≡ undoable_at lsn o page slot bytes
      same_undoable p lsn o page slot bytes a b c d e = λ i. record { lsn = a i; by = b i; page = c i; slot = d i; before = e i }

  -- the newest deed that is left
  takes_newest : (t : Txn) (undone : ℕ) (ws : List Write) → has_end log t ≡ false → Undoes (layout_of z) (open_deeds t (items z log)) undone ws → first (left_of t (marked log)) ≡ Some undone
  takes_newest t undone ws run h =
      sym (ap first (dues_kept (marked log) f t (marked_running t log run))) ∙ ap (λ (ds : List PendingUndo). first (map owed.lsn_of (filter (due_of t) ds))) (marked_dues log w.based) ∙ told (filter (due_of t) (dues log)) (open_deeds t (items z log)) (own_dues z log t w.legal) h
    where
      told : (ds : List PendingUndo) (ps : List Placed) → map placed_due ds ≡ ps → Undoes (layout_of z) ps undone ws → first (map owed.lsn_of ds) ≡ Some undone
      told [] ps e k = absurd (subst (λ (x : List Placed). Undoes (layout_of z) x undone ws) (sym e) k)
      told (d ∷ ds) [] e k = absurd k
      told (d ∷ ds) (p ∷ ps) e k = let g : placed_due d ≡ p = cc in ap Some (ap (λ (x : Placed). x.lsn) g ∙ k.0)

  not_ended : (t : Txn) (n : ℕ) → under_way (operation t n) (items z log) ≡ true → has_end log t ≡ false
  not_ended t n y = sym (has_end_same z t log) ∙ false_from_ne_true (legal.has_end t (items z log)) (λ h. true≢false (sym y ∙ ended_idle (layout_of z) (items z log) w.legal (operation t n) h))

  -- an operation under way is known
  begun_known : (o : Sub) → over o (items z log) ≡ false → began o (items z log) ≡ true → has_op o (marked log) ≡ true
  begun_known o going begun =
      let there = noted_there z log w.legal o (way (layout_of z) (items z log) o begun going) in
      (way_parts (has_op o (marked log)) (has_op_end o (marked log)) (sym (unfinished_kept (marked log) f o) ∙ ap (λ (h : OpenWorkView). has_sub o h.unfinished) (marked_work log w.based) ∙ there)).0

  -- one that is not known never began
  new_begins : (o : Sub) → over o (items z log) ≡ false → has_op o (marked log) ≡ false → began o (items z log) ≡ false
  new_begins o going off = elim (cases_Bool (began o (items z log))) [
    | inl y ↦ absurd (true≢false (sym (begun_known o going y) ∙ off))
    | inr n ↦ n
  ]

  -- the greatest number of a running transaction is
  greatest_known : (t : Txn) → IsStranger t (earlier log) → has_end log t ≡ false → greatest_number t (marked log) ≡ greatest t (items z log)
  greatest_known t behind run =
      sym (number_kept (marked log) t f (marked_running t log run)) ∙ ap (number_of t) (marked_numbers log) ∙ kept z log t (none_below z t log behind) run

  next_follows : (r : Record) → IsWhole z (r ∷ log) → is_base r ≡ false → FollowsRules (marked log) r
  next_follows (records.PageOp t n page slot before after) v plain =
      let k = v.legal.0 in
      record {
        running = marked_running t log (sym (has_end_same z t log) ∙ k.running);
        going = marked_going (operation t n) log (has_op_end_same z (operation t n) log ∙ k.going);
        begun = tt;
        numbered = λ off. v.numbers.0 (new_begins (operation t n) k.going off) ∙ ap (λ (m : ℕ). m + 1) (sym (greatest_known t v.behind.0 (sym (has_end_same z t log) ∙ k.running)));
        undoes = tt;
        takes_back = tt;
        reads = tt;
        begins = tt;
      }
  next_follows (records.PageUndo t n undone page slot after) v plain =
      let k = v.legal.0 in
      let b = newest_began (layout_of z) (items z log) (operation t n) (address page slot) (held_in z page after) k.newest in
      record {
        running = marked_running t log (not_ended t n (way (layout_of z) (items z log) (operation t n) b k.going));
        going = marked_going (operation t n) log (has_op_end_same z (operation t n) log ∙ k.going);
        begun = begun_known (operation t n) k.going b;
        numbered = tt;
        undoes = undoes_newest (operation t n) undone page slot after v.in_store.0 k.going k.lsn k.newest;
        takes_back = tt;
        reads = tt;
        begins = tt;
      }
  next_follows (records.OpEnd t n level deed) v plain =
      let k = v.legal.0 in
      record {
        running = marked_running t log (sym (has_end_same z t log) ∙ k.running);
        going = marked_going (operation t n) log (has_op_end_same z (operation t n) log ∙ k.going);
        begun = begun_known (operation t n) k.going (written_began (layout_of z) (items z log) (operation t n) (λ e. plan_some (layout_of z) (Did (told_deed (deed_by level deed))) (subst (IsPlan (layout_of z) (Did (told_deed (deed_by level deed)))) e k.plan)));
        numbered = tt;
        undoes = tt;
        takes_back = tt;
        reads = ap is_some v.reads.0.0.1;
        begins = tt;
      }
  next_follows (records.OpVoid t n) v plain =
      let k = v.legal.0 in
      record {
        running = marked_running t log (not_ended t n (way (layout_of z) (items z log) (operation t n) k.begun k.going));
        going = marked_going (operation t n) log (has_op_end_same z (operation t n) log ∙ k.going);
        begun = begun_known (operation t n) k.going k.begun;
        numbered = tt;
        undoes = tt;
        takes_back = tt;
        reads = tt;
        begins = tt;
      }
  next_follows (records.CompEnd t n undone) v plain =
      let k = v.legal.0 in
      let run = sym (has_end_same z t log) ∙ k.running in
      record {
        running = marked_running t log run;
        going = marked_going (operation t n) log (has_op_end_same z (operation t n) log ∙ k.going);
        begun = begun_known (operation t n) k.going (written_began (layout_of z) (items z log) (operation t n) (λ e. undoes_some (layout_of z) (open_deeds t (items z log)) undone (subst (Undoes (layout_of z) (open_deeds t (items z log)) undone) e k.plan)));
        numbered = tt;
        undoes = tt;
        takes_back = takes_newest t undone ((left_by z log).writes (operation t n)) run k.plan;
        reads = tt;
        begins = tt;
      }
  next_follows (records.Commit t) v plain = record { running = marked_running t log (sym (has_end_same z t log) ∙ v.legal.0.running); going = tt; begun = tt; numbered = tt; undoes = tt; takes_back = tt; reads = tt; begins = tt }
  next_follows (records.AbortEnd t) v plain = record { running = marked_running t log (sym (has_end_same z t log) ∙ v.legal.0.running); going = tt; begun = tt; numbered = tt; undoes = tt; takes_back = tt; reads = tt; begins = tt }
  next_follows (records.Restart i) v plain = record { running = tt; going = tt; begun = tt; numbered = tt; undoes = tt; takes_back = tt; reads = tt; begins = tt }
  next_follows (records.Base many i) v plain = cc

pub follow_marks : (n : ℕ) → FollowAll (marks n)
follow_marks zero = tt
follow_marks (suc n) = (record { running = tt; going = tt; begun = tt; numbered = tt; undoes = tt; takes_back = tt; reads = tt; begins = tt }, follow_marks n)

-- a Base comes first
base_follows : (many i : ℕ) → FollowAll (records.Base many i ∷ marks many)
base_follows many i = (record { running = tt; going = tt; begun = tt; numbered = tt; undoes = tt; takes_back = tt; reads = tt; begins = refl }, follow_marks many)

one_more : (z : Sizes) (log : List Record) (r : Record) → IsWhole z (r ∷ log) → FollowAll (marked log) → FollowAll (marked (r ∷ log))
one_more z log (records.Base many i) w f = base_follows many i
one_more z log r w f = (next_follows z log (whole_older z r log w) f r w refl, f)

whole_follow : (z : Sizes) (log : List Record) → IsWhole z log → FollowAll (marked log)
whole_follow z [] w = tt
whole_follow z (r ∷ log) w = one_more z log r w (whole_follow z log (whole_older z r log w))

pub whole_logs : WholeLogsFollow
whole_logs = record {
  one = λ z log r w plain. let v = whole_older z r log w in next_follows z log v (whole_follow z log v) r w plain;
  all = whole_follow;
  order = λ z log w. marked_order log w.based w.order;
}
