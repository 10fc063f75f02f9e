-- What a program does whose log and pages are those of a store on its way.
use Rattle.std.proofs.Common.{◌≡◌, ◌≢◌, ◌<◌, ◌≤◌, ℕ, zero, suc, ◌+◌, ◌/◌, ◌%◌, true, false, not, ◌||◌, List, [], ◌∷◌, length, Option, Some, None, option_map, inl, inr, refl, sym, ◌∙◌, ap, subst, arith}
use Rattle.std.specs.List.{filter, slice_get}
use Rattle.std.proofs.lemmas.Bool.{cases_Bool, true≢false, or_parts, or_from, cases_eq, eq-eqb, ne_eqb}
use Rattle.rq_model.specs.declared.record.Deed.{Deed}
use Rattle.rq_model.specs.declared.record.Deed.TheVariants.{Append, UnlinkHead, Close, Mark}
use Rattle.rq_model.specs.declared.record.Record.{Record}
use Rattle.rq_model.specs.declared.record.Record.TheVariants.{AbortEnd}
use Rattle.rq_model.specs.declared.txn.Txn.{Txn}
use Rattle.rq_model.specs.Unended.{lost}
use Rattle.rq_model.specs.Vocabulary.{In, is_some, same_txn}
use Rattle.rq_page.specs.Slots.{IsSlotOf}
use Rattle.rq_views.specs.Plans.Turn.{Undid}
use Rattle.rq_views.specs.Stored.{slots_in}
use Rattle.rq_level.specs.declared.writes.SlotWrite.{SlotWrite}
use Rattle.rq_groups.specs.Waiting.{waits}
use Rattle.rq_txn.specs.declared.Aim.TheVariants as aims
use Rattle.rq_txn.specs.Rows.{Row, Under, any_under, change_row, found_row, row_started, row_stepped, under_stepped, without_row, latched_in}
use Rattle.rq_txn.proofs.Finding.{found_change_same, in_found}
use Rattle.rq_store.specs.State.{State}
use Rattle.rq_store.specs.Steps.{page_op, took}
use Rattle.rq_store.proofs.Others.{none_of}
use Rattle.rq_store.proofs.RowLists.{none_under}
use Rattle.rq_sound.specs.Calls.{IsIdle, IsNextWrite, IsPutIn, IsReady, aborted, started, stepped, undone}
use Rattle.rq_sound.specs.Plans.{IsPlannedFrom}
use Rattle.rq_sound.specs.Rows.{comp_end}
use Rattle.rq_sound.specs.Sound.{IsSound}
use Rattle.rq_sound.specs.Starts.{MayUndo}
use Rattle.rq_sound.proofs.Groups.{none_latched}
use Rattle.rq_sound.proofs.Planned.{plans_start}
use Rattle.rq_sound.specs.Inverses.{InverseTakesLowest}
use Rattle.rq_sound.specs.Groups.{slots_now}
use Rattle.rq_page.specs.Sizes.{Sizes}
use Rattle.rq_views.specs.Log.{Slots}
use Rattle.rq_analysis.specs.declared.dues.PendingUndo.{PendingUndo}
use Rattle.rq_analysis.specs.Choices.{least_free}
use Rattle.rq_analysis.specs.Dues.{deed_due, due_of, dues, finished_due}
use Rattle.rq_analysis.specs.Moves.{IsAbortMove, newest_store}
use Rattle.rq_analysis.specs.Moves.IsAbortMove.{Starts, Writes, Undoes, Ends}
use Rattle.rq_analysis.specs.Numbers.{number_of, numbers}
use Rattle.rq_analysis.specs.Turns.{IsInTurn}
use Rattle.rq_model.proofs.Lists.{same_self}
use Rattle.rq_analysis.specs.Lost.{lost_store}
use Rattle.rq_analysis.specs.Recovered.IsRecovered.{AllAborted}
use Rattle.rq_analysis.specs.Recovered.IsRecovering.{Aborting}
use Rattle.rq_analysis.proofs.Owing.{rest_due}
use Rattle.rq_analysis.proofs.Store.{lost_sound}
use Rattle.rq_analysis.specs.Walk.{AbortsComeToAnEnd, AbortsGoOn, rounds_left, IsBetween, IsCome, IsWithin, showing}
use Rattle.rq_analysis.proofs.Choosing.{chosen_back, chosen_done, chosen_ends, least_there, lost_ended, lost_first, lost_stay}
use Rattle.rq_analysis.proofs.Moving.{moves_sound}
use Rattle.rq_analysis.proofs.Numbering.{row_number}
use Rattle.rq_analysis.proofs.Recovering.{behind}
use Rattle.rq_analysis.proofs.Stopping.{moves_sizes}
use Rattle.rq_analysis.proofs.Turning.{lost_aborting, lost_idle, still_aborting}
use Rattle.rq_analysis.proofs.Lists.{filter_le, filter_less}

-- who else has something under way
none_without : (t : Txn) (rows : List Row) → any_under rows ≡ false → any_under (without_row t rows) ≡ false
none_without t [] e = refl
none_without t (r ∷ rows) e = let k = or_parts (is_some r.under) (any_under rows) e in elim (cases_Bool (same_txn r.txn t)) [
  | inl y ↦ rw y (none_without t rows k.1)
  | inr n ↦ rw n (or_from (is_some r.under) (any_under (without_row t rows)) k.0 (none_without t rows k.1))
]

without_changed : (t : Txn) (f : Row → Row) (rows : List Row) → ((r : Row) → (f r).txn ≡ r.txn) → without_row t (change_row t f rows) ≡ without_row t rows
without_changed t f [] same = refl
without_changed t f (r ∷ rows) same = elim (cases_Bool (same_txn r.txn t)) [
  | inl y ↦
      let e : same_txn (f r).txn t ≡ true = ap (λ (u : Txn). same_txn u t) (same r) ∙ y in
      rw (y, e) (without_changed t f rows same)
  | inr n ↦
      let e : without_row t (r ∷ change_row t f rows) ≡ r ∷ without_row t rows = rw n (ap (λ (l : List Row). r ∷ l) (without_changed t f rows same)) in
      rw n e
]

none_changed : (t : Txn) (f : Row → Row) (rows : List Row) → ((r : Row) → (f r).under ≡ None) → any_under (without_row t rows) ≡ false → any_under (change_row t f rows) ≡ false
none_changed t f [] off e = refl
none_changed t f (r ∷ rows) off e = elim (cases_Bool (same_txn r.txn t)) [
  | inl y ↦
      let h : any_under (without_row t rows) ≡ false = rw y at e in
      let o : is_some (f r).under ≡ false = ap is_some (off r) in
      rw y (or_from (is_some (f r).under) (any_under (change_row t f rows)) o (none_changed t f rows off h))
  | inr n ↦
      let h : (is_some r.under || any_under (without_row t rows)) ≡ false = rw n at e in
      let k = or_parts (is_some r.under) (any_under (without_row t rows)) h in
      rw n (or_from (is_some r.under) (any_under (change_row t f rows)) k.0 (none_changed t f rows off k.1))
]

-- one message more waits of a sender
abbrev one_more : ℕ → List ℕ → List ℕ
one_more zero [] = 1 ∷ []
one_more zero (w ∷ ws) = (w + 1) ∷ ws
one_more (suc s) [] = 0 ∷ one_more s []
one_more (suc s) (w ∷ ws) = w ∷ one_more s ws

one_waits : (s : ℕ) (ws : List ℕ) → waits (one_more s ws) s ≡ waits ws s + 1
one_waits zero [] = refl
one_waits zero (w ∷ ws) = refl
one_waits (suc s) [] = one_waits s []
one_waits (suc s) (w ∷ ws) = one_waits s ws

others_wait : (s : ℕ) (ws : List ℕ) (g : ℕ) → s ≢ g → waits (one_more s ws) g ≡ waits ws g
others_wait zero [] zero ne = absurd (ne refl)
others_wait zero [] (suc g) ne = refl
others_wait zero (w ∷ ws) zero ne = absurd (ne refl)
others_wait zero (w ∷ ws) (suc g) ne = refl
others_wait (suc s) [] zero ne = refl
others_wait (suc s) [] (suc g) ne = others_wait s [] g (λ e. ne (ap suc e))
others_wait (suc s) (w ∷ ws) zero ne = refl
others_wait (suc s) (w ∷ ws) (suc g) ne = others_wait s ws g (λ e. ne (ap suc e))

some_wait : (d : Deed) (ws : List ℕ) → (now : List ℕ) × ((g : ℕ) → waits now g ≡ waits ws g + took g d)
some_wait (Append s n tag previous body) ws = (ws, λ g. omega arith)
some_wait (Close s) ws = (ws, λ g. omega arith)
some_wait (Mark c tag previous) ws = (ws, λ g. omega arith)
some_wait (UnlinkHead s n tag body) ws = (
  one_more s ws,
  λ g. elim (cases_eq s g) [
    | inl e ↦
        let a : waits (one_more s ws) g ≡ waits ws g + 1 = subst (λ x. waits (one_more s ws) x ≡ waits ws x + 1) e (one_waits s ws) in
        rw (eq-eqb s g e) a
    | inr ne ↦ (let a = others_wait s ws g ne in rw (ne_eqb s g ne) (omega (arith, a)))
  ],
)

-- a write that is made in the pages is so of any state with these sizes, pages and records
put_as : (base s : State) (images now : List (List ℕ)) (log : List Record) (w : SlotWrite) → base.sizes ≡ s.sizes → images ≡ s.images → log ≡ s.records → IsPutIn (showing base images log) w now → IsPutIn s w now
put_as base s images now log w a b c k =
    let over : IsPutIn (record base { sizes = s.sizes; images = s.images; records = s.records }) w now =
    subst (λ z. IsPutIn (record base { sizes = z; images = s.images; records = s.records }) w now) a
    (subst (λ i. IsPutIn (record base { images = i; records = s.records }) w now) b
    (subst (λ l. IsPutIn (record base { images = images; records = l }) w now) c k)) in
    record { image = over.image; page = over.page; others = over.others; superblock = over.superblock; headers = over.headers }

-- the lowest free cell of all is the lowest on a page that nobody has latched
lowest_of : (z : Sizes) (q : Slots) (rows : List Row) (d : Deed) (ws : List SlotWrite) → ((p : ℕ) → latched_in rows p ≡ false) → InverseTakesLowest z q [] d ws → InverseTakesLowest z q rows d ws
lowest_of z q rows (Append g n tag previous body) ws off h = tt
lowest_of z q rows (UnlinkHead g n tag body) [] off h = absurd h
lowest_of z q rows (UnlinkHead g n tag body) (w ∷ ws) off h = (λ b c lt free. absurd (true≢false (sym (h.0 b c lt free))), off (w.at / 16))
lowest_of z q rows (Close g) ws off h = tt
lowest_of z q rows (Mark c tag previous) ws off h = tt

module _ (base : State) (k : IsSound base) (stores : List State) (images : List (List ℕ)) (log : List Record) (c : IsCome base stores images log) where
  abbrev s : State
  s = newest_store base stores

  sound : IsSound s
  sound = moves_sound base stores k (behind base stores c.turns)

  sizes : s.sizes ≡ base.sizes
  sizes = moves_sizes base stores (behind base stores c.turns)

  step : (n : State) (m : IsAbortMove s n) (now : List (List ℕ)) (grown : List Record) → IsInTurn s n m → n.images ≡ now → n.records ≡ grown → IsCome base (n ∷ stores) now grown
  step n m now grown t i r = record {
    turns = ((m, t), c.turns);
    images_are = i;
    records_are = r;
    lost = lost_stay s n m c.lost;
    aborting = still_aborting s n m c.aborting;
  }

  idle_row : (r : Row) → any_under s.rows ≡ false → In r s.rows → IsIdle s r
  idle_row r off j = record { at_row = in_found s.rows r sound.standing.distinct j; idle = none_of r.under (none_under s.rows r off j) }

  pub begin : any_under s.rows ≡ false → (d : PendingUndo) (ds : List PendingUndo) (ws : List SlotWrite) → least_free (dues log) (lost log) ≡ None → dues log ≡ d ∷ ds
      → IsPlannedFrom base.sizes (slots_in base.sizes images) ws (Undid (deed_due d)) → InverseTakesLowest base.sizes (slots_in base.sizes images) [] (deed_due d) ws
      → IsWithin base images log d.txn (number_of d.txn (numbers log) + 1) d.lsn (deed_due d) ws 0
  begin off d ds ws none first plan low =
      let h = chosen_back s sound c.lost d ds (subst (λ l. least_free (dues l) (lost l) ≡ None) (sym c.records_are) none) (ap dues c.records_are ∙ first) in
      let r = h.0 in
      let t = h.4 in
      let u : Under = record { number = number_of d.txn (numbers log) + 1; writes = ws; made = 0; aim = aims.Undoing d.lsn (deed_due d) } in
      let i = idle_row r off t.row in
      let e : number_of d.txn (numbers log) ≡ r.number = ap (λ (x : Txn). number_of x (numbers log)) (sym h.3) ∙ ap (λ (l : List Record). number_of r.txn (numbers l)) (sym c.records_are) ∙ row_number s r sound t.row i.idle in
      let over : IsPlannedFrom s.sizes (slots_in s.sizes s.images) ws (Undid (deed_due d)) =
      subst (λ z. IsPlannedFrom z (slots_in z s.images) ws (Undid (deed_due d))) (sym sizes) (subst (λ x. IsPlannedFrom base.sizes (slots_in base.sizes x) ws (Undid (deed_due d))) (sym c.images_are) plan) in
      let may : MayUndo s r u h.1 (finished_due h.2 d) = plans_start.inverses s r u h.1 (finished_due h.2 d) sound
      (record { idle = i; number = ap (λ (n : ℕ). n + 1) e; made = refl; aim_is = refl; free = λ p x. none_latched s.rows p off }) over (c.aborting r t.row) t.last in
      let lowest : InverseTakesLowest s.sizes (slots_now s) s.rows (deed_due d) ws =
      subst (λ z. InverseTakesLowest z (slots_in z s.images) s.rows (deed_due d) ws) (sym sizes)
      (subst (λ x. InverseTakesLowest base.sizes (slots_in base.sizes x) s.rows (deed_due d) ws) (sym c.images_are) (lowest_of base.sizes (slots_in base.sizes images) s.rows (deed_due d) ws (λ p. none_latched s.rows p off) low)) in
      record {
        stores = started s r u s.ends ∷ stores;
        come = step (started s r u s.ends) (Starts r u h.1 (finished_due h.2 d) may lowest refl) images log (off, t) c.images_are c.records_are;
        row = row_started u r;
        of = h.3;
        at_row = found_change_same r.txn (row_started u) s.rows (λ q. refl) ∙ ap (λ (o : Option Row). option_map (row_started u) o) i.at_row;
        under = refl;
        alone = ap any_under (ap (λ (x : Txn). without_row x (change_row r.txn (row_started u) s.rows)) (sym h.3) ∙ without_changed r.txn (row_started u) s.rows (λ q. refl)) ∙ none_without r.txn s.rows off;
      }

  pub end : any_under s.rows ≡ false → (t : Txn) → least_free (dues log) (lost log) ≡ Some t → IsBetween base images (AbortEnd t ∷ log)
  end off t e =
      let h = chosen_ends s sound c.lost t (subst (λ l. least_free (dues l) (lost l) ≡ Some t) (sym c.records_are) e) in
      let r = h.0 in
      record {
        stores = aborted s r ∷ stores;
        come = step (aborted s r) (Ends r (idle_row r off h.2.row) (c.aborting r h.2.row) h.2.empty refl) images (AbortEnd t ∷ log) (off, h.2) c.images_are
            (ap (λ (x : Txn). AbortEnd x ∷ s.records) h.1 ∙ ap (λ (l : List Record). AbortEnd t ∷ l) c.records_are);
        idle = none_without r.txn s.rows off;
      }

  pub finish : least_free (dues log) (lost log) ≡ None → dues log ≡ [] → s.rows ≡ []
  finish none nothing = chosen_done s sound c.lost (subst (λ l. least_free (dues l) (lost l) ≡ None) (sym c.records_are) none) (ap dues c.records_are ∙ nothing)

  -- the inverse under way
  module _ (t : Txn) (n lsn : ℕ) (deed : Deed) (ws : List SlotWrite) (made : ℕ) (r : Row) (of : r.txn ≡ t) (at : found_row r.txn s.rows ≡ Some r)
      (under : r.under ≡ Some (record { number = n; writes = ws; made = made; aim = aims.Undoing lsn deed })) (alone : any_under (without_row t s.rows) ≡ false) where
    abbrev u : Under
    u = record { number = n; writes = ws; made = made; aim = aims.Undoing lsn deed }

    pub make : (w : SlotWrite) (now : List (List ℕ)) → slice_get ws made ≡ Some w → IsSlotOf base.sizes (w.at / 16) (w.at % 16) w.before → IsSlotOf base.sizes (w.at / 16) (w.at % 16) w.after
        → IsPutIn (showing base images log) w now → IsWithin base now (page_op t n w ∷ log) t n lsn deed ws (made + 1)
    make w now next before after put =
        let may : IsNextWrite s r u w now = record {
          at_row = at;
          under = under;
          next = next;
          before = subst (λ z. IsSlotOf z (w.at / 16) (w.at % 16) w.before) (sym sizes) before;
          after = subst (λ z. IsSlotOf z (w.at / 16) (w.at % 16) w.after) (sym sizes) after;
          made = put_as base s images now log w (sym sizes) (sym c.images_are) (sym c.records_are) put;
        } in
        record {
          stores = stepped s r u w now ∷ stores;
          come = step (stepped s r u w now) (Writes r u w now lsn deed refl may refl) now (page_op t n w ∷ log) tt refl
              (ap (λ (x : Txn). page_op x n w ∷ s.records) of ∙ ap (λ (l : List Record). page_op t n w ∷ l) c.records_are);
          row = row_stepped r;
          of = of;
          at_row = found_change_same r.txn row_stepped s.rows (λ q. refl) ∙ ap (λ (o : Option Row). option_map row_stepped o) at;
          under = ap under_stepped under;
          alone = ap any_under (ap (λ (x : Txn). without_row x (change_row r.txn row_stepped s.rows)) (sym of) ∙ without_changed r.txn row_stepped s.rows (λ q. refl) ∙ ap (λ (x : Txn). without_row x s.rows) of) ∙ alone;
        }

    pub close : made ≡ length ws → IsBetween base images (comp_end t n lsn ∷ log)
    close all =
        let ready : IsReady s r u (aims.Undoing lsn deed) = record { at_row = at; under = under; aim_is = refl; made = all } in
        let more = some_wait deed s.waiting in
        record {
          stores = undone s r u lsn deed more.0 ∷ stores;
          come = step (undone s r u lsn deed more.0) (Undoes r u lsn deed more.0 ready more.1 refl) images (comp_end t n lsn ∷ log) tt c.images_are
              (ap (λ (x : Txn). comp_end x n lsn ∷ s.records) of ∙ ap (λ (l : List Record). comp_end t n lsn ∷ l) c.records_are);
          idle = none_changed r.txn _ s.rows (λ q. refl) (ap (λ (x : Txn). any_under (without_row x s.rows)) of ∙ alone);
        }

pub aborts_go_on : AbortsGoOn
aborts_go_on = record {
  begins = λ base images log d ds ws k b none first plan low. begin base k b.stores images log b.come b.idle d ds ws none first plan low;
  makes = λ base images now log t n lsn deed ws made w k h next before after put. make base k h.stores images log h.come t n lsn deed ws made h.row h.of h.at_row h.under h.alone w now next before after put;
  closes = λ base images log t n lsn deed ws k h. close base k h.stores images log h.come t n lsn deed ws (length ws) h.row h.of h.at_row h.under h.alone refl;
  ends = λ base images log t k b e. end base k b.stores images log b.come b.idle t e;
  done = λ base images log b k none nothing. finish base k b.stores images log b.come none nothing;
}

back_less : (log : List Record) (d : PendingUndo) (ds : List PendingUndo) (n lsn : ℕ) → dues log ≡ d ∷ ds → rounds_left (comp_end d.txn n lsn ∷ log) < rounds_left log
back_less log d ds n lsn e =
    let a : length (dues (comp_end d.txn n lsn ∷ log)) ≡ length ds = ap length (rest_due log d ds n lsn e) in
    let b : length (dues log) ≡ length (d ∷ ds) = ap length e in
    let c : length (d ∷ ds) ≡ length ds + 1 = omega arith in
    let k : length (lost (comp_end d.txn n lsn ∷ log)) ≡ length (lost log) = refl in
    omega (arith, a, b, c, k)

end_less : (log : List Record) (t : Txn) → least_free (dues log) (lost log) ≡ Some t → rounds_left (AbortEnd t ∷ log) < rounds_left log
end_less log t e =
    let off : not (same_txn t t) ≡ false = ap not (same_self t) in
    let a = filter_less (λ (u : Txn). not (same_txn t u)) (lost log) t (least_there (dues log) (lost log) t e) off in
    let b : length (lost (AbortEnd t ∷ log)) ≡ length (filter (λ (u : Txn). not (same_txn t u)) (lost log)) = ap length (lost_ended t log) in
    let c : length (dues (AbortEnd t ∷ log)) ≤ length (dues log) = filter_le (λ (d : PendingUndo). not (due_of t d)) (dues log) in
    omega (arith, a, b, c)

pub aborts_come : AbortsComeToAnEnd
aborts_come = record {
  first = λ z images log forced. record {
    stores = [];
    come = record { turns = tt; images_are = refl; records_are = refl; lost = lost_first z log (lost log); aborting = lost_aborting z log };
    idle = lost_idle z log;
  };
  less_back = back_less;
  less_end = end_less;
  between = λ z log undone images forced now last u r k. Aborting undone images forced k.stores u r k.come.turns k.come.records_are;
  within = λ z log undone images forced now last t n lsn deed ws made u r k. Aborting undone images forced k.stores u r k.come.turns k.come.records_are;
  recovered = λ z log undone images forced now last u r k none nothing.
      AllAborted undone images forced k.stores u r k.come.turns
      (finish (lost_store z images undone forced) (lost_sound z images undone forced r) k.stores now last k.come none nothing) k.come.records_are;
}
