-- The worked logs keep every rule; what each rule refuses is refused.
use Rattle.std.proofs.Common.{◌≡◌, ℕ, ◌<◌, List, [], ◌∷◌, length, true, false, inl, inr, refl, ◌∙◌, ap, subst, arith, length-append}
use Rattle.std.proofs.lemmas.Bool.{cases_Bool, false≢true, true≢false, eqb-true}
use Rattle.rq_model.specs.declared.record.Deed.TheVariants.{Close}
use Rattle.rq_model.specs.declared.txn.Txn.{Txn}
use Rattle.rq_model.specs.Vocabulary.{same_txn}
use Rattle.rq_model.proofs.Lists.{same_self}
use Rattle.rq_views.specs.Chain.{View, AreTaken, AreSent}
use Rattle.rq_views.specs.Chain.Sending.{TailUnlinked}
use Rattle.rq_views.specs.Chain.Taking.{Took}
use Rattle.rq_views.specs.Claims.{HasRoom}
use Rattle.rq_views.specs.Numbers.{AreNumbered}
use Rattle.rq_views.specs.Groups.{on_sending_end, on_receiving_end, side, with_all, Alone, TellsView, MayTurn, KeepsGroups, committed}
use Rattle.rq_views.specs.Legal.{open_deeds, view}
use Rattle.rq_views.specs.Log.{Item}
use Rattle.rq_views.specs.WorkedItems.{t1, t2, sends, takes, row, committed_one, done_two, stopped, restarted}
use Rattle.rq_views.specs.Worked.{KeepsAll, WorkedLogs, RefusedRecords, nothing, one_waits}
use Rattle.rq_views.proofs.GroupRule.{row_groups}
use Rattle.rq_views.proofs.Interleaved.{row_legal, first_of_a}
use Rattle.rq_views.proofs.WorkedTags.{tags_a, other_tag, other_client, not_counted, none_back}
use Rattle.rq_views.proofs.Rows.{restarted_legal, taken_legal, closed_legal, stopped_spares, stopped_writes}

may_send : (log : List Item) (t : Txn) (q : ℕ) → Alone (on_sending_end q) t log → TellsView (sends q) (view log q) → (s : ℕ)
    → MayTurn log t (sends q) s
may_send log t q alone told s = record {
  sends = λ y. subst (λ k. Alone (on_sending_end k) t log × TellsView (sends q) (view log k)) (eqb-true q s y) (alone, told);
  takes = λ y. absurd (false≢true y);
}

may_close : (log : List Item) (t : Txn) (q : ℕ) → Alone (on_sending_end q) t log → (view log q).closed ≡ false → (s : ℕ)
    → MayTurn log t (Close q) s
may_close log t q alone told s = record {
  sends = λ y. subst (λ k. Alone (on_sending_end k) t log × TellsView (Close q) (view log k)) (eqb-true q s y) (alone, told);
  takes = λ y. absurd (false≢true y);
}

may_take : (log : List Item) (t : Txn) (q : ℕ) → Alone (on_receiving_end q) t log → TellsView (takes q) (view log q)
    → 0 < length (with_all (side (on_receiving_end q) (open_deeds t log)) (committed log q)).messages → (s : ℕ)
    → MayTurn log t (takes q) s
may_take log t q alone told more s = record {
  sends = λ y. absurd (false≢true y);
  takes =
      λ y. subst (λ k. Alone (on_receiving_end k) t log × TellsView (takes q) (view log k) × (0 < length (with_all (side (on_receiving_end k) (open_deeds t log)) (committed log k)).messages)) (eqb-true q s y) (alone, told, more);
}

-- an operation that has a record may be of any number
again : {n m : ℕ} → true ≡ false → n ≡ m
again e = absurd (true≢false e)

-- whoever committed has nothing open
none_open : (u : Txn) → open_deeds u committed_one ≡ []
none_open u = elim (cases_Bool (same_txn t1 u)) [ inl y ↦ rw y refl | inr n ↦ rw n refl ]

one_groups : KeepsGroups committed_one
one_groups = (tt, (may_send _ t1 0 (λ u n. refl) (refl, refl, refl), (tt, (tt, (tt, tt)))))

two_groups : KeepsGroups done_two
two_groups = (
  may_take _ t2 0
      (λ u n. elim (cases_Bool (same_txn t2 u)) [ inl y ↦ rw y (ap (side (on_receiving_end 0)) (none_open u)) | inr m ↦ rw m (ap (side (on_receiving_end 0)) (none_open u)) ])
      ([], refl, refl) (omega arith),
  (tt, (tt, (may_send _ t2 15 (λ u n. ap (side (on_sending_end 15)) (none_open u)) (refl, refl, refl), (tt, (tt, one_groups))))),
)

restarted_groups : KeepsGroups restarted
restarted_groups = (tt, (tt, ((λ e. cc), (tt, (tt, (tt, (tt, (tt, ((λ e. cc), (tt, (tt, two_groups)))))))))))

row_keeps : KeepsAll row
row_keeps = record {
  legal = row_legal;
  groups = row_groups;
  room = (tt, (tt, (tt, (omega arith, (tt, (tt, (tt, (tt, tt))))))));
  numbers = (tt, (tt, (tt, (tt, (again, ((λ e. refl), ((λ e. refl), (tt, tt))))))));
}

one_room : HasRoom 30 committed_one
one_room = (tt, (omega arith, (tt, (tt, (tt, tt)))))

two_room : HasRoom 30 done_two
two_room = (omega arith, (tt, (tt, (omega arith, (tt, (tt, one_room))))))

all_room : HasRoom 30 restarted
all_room = (tt, (tt, (tt, (tt, (tt, (tt, (tt, (tt, (tt, (tt, (tt, two_room)))))))))))

one_numbers : AreNumbered committed_one
one_numbers = (tt, (tt, (again, ((λ e. refl), (tt, tt)))))

two_numbers : AreNumbered done_two
two_numbers = (tt, (again, ((λ e. refl), (tt, (again, ((λ e. refl), one_numbers))))))

stopped_numbers : AreNumbered stopped
stopped_numbers = ((λ e. refl), (tt, (again, ((λ e. refl), two_numbers))))

all_numbers : AreNumbered restarted
all_numbers = (tt, (tt, (tt, (again, ((λ e. refl), (tt, (tt, stopped_numbers)))))))

pub worked : WorkedLogs
worked = record {
  interleaved = row_keeps;
  interleaved_view = refl;
  interleaved_slot = refl;
  restarted_keeps = record { legal = restarted_legal; groups = restarted_groups; room = all_room; numbers = all_numbers };
  done_view = refl;
  stopped_view = refl;
  restarted_view = refl;
  restarted_committed = refl;
  restarted_other = refl;
  stopped_slot = refl;
  stopped_quiet = refl;
  restarted_slot = refl;
  done_claims = refl;
  restarted_claims = refl;
  restarted_number = refl;
  spares = stopped_spares;
  not_spared = stopped_writes;
}

two_takes : (w : View) → AreTaken (Took 7 (104 ∷ []) ∷ Took 8 (105 ∷ []) ∷ []) one_waits w → ⊥
two_takes w h = let bad : [] ≡ (8, 105 ∷ []) ∷ h.2.0 = none_left h.0 h.1 ∙ h.2.1 in cc where
  none_left : (rest : List (ℕ × List ℕ)) → (7, 104 ∷ []) ∷ [] ≡ (7, 104 ∷ []) ∷ rest → [] ≡ rest
  none_left rest e = cc

no_tail : (w : View) → AreSent (TailUnlinked 0 ∷ []) nothing w → ⊥
no_tail w h = let n = ap length h.2 in let m = length-append h.0 (h.1 ∷ []) in omega (arith, n, m)

pub refused : RefusedRecords
refused = record {
  taken_keeps = record {
    legal = taken_legal;
    groups =
        (may_take _ t2 0 (λ u n. ap (side (on_receiving_end 0)) (none_open u)) ([], refl, refl) (omega arith), (tt, (tt, one_groups)));
    room = (omega arith, (tt, (tt, (tt, (omega arith, (tt, (tt, (tt, tt))))))));
    numbers =
        (tt, (again, ((λ e. refl), (tt, (tt, (again, ((λ e. refl), (tt, tt))))))));
  };
  taken_room = (omega arith, (tt, (tt, (tt, (omega arith, (tt, (tt, (tt, tt))))))));
  full = λ h. omega (arith, h);
  closed_keeps = record {
    legal = closed_legal;
    groups = (tt, (may_close _ t1 0 (λ u n. refl) refl, (tt, (tt, tt))));
    room = (tt, (omega arith, (tt, (tt, tt))));
    numbers = (tt, (tt, ((λ e. refl), (tt, tt))));
  };
  closed_send = λ h. true≢false ((h 0).sends refl).1.2;
  closed_again = λ h. true≢false ((h 0).sends refl).1;
  gap = λ h. let e = h refl in omega (arith, e);
  settled = refl;
  not_ended = λ h. false≢true (h.ended t2 refl);
  deed_after_undo = λ log t n m k level deed h. (let e : true ≡ false = rw (same_self t) at h.1 in true≢false e);
  commit_after_undo = λ log t m k h. (let e : true ≡ false = rw (same_self t) at h in true≢false e);
  undo_met = ((refl, refl, refl), ([], refl, refl), ((8, 105 ∷ []) ∷ [], refl, refl));
  undo_not_met = two_takes;
  put_back_met = (([], refl, refl), refl, refl);
  put_back_gives = refl;
  put_back_not_done = λ h. (let e = h.1 in cc e);
  put_back_not_met = no_tail;
  page_op_met = first_of_a;
  page_op_of_another_slot = λ h. (let e = h.write.before in cc e);
  mark_met = tags_a;
  mark_of_another_tag = other_tag;
  mark_of_another_client = other_client;
  mark_not_counted = not_counted;
  none_to_take_back = none_back;
  page_op_after_end = λ w h. true≢false h.going;
  page_op_after_commit = λ n w h. true≢false h.running;
}
