-- The log of two interleaved operations is legal.
use Rattle.std.proofs.Common.{◌+◌, inl, inr, [], ◌∷◌, refl, None, arith, rules}
use Rattle.std.proofs.lemmas.Bool.{cases_Bool, false≢true}
use Rattle.rq_views.specs.Log.{same_op}
use Rattle.rq_page.specs.Slots.Slot.{Free, Sender}
use Rattle.rq_model.specs.declared.record.Deed.TheVariants.{Append}
use Rattle.rq_views.specs.Log.Item.{PageOp, PageUndo, OpEnd, OpVoid, Commit, Restart}
use Rattle.rq_views.specs.Chain.{directory_appended}
use Rattle.rq_views.specs.Plans.{IsAppend}
use Rattle.rq_views.specs.Plans.Turn.{Did}
use Rattle.rq_views.specs.Legal.{MayFollow, IsLegalLog}
use Rattle.rq_page.specs.Directories.{new_directory}
use Rattle.rq_views.specs.WorkedItems.{small, t1, a1, b1, new_a, new_b, end_a, row}

plan_a : IsAppend small 0 1 7 0 (104 ∷ []) (end_a ∷ new_a ∷ [])
plan_a = record { directory = new_directory; new = 49; old = None; used = omega arith; sequence = refl; previous_is = refl; old_is = refl; writes = refl }

pub first_of_a : MayFollow small (Restart 1 ∷ []) (PageOp a1 new_a)
first_of_a = record {
  write = record { before = refl; alone = λ u n. refl };
  uncrossed = refl;
  going = refl;
  forward = refl;
  begins = record { turn = Did (Append 0 1 7 0 (104 ∷ [])); owed = end_a ∷ []; plan = plan_a };
  running = refl;
}

second_of_a : MayFollow small (PageOp b1 new_b ∷ PageOp a1 new_a ∷ Restart 1 ∷ []) (PageOp a1 end_a)
second_of_a = record {
  write = record { before = refl; alone = λ u n. search rules };
  uncrossed = refl;
  going = refl;
  forward = refl;
  begins = record { turn = Did (Append 0 1 7 0 (104 ∷ [])); owed = []; plan = plan_a };
  running = refl;
}

end_of_a : MayFollow small (PageOp a1 end_a ∷ PageOp b1 new_b ∷ PageOp a1 new_a ∷ Restart 1 ∷ []) (OpEnd a1 (Append 0 1 7 0 (104 ∷ [])))
end_of_a = record { plan = plan_a; going = refl; forward = refl; running = refl }

undo_of_b : MayFollow small (OpEnd a1 (Append 0 1 7 0 (104 ∷ [])) ∷ PageOp a1 end_a ∷ PageOp b1 new_b ∷ PageOp a1 new_a ∷ Restart 1 ∷ []) (PageUndo b1 3 65 Free)
undo_of_b = search rules

first_of_b : MayFollow small (PageOp a1 new_a ∷ Restart 1 ∷ []) (PageOp b1 new_b)
first_of_b = record {
  write = record { before = refl; alone = λ u n. search rules };
  uncrossed = refl;
  going = refl;
  forward = refl;
  begins = record {
    turn = Did (Append 15 1 7 0 (104 ∷ []));
    owed = record { at = 32 + 1; before = Sender 15 new_directory; after = Sender 15 (directory_appended new_directory 65 7) } ∷ [];
    plan = record { directory = new_directory; new = 65; old = None; used = omega arith; sequence = refl; previous_is = refl; old_is = refl; writes = refl };
  };
  running = refl;
}

void_of_b : MayFollow small (PageUndo b1 3 65 Free ∷ OpEnd a1 (Append 0 1 7 0 (104 ∷ [])) ∷ PageOp a1 end_a ∷ PageOp b1 new_b ∷ PageOp a1 new_a ∷ Restart 1 ∷ []) (OpVoid b1)
void_of_b = search rules

commit_of_a : MayFollow small (OpVoid b1 ∷ PageUndo b1 3 65 Free ∷ OpEnd a1 (Append 0 1 7 0 (104 ∷ [])) ∷ PageOp a1 end_a ∷ PageOp b1 new_b ∷ PageOp a1 new_a ∷ Restart 1 ∷ []) (Commit t1)
commit_of_a = record {
  idle = λ o e. elim (cases_Bool (same_op a1 o)) [
    | inl y ↦ rw y (elim (cases_Bool (same_op b1 o)) [ inl z ↦ rw z refl | inr z ↦ rw z refl ])
    | inr y ↦ rw y (elim (cases_Bool (same_op b1 o)) [ inl z ↦ rw z refl | inr z ↦ rw z refl ])
  ];
  running = refl;
}

pub row_legal : IsLegalLog small row
row_legal = (commit_of_a, (void_of_b, (undo_of_b, (end_of_a, (second_of_a, (first_of_b, (first_of_a, (record { idle = λ o. refl; ended = λ t e. absurd (false≢true e) }, tt))))))))
