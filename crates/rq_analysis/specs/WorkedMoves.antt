-- Worked: what undoes the lost transaction of `Worked`, move by move.
use Rattle.std.proofs.Common.{arith}
use Rattle.std.specs.Prelude.{ℕ, List, [], ◌∷◌, drop}
use Rattle.rq_views.specs.WorkedItems.{sends, takes, new_a, back_a, free_b, undid_b}
use Rattle.rq_level.specs.declared.writes.SlotWrite.{SlotWrite}
use Rattle.rq_txn.specs.declared.Aim.TheVariants as aims
use Rattle.rq_txn.specs.Rows.{Row, Under, row_started, row_undone}
use Rattle.rq_store.specs.State.{State}
use Rattle.rq_sound.specs.Calls.{aborted, started, stepped, undone}
use Rattle.rq_sound.specs.Course.{spelled, with_made}
use Rattle.rq_analysis.specs.Worked.{row_two, sent_two, store_two}

-- the message of sender 0 goes back into its cell and to its group
abbrev pub cell_back : SlotWrite
cell_back = spelled new_a (omega arith) (omega arith)

abbrev pub group_back : SlotWrite
group_back = spelled back_a (omega arith) (omega arith)

abbrev pub put_back : Under
put_back = record { number = 3; writes = cell_back ∷ group_back ∷ []; made = 0; aim = aims.Undoing 11 (takes 0) }

-- that for sender 15 leaves its cell and its group
abbrev pub cell_freed : SlotWrite
cell_freed = spelled free_b (omega arith) (omega arith)

abbrev pub group_left : SlotWrite
group_left = spelled undid_b (omega arith) (omega arith)

abbrev pub unlink : Under
unlink = record { number = 4; writes = cell_freed ∷ group_left ∷ []; made = 0; aim = aims.Undoing 8 (sends 15) }

-- the images of the pages as it goes
pub record Pages : Type 0 where
  pub start : List (List ℕ)
  pub first : List (List ℕ)
  pub second : List (List ℕ)
  pub third : List (List ℕ)
  pub fourth : List (List ℕ)

abbrev pub row_back : ℕ → Row
row_back n = row_started (with_made n put_back) row_two

-- the store as it goes
abbrev pub started_back : Pages → State
started_back v = started (store_two v.start) row_two put_back (store_two v.start).ends

abbrev pub cell_is_back : Pages → State
cell_is_back v = stepped (started_back v) (row_back 0) put_back cell_back v.first

abbrev pub group_is_back : Pages → State
group_is_back v = stepped (cell_is_back v) (row_back 1) (with_made 1 put_back) group_back v.second

-- the message waits again
abbrev pub back : Pages → State
back v =
    undone (group_is_back v) (row_back 2) (with_made 2 put_back) 11 (takes 0) (1 ∷ drop 1 (group_is_back v).waiting)

abbrev pub row_sent : Row
row_sent = row_undone (sent_two ∷ []) (row_back 2)

abbrev pub row_unlinking : ℕ → Row
row_unlinking n = row_started (with_made n unlink) row_sent

abbrev pub started_unlink : Pages → State
started_unlink v = started (back v) row_sent unlink (back v).ends

abbrev pub cell_is_free : Pages → State
cell_is_free v = stepped (started_unlink v) (row_unlinking 0) unlink cell_freed v.third

abbrev pub group_is_left : Pages → State
group_is_left v = stepped (cell_is_free v) (row_unlinking 1) (with_made 1 unlink) group_left v.fourth

abbrev pub unlinked : Pages → State
unlinked v =
    undone (group_is_left v) (row_unlinking 2) (with_made 2 unlink) 8 (sends 15) (group_is_left v).waiting

abbrev pub row_empty : Row
row_empty = row_undone [] (row_unlinking 2)

-- and t2 has ended
abbrev pub ended : Pages → State
ended v = aborted (unlinked v) row_empty
