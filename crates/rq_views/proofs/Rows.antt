-- The worked logs are legal, and come to this.
use Rattle.std.proofs.Common.{◌≡◌, ℕ, List, inl, inr, [], ◌∷◌, true, false, refl, subst, sym, None, arith}
use Rattle.std.proofs.lemmas.Bool.{cases_Bool, false≢true}
use Rattle.rq_model.specs.declared.txn.Sub.{Sub}
use Rattle.rq_model.specs.declared.txn.Txn.{Txn}
use Rattle.rq_model.specs.Vocabulary.{same_txn}
use Rattle.rq_page.specs.Directories.{new_directory}
use Rattle.rq_page.specs.Slots.{Slot}
use Rattle.rq_page.specs.Slots.Slot.{Used}
use Rattle.rq_model.specs.declared.record.Deed.{Deed}
use Rattle.rq_model.specs.declared.record.Deed.TheVariants.{Close}
use Rattle.rq_views.specs.Log.{Item, Places, Write, same_op, state_of}
use Rattle.rq_views.specs.Log.Item.{PageOp, PageUndo, OpEnd, OpVoid, CompEnd, Restart}
use Rattle.rq_views.specs.Plans.{Turn, IsPlan, IsAppend, IsUnlinkHead, IsUnlinkTail, IsPutBack, IsMark, Spares}
use Rattle.rq_views.specs.Plans.Turn.{Did, Undid}
use Rattle.rq_views.specs.Legal.{Begins, IsLegalLog, MayPageOp, MayOpEnd, MayCompEnd, MayPageUndo, MayOpVoid, onto, has_deed, over, under_way, turned_back, has_end, crossed}
use Rattle.rq_views.specs.WorkedItems.{small, t1, t2, of, a1, b1, cell, new_a, end_a, new_b, end_b, sends, takes, taken_a, sent_a, free_a, took_a, back_a, sent_b, free_b, undid_b, committed_one, done_two, stopped, taken_back, restarted, taken_one, mark_a, closed_one}
use Rattle.rq_views.proofs.Idle.{idle_stands, idle_writes}
use Rattle.rq_views.proofs.Overlay.{same_is}

-- nothing is under way, or one operation alone
abbrev pub Idle : List Item → Type 0
Idle log = (u : Sub) → under_way u log ≡ false

abbrev pub Only : Sub → List Item → Type 0
Only o log = (u : Sub) → same_op o u ≡ false → under_way u log ≡ false

first_write : (log : List Item) (o : Sub) (w : Write) → Idle log → Only o (PageOp o w ∷ log)
first_write log o w h u n = rw n (h u)

next_write : (log : List Item) (o : Sub) (w : Write) → Only o log → Only o (PageOp o w ∷ log)
next_write log o w h u n = rw n (h u n)

undo_write : (log : List Item) (o : Sub) (k at : ℕ) (x : Slot) → Only o log → Only o (PageUndo o k at x ∷ log)
undo_write log o k at x h u n = rw n (h u n)

done : (log : List Item) (o : Sub) (d : Deed) → Only o log → Idle (OpEnd o d ∷ log)
done log o d h u = elim (cases_Bool (same_op o u)) [ inl y ↦ rw y refl | inr n ↦ rw n (h u n) ]

voided : (log : List Item) (o : Sub) → Only o log → Idle (OpVoid o ∷ log)
voided log o h u = elim (cases_Bool (same_op o u)) [ inl y ↦ rw y refl | inr n ↦ rw n (h u n) ]

compensated : (log : List Item) (o : Sub) (k : ℕ) → Only o log → Idle (CompEnd o k ∷ log)
compensated log o k h u = elim (cases_Bool (same_op o u)) [ inl y ↦ rw y refl | inr n ↦ rw n (h u n) ]

-- a legal log with nothing under way
pub record Rests (l : Places) (log : List Item) : Type 0 where
  pub legal : IsLegalLog l log
  pub idle : Idle log

-- and with this operation alone
pub record Runs (l : Places) (o : Sub) (log : List Item) : Type 0 where
  pub legal : IsLegalLog l log
  pub only : Only o log

-- what else a write asks where no other operation is under way
pub record MayNow (l : Places) (log : List Item) (o : Sub) (w : Write) : Type 0 where
  pub before : w.before ≡ (state_of l log).slots w.at
  pub uncrossed : crossed l.page o (l.page w.at) log ≡ false
  pub going : over o log ≡ false
  pub forward : turned_back o log ≡ false
  pub running : has_end o.txn log ≡ false

may_write : (l : Places) (log : List Item) (o : Sub) (w : Write) → IsLegalLog l log → Only o log → MayNow l log o w
    → Begins l (w ∷ (state_of l log).writes o) → MayPageOp l log o w
may_write l log o w legal only m b = record {
  write = record { before = m.before; alone = λ u n. idle_stands l log u (l.page w.at) legal (only u n) };
  uncrossed = m.uncrossed;
  going = m.going;
  forward = m.forward;
  begins = b;
  running = m.running;
}

pub first : {l : Places} {log : List Item} → Rests l log → (o : Sub) (w : Write) → MayNow l log o w
    → Begins l (w ∷ (state_of l log).writes o) → Runs l o (PageOp o w ∷ log)
first {l} {log} h o w m b =
    record { legal = (may_write l log o w h.legal (λ u n. h.idle u) m b, h.legal); only = first_write log o w h.idle }

pub next : {l : Places} {log : List Item} {o : Sub} → Runs l o log → (w : Write) → MayNow l log o w
    → Begins l (w ∷ (state_of l log).writes o) → Runs l o (PageOp o w ∷ log)
next {l} {log} {o} h w m b =
    record { legal = (may_write l log o w h.legal h.only m b, h.legal); only = next_write log o w h.only }

pub ends : {l : Places} {log : List Item} {o : Sub} → Runs l o log → (d : Deed) → MayOpEnd l log o d → Rests l (OpEnd o d ∷ log)
ends {l} {log} {o} h d m = record { legal = (m, h.legal); idle = done log o d h.only }

pub takes_back : {l : Places} {log : List Item} {o : Sub} → Runs l o log → (k : ℕ) → MayCompEnd l log o k → Rests l (CompEnd o k ∷ log)
takes_back {l} {log} {o} h k m = record { legal = (m, h.legal); idle = compensated log o k h.only }

pub turns_back : {l : Places} {log : List Item} {o : Sub} → Runs l o log → (k at : ℕ) (x : Slot) → MayPageUndo l log o k at x
    → Runs l o (PageUndo o k at x ∷ log)
turns_back {l} {log} {o} h k at x m = record { legal = (m, h.legal); only = undo_write log o k at x h.only }

pub voids : {l : Places} {log : List Item} {o : Sub} → Runs l o log → MayOpVoid l log o → Rests l (OpVoid o ∷ log)
voids {l} {log} {o} h m = record { legal = (m, h.legal); idle = voided log o h.only }

-- the plans
send_a : IsAppend small 0 1 7 0 (104 ∷ []) (end_a ∷ new_a ∷ [])
send_a = record {
  directory = new_directory;
  new = 49;
  old = None;
  used = omega arith;
  sequence = refl;
  previous_is = refl;
  old_is = refl;
  writes = refl;
}

send_b : IsAppend small 15 1 7 0 (104 ∷ []) (end_b ∷ new_b ∷ [])
send_b = record {
  directory = new_directory;
  new = 65;
  old = None;
  used = omega arith;
  sequence = refl;
  previous_is = refl;
  old_is = refl;
  writes = refl;
}

take_a : IsUnlinkHead small 0 1 7 (104 ∷ []) (took_a ∷ free_a ∷ [])
take_a = record {
  directory = sent_a;
  cell = cell 0;
  next = None;
  used = omega arith;
  sender = refl;
  sequence = refl;
  tag_is = refl;
  body_is = refl;
  next_is = refl;
  writes = refl;
}

put_a : IsPutBack small 0 1 7 (104 ∷ []) (back_a ∷ new_a ∷ [])
put_a = record {
  directory = taken_a;
  new = 49;
  old = None;
  used = omega arith;
  some_received = omega arith;
  sequence = refl;
  old_is = refl;
  writes = refl;
}

unlink_b : IsUnlinkTail small 15 1 0 (undid_b ∷ free_b ∷ [])
unlink_b = record {
  directory = sent_b;
  cell = cell 15;
  front = None;
  used = omega arith;
  sender = refl;
  sequence = refl;
  front_is = refl;
  writes = refl;
}

-- the writes so far and those to come are an operation's
pub begins : {l : Places} (t : Turn) (owed ws : List Write) → IsPlan l t (onto owed ws) → Begins l ws
begins t owed ws p = record { turn = t; owed = owed; plan = p }

pub now : {l : Places} (log : List Item) (o : Sub) (w : Write) → w.before ≡ (state_of l log).slots w.at
    → crossed l.page o (l.page w.at) log ≡ false → over o log ≡ false → turned_back o log ≡ false
    → has_end o.txn log ≡ false → MayNow l log o w
now log o w a b c d e = record { before = a; uncrossed = b; going = c; forward = d; running = e }

pub started : {l : Places} → Rests l (Restart 1 ∷ [])
started = record { legal = (record { idle = λ o. refl; ended = λ t e. absurd (false≢true e) }, tt); idle = λ u. refl }

sent_one : Rests small (OpEnd a1 (sends 0) ∷ PageOp a1 end_a ∷ PageOp a1 new_a ∷ Restart 1 ∷ [])
sent_one = ends
    (next
    (first started a1 new_a (now _ _ _ refl refl refl refl refl) (begins (Did (sends 0)) (end_a ∷ []) _ send_a))
    end_a (now _ _ _ refl refl refl refl refl) (begins (Did (sends 0)) [] _ send_a))
    (sends 0) (record { plan = send_a; going = refl; forward = refl; running = refl })

one_rests : Rests small committed_one
one_rests =
    record { legal = (record { idle = λ o e. sent_one.idle o; running = refl }, sent_one.legal); idle = sent_one.idle }

sent_two : Rests small (OpEnd b1 (sends 15) ∷ PageOp b1 end_b ∷ PageOp b1 new_b ∷ committed_one)
sent_two = ends
    (next
    (first one_rests b1 new_b (now _ _ _ refl refl refl refl refl) (begins (Did (sends 15)) (end_b ∷ []) _ send_b))
    end_b (now _ _ _ refl refl refl refl refl) (begins (Did (sends 15)) [] _ send_b))
    (sends 15) (record { plan = send_b; going = refl; forward = refl; running = refl })

two_rests : Rests small done_two
two_rests = ends
    (next
    (first sent_two (of t2 2) free_a (now _ _ _ refl refl refl refl refl) (begins (Did (takes 0)) (took_a ∷ []) _ take_a))
    took_a (now _ _ _ refl refl refl refl refl) (begins (Did (takes 0)) [] _ take_a))
    (takes 0) (record { plan = take_a; going = refl; forward = refl; running = refl })

put_back : Rests small (CompEnd (of t2 3) 11 ∷ PageOp (of t2 3) back_a ∷ PageOp (of t2 3) new_a ∷ done_two)
put_back = takes_back
    (next
    (first two_rests (of t2 3) new_a (now _ _ _ refl refl refl refl refl) (begins (Undid (takes 0)) (back_a ∷ []) _ put_a))
    back_a (now _ _ _ refl refl refl refl refl) (begins (Undid (takes 0)) [] _ put_a))
    11 (record { plan = (refl, put_a); going = refl; forward = refl; running = refl })

stopped_runs : Runs small (of t2 4) stopped
stopped_runs =
    first put_back (of t2 4) free_b (now _ _ _ refl refl refl refl refl)
    (begins (Undid (sends 15)) (undid_b ∷ []) _ unlink_b)

turned_back_whole : Rests small (OpVoid (of t2 4) ∷ PageUndo (of t2 4) 15 65 (Used (cell 15)) ∷ stopped)
turned_back_whole = voids
    (turns_back stopped_runs 15 65 (Used (cell 15)) (record { newest = (refl, refl); lsn = refl; going = refl }))
    (record { all_undone = refl; begun = refl; going = refl })

back_rests : Rests small taken_back
back_rests = takes_back
    (next
    (first turned_back_whole (of t2 5) free_b (now _ _ _ refl refl refl refl refl) (begins (Undid (sends 15)) (undid_b ∷ []) _ unlink_b))
    undid_b (now _ _ _ refl refl refl refl refl) (begins (Undid (sends 15)) [] _ unlink_b))
    8 (record { plan = (refl, unlink_b); going = refl; forward = refl; running = refl })

-- whoever did something has ended
all_ended : (t : Txn) → has_deed t restarted ≡ true → has_end t restarted ≡ true
all_ended t h = elim (cases_Bool (same_txn t2 t)) [
  | inl y ↦ rw y refl
  | inr n ↦ elim (cases_Bool (same_txn t1 t)) [
    | inl y ↦ rw (n, y) refl
    | inr m ↦ let bad : false ≡ true = rw (n, m) at h in absurd (false≢true bad)
  ]
]

pub restarted_legal : IsLegalLog small restarted
restarted_legal = (
  record { idle = λ o. back_rests.idle o; ended = all_ended },
  (record { idle = λ o e. back_rests.idle o; running = refl; empty = refl }, back_rests.legal),
)

pub taken_legal : IsLegalLog small taken_one
taken_legal =
    (ends
    (next
    (first one_rests b1 free_a (now _ _ _ refl refl refl refl refl) (begins (Did (takes 0)) (took_a ∷ []) _ take_a))
    took_a (now _ _ _ refl refl refl refl refl) (begins (Did (takes 0)) [] _ take_a))
    (takes 0) (record { plan = take_a; going = refl; forward = refl; running = refl })).legal

close_a : IsMark small 0 true (mark_a ∷ [])
close_a = record { directory = new_directory; writes = refl }

pub closed_legal : IsLegalLog small closed_one
closed_legal =
    let h =
    ends (first started a1 mark_a (now _ _ _ refl refl refl refl refl) (begins (Did (Close 0)) [] _ close_a)) (Close 0) (record { plan = close_a; going = refl; forward = refl; running = refl }) in
    (record { idle = λ o e. h.idle o; running = refl }, h.legal)

-- what is under way spares sender 0, and no other
pub stopped_spares : (o : Sub) → Spares 0 ((state_of small stopped).writes o)
stopped_spares o = elim (cases_Bool (same_op (of t2 4) o)) [
  | inl y ↦ subst (λ (u : Sub). Spares 0 ((state_of small stopped).writes u)) (same_is (of t2 4) o y) ((λ e. omega (arith, e)), tt)
  | inr n ↦ subst (Spares 0) (sym (idle_writes small stopped o stopped_runs.legal (stopped_runs.only o n))) tt
]

pub stopped_writes : ((o : Sub) → Spares 15 ((state_of small stopped).writes o)) → ⊥
stopped_writes h = (h (of t2 4)).0 refl
