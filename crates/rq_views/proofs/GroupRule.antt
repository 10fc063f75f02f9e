-- Of a log that keeps the rule of groups, each sender's view is what committed transactions leave, without the receiving holder's takes, then the sending holder's sends.
use Rattle.rq_model.specs.declared.record.Deed.{Deed}
use Rattle.rq_model.specs.declared.txn.Sub.{Sub}
use Rattle.rq_model.specs.declared.txn.Txn.{Txn}
use Rattle.std.proofs.Common.{◌≡◌, ◌≢◌, ℕ, ◌+◌, ◌==◌, inl, inr, List, [], ◌∷◌, length, Bool, true, false, if◌then◌else◌, refl, sym, ap, subst, ◌∙◌, Some}
use Rattle.std.proofs.lemmas.Bool.{cases_Bool, cond-true, cond-false, false≢true}
use Rattle.rq_views.specs.Chain.{View}
use Rattle.rq_views.specs.Log.{Item}
use Rattle.rq_model.specs.declared.record.Deed.TheVariants.{Append, UnlinkHead, Close, Mark}
use Rattle.rq_views.specs.Log.Item.{OpEnd, CompEnd, Commit}
use Rattle.rq_views.specs.Plans.{deed_sender, with_turn}
use Rattle.rq_views.specs.Plans.Turn.{Did, Undid}
use Rattle.rq_views.specs.Legal.{Placed, open_deeds, view, view_after, no_view, undoing}
use Rattle.rq_views.specs.Groups.{on_sending_end, on_receiving_end, side, with_all, committed, MayTurn, KeepsGroups}
use Rattle.rq_views.proofs.Holders.{Held, pushed, popped, held_other, held_sent, held_taken, pop_other, pop_sent, pop_taken, held_committed}
use Rattle.rq_views.specs.WorkedItems.{row}

start_held : (s : ℕ) (t : Txn) → Held s (λ u. []) no_view no_view
start_held s t = record { sender = t; sender_alone = λ u n. refl; taker = t; taker_alone = λ u n. refl; shown = refl; sends = λ u. tt; takes = λ u. tt }

view_own : (P : View → Type 0) (b : Bool) (x y : View) → b ≡ true → P x → P (if b then x else y)
view_own P b x y e h = subst P (sym (cond-true b x y e)) h

view_off : (P : View → Type 0) (b : Bool) (x y : View) → b ≡ false → P y → P (if b then x else y)
view_off P b x y e h = subst P (sym (cond-false b x y e)) h

-- an operation of the sending end
end_sent : (s : ℕ) (log : List Item) (o : Sub) (d : Deed) → on_sending_end s d ≡ (deed_sender d == s) → on_receiving_end s d ≡ false → MayTurn log o.txn d s → Held s (λ u. open_deeds u log) (view log s) (committed log s) → Held s (λ u. open_deeds u (OpEnd o d ∷ log)) (view (OpEnd o d ∷ log) s) (committed (OpEnd o d ∷ log) s)
end_sent s log o d own nt may h =
    let os : Txn → List Placed = λ u. open_deeds u log in
    let p : Placed = record { lsn = length log + 1; deed = d } in
    let P : View → Type 0 = λ v. Held s (pushed o.txn p os) v (committed log s) in
    elim (cases_Bool (deed_sender d == s)) [
      | inl y ↦ view_own P (deed_sender d == s) (with_turn (Did d) (view log s)) (view log s) y (held_sent s os (view log s) (committed log s) o.txn p (own ∙ y) nt (may.sends (own ∙ y)).0 (may.sends (own ∙ y)).1 h)
      | inr k ↦ view_off P (deed_sender d == s) (with_turn (Did d) (view log s)) (view log s) k (held_other s os (view log s) (committed log s) o.txn p (own ∙ k) nt h)
    ]

end_held : (s : ℕ) (log : List Item) (o : Sub) (d : Deed) → MayTurn log o.txn d s → Held s (λ u. open_deeds u log) (view log s) (committed log s) → Held s (λ u. open_deeds u (OpEnd o d ∷ log)) (view (OpEnd o d ∷ log) s) (committed (OpEnd o d ∷ log) s)
end_held s log o (Append r n tag b body) may h = end_sent s log o (Append r n tag b body) refl refl may h
end_held s log o (UnlinkHead r n tag body) may h =
    let os : Txn → List Placed = λ u. open_deeds u log in
    let p : Placed = record { lsn = length log + 1; deed = UnlinkHead r n tag body } in
    let P : View → Type 0 = λ v. Held s (pushed o.txn p os) v (committed log s) in
    elim (cases_Bool (r == s)) [
      | inl y ↦ view_own P (r == s) (with_turn (Did p.deed) (view log s)) (view log s) y (held_taken s os (view log s) (committed log s) o.txn (length log + 1) r n tag body y (may.takes y).0 (may.takes y).1 (may.takes y).2 h)
      | inr k ↦ view_off P (r == s) (with_turn (Did p.deed) (view log s)) (view log s) k (held_other s os (view log s) (committed log s) o.txn p refl k h)
    ]
end_held s log o (Close r) may h = end_sent s log o (Close r) refl refl may h
end_held s log o (Mark c tag previous) may h = end_sent s log o (Mark c tag previous) refl refl may h

undone_sent : (s : ℕ) (os : Txn → List Placed) (v c : View) (t : Txn) (lsn : ℕ) (d : Deed) (ps : List Placed) → on_sending_end s d ≡ (deed_sender d == s) → on_receiving_end s d ≡ false → os t ≡ record { lsn = lsn; deed = d } ∷ ps → Held s os v c → Held s (popped t os) (view_after s (Some (Undid d)) v) c
undone_sent s os v c t lsn d ps own nt e h =
    let p : Placed = record { lsn = lsn; deed = d } in
    let P : View → Type 0 = λ v. Held s (popped t os) v c in
    elim (cases_Bool (deed_sender d == s)) [
      | inl y ↦ view_own P (deed_sender d == s) (with_turn (Undid d) v) v y (pop_sent s os v c t p ps e (own ∙ y) nt h)
      | inr k ↦ view_off P (deed_sender d == s) (with_turn (Undid d) v) v k (pop_other s os v c t p ps e (own ∙ k) nt h)
    ]

undone_held : (s : ℕ) (os : Txn → List Placed) (v c : View) (t : Txn) (lsn : ℕ) (d : Deed) (ps : List Placed) → os t ≡ record { lsn = lsn; deed = d } ∷ ps → Held s os v c → Held s (popped t os) (view_after s (Some (Undid d)) v) c
undone_held s os v c t lsn (Append r n tag b body) ps e h = undone_sent s os v c t lsn (Append r n tag b body) ps refl refl e h
undone_held s os v c t lsn (UnlinkHead r n tag body) ps e h =
    let p : Placed = record { lsn = lsn; deed = UnlinkHead r n tag body } in
    let P : View → Type 0 = λ v. Held s (popped t os) v c in
    elim (cases_Bool (r == s)) [
      | inl y ↦ view_own P (r == s) (with_turn (Undid p.deed) v) v y (pop_taken s os v c t lsn r n tag body ps e y h)
      | inr k ↦ view_off P (r == s) (with_turn (Undid p.deed) v) v k (pop_other s os v c t p ps e refl k h)
    ]
undone_held s os v c t lsn (Close r) ps e h = undone_sent s os v c t lsn (Close r) ps refl refl e h
undone_held s os v c t lsn (Mark k tag previous) ps e h = undone_sent s os v c t lsn (Mark k tag previous) ps refl refl e h

comp_held : (s : ℕ) (os : Txn → List Placed) (v c : View) (t : Txn) (ps : List Placed) → os t ≡ ps → ps ≢ [] → Held s os v c → Held s (popped t os) (view_after s (undoing ps) v) c
comp_held s os v c t [] e n h = absurd (n refl)
comp_held s os v c t (p ∷ ps) e n h = undone_held s os v c t p.lsn p.deed ps e h

-- the rule of groups: a log's views, by who holds the ends
pub held : (s : ℕ) (log : List Item) → KeepsGroups log → Held s (λ u. open_deeds u log) (view log s) (committed log s)
held s [] k = start_held s (record { incarnation = 1; count = 1 })
held s (OpEnd o d ∷ log) k = end_held s log o d (k.0 s) (held s log k.1)
held s (CompEnd o u ∷ log) k = comp_held s (λ u. open_deeds u log) (view log s) (committed log s) o.txn (open_deeds o.txn log) refl k.0 (held s log k.1)
held s (Commit t ∷ log) k = held_committed s (λ u. open_deeds u log) (view log s) (committed log s) t (held s log k.1)
held s (_ ∷ log) k = held s log k.1

-- where no transaction is open, the view is what committed transactions leave
pub settled_view : (s : ℕ) (log : List Item) → KeepsGroups log → ((t : Txn) → open_deeds t log ≡ []) → view log s ≡ committed log s
settled_view s log k e = let h = held s log k in
    h.shown ∙ ap (λ ps. with_all (side (on_sending_end s) ps) (with_all (side (on_receiving_end s) (open_deeds h.taker log)) (committed log s))) (e h.sender) ∙ ap (λ ps. with_all (side (on_receiving_end s) ps) (committed log s)) (e h.taker)

-- the row keeps the rule of groups
pub row_groups : KeepsGroups row
row_groups = (tt, (tt, (tt, (λ s. record { sends = λ y. (λ u n. refl, (refl, refl, refl)); takes = λ y. absurd (false≢true y) }, (tt, (tt, (tt, (tt, tt))))))))
