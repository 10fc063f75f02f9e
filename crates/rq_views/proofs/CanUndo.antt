-- A transaction's newest open deed is still the last thing done at its end of the queue, so its inverse can be made.
use Rattle.rq_model.specs.declared.txn.Txn.{Txn}
use Rattle.std.proofs.Common.{◌≡◌, ℕ, ◌+◌, ◌<◌, List, ◌∷◌, true, sym, ap, subst, ◌∙◌, arith}
use Rattle.rq_views.specs.Chain.{View}
use Rattle.rq_views.specs.Log.{Item}
use Rattle.rq_model.specs.declared.record.Deed.TheVariants.{UnlinkHead}
use Rattle.rq_views.specs.Plans.{with_turn}
use Rattle.rq_views.specs.Plans.Turn.{Did}
use Rattle.rq_views.specs.Legal.{Placed, open_deeds, view}
use Rattle.rq_views.specs.Groups.{on_sending_end, on_receiving_end, side, with_all, committed, TellsView, KeepsGroups}
use Rattle.rq_views.proofs.Deeds.{side_sends, side_takes, same_marks, takes_marks, Sound, same_total, takes_total, sends_received}
use Rattle.rq_views.proofs.Holders.{Held, holder_is, side_cons_own, told_marks}
use Rattle.rq_views.proofs.GroupRule.{held}

undo_sent : (s : ℕ) (os : Txn → List Placed) (v c : View) (t : Txn) (p : Placed) (ps : List Placed) → os t ≡ p ∷ ps → on_sending_end s p.deed ≡ true → Held s os v c → (x : View) × (v ≡ with_turn (Did p.deed) x) × TellsView p.deed x
undo_sent s os v c t p ps e ys h =
    let rs = side (on_receiving_end s) (os h.taker) in
    let ds = side (on_sending_end s) ps in
    let own = holder_is (on_sending_end s) h.sender t p ps os e ys h.sender_alone in
    let open_is : side (on_sending_end s) (os t) ≡ p.deed ∷ ds = ap (side (on_sending_end s)) e ∙ side_cons_own (on_sending_end s) p ps ys in
    let is : v ≡ with_all (p.deed ∷ ds) (with_all rs c) = h.shown ∙ ap (λ u. with_all (side (on_sending_end s) (os u)) (with_all rs c)) own ∙ ap (λ ds. with_all ds (with_all rs c)) open_is in
    let told : TellsView p.deed (with_all ds c) = (subst (λ ds. Sound ds c) open_is (h.sends t)).0 in
    let tm = takes_marks rs c (side_takes s (os h.taker)) in
    let m = same_marks ds (with_all rs c) c tm.0 tm.1 in
    (with_all ds (with_all rs c), is, told_marks s p.deed (with_all ds c) (with_all ds (with_all rs c)) ys (sym m.0) (sym m.1) (sym (same_total ds (with_all rs c) c (side_sends s ps) (takes_total rs c (side_takes s (os h.taker)) (h.takes h.taker)))) told)

-- of a send or close: the view is what the deed made of the view it tells of
pub can_undo_sent : (s : ℕ) (log : List Item) (t : Txn) (p : Placed) (ps : List Placed) → KeepsGroups log → open_deeds t log ≡ p ∷ ps → on_sending_end s p.deed ≡ true → (x : View) × (view log s ≡ with_turn (Did p.deed) x) × TellsView p.deed x
can_undo_sent s log t p ps k e ys = undo_sent s (λ u. open_deeds u log) (view log s) (committed log s) t p ps e ys (held s log k)

undo_taken : (s : ℕ) (os : Txn → List Placed) (v c : View) (t : Txn) (lsn r n tag : ℕ) (body : List ℕ) (ps : List Placed) → os t ≡ record { lsn = lsn; deed = UnlinkHead r n tag body } ∷ ps → on_receiving_end s (UnlinkHead r n tag body) ≡ true → Held s os v c → (v.received ≡ n) × (0 < v.received)
undo_taken s os v c t lsn r n tag body ps e yt h =
    let p : Placed = record { lsn = lsn; deed = UnlinkHead r n tag body } in
    let rs = side (on_receiving_end s) ps in
    let ds = side (on_sending_end s) (os h.sender) in
    let own = holder_is (on_receiving_end s) h.taker t p ps os e yt h.taker_alone in
    let open_is : side (on_receiving_end s) (os t) ≡ p.deed ∷ rs = ap (side (on_receiving_end s)) e ∙ side_cons_own (on_receiving_end s) p ps yt in
    let is : v ≡ with_all ds (with_all (p.deed ∷ rs) c) = h.shown ∙ ap (λ u. with_all ds (with_all (side (on_receiving_end s) (os u)) c)) own ∙ ap (λ rs. with_all ds (with_all rs c)) open_is in
    let told : TellsView p.deed (with_all rs c) = (subst (λ ds. Sound ds c) open_is (h.takes t)).0 in
    let r : v.received ≡ (with_all rs c).received + 1 = ap (λ (x : View). x.received) is ∙ sends_received ds (with_all (p.deed ∷ rs) c) (side_sends s (os h.sender)) in
    (r ∙ sym told.2, omega (arith, r))

-- of a take: what is received is the deed's sequence
pub can_undo_taken : (s : ℕ) (log : List Item) (t : Txn) (lsn r n tag : ℕ) (body : List ℕ) (ps : List Placed) → KeepsGroups log → open_deeds t log ≡ record { lsn = lsn; deed = UnlinkHead r n tag body } ∷ ps → on_receiving_end s (UnlinkHead r n tag body) ≡ true → ((view log s).received ≡ n) × (0 < (view log s).received)
can_undo_taken s log t lsn r n tag body ps k e yt = undo_taken s (λ u. open_deeds u log) (view log s) (committed log s) t lsn r n tag body ps e yt (held s log k)
