-- Where only the holder of an end uses it, nobody else has anything open there, and what it takes is there.
use Rattle.std.proofs.Common.{◌≡◌, ◌≢◌, ℕ, ◌+◌, ◌-◌, ◌<◌, ◌||◌, List, [], ◌∷◌, length, refl, sym, ◌∙◌, ap, subst, Bool, true, false, not, cond, nat_eq, Option, Some, inl, inr, arith}
use Rattle.std.proofs.lemmas.Bool.{cases_Bool, true≢false, false≢true, eqb-true, and_from, or_parts}
use Rattle.std.proofs.lemmas.List.{length-map, length-drop}
use Rattle.rq_model.specs.declared.txn.Txn.{Txn}
use Rattle.rq_model.specs.declared.record.Deed.{Deed}
use Rattle.rq_model.specs.declared.record.Deed.TheVariants.{Append, UnlinkHead, Close, Mark}
use Rattle.rq_model.specs.declared.record.Record.{Record}
use Rattle.rq_model.specs.declared.record.Record.TheVariants as records
use Rattle.rq_model.specs.Vocabulary.{same_txn}
use Rattle.rq_model.specs.Deeds.{deed_by}
use Rattle.rq_model.specs.History.{Group}
use Rattle.rq_model.specs.Content.{Said, said, kept, ending_by, deeds, content, has_end, has_commit, removed, added, shape}
use Rattle.rq_model.specs.Rules.{holds, any_use, uses_send, uses_receive, MayEnd, EndingMay, KeepsRules}
use Rattle.rq_model.proofs.Commits.{only, removed_both, shape_is, covered_log, around_itself}
use Rattle.rq_model.proofs.Lists.{same_is}
use Rattle.rq_model.proofs.Told.{not_yet}
use Rattle.rq_page.specs.Sizes.{Sizes}
use Rattle.rq_views.specs.Chain.{View}
use Rattle.rq_views.specs.Committed.{message_of}
use Rattle.rq_views.specs.Groups.{on_sending_end, on_receiving_end, side, with_all, committed, TellsView, MayTurn, KeepsGroups, DeedsTellViews}
use Rattle.rq_views.specs.Items.{items, layout_of, told_deed, ReadsItsDeeds, has_undone}
use Rattle.rq_views.specs.Legal.{IsLegalLog, Placed, Undoes, open_deeds, view}
use Rattle.rq_views.specs.Log.{Write}
use Rattle.rq_views.specs.Plans.{deed_sender}
use Rattle.rq_views.proofs.Committed.{say, takes_form}
use Rattle.rq_views.proofs.Content.{own_deeds, committed_is_content}
use Rattle.rq_views.proofs.Strangers.{has_end_same}
use Rattle.rq_views.proofs.Holders.{rest_alone}

-- a transaction that has ended has nothing open
pub ended : (z : Sizes) (t : Txn) (log : List Record) → IsLegalLog (layout_of z) (items z log) → has_end log t ≡ true
    → open_deeds t (items z log) ≡ []
ended z t [] k h = refl
ended z t (records.OpEnd u m level deed ∷ log) k h = elim (cases_Bool (same_txn u t)) [
  | inl own ↦ absurd (true≢false (sym h ∙ ap (has_end log) (sym (same_is u t own)) ∙ sym (has_end_same z u log) ∙ k.0.running))
  | inr other ↦ rw other (ended z t log k.1 h)
]
ended z t (records.CompEnd u m undone ∷ log) k h = elim (cases_Bool (same_txn u t)) [
  | inl own ↦ absurd (true≢false (sym h ∙ ap (has_end log) (sym (same_is u t own)) ∙ sym (has_end_same z u log) ∙ k.0.running))
  | inr other ↦ rw other (ended z t log k.1 h)
]
ended z t (records.Commit u ∷ log) k h = elim (cases_Bool (same_txn u t)) [
  | inl own ↦ rw own refl
  | inr other ↦ let rest : has_end log t ≡ true = rw other at h in rw other (ended z t log k.1 rest)
]
ended z t (records.AbortEnd u ∷ log) k h = elim (cases_Bool (same_txn u t)) [
  | inl own ↦ ap (λ (v : Txn). open_deeds v (items z log)) (sym (same_is u t own)) ∙ k.0.empty
  | inr other ↦ let rest : has_end log t ≡ true = rw other at h in ended z t log k.1 rest
]
ended z t (_ ∷ log) k h = ended z t log k.1 h

pub one_unused : (f : Said → Bool) (p : Deed → Bool) → ((d : Deed) → f (said d) ≡ p d)
    → (t u : Txn) (n : ℕ) (told : Option Deed) (d : Deed) (ps : List Placed) (ds : List Said) → told ≡ Some d
    → (any_use f ds ≡ false → side p ps ≡ [])
    → any_use f (kept (λ v. same_txn v t) (ending_by u told) ds) ≡ false
    → side p (cond (same_txn u t) (record { lsn = n; deed = told_deed told } ∷ ps) ps) ≡ []
one_unused f p same t u n told d ps ds e k h =
    elim (cases_Bool (same_txn u t)) [
      | inl y ↦ let s = or_parts (f (said d)) (any_use f ds) (rw (e, y) at h) in rw (e, y, sym (same d) ∙ s.0) (k s.1)
      | inr m ↦ rw m (k (rw (e, m) at h))
    ]

-- who never used an end has nothing open at it
pub unused : (f : Said → Bool) (p : Deed → Bool) → ((d : Deed) → f (said d) ≡ p d)
    → (z : Sizes) (t : Txn) (log : List Record) → ReadsItsDeeds log → any_use f (deeds (λ v. same_txn v t) log) ≡ false
    → side p (open_deeds t (items z log)) ≡ []
unused f p same z t [] g e = refl
unused f p same z t (records.OpEnd u k level bytes ∷ log) g e =
    one_unused f p same t u (length (items z log) + 1) (deed_by level bytes) g.0.0.0 (open_deeds t (items z log))
    (deeds (λ v. same_txn v t) log) g.0.0.1 (unused f p same z t log g.1) e
unused f p same z t (records.CompEnd u k undone ∷ log) g e = elim (cases_Bool (same_txn u t)) [
  | inl y ↦ rw y (rest_alone p (open_deeds t (items z log)) (unused f p same z t log g.1 e))
  | inr m ↦ rw m (unused f p same z t log g.1 e)
]
unused f p same z t (records.Commit u ∷ log) g e =
    elim (cases_Bool (same_txn u t)) [ inl y ↦ rw y refl | inr m ↦ rw m (unused f p same z t log g.1 e) ]
unused f p same z t (_ ∷ log) g e = unused f p same z t log g.1 e

pub sends_same : (s : ℕ) (d : Deed) → uses_send s (said d) ≡ on_sending_end s d
sends_same s (Append r n tag previous body) = refl
sends_same s (UnlinkHead r n tag body) = refl
sends_same s (Close r) = refl
sends_same s (Mark c tag previous) = refl

pub takes_same : (s : ℕ) (d : Deed) → uses_receive s (said d) ≡ on_receiving_end s d
takes_same s (Append r n tag previous body) = refl
takes_same s (UnlinkHead r n tag body) = refl
takes_same s (Close r) = refl
takes_same s (Mark c tag previous) = refl

-- where only t holds an end, nobody else has anything open there
alone : (f : Said → Bool) (p : Deed → Bool) → ((d : Deed) → f (said d) ≡ p d)
    → (z : Sizes) (log : List Record) (t : Txn) → IsLegalLog (layout_of z) (items z log) → ReadsItsDeeds log
    → ((u : Txn) → holds f log u ≡ true → u ≡ t)
    → (u : Txn) → u ≢ t → side p (open_deeds u (items z log)) ≡ []
alone f p same z log t legal reads only_t u n = elim (cases_Bool (has_end log u)) [
  | inl y ↦ ap (side p) (ended z u log legal y)
  | inr live ↦ elim (cases_Bool (any_use f (deeds (λ v. same_txn v u) log))) [
    | inl used ↦ absurd (n (only_t u (and_from (any_use f (deeds (λ v. same_txn v u) log)) (not (has_end log u)) used (ap not live))))
    | inr never ↦ unused f p same z u log reads never
  ]
]

-- where a group has more than was taken, a message is left for t
left : (z : Sizes) (log : List Record) (s : ℕ) (t : Txn) → KeepsRules log → ReadsItsDeeds log → has_end log t ≡ false
    → has_undone log t ≡ false
    → removed s (deeds (λ u. has_commit log u || same_txn u t) log) < length (added s (deeds (has_commit log) log))
    → 0 < length (with_all (side (on_receiving_end s) (open_deeds t (items z log))) (committed (items z log) s)).messages
left z log s t rules reads live forward more =
    let ps = open_deeds t (items z log) in
    let c = committed (items z log) s in
    let ds = deeds (has_commit log) log in
    let shown = committed_is_content z s log rules reads in
    let shaped : content log s ≡ shape s ds =
    shape_is s ds (covered_log s (has_commit log) log rules (around_itself log)) in
    let rest : length (content log s).rest ≡ length (added s ds) - removed s ds =
    ap (λ (x : Group). length x.rest) shaped ∙ length-drop (removed s ds) (added s ds) in
    let held : length (content log s).rest ≡ length c.messages =
    ap length shown.rest ∙ length-map c.messages (message_of s) in
    let both = removed_both s t (has_commit log) log (not_yet log t live) in
    let own : removed s (say ps) ≡ removed s (deeds (only t) log) =
    ap (removed s) (own_deeds z t log reads live forward) in
    let after : length (with_all (side (on_receiving_end s) ps) c).messages ≡ length c.messages - removed s (say ps) =
    ap (λ (x : View). length x.messages) (takes_form s ps c) ∙ length-drop (removed s (say ps)) c.messages in
    omega (arith, rest, held, both, own, after, more)

-- a deed of the sending end
sent_turn : (z : Sizes) (log : List Record) (t : Txn) (d : Deed) → IsLegalLog (layout_of z) (items z log) → ReadsItsDeeds log
    → ((s : ℕ) → MayEnd log s t (said d)) → TellsView d (view (items z log) (deed_sender d)) → (s : ℕ)
    → on_sending_end s d ≡ nat_eq (deed_sender d) s → on_receiving_end s d ≡ false → MayTurn (items z log) t d s
sent_turn z log t d legal reads may told s own nt = record {
  sends = λ y. (
    alone (uses_send s) (on_sending_end s) (sends_same s) z log t legal reads ((may s).alone_send (sends_same s d ∙ y)),
    subst (λ p. TellsView d (view (items z log) p)) (eqb-true (deed_sender d) s (sym own ∙ y)) told,
  );
  takes = λ y. absurd (false≢true (sym nt ∙ y));
}

turn : (z : Sizes) (log : List Record) (t : Txn) (d : Deed) → IsLegalLog (layout_of z) (items z log) → KeepsRules log
    → ReadsItsDeeds log → has_undone log t ≡ false → ((s : ℕ) → MayEnd log s t (said d))
    → TellsView d (view (items z log) (deed_sender d)) → (s : ℕ) → MayTurn (items z log) t d s
turn z log t (Append q n tag previous body) legal rules reads forward may told s =
    sent_turn z log t (Append q n tag previous body) legal reads may told s refl refl
turn z log t (UnlinkHead q n tag body) legal rules reads forward may told s = record {
  sends = λ y. absurd (false≢true y);
  takes = λ y. (
    alone (uses_receive s) (on_receiving_end s) (takes_same s) z log t legal reads ((may s).alone_receive y),
    subst (λ p. TellsView (UnlinkHead q n tag body) (view (items z log) p)) (eqb-true q s y) told,
    left z log s t rules reads (may s).not_ended forward ((may s).has_more y),
  );
}
turn z log t (Close q) legal rules reads forward may told s = sent_turn z log t (Close q) legal reads may told s refl refl
turn z log t (Mark c tag previous) legal rules reads forward may told s =
    sent_turn z log t (Mark c tag previous) legal reads may told s refl refl

-- an inverse takes something back
some_open : (z : Sizes) (ps : List Placed) (u : ℕ) (ws : List Write) → Undoes (layout_of z) ps u ws → ps ≢ []
some_open z [] u ws h e = h
some_open z (p ∷ ps) u ws h e = cc

-- an OpEnd whose deed can be read
end_turn : (z : Sizes) (log : List Record) (t : Txn) (told : Option Deed) (d : Deed) → told ≡ Some d → IsLegalLog (layout_of z) (items z log) → KeepsRules log → ReadsItsDeeds log → has_undone log t ≡ false
    → EndingMay log (ending_by t told)
    → TellsView (told_deed told) (view (items z log) (deed_sender (told_deed told))) → (s : ℕ)
    → MayTurn (items z log) t (told_deed told) s
end_turn z log t told d e legal rules reads forward may tells s =
    let here : (s : ℕ) → MayEnd log s t (said d) = rw e at may in
    let over : TellsView d (view (items z log) (deed_sender d)) = rw e at tells in
    rw e (turn z log t d legal rules reads forward here over s)

-- the rule of groups over views
pub rules_groups : (z : Sizes) (log : List Record) → IsLegalLog (layout_of z) (items z log) → KeepsRules log → ReadsItsDeeds log
    → DeedsTellViews (items z log) → KeepsGroups (items z log)
rules_groups z [] g k r h = tt
rules_groups z (records.PageOp t n page slot before after ∷ log) g k r h = (tt, rules_groups z log g.1 k.2 r.1 h.1)
rules_groups z (records.CompEnd t n u ∷ log) g k r h =
    (some_open z (open_deeds t (items z log)) u _ g.0.plan, rules_groups z log g.1 k.2 r.1 h.1)
rules_groups z (records.OpEnd t n level deed ∷ log) g k r h =
    (end_turn z log t (deed_by level deed) r.0.0.0 r.0.0.1 g.1 k.2 r.1 r.0.1 k.0 h.0, rules_groups z log g.1 k.2 r.1 h.1)
rules_groups z (_ ∷ log) g k r h = (tt, rules_groups z log g.1 k.2 r.1 h.1)
