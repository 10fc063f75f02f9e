-- For a legal log the slots show, of each sender over whose slots no operation under way has written, the fold of its deeds.
use Rattle.rq_page.specs.declared.cell.Cell.{Cell}
use Rattle.rq_page.specs.Directories.{new_directory}
use Rattle.rq_model.specs.declared.txn.Sub.{Sub}
use Rattle.std.proofs.Common.{◌≢◌, ℕ, ◌<◌, ◌==◌, inl, inr, List, [], ◌∷◌, true, false, refl, sym, subst, ◌∙◌, arith, Option, None, Some}
use Rattle.std.proofs.lemmas.Bool.{cases_eq, cond-true, cond-false, eq-eqb}
use Rattle.rq_views.specs.Chain.{View}
use Rattle.rq_views.specs.Log.{Slots, Write, applied, HasBefores, Places, Item, act, state_of, MayAct}
use Rattle.rq_model.specs.declared.record.Deed.TheVariants.{Append, UnlinkHead, Close, Mark}
use Rattle.rq_views.specs.Log.Item.{PageOp, PageUndo, OpEnd, OpVoid, CompEnd}
use Rattle.rq_views.specs.Plans.{ShowsAt, Spares, LinksTo, relinked, Turn, IsPlan, turn_sender, with_turn}
use Rattle.rq_views.specs.Plans.Turn.{Did, Undid}
use Rattle.rq_views.specs.Legal.{Placed, open_deeds, undoing, view_after, view, Undoes, MayFollow, IsLegalLog, IsLayout}
use Rattle.rq_views.proofs.Chains.{no_eq}
use Rattle.rq_views.proofs.Overlay.{Good, good_after, good_start}
use Rattle.rq_views.proofs.ChainLaws.{others, spared, shows_frame, append_law}
use Rattle.rq_views.proofs.Takes.{mark_law, head_law, tail_law, back_law}

-- an operation's writes over its own sender's view
pub own_law : (l : Places) (q : Slots) (ws : List Write) (t : Turn) (v : View) → IsPlan l t ws → HasBefores ws q → turn_sender t < l.senders → ShowsAt l q (turn_sender t) v → ShowsAt l (applied ws q) (turn_sender t) (with_turn t v)
own_law l q ws (Did (Append s n tag previous body)) v p f lt h = append_law l q ws s n tag previous body v p f h
own_law l q ws (Did (UnlinkHead s n tag body)) v p f lt h = head_law l q ws s n tag body v p f h
own_law l q ws (Did (Close s)) v p f lt h = mark_law l q ws s true v p f h
own_law l q ws (Did (Mark c tag previous)) v p f lt h = absurd (omega (arith, p.apart, lt))
own_law l q ws (Undid (Append s n tag previous body)) v p f lt h = tail_law l q ws s n previous v p f h
own_law l q ws (Undid (UnlinkHead s n tag body)) v p f lt h = back_law l q ws s n tag body v p f h
own_law l q ws (Undid (Close s)) v p f lt h = mark_law l q ws s false v p f h
own_law l q ws (Undid (Mark c tag previous)) v p f lt h = absurd (omega (arith, p.apart, lt))

relinked_spares : (s r at : ℕ) (o : Option Cell) (f : Cell → Cell) (ws : List Write) → r ≢ s → LinksTo r at o → Spares s ws → Spares s (relinked at o f ws)
relinked_spares s r at None f ws ne h k = k
relinked_spares s r at (Some c) f ws ne h k = (λ e. ne (sym h.1 ∙ e), k)

-- an operation's writes are over no slot of another sender
pub plan_spares : (l : Places) (s : ℕ) (t : Turn) (ws : List Write) → turn_sender t ≢ s → IsPlan l t ws → Spares s ws
plan_spares l s (Did (Append r n tag previous body)) ws ne p = subst (λ ws. Spares s ws) (sym p.writes) (ne, relinked_spares s r p.directory.tail p.old _ _ ne p.old_is (tt, tt))
plan_spares l s (Did (UnlinkHead r n tag body)) ws ne p = subst (λ ws. Spares s ws) (sym p.writes) (ne, relinked_spares s r p.cell.next p.next _ _ ne p.next_is (λ e. ne (sym p.sender ∙ e), tt))
plan_spares l s (Did (Close r)) ws ne p = subst (λ ws. Spares s ws) (sym p.writes) (ne, tt)
plan_spares l s (Did (Mark c tag previous)) ws ne p = subst (λ ws. Spares s ws) (sym p.writes) (tt, tt)
plan_spares l s (Undid (Append r n tag previous body)) ws ne p = subst (λ ws. Spares s ws) (sym p.writes) (ne, relinked_spares s r p.cell.prev p.front _ _ ne p.front_is (λ e. ne (sym p.sender ∙ e), tt))
plan_spares l s (Undid (UnlinkHead r n tag body)) ws ne p = subst (λ ws. Spares s ws) (sym p.writes) (ne, relinked_spares s r p.directory.head p.old _ _ ne p.old_is (tt, tt))
plan_spares l s (Undid (Close r)) ws ne p = subst (λ ws. Spares s ws) (sym p.writes) (ne, tt)
plan_spares l s (Undid (Mark c tag previous)) ws ne p = subst (λ ws. Spares s ws) (sym p.writes) (tt, tt)

-- one whole operation over the quiet slots
pub turn_law : (l : Places) (q : Slots) (ws : List Write) (t : Turn) (s : ℕ) (v : View) → IsPlan l t ws → HasBefores ws q → s < l.senders → ShowsAt l q s v → ShowsAt l (applied ws q) s (view_after s (Some t) v)
turn_law l q ws t s v p f lt h = elim (cases_eq (turn_sender t) s) [
  | inl e ↦ subst (λ u. ShowsAt l (applied ws q) s u) (sym (cond-true (turn_sender t == s) (with_turn t v) v (eq-eqb _ _ e)))
      (subst (λ r. ShowsAt l (applied ws q) r (with_turn t v)) e (own_law l q ws t v p f (subst (λ r. r < l.senders) (sym e) lt) (subst (λ r. ShowsAt l q r v) (sym e) h)))
  | inr ne ↦ subst (λ u. ShowsAt l (applied ws q) s u) (sym (cond-false (turn_sender t == s) (with_turn t v) v (no_eq _ _ ne)))
      (others l q ws s v (plan_spares l s t ws ne p) f h)
]

-- a legal record does what slots and pages allow
pub may_act : (l : Places) (log : List Item) (r : Item) → MayFollow l log r → MayAct l.page (state_of l log) (act r)
may_act l log (PageOp o w) may = may.write
may_act l log (PageUndo o u at after) may = may.newest
may_act l log (OpVoid o) may = may.all_undone
may_act l log _ may = tt

-- of a legal log, the slots are the quiet slots, written over by the operations under way on pages of their own
pub good : (l : Places) (log : List Item) → IsLegalLog l log → Good l.page (state_of l log)
good l [] h = good_start l.page l.formatted
good l (r ∷ log) h = good_after l.page (state_of l log) (good l log h.1) (act r) (may_act l log r h.0)

undone_law : (l : Places) (q : Slots) (ws : List Write) (ps : List Placed) (u s : ℕ) (v : View) → Undoes l ps u ws → HasBefores ws q → s < l.senders → ShowsAt l q s v → ShowsAt l (applied ws q) s (view_after s (undoing ps) v)
undone_law l q ws [] u s v p f lt h = absurd p
undone_law l q ws (p ∷ ps) u s v k f lt h = turn_law l q ws (Undid p.deed) s v k.1 f lt h

-- one record over the quiet slots
quiet_step : (l : Places) (log : List Item) (r : Item) (s : ℕ) → MayFollow l log r → Good l.page (state_of l log) → s < l.senders → ShowsAt l (state_of l log).quiet s (view log s) → ShowsAt l (state_of l (r ∷ log)).quiet s (view (r ∷ log) s)
quiet_step l log (OpEnd o d) s may g lt h = turn_law l (state_of l log).quiet ((state_of l log).writes o) (Did d) s (view log s) may.plan (g.fits o) lt h
quiet_step l log (CompEnd o u) s may g lt h = undone_law l (state_of l log).quiet ((state_of l log).writes o) (open_deeds o.txn log) u s (view log s) may.plan (g.fits o) lt h
quiet_step l log _ s may g lt h = h

-- the quiet slots show the fold of each sender's deeds, whatever is under way
pub quiet_views : (l : Places) (log : List Item) (s : ℕ) → IsLayout l → IsLegalLog l log → s < l.senders → ShowsAt l (state_of l log).quiet s (view log s)
quiet_views l [] s fine h in_range = record {
  directory = new_directory;
  at = fine s in_range;
  shows = record { nodes = []; linked = tt; head = refl; tail = refl; sent = refl; closed = refl; received = refl; last_tag = refl; messages = refl };
}
quiet_views l (r ∷ log) s fine h in_range = quiet_step l log r s h.0 (good l log h.1) in_range (quiet_views l log s fine h.1 in_range)

-- Views: where no operation under way has written over a slot of s
pub views : (l : Places) (log : List Item) (s : ℕ) → IsLayout l → IsLegalLog l log → s < l.senders → ((o : Sub) → Spares s ((state_of l log).writes o)) → ShowsAt l (state_of l log).slots s (view log s)
views l log s fine h in_range free =
    let z = state_of l log in
    let g = good l log h in
    shows_frame l z.quiet z.slots s (view log s) (λ a. elim (g.each a) [
      | inl k ↦ elim (spared s (z.writes k.0) z.quiet (free k.0) (g.fits k.0) a) [ inl e ↦ inl (k.2 ∙ e) | inr f ↦ inr f ]
      | inr k ↦ inl k.1
    ]) (quiet_views l log s fine h in_range)
