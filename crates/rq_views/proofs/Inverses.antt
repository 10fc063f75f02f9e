-- Each operation's inverse leaves what the other end of the chain did meanwhile.
use Rattle.std.proofs.Common.{◌≡◌, ℕ, ◌<◌, List, [], ◌∷◌, ◌++◌, drop, Bool, true, false, refl, sym, ◌∙◌, ap, subst, arith}
use Rattle.std.proofs.lemmas.Bool.{false≢true, true≢false}
use Rattle.rq_model.specs.declared.record.Deed.TheVariants.{Append, UnlinkHead, Close, Mark}
use Rattle.rq_views.specs.Chain.{View, Taking, Sending, AreTaken, AreSent, view_appended, view_tail_unlinked, view_put_back, all_but_last}
use Rattle.rq_views.specs.Chain.Taking.{Took, PutBack}
use Rattle.rq_views.specs.Chain.Sending.{TailUnlinked}
use Rattle.rq_views.specs.Plans.{Turn, with_turn, view_head_unlinked}
use Rattle.rq_views.specs.Plans.Turn.{Did, Undid}
use Rattle.rq_views.specs.Inverses.{inverse, is_of_receiver, CanBeDone, InversesLeaveTheOthers}
use Rattle.rq_views.proofs.Chains.{append_taken, taken_once, send_law, take_law_from, all_but_last_append}

abbrev marked : Bool → View → View
marked b v = record v { closed = b }

-- the receiving end neither closes nor asks
mark_taken : (ops : List Taking) (v w : View) (b : Bool) → AreTaken ops v w → AreTaken ops (marked b v) (marked b w)
mark_taken [] v w b h = ap (marked b) h
mark_taken (Took t body ∷ ops) v w b h = (h.0, h.1, mark_taken ops _ w b h.2)
mark_taken (PutBack t body ∷ ops) v w b h = (h.0, mark_taken ops _ w b h.1)

taken_closed : (ops : List Taking) (v w : View) → AreTaken ops v w → w.closed ≡ v.closed
taken_closed [] v w h = ap (λ (u : View). u.closed) (sym h)
taken_closed (Took t body ∷ ops) v w h = taken_closed ops _ w h.2
taken_closed (PutBack t body ∷ ops) v w h = taken_closed ops _ w h.1

-- a mark is taken back
mark_back : (ops : List Taking) (v w u : View) (b c : Bool) → v.closed ≡ c → AreTaken ops v w
    → AreTaken ops (marked b v) u → marked c u ≡ w
mark_back ops v w u b c e alone done =
    ap (marked c) (taken_once ops (marked b v) u (marked b w) done (mark_taken ops v w b alone))
    ∙ ap (λ x. marked x w) (sym e ∙ sym (taken_closed ops v w alone))

-- a view of these parts
parts : (v : View) (tag : ℕ) (ms : List (ℕ × List ℕ)) → v.last_tag ≡ tag → v.messages ≡ ms
    → v ≡ record v { last_tag = tag; messages = ms }
parts v tag ms e f =
    ap (λ t. let y : View = record v { last_tag = t } in y) e
    ∙ ap (λ m. let y : View = record v { last_tag = tag; messages = m } in y) f

-- a message sent again
sent_again : (ops : List Taking) (v w u : View) (tag previous : ℕ) (body : List ℕ) (front : List (ℕ × List ℕ))
    → v.last_tag ≡ tag → v.messages ≡ front ++ (tag, body) ∷ [] → AreTaken ops v w
    → AreTaken ops (view_tail_unlinked v previous) u → view_appended u tag body ≡ w
sent_again ops v w u tag previous body front e f alone done =
    let v1 = view_tail_unlinked v previous in
    let cut : all_but_last v.messages ≡ front = ap all_but_last f ∙ all_but_last_append front (tag, body) in
    let is : v ≡ view_appended v1 tag body =
    parts v tag (v1.messages ++ (tag, body) ∷ []) e (f ∙ ap (λ l. l ++ (tag, body) ∷ []) (sym cut)) in
    taken_once ops (view_appended v1 tag body) (view_appended u tag body) w (append_taken ops v1 u tag body done)
    (subst (λ x. AreTaken ops x w) is alone)

-- a message taken
taken_law : (ops : List Sending) (v w u : View) (tag : ℕ) (body : List ℕ) (rest : List (ℕ × List ℕ))
    → v.messages ≡ (tag, body) ∷ rest → AreSent ops v w → AreSent ops (view_head_unlinked v) u
    → view_put_back u tag body ≡ w
taken_law ops v w u tag body rest e alone done =
    let back : v ≡ view_put_back (view_head_unlinked v) tag body =
    ap (λ m. let y : View = record v { messages = m } in y) (e ∙ ap (λ l. (tag, body) ∷ drop 1 l) (sym e))
    ∙ ap (λ r. let y : View = record v { received = r; messages = (tag, body) ∷ drop 1 v.messages } in y) (omega arith) in
    take_law_from ops (view_head_unlinked v) u v w tag body (omega arith) back done alone

-- the sending end receives nothing
sent_received : (ops : List Sending) (v w : View) → AreSent ops v w → w.received ≡ v.received
sent_received [] v w h = ap (λ (u : View). u.received) (sym h)
sent_received (TailUnlinked t ∷ ops) v w h = sent_received ops _ w h.3
sent_received (_ ∷ ops) v w h = sent_received ops _ w h

-- a message taken again
taken_again : (ops : List Sending) (v w u : View) (tag : ℕ) (body : List ℕ) → 0 < v.received → AreSent ops v w
    → AreSent ops (view_put_back v tag body) u → view_head_unlinked u ≡ w
taken_again ops v w u tag body some alone done =
    let is : view_put_back w tag body ≡ u =
    take_law_from ops v w (view_put_back v tag body) u tag body some refl alone done in
    let r = sent_received ops v w alone in
    ap view_head_unlinked (sym is) ∙ ap (λ n. let y : View = record w { received = n } in y) (omega (arith, r, some))

sending : (t : Turn) (ops : List Taking) (v w u : View) → is_of_receiver t ≡ false → CanBeDone t v → AreTaken ops v w
    → AreTaken ops (with_turn t v) u → with_turn (inverse t) u ≡ w
sending (Did (Append s n tag previous body)) ops v w u e can alone done =
    ap (view_tail_unlinked u) can.0 ∙ send_law ops v w u tag body alone done
sending (Did (UnlinkHead s n tag body)) ops v w u e can alone done = absurd (true≢false e)
sending (Did (Close s)) ops v w u e can alone done = mark_back ops v w u true false can alone done
sending (Did (Mark c tag previous)) ops v w u e can alone done =
    ap (view_tail_unlinked u) can.0 ∙ send_law ops v w u tag [] alone done
sending (Undid (Append s n tag previous body)) ops v w u e can alone done =
    sent_again ops v w u tag previous body can.1.0 can.0 can.1.1 alone done
sending (Undid (UnlinkHead s n tag body)) ops v w u e can alone done = absurd (true≢false e)
sending (Undid (Close s)) ops v w u e can alone done = mark_back ops v w u false true can alone done
sending (Undid (Mark c tag previous)) ops v w u e can alone done =
    sent_again ops v w u tag previous [] can.1.0 can.0 can.1.1 alone done

receiving : (t : Turn) (ops : List Sending) (v w u : View) → is_of_receiver t ≡ true → CanBeDone t v → AreSent ops v w
    → AreSent ops (with_turn t v) u → with_turn (inverse t) u ≡ w
receiving (Did (Append s n tag previous body)) ops v w u e can alone done = absurd (false≢true e)
receiving (Did (UnlinkHead s n tag body)) ops v w u e can alone done =
    taken_law ops v w u tag body can.0 can.1 alone done
receiving (Did (Close s)) ops v w u e can alone done = absurd (false≢true e)
receiving (Did (Mark c tag previous)) ops v w u e can alone done = absurd (false≢true e)
receiving (Undid (Append s n tag previous body)) ops v w u e can alone done = absurd (false≢true e)
receiving (Undid (UnlinkHead s n tag body)) ops v w u e can alone done = taken_again ops v w u tag body can alone done
receiving (Undid (Close s)) ops v w u e can alone done = absurd (false≢true e)
receiving (Undid (Mark c tag previous)) ops v w u e can alone done = absurd (false≢true e)

pub inverses_leave : InversesLeaveTheOthers
inverses_leave = record { sending = sending; receiving = receiving }
