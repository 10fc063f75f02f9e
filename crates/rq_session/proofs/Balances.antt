-- Each request has one answer, over a whole session.
use Rattle.std.proofs.Common.{◌≡◌, ◌⊎◌, ℕ, ◌+◌, ◌≤◌, Bool, true, false, List, [], ◌∷◌, refl, sym, ◌∙◌, ap, inl, inr, arith}
use Rattle.rq_wire.specs.declared.request.Request.{Request}
use Rattle.rq_engine.specs.declared.event.Reply.{Reply}
use Rattle.rq_session.specs.declared.stage.Stage.{Stage}
use Rattle.rq_session.specs.declared.stage.Stage.TheVariants as stages
use Rattle.rq_session.specs.declared.stage.OwnTxn.{OwnTxn}
use Rattle.rq_session.specs.declared.stage.Next.{Next}
use Rattle.rq_session.specs.Rules.{ended, taken, after_request, after_reply, after_loss}
use Rattle.rq_session.specs.Laws.{Handed, asked, heard, gone, Balanced, IsAborting, owed, given, given_first, takes, standing}
use Rattle.rq_session.proofs.EachTurn.{each_reply, each_request, each_loss, lost_answers_nothing}

-- what is so of a standing: each request but the one under way is answered; or the connection is lost and the
-- transaction is being
-- aborted; or the session has ended
data Keeps (s : Stage) (lost : Bool) (requests answers : ℕ) : Type 0 where
  even : answers + owed s ≡ requests → Keeps s lost requests answers
  silent : lost ≡ true → IsAborting s → answers ≤ requests → Keeps s lost requests answers
  over : s ≡ stages.Ended → answers ≤ requests → Keeps s lost requests answers

most : (s : Stage) (lost : Bool) (r a : ℕ) → Keeps s lost r a → a ≤ r
most s lost r a (even e) = omega (arith, e)
most s lost r a (silent l is m) = m
most s lost r a (over e m) = m

same : (s : Stage) (lost : Bool) (r a : ℕ) → Keeps s lost r a → Keeps s lost (r + 0) (a + 0)
same s lost r a (even e) = even (omega (arith, e))
same s lost r a (silent l is m) = silent l is (omega (arith, m))
same s lost r a (over e m) = over e (omega (arith, m))

at_rest : (h : OwnTxn) (lost : Bool) (r a : ℕ) (request : Request) → Keeps (stages.Rest h) lost r a
    → Keeps (after_request h request).stage lost (r + 1) (a + given_first (after_request h request).answer)
at_rest h lost r a request (even e) = let once = (each_request h request).once in even (omega (arith, e, once))
at_rest h lost r a request (silent l is m) = absurd is
at_rest h lost r a request (over e m) = absurd cc

keeps_asked : (s : Stage) (lost : Bool) (r a : ℕ) (request : Request) → Keeps s lost r a
    → Keeps (taken s request).stage lost (r + takes s) (a + given_first (taken s request).answer)
keeps_asked (stages.Rest h) lost r a request k = at_rest h lost r a request k
keeps_asked s lost r a request k = same s lost r a k

keeps_ended : (n : Next) (lost : Bool) (r a : ℕ) → n ≡ ended → a ≤ r → Keeps n.stage lost r (a + given n.action)
keeps_ended n lost r a e m =
    let none : given n.action ≡ 0 = ap (λ (x : Next). given x.action) e in
    over (ap (λ (x : Next). x.stage) e) (omega (arith, none, m))

keeps_silent : (s : Stage) (lost : Bool) (r a : ℕ) (what : Reply) → lost ≡ true → IsAborting s → a ≤ r
    → Keeps (after_reply lost s what).stage lost r (a + given (after_reply lost s what).action)
keeps_silent s true r a what l is m =
    let quiet = lost_answers_nothing s what is in
    silent refl quiet.0 (omega (arith, quiet.1, m))
keeps_silent s false r a what l is m = absurd cc

keeps_heard : (s : Stage) (lost : Bool) (r a : ℕ) (what : Reply) → Keeps s lost r a
    → Keeps (after_reply lost s what).stage lost r (a + given (after_reply lost s what).action)
keeps_heard s lost r a what (even e) =
    elim (each_reply lost s what).once [
      | inl is ↦ keeps_ended (after_reply lost s what) lost r a is (omega (arith, e))
      | inr one ↦ even (omega (arith, e, one))
    ]
keeps_heard s lost r a what (silent l is m) = keeps_silent s lost r a what l is m
keeps_heard s lost r a what (over e m) = keeps_ended (after_reply lost s what) lost r a (ap (λ (t : Stage). after_reply
    lost t what) e) m

keeps_gone : (s : Stage) (lost : Bool) (r a : ℕ) → Keeps s lost r a
    → Keeps (after_loss s).stage true r (a + given (after_loss s).action)
keeps_gone s lost r a k =
    let loss = each_loss s in
    let m = most s lost r a k in
    silent refl loss.aborts (omega (arith, loss.silent, m))

keeps : (history : List Handed) → Keeps (standing history).stage (standing history).lost (standing history).requests
    (standing history).answers
keeps [] = even refl
keeps (asked request ∷ older) = let st = standing older in keeps_asked st.stage st.lost st.requests st.answers
    request (keeps older)
keeps (heard what ∷ older) = let st = standing older in keeps_heard st.stage st.lost st.requests st.answers what
    (keeps older)
keeps (gone ∷ older) = let st = standing older in keeps_gone st.stage st.lost st.requests st.answers (keeps older)

balanced : (s : Stage) (lost : Bool) (r a : ℕ) → Keeps s lost r a → (a ≤ r) × (lost ≡ false
    → (s ≡ stages.Ended) ⊎ (a + owed s ≡ r))
balanced s lost r a (even e) = (omega (arith, e), λ f. inr e)
balanced s lost r a (silent l is m) = (m, λ f. absurd (let bad : true ≡ false = sym l ∙ f in cc))
balanced s lost r a (over e m) = (m, λ f. inl e)

pub one_answer_each : (history : List Handed) → Balanced (standing history)
one_answer_each history = let st = standing history in balanced st.stage st.lost st.requests st.answers (keeps history)
