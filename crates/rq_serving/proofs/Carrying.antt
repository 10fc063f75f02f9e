-- How a session is carried on, call by call.
use Rattle.std.proofs.Common.{◌≡◌, ◌||◌, ℕ, Bool, true, false, not, List, [], ◌∷◌, ◌++◌, refl, sym, ap, ◌∙◌, subst, inl, inr}
use Rattle.std.proofs.lemmas.List.{append_assoc}
use Rattle.std.specs.Prelude.{Option, Some, None}
use Rattle.rq_engine.specs.Says.{call_of}
use Rattle.rq_engine.specs.declared.event.Event.{Event}
use Rattle.rq_shared.specs.declared.kept.Stamped.{Stamped}
use Rattle.rq_session.specs.declared.actions.Action.{Action}
use Rattle.rq_session.specs.declared.actions.Action.TheVariants.{Do, Again, Await, Answer, End}
use Rattle.rq_session.specs.declared.session.Session.{Session}
use Rattle.rq_session.specs.declared.stage.Stage.{Stage}
use Rattle.rq_session.specs.Rules.{after_reply}
use Rattle.rq_session.specs.Laws.{IsOwn, NamesOwn}
use Rattle.rq_session.specs.Stages.{own}
use Rattle.rq_session.proofs.EachTurn.{each_reply}
use Rattle.rq_serving.specs.Asking.{Asks, Says, said_no}
use Rattle.rq_serving.specs.Carried.{IsAsked, IsCome, IsCall, IsMade, IsTurn, Round, Turns, IsGoing, IsCarried, AreOwn, CallsAreOwn, has_stopped, is_again, may_call, said_in}
use Rattle.rq_serving.specs.declared.asking.Asking.{Asking}
use Rattle.rq_serving.specs.declared.serving.Served.{Served}
use Rattle.rq_serving.specs.declared.serving.Served.TheVariants as came

-- where one of three is no
first_no : (a b c d e : Bool) → (b || c) ≡ (d || e) → ((a || b) || c) ≡ ((a || d) || e)
first_no true b c d e same = refl
first_no false b c d e same = same

said_no_join : (xs ys : List (ℕ × Bool)) (b : Bool) → (said_no (xs ++ ys) || b) ≡ (said_no xs || (said_no ys || b))
said_no_join [] ys b = refl
said_no_join (x ∷ xs) ys b = first_no (not x.1) (said_no (xs ++ ys)) b (said_no xs) (said_no ys || b) (said_no_join xs ys b)

turn : (lost stopped : Bool) (m : Session) (a : Action) (r : Round) (next : Action) (after : Session) → IsMade stopped a r
    → next ≡ (after_reply m.lost m.stage r.stamp.reply).action → after.stage ≡ (after_reply m.lost m.stage r.stamp.reply).stage
    → m.lost ≡ lost → IsTurn lost stopped m.stage a r after.stage next
turn lost stopped m a r next after made does at is = record {
  call = made;
  stage = at ∙ ap (λ (l : Bool). (after_reply l m.stage r.stamp.reply).stage) is;
  action = does ∙ ap (λ (l : Bool). (after_reply l m.stage r.stamp.reply).action) is;
}

module _ {G S : Type 0} (answers_by : G → List (ℕ × Bool)) (made_by handed_to : S → List Stamped) where
  says_nothing : (g : Asking G) → Says answers_by g g []
  says_nothing g = record { answers = refl; stopped = refl }

  says_more : (g h k : Asking G) (older newer : List (ℕ × Bool)) → Says answers_by g h older → Says answers_by h k newer
      → Says answers_by g k (newer ++ older)
  says_more g h k older newer a b = record {
    answers = b.answers ∙ (ap (λ l. newer ++ l) a.answers ∙ sym (append_assoc newer older (answers_by g.gate)));
    stopped = b.stopped ∙ (ap (λ l. said_no newer || l) a.stopped ∙ sym (said_no_join newer older g.stopped));
  }

  begins : (g : Asking G) (s : S) (b : Session) (first : Action)
      → IsGoing answers_by made_by handed_to g g s s b first b first
  begins g s b first = record {
    rounds = [];
    made = refl;
    handed = refl;
    says = says_nothing g;
    lost = refl;
    turns = (refl, refl);
    goes_on = tt;
  }

  -- the session was carried on to what asks for this call, and the gate, asked where that is to be made again, lets it through
  pub record IsAsking (g i : Asking G) (old mid : S) (b : Session) (first : Action) (m : Session) (e : Event) : Type 0 where
    pub action : Action
    pub gate : Asking G
    pub going : IsGoing answers_by made_by handed_to g gate old mid b first m action
    pub asks : Asks answers_by gate i (is_again action) 4
    pub may : IsAsked action e × (may_call i.stopped e ≡ true)

  -- the session is the same
  stays : (g h : Asking G) (old mid : S) (b : Session) (first : Action) (m after : Session) (a : Action)
      → IsGoing answers_by made_by handed_to g h old mid b first m a → after ≡ m
      → IsGoing answers_by made_by handed_to g h old mid b first after a
  stays g h old mid b first m after a going is =
      subst (λ (s : Session). IsGoing answers_by made_by handed_to g h old mid b first s a) (sym is) going

  -- the round of a call, behind these rounds
  abbrev round : (a : Action) (s : Stamped) (asked_before : List (ℕ × Bool)) (asked_behind : List (ℕ × Bool)) → Round
  round a s asked_before asked_behind = record { before = asked_before; stamp = s; behind = asked_behind }

  is_made : (g h i k : Asking G) (old mid new : S) (b m after : Session) (first a next : Action) (e : Event)
      (going : IsGoing answers_by made_by handed_to g h old mid b first m a) (before : Asks answers_by h i (is_again a) 4)
      → IsAsked a e → may_call i.stopped e ≡ true → (c : IsCall answers_by made_by handed_to i k mid new e m next after)
      → IsMade (has_stopped going.rounds g.stopped) a (round a c.stamp before.said c.asks.said)
  is_made g h i k old mid new b m after first a next e going before is may c = record {
    asks = subst (IsAsked a) (sym c.event) is;
    before = before.at;
    may = subst (λ (x : Bool). may_call x c.stamp.event ≡ true)
        (before.says.stopped ∙ ap (λ x. said_no before.said || x) going.says.stopped)
        (subst (λ (x : Event). may_call i.stopped x ≡ true) (sym c.event) may);
    behind = c.asks.at;
  }

  -- what the gate said up to a call and behind it
  all_said : (g h i k : Asking G) (old mid new : S) (b m after : Session) (first a next : Action) (e : Event)
      (going : IsGoing answers_by made_by handed_to g h old mid b first m a) (before : Asks answers_by h i (is_again a) 4)
      (c : IsCall answers_by made_by handed_to i k mid new e m next after)
      → Says answers_by g k (c.asks.said ++ (before.said ++ said_in going.rounds))
  all_said g h i k old mid new b m after first a next e going before c =
      says_more g i k (before.said ++ said_in going.rounds) c.asks.said
      (says_more g h i (said_in going.rounds) before.said going.says before.says) c.asks.says

  -- one round more
  turns_on : (g h i k : Asking G) (old mid new : S) (b m_too after : Session) (first a next : Action) (e : Event)
      (going : IsGoing answers_by made_by handed_to g h old mid b first m_too a) (before : Asks answers_by h i (is_again a) 4)
      → IsAsked a e × (may_call i.stopped e ≡ true) → (c : IsCall answers_by made_by handed_to i k mid new e m_too next after)
      → Turns b.lost g.stopped b.stage first (round a c.stamp before.said c.asks.said ∷ going.rounds) after.stage next
  turns_on g h i k old mid new b m_too after first a next e going before may c = (
    m_too.stage,
    a,
    going.turns,
    turn b.lost (has_stopped going.rounds g.stopped) m_too a (round a c.stamp before.said c.asks.said) next after
        (is_made g h i k old mid new b m_too after first a next e going before may.0 may.1 c) c.next_is c.stage going.lost,
    going.goes_on,
  )

  one_more : (g h i k : Asking G) (old mid new : S) (b m m_too after : Session) (first a next : Action) (e : Event)
      → IsGoing answers_by made_by handed_to g h old mid b first m a → Asks answers_by h i (is_again a) 4
      → m_too ≡ m → IsAsked a e × (may_call i.stopped e ≡ true)
      → IsCall answers_by made_by handed_to i k mid new e m_too next after → is_again next ≡ false
      → IsGoing answers_by made_by handed_to g k old new b first after next
  one_more g h i k old mid new b m m_too after first a next e was before is may c goes =
      let going = stays g h old mid b first m m_too a was is in record {
        rounds = round a c.stamp before.said c.asks.said ∷ going.rounds;
        made = c.made ∙ ap (λ l. c.stamp ∷ l) going.made;
        handed = c.handed ∙ ap (λ l. c.stamp ∷ l) going.handed;
        says = all_said g h i k old mid new b m_too after first a next e going before c;
        lost = c.lost ∙ going.lost;
        turns = turns_on g h i k old mid new b m_too after first a next e going before may c;
        goes_on = goes;
      }

  comes : (g h i : Asking G) (old mid : S) (b m m_too : Session) (first next : Action) (held : Option Event) (c : Served)
      → IsGoing answers_by made_by handed_to g h old mid b first m next → Asks answers_by h i (is_again next) 4
      → m_too ≡ m → IsCome i.stopped next c → held ≡ None
      → IsCarried answers_by made_by handed_to g i old mid b first m_too held c
  comes g h i old mid b m m_too first next held c was last is come none =
      let going = stays g h old mid b first m m_too next was is in record {
        rounds = going.rounds;
        last = last.said;
        made = going.made;
        handed = going.handed;
        says = says_more g h i (said_in going.rounds) last.said going.says last.says;
        lost = going.lost;
        goes = inl (record {
          next = next;
          turns = going.turns;
          not_again = going.goes_on;
          asks = last.at;
          comes = come;
          none = none;
        });
      }

  holds : (g h i k : Asking G) (old mid new : S) (b m m_too after : Session) (first a : Action) (e again : Event)
      → IsGoing answers_by made_by handed_to g h old mid b first m a → Asks answers_by h i (is_again a) 4
      → m_too ≡ m → IsAsked a e × (may_call i.stopped e ≡ true)
      → IsCall answers_by made_by handed_to i k mid new e m_too (Again again) after
      → IsCarried answers_by made_by handed_to g k old new b first after (Some again) came.Held
  holds g h i k old mid new b m m_too after first a e again was before is may c =
      let going = stays g h old mid b first m m_too a was is in record {
        rounds = round a c.stamp before.said c.asks.said ∷ going.rounds;
        last = [];
        made = c.made ∙ ap (λ l. c.stamp ∷ l) going.made;
        handed = c.handed ∙ ap (λ l. c.stamp ∷ l) going.handed;
        says = all_said g h i k old mid new b m_too after first a (Again again) e going before c;
        lost = c.lost ∙ going.lost;
        goes = inr (
          refl,
          (again, turns_on g h i k old mid new b m_too after first a (Again again) e going before may c, refl, refl),
        );
      }

  -- what the session was to do first is this call
  pub asks_first : (g i : Asking G) (s : S) (b m : Session) (first : Action) (e : Event) → Asks answers_by g i (is_again first) 4
      → m ≡ b → IsAsked first e × (may_call i.stopped e ≡ true) → IsAsking g i s s b first m e
  asks_first g i s b m first e asks is may = record {
    action = first;
    gate = g;
    going = stays g g s s b first b m first (begins g s b first) is;
    asks = asks;
    may = may;
  }

  -- or none
  pub ends_first : (g i : Asking G) (s : S) (b m : Session) (first : Action) (held : Option Event) (c : Served)
      → Asks answers_by g i (is_again first) 4 → m ≡ b → IsCome i.stopped first c → held ≡ None
      → IsCarried answers_by made_by handed_to g i s s b first m held c
  ends_first g i s b m first held c asks is come none = comes g g i s s b b m first first held c (begins g s b first) asks is come none

  -- where nothing is to be made again, the gate is not asked
  asks_nothing : (g : Asking G) (b : Bool) → b ≡ false → Asks answers_by g g b 4
  asks_nothing g b is = subst (λ (x : Bool). Asks answers_by g g x 4) (sym is) (record { said = []; at = refl; says = says_nothing g })

  -- the call that was asked for is made: the session is carried on to what is to be done next
  called_on : (g i k : Asking G) (old mid new : S) (b m after : Session) (first next : Action) (e : Event)
      → IsAsking g i old mid b first m e → IsCall answers_by made_by handed_to i k mid new e m next after → is_again next ≡ false
      → IsGoing answers_by made_by handed_to g k old new b first after next
  called_on g i k old mid new b m after first next e asked c goes =
      one_more g asked.gate i k old mid new b m m after first asked.action next e asked.going asked.asks refl asked.may c goes

  -- that is another call, which may be made
  pub asks_on : (g i k : Asking G) (old mid new : S) (b m after : Session) (first : Action) (e further : Event)
      → IsAsking g i old mid b first m e → IsCall answers_by made_by handed_to i k mid new e m (Do further) after
      → may_call k.stopped further ≡ true → IsAsking g k old new b first after further
  asks_on g i k old mid new b m after first e further asked c may = record {
    action = Do further;
    gate = k;
    going = called_on g i k old mid new b m after first (Do further) e asked c refl;
    asks = asks_nothing k false refl;
    may = (refl, may);
  }

  -- or no call is made
  pub ends_on : (g i k : Asking G) (old mid new : S) (b m after : Session) (first next : Action) (e : Event) (held : Option Event) (c : Served)
      → IsAsking g i old mid b first m e → IsCall answers_by made_by handed_to i k mid new e m next after
      → is_again next ≡ false → IsCome k.stopped next c → held ≡ None
      → IsCarried answers_by made_by handed_to g k old new b first after held c
  ends_on g i k old mid new b m after first next e held c asked call goes come none =
      comes g k k old new b after after first next held c
      (called_on g i k old mid new b m after first next e asked call goes) (asks_nothing k (is_again next) goes) refl come none

  -- or it is to be made again
  pub holds_on : (g i k : Asking G) (old mid new : S) (b m after : Session) (first : Action) (e again : Event)
      → IsAsking g i old mid b first m e → IsCall answers_by made_by handed_to i k mid new e m (Again again) after
      → IsCarried answers_by made_by handed_to g k old new b first after (Some again) came.Held
  holds_on g i k old mid new b m after first e again asked c =
      holds g asked.gate i k old mid new b m m after first asked.action e again asked.going asked.asks refl asked.may c

-- a call that is asked for where the transaction is this one
its_own : (s : Stage) (a : Action) (e : Event) → NamesOwn s a → IsAsked a e → IsOwn (own s) (call_of e)
its_own s (Do event) e n i = subst (λ (x : Event). IsOwn (own s) (call_of x)) i n
its_own s (Again event) e n i = subst (λ (x : Event). IsOwn (own s) (call_of x)) i n
its_own s (Await commit) e n i = absurd i
its_own s (Answer answer) e n i = absurd i
its_own s End e n i = absurd i

named : (lost stopped : Bool) (from : Stage) (first : Action) (rounds : List Round) (to : Stage) (next : Action)
    → NamesOwn from first → Turns lost stopped from first rounds to next → NamesOwn to next
named lost stopped from first [] to next n t =
    subst (λ s. NamesOwn s next) (sym t.0) (subst (NamesOwn from) (sym t.1) n)
named lost stopped from first (r ∷ older) to next n t =
    subst (λ z. NamesOwn z next) (sym t.3.stage)
    (subst (NamesOwn (after_reply lost t.0 r.stamp.reply).stage) (sym t.3.action) (each_reply lost t.0 r.stamp.reply).own_call)

own_turns : (lost stopped : Bool) (from : Stage) (first : Action) (rounds : List Round) (to : Stage) (next : Action)
    → NamesOwn from first → (t : Turns lost stopped from first rounds to next) → AreOwn lost stopped from first rounds to next t
own_turns lost stopped from first [] to next n t = tt
own_turns lost stopped from first (r ∷ older) to next n t = (
  its_own t.0 t.1 r.stamp.event (named lost stopped from first older t.0 t.1 n t.2) t.3.call.asks,
  own_turns lost stopped from first older t.0 t.1 n t.2,
)

pub calls_are_own : CallsAreOwn
calls_are_own lost stopped from first rounds to next n t =
    (own_turns lost stopped from first rounds to next n t, named lost stopped from first rounds to next n t)
