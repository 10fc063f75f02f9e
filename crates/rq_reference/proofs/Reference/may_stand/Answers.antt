use Rattle.std.proofs.Common.{rules, List, [], ◌∷◌, ap, false, not, refl, subst, sym, true, ◌≡◌, ◌∙◌}
use Rattle.std.proofs.lemmas.Bool.{false≢true, not-true}
use Rattle.rq_model.specs.Vocabulary.{first, is_some}
use Rattle.rq_model.specs.Ledger.{Ledger, Open, Phase, runs}
use Rattle.rq_model.specs.Growth.{MayBeCutOff, MayStand}
use Rattle.rq_reference.specs.declared.rows.State.{State}
use Rattle.rq_reference.specs.declared.rows.State.TheVariants.{Running as Running_state, Shut as Shut_state, Stopped as Stopped_state}
use Rattle.rq_reference.specs.Plain.{Stand, growth_of, phase_of}
use Rattle.rq_reference.proofs.Reference.may_stand.Goals as goal

none_there : (os : List Open) → not (is_some (first os)) ≡ true → os ≡ []
none_there [] h = refl
none_there (o ∷ os) h = absurd (false≢true h)

-- one that does not run cuts off no checkpoint
still : (st : State) (l : Ledger) → l.phase ≡ phase_of st → runs (phase_of st) ≡ false → MayStand (growth_of st) l → ⊥
still Running_state l is stands may = cc stands
still (Stopped_state pages) l is stands may = may.cut_off
still Shut_state l is stands may = (let run = sym may.cut_off ∙ ap runs is in cc run)

cuts_off : (st : State) (p : Phase) → p ≡ phase_of st → runs (phase_of st) ≡ true → MayBeCutOff (growth_of st) p
cuts_off Running_state p is run = ap runs is
cuts_off (Stopped_state pages) p is run = cc run
cuts_off Shut_state p is run = cc run

pub returns-then-not-is_running : goal.returns-then-not-is_running
returns-then-not-is_running c = (
  λ e. cc e,
  λ may. absurd (let there = subst (λ (s : Stand). MayStand s.growth s.ledger) (sym c.self.view_is) may in still c.self.inside.state _ refl (sym c.is_running.ensures ∙ c.if-not-is_running.true) there),
)

pub returns-then-not-is_quiet : goal.returns-then-not-is_quiet
returns-then-not-is_quiet c = (
  λ e. cc e,
  λ may. (let quiet = c.is_quiet.ensures ∙ ap (λ os. not (is_some (first os))) may.none_open in search (rules, quiet)),
)

pub returns : goal.returns
returns c = (
  λ e. record {
    none_open = none_there c.args.self.now.ledger.open_ones (sym c.is_quiet.ensures ∙ c.if-not-is_quiet.false);
    room = sym c.is_log_full.ensures ∙ not-true c.is_log_full.result e;
    cut_off = subst (λ (s : Stand). MayBeCutOff s.growth s.ledger.phase) c.self.view_is (cuts_off c.self.inside.state (phase_of c.self.inside.state) refl (sym c.is_running.ensures ∙ c.if-not-is_running.false));
  },
  λ may. ap not (c.is_log_full.ensures ∙ may.room),
)
