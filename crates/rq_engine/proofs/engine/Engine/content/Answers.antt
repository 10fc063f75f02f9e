use Rattle.std.proofs.Common.{List, length, rules, map, refl, sym, ap, subst, ◌∙◌}
use Rattle.rq_content.specs.Read.{group_of}
use Rattle.rq_txn.specs.Rows.{any_under}
use Rattle.rq_model.specs.History.Call.{Show}
use Rattle.rq_pool.specs.Held.{Held}
use Rattle.rq_model.specs.Replay.Reply.{Gave_content, Gave_refusal}
use Rattle.rq_sound.specs.ModelSteps.{IsModelStep}
use Rattle.rq_store.specs.State.{State}
use Rattle.rq_engine.proofs.Calls.{content_done, content_busy, content_refused}
use Rattle.rq_planner.proofs.Readings.{knows_read}
use Rattle.rq_engine.proofs.Keeping.{kept_read}
use Rattle.rq_engine.proofs.KeptUp.{content_counts, content_leaves, pages_stay}
use Rattle.rq_engine.proofs.Tested.{show_busy, show_failed}
use Rattle.rq_engine.specs.Tested.{tested}
use Rattle.rq_engine.proofs.Opened.{state_is}
use Rattle.rq_engine.specs.Answers.{IsCausedIn}
use Rattle.rq_engine.specs.Earlier.{on}
use Rattle.rq_engine.specs.Opened.{OpenStore}
use Rattle.rq_engine.proofs.engine.Engine.content.Goals as goal
use Rattle.rq_engine.proofs.engine.Engine.content.Goals.{in-Ok, in-Err}

pub returns-then-any_under_way-clause-answered : goal.returns-then-any_under_way-clause-answered
returns-then-any_under_way-clause-answered g c h earlier long = content_busy (on earlier c.args.self.now.state) c.in_ok-check_running.ensures.running (ap (λ (s : State). any_under s.rows) (sym (state_is c.self.view_is)) ∙ sym c.if-any_under_way.ensures)

-- pages were perhaps read
pub invariant_of-self : goal.invariant_of-self
invariant_of-self g c =
    let read = c.content.ensures.read in
    record {
      kept = rw ((read.kept 0).sizes) (kept_read c.content.new.pages.images c.self.invariant.kept);
      durable = c.self.invariant.durable;
      cells = knows_read g.P.PageDevice c.self.inside.pages c.content.new.pages c.self.inside.planner read c.self.invariant.cells;
      frames_are = rw (read.frames) c.self.invariant.frames_are;
    }

pub returns-clause-answered : goal.returns-clause-answered
returns-clause-answered g c = elim c.match-content.branch [
  | in-Ok w ↦ rw (w.result-is) (λ h earlier long k.
      let idle = ap (λ (s : State). any_under s.rows) (sym (state_is c.self.view_is)) ∙ sym c.if-any_under_way.ensures in
      let s = on earlier c.args.self.now.state in
      let kept = c.content.ensures.read.kept 0 in
      let shown = w.in-Ok.ensures.shown h.0 s k (ap (λ (s : State). s.sizes) (sym (state_is c.self.view_is))) (ap (λ (s : State). s.images) (sym (state_is c.self.view_is))) (ap (λ (s : State). s.rows) (sym (state_is c.self.view_is))) idle in
      rw (kept.sizes, kept.images h.0) (subst (λ (t : State). IsModelStep s Show (Gave_content (map group_of w.in-Ok.groups.items)) (on earlier t)) (sym (state_is c.self.view_is)) (content_done s _ c.in_ok-check_running.ensures.running idle shown k)))
  | in-Err w ↦ rw (w.result-is) (λ h earlier long k.
      let idle = ap (λ (s : State). any_under s.rows) (sym (state_is c.self.view_is)) ∙ sym c.if-any_under_way.ensures in
      let s = on earlier c.args.self.now.state in
      let kept = c.content.ensures.read.kept 0 in
      let none = w.in-Err.ensures.sound h.0 s k (ap (λ (s : State). s.sizes) (sym (state_is c.self.view_is))) (ap (λ (s : State). s.images) (sym (state_is c.self.view_is))) (ap (λ (s : State). s.rows) (sym (state_is c.self.view_is))) idle in
      rw (kept.sizes, kept.images h.0) (subst (λ (t : State). IsModelStep s Show (Gave_refusal w.in-Err.refusal) (on earlier t) × IsCausedIn s Show w.in-Err.refusal) (sym (state_is c.self.view_is)) (content_refused s c.in_ok-check_running.ensures.running idle w.in-Err.refusal none k)))
]

pub returns-clause-refused : goal.returns-clause-refused
returns-clause-refused g c =
    let idle = ap (λ (s : State). any_under s.rows) (sym (state_is c.self.view_is)) ∙ sym c.if-any_under_way.ensures in
    elim c.match-content.branch [
      | in-Ok w ↦ rw (w.result-is) tt
      | in-Err w ↦ rw (w.result-is) (content_leaves g.P.PageDevice _ (tested c.args.self.now.state Show) (c.in_ok-check_running.ensures.running, (idle, tt)) _ c.args.self.now _ c.self.view_is w.in-Err.refusal refl c.content.ensures.read w.in-Err.ensures.refused)
    ]

pub returns-clause-faults : goal.returns-clause-faults
returns-clause-faults g c = elim c.match-content.branch [
  | in-Ok w ↦ rw (w.result-is) (w.in-Ok.ensures.counted ∙ ap (λ (o : OpenStore _ _). g.P.PageDevice.faults o.pages) c.self.view_is)
  | in-Err w ↦ rw (w.result-is) (content_counts g.P.PageDevice _ _ c.args.self.now _ c.self.view_is w.in-Err.refusal w.in-Err.ensures.refused)
]

pub returns-in_err-check_running-clause-refused : goal.returns-in_err-check_running-clause-refused
returns-in_err-check_running-clause-refused g c =
    let left = show_failed c.args.self.now _ c.in_err-check_running.ensures.failed.0 c.in_err-check_running.ensures.failed.1 in
    search (rules, left)

pub returns-then-any_under_way-clause-refused : goal.returns-then-any_under_way-clause-refused
returns-then-any_under_way-clause-refused g c = show_busy c.args.self.now c.in_ok-check_running.ensures.running (ap (λ (s : State). any_under s.rows) (sym (state_is c.self.view_is)) ∙ sym c.if-any_under_way.ensures)

pub returns-clause-lists : goal.returns-clause-lists
returns-clause-lists g c honest =
    let kept = c.content.ensures.read.kept 0 in
    elim c.match-content.branch [
      | in-Ok w ↦ rw (w.result-is, kept.sizes, kept.images honest) (state_is c.self.view_is)
      | in-Err w ↦ rw (w.result-is) tt
    ]

pub returns-clause-shown : goal.returns-clause-shown
returns-clause-shown g c =
    let kept = c.content.ensures.read.kept 0 in
    elim c.match-content.branch [
      | in-Ok w ↦ rw (w.result-is, kept.sizes) (ap (λ (s : State). record s { images = c.content.new.pages.images }) (state_is c.self.view_is))
      | in-Err w ↦ rw (w.result-is) tt
    ]

pub returns-clause-pages : goal.returns-clause-pages
returns-clause-pages g c = rw (← c.self.view_is) (c.content.ensures.read.kept _, c.content.ensures.read.device, λ all. pages_stay c.self.inside.pages c.content.new.pages (c.content.ensures.read.stood all))

pub returns-clause-count : goal.returns-clause-count
returns-clause-count g c = rw (← c.self.view_is) (ap (λ (l : List Held). length l) c.content.ensures.read.frames)
