use Rattle.std.proofs.Common.{◌≡◌, ap, ◌∙◌, refl, arith}
use Rattle.rq_page.specs.Sizes.{sender_count}
use Rattle.rq_groups.specs.Sent.{sent_count, sent_tag}
use Rattle.rq_store.specs.State.{State}
use Rattle.rq_engine.proofs.Calls.{tag_told}
use Rattle.rq_engine.proofs.Opened.{state_is}
use Rattle.rq_engine.specs.Earlier.{on}
use Rattle.rq_engine.proofs.engine.Engine.last_tag.Goals as goal

pub returns-clause-answered : goal.returns-clause-answered
returns-clause-answered g c h earlier long k =
    let s = on earlier c.args.self.now.state in
    let n : c.senders.result ≡ sender_count s.sizes = c.senders.ensures.number ∙ ap sender_count (c.layout.ensures.sizes ∙ ap (λ (x : State). x.sizes) (state_is c.self.view_is)) in
    let lt = c.if-sender-senders.false in
    tag_told s c.args.sender _ _ c.in_ok-check_running.ensures.running (omega (arith, n, lt)) (c.last_tag.ensures.sent ∙ ap (λ (x : State). sent_count x.sent c.args.sender) (state_is c.self.view_is))
    (c.last_tag.ensures.tag ∙ ap (λ (x : State). sent_tag x.sent c.args.sender) (state_is c.self.view_is)) k

pub returns-clause-lists : goal.returns-clause-lists
returns-clause-lists g c =
    let s = c.args.self.now.state in
    let n : c.senders.result ≡ sender_count s.sizes = c.senders.ensures.number ∙ ap sender_count (c.layout.ensures.sizes ∙ ap (λ (x : State). x.sizes) (state_is c.self.view_is)) in
    let lt = c.if-sender-senders.false in
    record {
      of_the_store = omega (arith, n, lt);
      sent = c.last_tag.ensures.sent ∙ ap (λ (x : State). sent_count x.sent c.args.sender) (state_is c.self.view_is);
      tag = c.last_tag.ensures.tag ∙ ap (λ (x : State). sent_tag x.sent c.args.sender) (state_is c.self.view_is);
      lists = refl;
    }
