use Rattle.std.proofs.Common.{◌≡◌, ◌+◌, ap, ◌∙◌, refl, arith}
use Rattle.rq_page.specs.Sizes.{client_count, sender_count}
use Rattle.rq_groups.specs.Sent.{SentBy, sent_count, sent_tag}
use Rattle.rq_store.specs.State.{State}
use Rattle.rq_engine.proofs.Calls.{client_told}
use Rattle.rq_engine.proofs.Opened.{state_is}
use Rattle.rq_engine.specs.Earlier.{on}
use Rattle.rq_engine.proofs.engine.Engine.client_tag.Goals as goal

pub returns-clause-answered : goal.returns-clause-answered
returns-clause-answered g c h earlier long k =
    let s = on earlier c.args.self.now.state in
    let z : c.layout-layout.result ≡ s.sizes = c.layout-layout.ensures.sizes ∙ ap (λ (x : State). x.sizes) (state_is c.self.view_is) in
    let n : c.clients.result ≡ client_count s.sizes = c.clients.ensures.number ∙ ap client_count z in
    let at : c.senders.result + c.args.client ≡ sender_count s.sizes + c.args.client = ap (λ n. n + c.args.client) (c.senders.ensures.number ∙ ap sender_count z) in
    let sent : c.self.inside.sent ≡ s.sent = ap (λ (x : State). x.sent) (state_is c.self.view_is) in
    let lt = c.if-client-clients.false in
    client_told s c.args.client _ _ c.in_ok-check_running.ensures.running (omega (arith, n, lt))
    (c.last_tag-last.ensures.sent ∙ ap (λ (x : SentBy). sent_count x (c.senders.result + c.args.client)) sent ∙ ap (sent_count s.sent) at)
    (c.last_tag-last.ensures.tag ∙ ap (λ (x : SentBy). sent_tag x (c.senders.result + c.args.client)) sent ∙ ap (sent_tag s.sent) at) k

pub returns-clause-lists : goal.returns-clause-lists
returns-clause-lists g c =
    let s = c.args.self.now.state in
    let z : c.layout-layout.result ≡ s.sizes = c.layout-layout.ensures.sizes ∙ ap (λ (x : State). x.sizes) (state_is c.self.view_is) in
    let n : c.clients.result ≡ client_count s.sizes = c.clients.ensures.number ∙ ap client_count z in
    let at : c.senders.result + c.args.client ≡ sender_count s.sizes + c.args.client = ap (λ n. n + c.args.client) (c.senders.ensures.number ∙ ap sender_count z) in
    let sent : c.self.inside.sent ≡ s.sent = ap (λ (x : State). x.sent) (state_is c.self.view_is) in
    let lt = c.if-client-clients.false in
    record {
      of_the_store = omega (arith, n, lt);
      count = c.last_tag-last.ensures.sent ∙ ap (λ (x : SentBy). sent_count x (c.senders.result + c.args.client)) sent ∙ ap (sent_count s.sent) at;
      tag = c.last_tag-last.ensures.tag ∙ ap (λ (x : SentBy). sent_tag x (c.senders.result + c.args.client)) sent ∙ ap (sent_tag s.sent) at;
      lists = refl;
    }
