use Rattle.std.proofs.Common.{rules, ◌≡◌, ◌<◌, ◌++◌, length, [], ◌∷◌, Some, None, ap, sym, subst, ◌∙◌, arith}
use Rattle.std.proofs.lemmas.List.{length-append}
use Rattle.rq_page.specs.Sizes.{IsLink, Sizes, sender_count}
use Rattle.rq_pool.proofs.Fetched.{read_then}
use Rattle.rq_content.specs.Read.{cells_in, damaged_for, met, message_in, IsShort}
use Rattle.rq_content.proofs.Stops.{over_read, stopped_then}
use Rattle.rq_content.proofs.Walks.{walk_step, walk_short}
use Rattle.rq_content.proofs.chain.add_chain.Goals as goal

pub read_link-requires-clause-sender : goal.read_link-requires-clause-sender
read_link-requires-clause-sender g c = subst (λ (z : Sizes). c.args.sender < sender_count z) (sym (c.loop.invariant.read.kept 0).sizes) c.requires.sender

pub read_link-requires-clause-link : goal.read_link-requires-clause-link
read_link-requires-clause-link g c = subst (λ (z : Sizes). IsLink z c.loop.at) (sym (c.loop.invariant.read.kept 0).sizes) c.loop.invariant.link

pub returns-in-Err-clause-refused : goal.returns-in-Err-clause-refused
returns-in-Err-clause-refused g c =
    let m = cells_in c.args.pages.now.sizes c.args.pages.now.images in
    stopped_then g.P.PageDevice (λ r. (r ≡ damaged_for c.args.sender) × (cells_in c.loop.pages.sizes c.loop.pages.images c.loop.at ≡ None)) (IsShort m c.args.sender c.args.head c.args.count) c.in-Err.refusal c.args.pages.now c.loop.pages c.read_link.new.pages c.loop.invariant.read c.loop.invariant.counted (λ h r stops.
    let before = c.read_link.ensures.read.device.honest h in
    let none = over_read g.P.PageDevice (λ z images. cells_in z images c.loop.at ≡ None) c.args.pages.now c.loop.pages c.loop.invariant.read before stops.1 in
    (stops.0, walk_short m c.args.sender c.loop.at c.args.head c.loop.counter c.args.count c.loop.rest.items c.args.rest.now.items none (omega arith) (c.loop.invariant.all before) c.loop.invariant.many)) c.in-Err.ensures.refused

pub returns-in-Err-clause-read : goal.returns-in-Err-clause-read
returns-in-Err-clause-read g c = read_then g.P.PageDevice c.args.pages.now c.loop.pages c.read_link.new.pages c.loop.invariant.read c.read_link.ensures.read

pub returns-then-is_err-clause-read : goal.returns-then-is_err-clause-read
returns-then-is_err-clause-read g c = read_then g.P.PageDevice c.args.pages.now c.loop.pages c.read_link.new.pages c.loop.invariant.read c.read_link.ensures.read

pub loop-preserved : goal.loop-preserved
loop-preserved g c =
    let m = cells_in c.args.pages.now.sizes c.args.pages.now.images in
    let more : c.push.new.self.items ≡ c.loop.rest.items ++ message_in c.args.sender c.in-Ok.cell ∷ [] = search rules in
    record {
      all = λ h.
          let before = c.read_link.ensures.read.device.honest h in
          let some = over_read g.P.PageDevice (λ z images. cells_in z images c.loop.at ≡ Some c.in-Ok.cell) c.args.pages.now c.loop.pages c.loop.invariant.read before (c.in-Ok.ensures.cell h) in
          walk_step m c.args.sender c.loop.at c.loop.counter c.args.count c.in-Ok.cell c.loop.rest.items c.push.new.self.items (c.args.rest.now.items ++ met m c.args.sender c.args.head c.args.count) some (omega arith) (c.loop.invariant.all before) more;
      link = subst (λ (z : Sizes). IsLink z c.in-Ok.cell.next) (c.loop.invariant.read.kept 0).sizes c.in-Ok.ensures.next;
      many = ap length more ∙ length-append c.loop.rest.items (message_in c.args.sender c.in-Ok.cell ∷ []) ∙ (let many = c.loop.invariant.many in omega (arith, many));
      counted = c.in-Ok.ensures.counted ∙ c.loop.invariant.counted;
      read = read_then g.P.PageDevice c.args.pages.now c.loop.pages c.read_link.new.pages c.loop.invariant.read c.read_link.ensures.read;
    }
