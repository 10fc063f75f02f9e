use Rattle.std.proofs.Common.{rules, ◌≡◌, ◌<◌, ◌++◌, [], ◌∷◌, ◌∙◌, subst, sym}
use Rattle.rq_page.specs.Sizes.{Sizes, sender_count}
use Rattle.rq_pool.proofs.Fetched.{read_then}
use Rattle.rq_content.specs.Read.{group_of, read_group, IsBroken}
use Rattle.rq_content.proofs.OneRead.{groups_more}
use Rattle.rq_content.proofs.Stops.{over_read, stopped_then}
use Rattle.rq_content.proofs.read_groups.Goals as goal

pub group_content-requires : goal.group_content-requires
group_content-requires g c =
    let low : c.loop-sender.sender < sender_count c.args.pages.now.sizes = search rules in
    subst (λ (z : Sizes). c.loop-sender.sender < sender_count z) (sym (c.loop-sender.invariant.read.kept 0).sizes) low

pub returns-in-Err-clause-refused : goal.returns-in-Err-clause-refused
returns-in-Err-clause-refused g c =
    stopped_then g.P.PageDevice _ _ c.in-Err.refusal c.args.pages.now c.loop-sender.pages c.group_content.new.pages c.loop-sender.invariant.read c.loop-sender.invariant.counted
    (λ h r broken. over_read g.P.PageDevice (λ z images. IsBroken z images c.args.transactions.now r) c.args.pages.now c.loop-sender.pages c.loop-sender.invariant.read (c.group_content.ensures.read.device.honest h) broken)
    c.in-Err.ensures.refused

pub returns-in-Err-clause-read : goal.returns-in-Err-clause-read
returns-in-Err-clause-read g c = read_then g.P.PageDevice c.args.pages.now c.loop-sender.pages c.group_content.new.pages c.loop-sender.invariant.read c.group_content.ensures.read

pub returns-then-is_err-clause-read : goal.returns-then-is_err-clause-read
returns-then-is_err-clause-read g c = read_then g.P.PageDevice c.args.pages.now c.loop-sender.pages c.group_content.new.pages c.loop-sender.invariant.read c.group_content.ensures.read

pub loop-sender-preserved : goal.loop-sender-preserved
loop-sender-preserved g c =
    let f = read_group c.args.pages.now.sizes c.args.pages.now.images c.args.transactions.now in
    let pushed : c.push.new.self.items ≡ c.loop-sender.groups.items ++ c.in-Ok-group_content.group ∷ [] = search rules in
    record {
      groups = λ h.
          let before = c.group_content.ensures.read.device.honest h in
          let one = over_read g.P.PageDevice (λ z images. group_of c.in-Ok-group_content.group ≡ read_group z images c.args.transactions.now c.loop-sender.sender) c.args.pages.now c.loop-sender.pages c.loop-sender.invariant.read before (c.in-Ok-group_content.ensures.group h) in
          groups_more f c.loop-sender.sender c.loop-sender.groups.items c.push.new.self.items c.in-Ok-group_content.group (c.loop-sender.invariant.groups before) pushed one;
      counted = c.in-Ok-group_content.ensures.counted ∙ c.loop-sender.invariant.counted;
      read = read_then g.P.PageDevice c.args.pages.now c.loop-sender.pages c.group_content.new.pages c.loop-sender.invariant.read c.group_content.ensures.read;
    }
