use Rattle.std.proofs.Common.{rules, ◌≡◌, ◌-◌, ◌++◌, length, reverse, ◌∙◌}
use Rattle.std.proofs.lemmas.List.{reverse-reverse}
use Rattle.rq_content.specs.Read.{Before, before_of, or_else, met, cells_in, IsBroken, IsShort, without_oldest}
use Rattle.rq_content.proofs.OneRead.{Has, broken_is, has_read, or_else_is, shown_is}
use Rattle.rq_content.proofs.Stops.{stops_as}
use Rattle.rq_content.proofs.chain_content.Goals as goal

pub returns-in-Ok-clause-group : goal.returns-in-Ok-clause-group
returns-in-Ok-clause-group g c h =
    let z = c.args.pages.now.sizes in
    let images = c.args.pages.now.images in
    let rows = c.args.transactions.now in
    let s = c.args.sender in
    let d = c.args.directory.now in
    let b : Before = before_of c.leave_out_rows.new.self in
    let left : b ≡ without_oldest s (reverse rows) (before_of c.of-earlier.result) = search rules in
    let has : Has z images rows s d b = has_read z images (reverse rows) rows s d (before_of c.of-earlier.result) b c.requires.held c.of-earlier.ensures (reverse-reverse rows) left in
    let tag : c.unwrap_or.result ≡ or_else b.previous d.last_tag = c.unwrap_or.ensures ∙ or_else_is c.leave_out_rows.new.self.previous d.last_tag in
    let received : c.saturating_sub-received.result ≡ d.received - length b.taken = search rules in
    let count : c.saturating_sub-count.result ≡ b.sent - d.received = search rules in
    let rest : c.add_chain.new.rest.items ≡ b.taken ++ met (cells_in z images) s d.head c.saturating_sub-count.result = c.in-Ok.ensures.met h in
    shown_is z images rows s d b c.unwrap_or.result c.saturating_sub-received.result c.saturating_sub-count.result c.add_chain.new.rest.items has tag received count rest

pub returns-in-Err-clause-refused : goal.returns-in-Err-clause-refused
returns-in-Err-clause-refused g c =
    let z = c.args.pages.now.sizes in
    let images = c.args.pages.now.images in
    let rows = c.args.transactions.now in
    let s = c.args.sender in
    let d = c.args.directory.now in
    let b : Before = before_of c.leave_out_rows.new.self in
    let left : b ≡ without_oldest s (reverse rows) (before_of c.of-earlier.result) = search rules in
    let has : Has z images rows s d b = has_read z images (reverse rows) rows s d (before_of c.of-earlier.result) b c.requires.held c.of-earlier.ensures (reverse-reverse rows) left in
    let count : c.saturating_sub-count.result ≡ b.sent - d.received = search rules in
    stops_as g.P.PageDevice (IsShort (cells_in z images) s d.head c.saturating_sub-count.result) (IsBroken z images rows) c.in-Err.refusal c.args.pages.now c.add_chain.new.pages
    (λ h r short. broken_is z images rows s d b c.saturating_sub-count.result r has c.requires.sender count short) c.in-Err.ensures.refused
