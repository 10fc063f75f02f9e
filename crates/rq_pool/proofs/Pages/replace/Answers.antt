use Rattle.std.proofs.Common.{rules}
use Rattle.rq_pool.specs.Fixing.{NotBrought}
use Rattle.rq_pool.proofs.Bringing.{not_brought, not_made_way}
use Rattle.rq_pool.proofs.KeptUp.{kept_still, kept_then}
use Rattle.rq_pool.proofs.Pages.replace.Goals as goal

pub returns-in-Ok-clause-kept : goal.returns-in-Ok-clause-kept
returns-in-Ok-clause-kept g c =
    let P = g.P.PageDevice in
    let f = c.args.forced in
    let seated = c.seat.ensures in
    kept_then P f c.args.self.now c.fetch.new.self c.seat.new.self
    (kept_then P f c.args.self.now c.write_out.new.self c.fetch.new.self c.write_out.ensures.kept (c.fetch.ensures.fetched.read.kept f))
    (kept_still P f c.fetch.new.self c.seat.new.self seated.device seated.sizes seated.images seated.changed)

pub returns-in-Err-clause-refused : goal.returns-in-Err-clause-refused
returns-in-Err-clause-refused g c =
    not_brought g.P.PageDevice c.args.forced c.args.number c.in-Err.refusal c.args.self.now c.write_out.new.self c.fetch.new.self c.requires.outside c.in_ok-write_out-in-Some.ensures.counted c.in-Err.ensures.fetched.refused

pub returns-in-Err-clause-kept : goal.returns-in-Err-clause-kept
returns-in-Err-clause-kept g c =
    kept_then g.P.PageDevice c.args.forced c.args.self.now c.write_out.new.self c.fetch.new.self c.write_out.ensures.kept (c.fetch.ensures.fetched.read.kept c.args.forced)

pub returns-in_err-write_out-in-Some-clause-refused : goal.returns-in_err-write_out-in-Some-clause-refused
returns-in_err-write_out-in-Some-clause-refused g c =
    let that : NotBrought g.P.PageDevice c.args.forced c.args.number c.in_err-write_out-in-Some.field-0.0 c.args.self.now c.write_out.new.self =
    not_made_way g.P.PageDevice c.args.forced c.args.number c.in_err-write_out-in-Some.field-0.0 c.args.self.now c.write_out.new.self c.requires.outside c.in_err-write_out-in-Some.ensures.refused in
    search (rules, that)
