use Rattle.std.proofs.Common.{◌-◌, ◌^◌, List, subst, arith}
use Rattle.rq_pool.specs.Held.{Held, IsFixed}
use Rattle.rq_pool.proofs.Exchanged.{exchanged_count, exchanged_frame, exchanged_loose}
use Rattle.rq_pool.proofs.Holding.{still_kept}
use Rattle.rq_pool.proofs.KeptUp.{kept_more, kept_then}
use Rattle.rq_pool.proofs.Pages.exchange.Goals as goal

pub returns-in-Ok-clause-framed : goal.returns-in-Ok-clause-framed
returns-in-Ok-clause-framed g c = exchanged_frame c.args.self.now.images c.lsn_at_hand-forced.result c.args.number c.args.self.now.frames c.replace.new.self.frames c.hold_page.new.self.frames c.in-Ok.ensures.brought c.hold_page.ensures.frames

pub returns-in-Ok-clause-count : goal.returns-in-Ok-clause-count
returns-in-Ok-clause-count g c = exchanged_count c.args.self.now.images c.lsn_at_hand-forced.result c.args.number c.args.self.now.frames c.replace.new.self.frames c.hold_page.new.self.frames c.in-Ok.ensures.brought c.hold_page.ensures.frames

pub returns-in-Ok-clause-loose : goal.returns-in-Ok-clause-loose
returns-in-Ok-clause-loose g c = λ q low fixed. c.requires.loose q low (exchanged_loose c.args.self.now.images c.lsn_at_hand-forced.result c.args.number c.args.self.now.frames c.replace.new.self.frames c.hold_page.new.self.frames c.in-Ok.ensures.brought c.hold_page.ensures.frames q fixed)

pub returns-in-Ok-clause-kept : goal.returns-in-Ok-clause-kept
returns-in-Ok-clause-kept g c =
    let P = g.P.PageDevice in
    let f = c.lsn_at_hand-forced.result in
    let old = c.args.self.now in
    kept_more P f (2 ^ 64 - 1) old c.hold_page.new.self (let fits = c.lsn_at_hand-forced.type_inv in omega (arith, fits))
    (kept_then P f old c.replace.new.self c.hold_page.new.self c.replace.ensures.kept (still_kept P f c.replace.new.self c.hold_page.new.self c.hold_page.ensures.still))

pub returns-in-Err-clause-kept : goal.returns-in-Err-clause-kept
returns-in-Err-clause-kept g c = kept_more g.P.PageDevice c.lsn_at_hand-forced.result (2 ^ 64 - 1) c.args.self.now c.replace.new.self (let fits = c.lsn_at_hand-forced.type_inv in omega (arith, fits)) c.replace.ensures.kept

pub returns-in-Err-clause-loose : goal.returns-in-Err-clause-loose
returns-in-Err-clause-loose g c = λ q low fixed. c.requires.loose q low (subst (λ (f : List Held). IsFixed f q) c.in-Err.ensures.left fixed)
