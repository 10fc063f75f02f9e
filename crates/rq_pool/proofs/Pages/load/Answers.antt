use Rattle.rq_pool.proofs.Over.{over_loaded, pool_loaded}
use Rattle.rq_pool.proofs.Readings.{only_read_on, stops_later}
use Rattle.rq_pool.proofs.Ties.{all_framed}
use Rattle.rq_pool.proofs.Pages.load.Goals as goal

pub returns-in-Err-read_frames-clause-stopped : goal.returns-in-Err-read_frames-clause-stopped
returns-in-Err-read_frames-clause-stopped g c =
    stops_later g.P.PageDevice c.args.device c.read_superblock.new.device c.read_frames.new.device c.in-Err-read_frames.refusal c.in-Ok.ensures.device.same c.in-Ok.ensures.cause c.in-Err-read_frames.ensures.err

pub invariant_of-pages : goal.invariant_of-pages
invariant_of-pages g c =
    let P = g.P.PageDevice in
    let r = c.in-Ok-read_frames.ensures in
    (over_loaded P _ _ _ c.read_superblock.new.device c.read_frames.new.device (pool_loaded _ _ r.ok) r.changed r.seen r.device.same, r.free, r.closed, r.first, r.tied, tt)

pub returns-in-Ok-read_frames-clause-device : goal.returns-in-Ok-read_frames-clause-device
returns-in-Ok-read_frames-clause-device g c =
    only_read_on g.P.PageDevice c.args.device c.read_superblock.new.device c.read_frames.new.device c.in-Ok.ensures.device c.in-Ok-read_frames.ensures.device

pub returns-in-Ok-read_frames-clause-framed : goal.returns-in-Ok-read_frames-clause-framed
returns-in-Ok-read_frames-clause-framed g c =
    let r = c.in-Ok-read_frames.ensures in
    λ enough p behind lt. all_framed _ _ _ _ _ r.tied (r.stand enough) p (rw (r.ok.count) lt)
