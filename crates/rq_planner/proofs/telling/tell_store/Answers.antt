use Rattle.std.proofs.Common.{Err, arith, ◌∙◌}
use Rattle.rq_planner.proofs.Knowing.{none_below}
use Rattle.rq_pool.proofs.Fetched.{read_then, reads_then}
use Rattle.rq_pool.proofs.Fetched.{unread_then}
use Rattle.rq_planner.proofs.Readings.{unread_still}
use Rattle.rq_planner.proofs.telling.tell_store.Goals as goal

pub tell_senders-requires : goal.tell_senders-requires
tell_senders-requires g c =
    let all = c.requires.all in
    let n = c.tell_sizes.ensures.count in
    none_below c.args.pages.now.sizes c.args.pages.now.images c.tell_sizes.new.levels (omega (arith, all, n)) c.tell_sizes.ensures.ready

pub returns-in-Err-clause-count : goal.returns-in-Err-clause-count
returns-in-Err-clause-count g c = c.tell_senders.ensures.count ∙ c.tell_sizes.ensures.count

pub returns-in-Err-tell_cells-clause-count : goal.returns-in-Err-tell_cells-clause-count
returns-in-Err-tell_cells-clause-count g c = c.tell_cells.ensures.count ∙ c.tell_senders.ensures.count ∙ c.tell_sizes.ensures.count

pub returns-clause-count : goal.returns-clause-count
returns-clause-count g c = c.tell_clients.ensures.count ∙ c.tell_cells.ensures.count ∙ c.tell_senders.ensures.count ∙ c.tell_sizes.ensures.count

pub returns-in-Err-tell_cells-clause-read : goal.returns-in-Err-tell_cells-clause-read
returns-in-Err-tell_cells-clause-read g c =
    reads_then g.P.PageDevice (Err c.in-Err-tell_cells.refusal) c.args.pages.now c.tell_senders.new.pages c.tell_cells.new.pages c.tell_senders.ensures.read.read c.in-Ok.ensures.read.counted c.in-Err-tell_cells.ensures.read

pub returns-clause-read : goal.returns-clause-read
returns-clause-read g c =
    reads_then g.P.PageDevice c.tell_clients.result c.args.pages.now c.tell_cells.new.pages c.tell_clients.new.pages
    (read_then g.P.PageDevice c.args.pages.now c.tell_senders.new.pages c.tell_cells.new.pages c.tell_senders.ensures.read.read c.tell_cells.ensures.read.read)
    (c.in-Ok-tell_cells.ensures.read.counted ∙ c.in-Ok.ensures.read.counted) c.tell_clients.ensures.read

pub returns-in-Err-tell_cells-clause-causes : goal.returns-in-Err-tell_cells-clause-causes
returns-in-Err-tell_cells-clause-causes g c =
    unread_then g.P.PageDevice c.in-Err-tell_cells.refusal c.args.pages.now c.tell_senders.new.pages c.tell_cells.new.pages c.tell_senders.ensures.read.read c.in-Err-tell_cells.ensures.causes

pub returns-clause-causes : goal.returns-clause-causes
returns-clause-causes g c =
    unread_still g.P.PageDevice c.tell_cells.new.pages c.tell_clients.new.pages c.tell_clients.result c.args.pages.now
    (read_then g.P.PageDevice c.args.pages.now c.tell_senders.new.pages c.tell_cells.new.pages c.tell_senders.ensures.read.read c.tell_cells.ensures.read.read) c.tell_clients.ensures.causes
