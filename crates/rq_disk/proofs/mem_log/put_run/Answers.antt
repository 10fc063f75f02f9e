use Rattle.std.proofs.Common.{rules, ◌≡◌}
use Rattle.rq_disk.proofs.mem_log.put_run.Goals as goal

pub returns-clause-ok : goal.returns-clause-ok
returns-clause-ok c =
    let same : c.in_ok-copy.copy.items ≡ c.args.run.now = search rules in
    let fresh : c.in_ok-fresh.fresh.items ≡ c.args.run.now = search rules in
    (c.in_ok-copy.copy, same, c.in_ok-push.ensures.items, fresh)
