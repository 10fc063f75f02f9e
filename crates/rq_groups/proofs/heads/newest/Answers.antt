use Rattle.std.proofs.Common.{sym}
use Rattle.rq_groups.proofs.Orders.{found_at, found_none}
use Rattle.rq_groups.proofs.heads.newest.Goals as goal

pub returns-in-Ok : goal.returns-in-Ok
returns-in-Ok c = sym (found_at c.args.heads.now c.args.txn c.in-Ok.place (record { txn = record { incarnation = 0; count = 0 }; newest = 0 }) c.in-Ok.ensures)

pub returns-in-Err : goal.returns-in-Err
returns-in-Err c = sym (found_none c.args.heads.now c.args.txn c.in-Err.field-0 c.in-Err.ensures)
