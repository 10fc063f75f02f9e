use Rattle.std.proofs.Common.{ℕ, List, subst}
use Rattle.rq_disk.specs.Memory.{crashed_log}
use Rattle.rq_disk.specs.Shown.{log_of}
use Rattle.rq_log.specs.Counted.{LastLsn}
use Rattle.rq_core.proofs.Devices.{crashes}
use Rattle.rq_core.proofs.world.crash.Goals as goal

pub returns-clause-left : goal.returns-clause-left
returns-clause-left g c =
    crashes c.args.pages c.crash-pages.result c.args.log c.crash-log.result (crashed_log c.args.keep c.args.torn (log_of c.args.log)) c.last_lsn-lsn.result c.crash-pages.ensures.may_be c.crash-pages.ensures.synced c.crash-log.ensures.log c.crash-log.ensures.may_leave
    (subst (λ (bytes : List ℕ). LastLsn bytes c.last_lsn-lsn.result) c.bytes.ensures c.last_lsn-lsn.ensures.log)

pub returns-clause-chosen : goal.returns-clause-chosen
returns-clause-chosen g c = record { log_is = c.crash-log.ensures.log; pages_are = c.crash-pages.ensures.pages }
