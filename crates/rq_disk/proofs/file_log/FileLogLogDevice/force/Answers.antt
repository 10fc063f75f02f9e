use Rattle.std.proofs.Common.{◌≡◌, ◌∷◌, false, rules}
use Rattle.rq_disk.specs.FileCalls.{has_failed}
use Rattle.rq_disk.specs.FileCalls.FileCall.{Synced, Missed}
use Rattle.rq_disk.proofs.LogFiles.{synced_only, synced_crash, log_time}
use Rattle.rq_disk.proofs.file_log.FileLogLogDevice.force.Goals as goal

pub returns-clause-durable : goal.returns-clause-durable
returns-clause-durable g c =
    let calls = g.F.Storage.calls c.args.self.now.file in
    let is : g.F.Storage.calls c.sync.new.self ≡ Synced ∷ calls = search rules in
    let runs : has_failed calls ≡ false = search rules in
    synced_only g.S.FileContents.bytes calls (g.F.Storage.calls c.sync.new.self) is runs

pub returns-clause-crash : goal.returns-clause-crash
returns-clause-crash g c =
    let calls = g.F.Storage.calls c.args.self.now.file in
    let is : g.F.Storage.calls c.sync.new.self ≡ Synced ∷ calls = search rules in
    let runs : has_failed calls ≡ false = search rules in
    synced_crash g.S.FileContents.bytes calls (g.F.Storage.calls c.sync.new.self) is runs

pub returns-clause-time : goal.returns-clause-time
returns-clause-time g c =
    let calls = g.F.Storage.calls c.args.self.now.file in
    let is : g.F.Storage.calls c.sync.new.self ≡ Synced ∷ calls = search rules in
    log_time g.S.FileContents.bytes calls (g.F.Storage.calls c.sync.new.self) Synced is

pub returns-then-is_err-clause-time : goal.returns-then-is_err-clause-time
returns-then-is_err-clause-time g c =
    let calls = g.F.Storage.calls c.args.self.now.file in
    let is : g.F.Storage.calls c.sync.new.self ≡ Missed ∷ calls = search rules in
    log_time g.S.FileContents.bytes calls (g.F.Storage.calls c.sync.new.self) Missed is
