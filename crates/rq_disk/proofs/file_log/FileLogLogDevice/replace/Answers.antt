use Rattle.std.proofs.Common.{◌≡◌, ◌∷◌, rules}
use Rattle.rq_disk.specs.FileCalls.FileCall.{Replaced, Unreplaced}
use Rattle.rq_disk.proofs.LogFiles.{log_time}
use Rattle.rq_disk.proofs.file_log.FileLogLogDevice.replace.Goals as goal

pub returns-then-is_err-clause-time : goal.returns-then-is_err-clause-time
returns-then-is_err-clause-time g c =
    let calls = g.F.Storage.calls c.args.self.now.file in
    let is : g.F.Storage.calls c.exchange.new.self ≡ Unreplaced c.args.bytes.now ∷ calls = search rules in
    log_time g.S.FileContents.bytes calls (g.F.Storage.calls c.exchange.new.self) (Unreplaced c.args.bytes.now) is

pub returns-clause-time : goal.returns-clause-time
returns-clause-time g c =
    let calls = g.F.Storage.calls c.args.self.now.file in
    let is : g.F.Storage.calls c.exchange.new.self ≡ Replaced c.args.bytes.now ∷ calls = search rules in
    log_time g.S.FileContents.bytes calls (g.F.Storage.calls c.exchange.new.self) (Replaced c.args.bytes.now) is
