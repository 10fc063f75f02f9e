use Rattle.std.proofs.Common.{◌≡◌, ◌∷◌, inr, rules}
use Rattle.rq_disk.specs.FileCalls.FileCall.{Gave, Denied}
use Rattle.rq_disk.proofs.LogFiles.{denied_stays, gave_count, log_time}
use Rattle.rq_disk.proofs.file_log.FileLogLogDevice.read.Goals as goal

pub returns-clause-count : goal.returns-clause-count
returns-clause-count g c =
    let m = c.args.self.now in
    let calls = g.F.Storage.calls m.file in
    let later = g.F.Storage.calls c.fill.new.self in
    let is : later ≡ Gave c.args.at c.fill.new.into ∷ calls = search rules in
    λ agree. gave_count g.S.FileContents.bytes calls later c.args.at c.fill.new.into is m.first m.end c.bytes_between-count.result _ m.length c.bytes_between-count.ensures agree

pub returns-clause-time : goal.returns-clause-time
returns-clause-time g c =
    let calls = g.F.Storage.calls c.args.self.now.file in
    let later = g.F.Storage.calls c.fill.new.self in
    let is : later ≡ Gave c.args.at c.fill.new.into ∷ calls = search rules in
    log_time g.S.FileContents.bytes calls later (Gave c.args.at c.fill.new.into) is

pub returns-then-is_err-clause-time : goal.returns-then-is_err-clause-time
returns-then-is_err-clause-time g c =
    let calls = g.F.Storage.calls c.args.self.now.file in
    let later = g.F.Storage.calls c.fill.new.self in
    let is : later ≡ Denied c.args.at ∷ calls = search rules in
    log_time g.S.FileContents.bytes calls later (Denied c.args.at) is

pub returns-then-is_err-clause-failed : goal.returns-then-is_err-clause-failed
returns-then-is_err-clause-failed g c =
    let calls = g.F.Storage.calls c.args.self.now.file in
    let later = g.F.Storage.calls c.fill.new.self in
    let is : later ≡ Denied c.args.at ∷ calls = search rules in
    λ honest. inr (denied_stays g.S.FileContents.bytes calls later c.args.at is)

pub returns-then-is_err-clause-excused : goal.returns-then-is_err-clause-excused
returns-then-is_err-clause-excused g c =
    let calls = g.F.Storage.calls c.args.self.now.file in
    let is : g.F.Storage.calls c.fill.new.self ≡ Denied c.args.at ∷ calls = search rules in
    inr is
