use Rattle.std.proofs.Common.{◌≡◌, ◌∷◌, refl, rules}
use Rattle.rq_disk.specs.FileCalls.FileCall.{Cut, Uncut, Synced, Missed}
use Rattle.rq_disk.proofs.LogFiles.{half_time, cut_time}
use Rattle.rq_disk.proofs.file_log.FileLogLogDevice.cut.Goals as goal

pub returns-then-is_err-clause-time : goal.returns-then-is_err-clause-time
returns-then-is_err-clause-time g c =
    let calls = g.F.Storage.calls c.args.self.now.file in
    let is : g.F.Storage.calls c.shorten.new.self ≡ Uncut c.args.len ∷ calls = search rules in
    half_time g.S.FileContents.bytes calls (g.F.Storage.calls c.shorten.new.self) c.args.len (Uncut c.args.len) is

pub returns-then-is_err-2-clause-time : goal.returns-then-is_err-2-clause-time
returns-then-is_err-2-clause-time g c =
    let calls = g.F.Storage.calls c.args.self.now.file in
    let between = g.F.Storage.calls c.shorten.new.self in
    let is : between ≡ Cut c.args.len ∷ calls = search rules in
    let then : g.F.Storage.calls c.sync.new.self ≡ Missed ∷ between = search rules in
    cut_time g.S.FileContents.bytes calls between c.args.len (Cut c.args.len) is (g.F.Storage.calls c.sync.new.self) Missed refl then

pub returns-clause-time : goal.returns-clause-time
returns-clause-time g c =
    let calls = g.F.Storage.calls c.args.self.now.file in
    let between = g.F.Storage.calls c.shorten.new.self in
    let is : between ≡ Cut c.args.len ∷ calls = search rules in
    let then : g.F.Storage.calls c.sync.new.self ≡ Synced ∷ between = search rules in
    cut_time g.S.FileContents.bytes calls between c.args.len (Cut c.args.len) is (g.F.Storage.calls c.sync.new.self) Synced refl then
