use Rattle.std.proofs.Common.{◌≡◌, ◌∷◌, rules, ap, sym, ◌∙◌}
use Rattle.rq_disk.specs.FileCalls.{has_failed}
use Rattle.rq_disk.specs.FileCalls.FileCall.{Took, Tried}
use Rattle.rq_disk.specs.LogFile.{end_of}
use Rattle.rq_disk.proofs.LogFiles.{tried_at_end, took_crash, tried_crash, log_time}
use Rattle.rq_disk.proofs.file_log.FileLogLogDevice.append.Goals as goal

pub invariant_of-self-then-is_err : goal.invariant_of-self-then-is_err
invariant_of-self-then-is_err g c =
    let m = c.args.self.now in
    let calls = g.F.Storage.calls m.file in
    let later = g.F.Storage.calls c.put.new.self in
    let is : later ≡ Tried m.end c.args.bytes.now ∷ calls = search rules in
    record {
      length = m.length ∙ sym (ap (end_of m.first) is);
      at_end = tried_at_end calls later m.end c.args.bytes.now is m.first m.length m.at_end;
      stops = sym (ap has_failed is);
    }

pub returns-then-is_err-clause-crash : goal.returns-then-is_err-clause-crash
returns-then-is_err-clause-crash g c =
    let calls = g.F.Storage.calls c.args.self.now.file in
    let later = g.F.Storage.calls c.put.new.self in
    let is : later ≡ Tried c.args.self.now.end c.args.bytes.now ∷ calls = search rules in
    tried_crash g.S.FileContents.bytes calls later c.args.self.now.end c.args.bytes.now is

pub returns-then-is_err-clause-time : goal.returns-then-is_err-clause-time
returns-then-is_err-clause-time g c =
    let calls = g.F.Storage.calls c.args.self.now.file in
    let later = g.F.Storage.calls c.put.new.self in
    let is : later ≡ Tried c.args.self.now.end c.args.bytes.now ∷ calls = search rules in
    log_time g.S.FileContents.bytes calls later (Tried c.args.self.now.end c.args.bytes.now) is

pub returns-clause-crash : goal.returns-clause-crash
returns-clause-crash g c =
    let calls = g.F.Storage.calls c.args.self.now.file in
    let later = g.F.Storage.calls c.put.new.self in
    let is : later ≡ Took c.args.self.now.end c.args.bytes.now ∷ calls = search rules in
    took_crash g.S.FileContents.bytes calls later c.args.self.now.end c.args.bytes.now is

pub returns-clause-time : goal.returns-clause-time
returns-clause-time g c =
    let calls = g.F.Storage.calls c.args.self.now.file in
    let later = g.F.Storage.calls c.put.new.self in
    let is : later ≡ Took c.args.self.now.end c.args.bytes.now ∷ calls = search rules in
    log_time g.S.FileContents.bytes calls later (Took c.args.self.now.end c.args.bytes.now) is
