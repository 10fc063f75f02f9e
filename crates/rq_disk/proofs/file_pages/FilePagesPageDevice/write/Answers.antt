use Rattle.std.proofs.Common.{◌≡◌, ◌∷◌, rules}
use Rattle.rq_disk.specs.FileCalls.FileCall.{Took, Tried}
use Rattle.rq_disk.proofs.PageFiles.{page_time}
use Rattle.rq_disk.proofs.file_pages.FilePagesPageDevice.write.Goals as goal

pub returns-then-is_err-clause-time : goal.returns-then-is_err-clause-time
returns-then-is_err-clause-time g c =
    let calls = g.F.Storage.calls c.args.self.now.file in
    let later = g.F.Storage.calls c.put.new.self in
    let is : later ≡ Tried c.place_of.result c.args.image.now ∷ calls = search rules in
    page_time g.S.FileContents.pages calls later (Tried c.place_of.result c.args.image.now) is

pub returns-clause-time : goal.returns-clause-time
returns-clause-time g c =
    let calls = g.F.Storage.calls c.args.self.now.file in
    let later = g.F.Storage.calls c.put.new.self in
    let is : later ≡ Took c.place_of.result c.args.image.now ∷ calls = search rules in
    page_time g.S.FileContents.pages calls later (Took c.place_of.result c.args.image.now) is
