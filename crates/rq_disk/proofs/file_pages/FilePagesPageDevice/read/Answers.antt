use Rattle.std.proofs.Common.{◌≡◌, ◌∷◌, ◌*◌, ◌∙◌, ℕ, ap, inr, rules}
use Rattle.rq_disk.specs.FileCalls.FileCall.{Gave, Denied}
use Rattle.rq_disk.proofs.PageFiles.{denied_stays, page_time}
use Rattle.rq_disk.proofs.file_pages.FilePagesPageDevice.read.Goals as goal

pub returns-clause-time : goal.returns-clause-time
returns-clause-time g c =
    let calls = g.F.Storage.calls c.args.self.now.file in
    let later = g.F.Storage.calls c.fill.new.self in
    let is : later ≡ Gave c.place_of.result c.fill.new.into ∷ calls = search rules in
    page_time g.S.FileContents.pages calls later (Gave c.place_of.result c.fill.new.into) is

pub returns-then-is_err-clause-time : goal.returns-then-is_err-clause-time
returns-then-is_err-clause-time g c =
    let calls = g.F.Storage.calls c.args.self.now.file in
    let later = g.F.Storage.calls c.fill.new.self in
    let is : later ≡ Denied c.place_of.result ∷ calls = search rules in
    page_time g.S.FileContents.pages calls later (Denied c.place_of.result) is

pub returns-then-is_err-clause-failed : goal.returns-then-is_err-clause-failed
returns-then-is_err-clause-failed g c =
    let calls = g.F.Storage.calls c.args.self.now.file in
    let later = g.F.Storage.calls c.fill.new.self in
    let is : later ≡ Denied c.place_of.result ∷ calls = search rules in
    λ honest. inr (denied_stays g.S.FileContents.pages calls later c.place_of.result is)

pub returns-then-is_err-clause-excused : goal.returns-then-is_err-clause-excused
returns-then-is_err-clause-excused g c =
    let calls = g.F.Storage.calls c.args.self.now.file in
    let is : g.F.Storage.calls c.fill.new.self ≡ Denied c.place_of.result ∷ calls = search rules in
    let at : c.place_of.result ≡ c.args.page * 4096 = search rules in
    inr (inr (is ∙ ap (λ (at : ℕ). Denied at ∷ calls) at))
