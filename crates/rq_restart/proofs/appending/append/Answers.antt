use Rattle.std.proofs.Common.{◌≡◌, ◌∷◌, [], ◌+◌, length, rules, ap, refl, subst, sym, arith}
use Rattle.std.specs.Prelude.{IfErr}
use Rattle.rq_analysis.specs.Rules.{FollowAll}
use Rattle.rq_log.specs.Spelled.{AreAllSpelled, AreSpelled}
use Rattle.rq_model.proofs.Bases.{standing_plain}
use Rattle.rq_store.specs.Fitting.{image_in, told_by}
use Rattle.rq_store.specs.Opening.{MayRedo, Redoes}
use Rattle.rq_restart.specs.Found.{IsAnalysisOf, MayComeNext}
use Rattle.rq_restart.specs.Repeating.{AreMarked, ArePagesCounted, paged}
use Rattle.rq_restart.specs.Undoing.{NamesNoDevice}
use Rattle.rq_restart.proofs.Following.{next_of_found}
use Rattle.rq_restart.proofs.Going.{found_next}
use Rattle.rq_restart.proofs.GoingOn.{goes_in_memory, goes_nowhere}
use Rattle.rq_restart.proofs.Marking.{same_marked}
use Rattle.rq_restart.proofs.ReadAgain.{few_spelled}
use Rattle.rq_restart.proofs.Repeated.{written_more}
use Rattle.rq_restart.proofs.Undos.{one_repeated}
use Rattle.rq_restart.proofs.appending.append.Goals as goal

pub append-requires-clause-record : goal.append-requires-clause-record
append-requires-clause-record g c = c.requires.range c.shows_kept.ensures.log.spelled

pub append-requires-clause-plain : goal.append-requires-clause-plain
append-requires-clause-plain g c = c.requires.plain

pub returns-clause-repeated : goal.returns-clause-repeated
returns-clause-repeated g c = λ h.
    let z = c.args.pages.now.sizes in
    let log = c.args.log.now.records in
    let honest : g.L.LogDevice.honest c.args.log.now.device = search (rules, h) in
    one_repeated z z log c.args.undo.now refl (c.last-lsn.result + 1) (ap (λ n. n + 1) c.last-lsn.ensures) (paged c.args.pages.now) (paged c.make.new.pages)
    ((c.may_take.ensures.next log c.requires.found (c.requires.follow honest) c.requires.plain (λ y. c.requires.readable, λ q. refl) (λ y. c.requires.puts_back honest, λ q. refl)).0 c.if-not-may_take.false) (c.if-not-make.ensures.checked refl) (c.if-not-make.ensures.redone refl)

pub returns-clause-follow : goal.returns-clause-follow
returns-clause-follow g c = λ h.
    let log = c.args.log.now.records in
    let honest : g.L.LogDevice.honest c.args.log.now.device = search (rules, h) in
    let grown : c.append.new.self.records ≡ c.args.undo.now ∷ log = search rules in
    let next : MayComeNext log c.args.undo.now = (c.may_take.ensures.next log c.requires.found (c.requires.follow honest) c.requires.plain (λ y. c.requires.readable, λ q. refl) (λ y. c.requires.puts_back honest, λ q. refl)).0 c.if-not-may_take.false in
    subst FollowAll (sym grown) (next.follows, c.requires.follow honest)

pub returns-clause-written : goal.returns-clause-written
returns-clause-written g c =
    subst (λ n. Redoes (told_by c.args.undo.now) n (image_in c.args.pages.now.images) (image_in c.make.new.pages.images)) (ap (λ n. n + 1) c.last-lsn.ensures) (c.if-not-make.ensures.redone refl)

pub returns-clause-counted : goal.returns-clause-counted
returns-clause-counted g c = λ before.
    let z = c.args.pages.now.sizes in
    let log = c.args.log.now.records in
    let r = c.args.undo.now in
    let place = ap (λ n. n + 1) c.last-lsn.ensures in
    let grown : c.append.new.self.records ≡ r ∷ log = search rules in
    let longer : length log + 1 ≡ length c.append.new.self.records = (let e = ap length grown in omega (arith, e)) in
    let may : MayRedo z (image_in c.args.pages.now.images) (length log + 1) r = subst (λ n. MayRedo z (image_in c.args.pages.now.images) n r) place (c.if-not-make.ensures.checked refl) in
    let redone : Redoes (told_by r) (length log + 1) (image_in c.args.pages.now.images) (image_in c.make.new.pages.images) = subst (λ n. Redoes (told_by r) n (image_in c.args.pages.now.images) (image_in c.make.new.pages.images)) place (c.if-not-make.ensures.redone refl) in
    subst (λ n. ArePagesCounted z n (paged c.make.new.pages)) longer (written_more z (length log) r (paged c.args.pages.now) (paged c.make.new.pages) redone may.write before)

pub returns-clause-goes_on : goal.returns-clause-goes_on
returns-clause-goes_on g c =
    let old = c.args.pages.now in
    let new = c.make.new.pages in
    let log = c.args.log.now in
    let made = c.make.ensures in
    let device : c.append.new.self.device ≡ log.device = search rules in
    let grown : c.append.new.self.records ≡ c.args.undo.now ∷ log.records = search rules in
    let longer : c.last-lsn.result + 1 ≡ length c.append.new.self.records = (let e = ap length grown in let k = c.last-lsn.ensures in omega (arith, e, k)) in
    goes_in_memory g.P.PageDevice g.L.LogDevice g.met.L.LogDevice.only_now old new log.device c.append.new.self.device log.records (c.args.undo.now ∷ []) c.append.new.self.records _ tt made.sizes made.device made.frames device (subst (λ n. AreMarked n old new) longer made.marked) grown

pub returns-clause-found : goal.returns-clause-found
returns-clause-found g c =
    let log = c.args.log.now.records in
    let r = c.args.undo.now in
    let f = c.args.analysis.now in
    let are = c.requires.found in
    let spelled_before = c.shows_kept.ensures.log.spelled in
    let told : AreSpelled (r ∷ log) = subst AreAllSpelled (sym (standing_plain r log c.requires.plain)) ((c.requires.range spelled_before, c.shows_fits.ensures), spelled_before) in
    let few = few_spelled (r ∷ log) told (let k = c.last.ensures in let low = c.if-last-ge-LOG_LIMIT.false in omega (arith, k, low)) in
    let grown : c.append.new.self.records ≡ r ∷ log = search rules in
    let next = next_of_found f log r are c.requires.plain (c.may_take.ensures.order c.if-not-may_take.false) in
    subst (IsAnalysisOf c.note.new.self) (sym grown) (found_next f c.note.new.self log r (c.last-lsn.result + 1) (ap (λ n. n + 1) c.last-lsn.ensures) c.requires.plain few are next c.in_ok-note.ensures.noted)

pub returns-then-last-ge-LOG_LIMIT-clause-goes_on : goal.returns-then-last-ge-LOG_LIMIT-clause-goes_on
returns-then-last-ge-LOG_LIMIT-clause-goes_on g c = goes_nowhere g.P.PageDevice g.L.LogDevice g.met.L.LogDevice.only_now c.args.pages.now c.args.log.now.device c.args.log.now.records _ tt

pub returns-in_err-note-clause-goes_on : goal.returns-in_err-note-clause-goes_on
returns-in_err-note-clause-goes_on g c =
    let old = c.args.pages.now in
    let log = c.args.log.now in
    let device : c.reserve.new.self.device ≡ log.device = search rules in
    let records : c.reserve.new.self.records ≡ log.records = search rules in
    let none : IfErr c.from_residual-in_err-note.result NamesNoDevice = search rules in
    goes_in_memory g.P.PageDevice g.L.LogDevice g.met.L.LogDevice.only_now old old log.device c.reserve.new.self.device log.records [] c.reserve.new.self.records _ none refl refl refl device (same_marked (length c.reserve.new.self.records) old old refl) records

pub returns-then-not-make-clause-goes_on : goal.returns-then-not-make-clause-goes_on
returns-then-not-make-clause-goes_on g c =
    let log = c.args.log.now in
    let made = c.make.ensures in
    let device : c.reserve.new.self.device ≡ log.device = search rules in
    let records : c.reserve.new.self.records ≡ log.records = search rules in
    goes_in_memory g.P.PageDevice g.L.LogDevice g.met.L.LogDevice.only_now c.args.pages.now c.make.new.pages log.device c.reserve.new.self.device log.records [] c.reserve.new.self.records _ tt made.sizes made.device made.frames device (same_marked (length c.reserve.new.self.records) c.args.pages.now c.make.new.pages (made.refused c.if-not-make.true).0) records
