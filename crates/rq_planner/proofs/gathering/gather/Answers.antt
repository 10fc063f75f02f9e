use Rattle.std.proofs.Common.{◌≡◌, ℕ, List, Some, Err, refl, sym, ◌∙◌, ap, subst, arith}
use Rattle.rq_page.specs.Sizes.{Sizes}
use Rattle.rq_pool.proofs.Fetched.{read_then}
use Rattle.rq_store.specs.State.{State}
use Rattle.rq_planner.specs.Answered.{IsGivenMore, IsWithheld, wants_of}
use Rattle.rq_planner.specs.Asked.{known, known_from}
use Rattle.rq_planner.proofs.Gathered.{fewer_left, gathered_more, given_more, wanted_more, wish_slot, withheld}
use Rattle.rq_planner.proofs.Knowing.{of_store}
use Rattle.rq_pool.proofs.Fetched.{reads_then, stored_before, stored_images}
use Rattle.rq_planner.proofs.Latches.{freely_more}
use Rattle.rq_planner.proofs.Readings.{knows_read, truly_passed}
use Rattle.rq_planner.proofs.gathering.gather.Goals as goal

pub want-requires-clause-given : goal.want-requires-clause-given
want-requires-clause-given g c =
    let is = c.level.ensures in
    let inside = c.requires.level in
    of_store c.args.pages.now.sizes c.args.pages.now.images c.args.levels.now c.level.result c.loop-at.slots c.requires.known (omega (arith, is, inside)) c.loop-at.invariant.given

pub loop-at-preserved : goal.loop-at-preserved
loop-at-preserved g c =
    let old = c.args.pages.now in
    let new = c.give.new.pages in
    let s : State = known_from old c.args.transactions.now in
    let at : ℕ = c.in-Slot.at in
    let levels = c.args.levels.now in
    let n = c.args.op.now.level in
    let slots = c.loop-at.slots in
    let given = c.give.new.slots in
    let next : wants_of levels n c.args.op.now slots ≡ Some at = ap (λ i. wants_of levels i c.args.op.now slots) (sym c.level.ensures) ∙ wish_slot _ c.want.result at c.want.ensures c.in-Slot.is in
    let read = read_then g.P.PageDevice old c.loop-at.pages new c.loop-at.invariant.read c.give.ensures.read.read in
    let more : IsGivenMore old.sizes new.images at slots given = subst (λ (z : Sizes). IsGivenMore z new.images at slots given) (read.kept 0).sizes c.in-Ok.ensures.given in
    record {
      read = read;
      counted = c.in-Ok.ensures.read.counted ∙ c.loop-at.invariant.counted;
      wanted = wanted_more (wants_of levels n c.args.op.now) old.sizes new.images at slots given c.loop-at.invariant.wanted next more;
      given = given_more old.sizes new.images at slots given c.loop-at.invariant.given more;
      free = freely_more c.args.transactions.now new.sizes new.images levels n at slots given (knows_read g.P.PageDevice old new levels read c.requires.known) c.requires.level c.loop-at.invariant.free c.in-Ok.ensures.given c.in-Ok.ensures.unlatched;
      gathered = λ true.
          gathered_more s (wants_of levels n) c.args.op.now at slots given next (c.loop-at.invariant.gathered (stored_before g.P.PageDevice old c.loop-at.pages new c.give.ensures.read.read true))
          (subst (λ (i : List (List ℕ)). IsGivenMore old.sizes i at slots given) (stored_images g.P.PageDevice old new read true) more) c.in-Ok.ensures.unlatched;
    }

pub loop-at-smaller : goal.loop-at-smaller
loop-at-smaller g c =
    fewer_left c.args.levels.now c.args.op.now.level c.args.op.now c.give.new.pages.sizes c.give.new.pages.images c.in-Slot.at c.loop-at.slots c.give.new.slots c.in-Ok.ensures.given (loop-at-preserved g c).wanted

pub returns-in-Err-clause-read : goal.returns-in-Err-clause-read
returns-in-Err-clause-read g c =
    reads_then g.P.PageDevice (Err c.in-Err.refusal) c.args.pages.now c.loop-at.pages c.give.new.pages c.loop-at.invariant.read c.loop-at.invariant.counted c.in-Err.ensures.read

pub returns-in-Err-clause-refusal : goal.returns-in-Err-clause-refusal
returns-in-Err-clause-refusal g c truly =
    let old = c.args.pages.now in
    let mid = c.loop-at.pages in
    let rows = c.args.transactions.now in
    let at : ℕ = c.in-Slot.at in
    let levels = c.args.levels.now in
    let n = c.args.op.now.level in
    let next : wants_of levels n c.args.op.now c.loop-at.slots ≡ Some at = ap (λ i. wants_of levels i c.args.op.now c.loop-at.slots) (sym c.level.ensures) ∙ wish_slot _ c.want.result at c.want.ensures c.in-Slot.is in
    let before = stored_before g.P.PageDevice old mid c.give.new.pages c.give.ensures.read.read truly.0 in
    let held : IsWithheld (known_from mid rows) at c.in-Err.refusal =
    c.in-Err.ensures.withheld (truly_passed g.P.PageDevice (λ e. e) c.in-Err.refusal c.in-Err.refusal old mid c.give.new.pages refl refl c.loop-at.invariant.read truly) in
    withheld (known_from old rows) (wants_of levels n) c.args.op.now (λ given answer. ⊥) c.loop-at.slots at c.in-Err.refusal (c.loop-at.invariant.gathered before) next
    (subst (λ (z : Sizes). IsWithheld (known z old.images rows) at c.in-Err.refusal) (c.loop-at.invariant.read.kept 0).sizes
    (subst (λ (i : List (List ℕ)). IsWithheld (known mid.sizes i rows) at c.in-Err.refusal) (stored_images g.P.PageDevice old mid c.loop-at.invariant.read before) held))

pub returns-in-Err-clause-held : goal.returns-in-Err-clause-held
returns-in-Err-clause-held g c =
    let at : ℕ = c.in-Slot.at in
    let want = λ (i : ℕ). wants_of c.args.levels.now i c.args.op.now c.loop-at.slots in
    let next : want c.args.op.now.level ≡ Some at = ap want (sym c.level.ensures) ∙ wish_slot _ c.want.result at c.want.ensures c.in-Slot.is in
    record { given = c.loop-at.slots; at = at; next = next; latch = c.in-Err.ensures.latch }
