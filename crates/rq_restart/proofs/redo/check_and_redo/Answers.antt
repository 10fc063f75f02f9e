use Rattle.std.proofs.Common.{◌≡◌, ◌∙◌, true, false, refl, subst, sym}
use Rattle.rq_restart.proofs.Following.{next_of_found}
use Rattle.rq_restart.proofs.Going.{found_next}
use Rattle.rq_restart.proofs.Undos.{belongs_then, one_repeated}
use Rattle.std.specs.Bool.{IsTrue}
use Rattle.rq_analysis.specs.Growth.{grows}
use Rattle.rq_store.specs.Opening.{MayRedo}
use Rattle.rq_restart.specs.Refused.{NotRepeated}
use Rattle.rq_restart.specs.Repeating.{paged}
use Rattle.rq_restart.specs.Undoing.{NamesNoDevice}
use Rattle.rq_restart.proofs.redo.check_and_redo.Goals as goal
use Rattle.rq_restart.proofs.redo.check_and_redo.Goals.{then-not-may_take-via-then-not-may_take, then-not-may_take-via-else-not-may_take+then-not-may_redo}

pub returns-in-Ok-clause-found : goal.returns-in-Ok-clause-found
returns-in-Ok-clause-found g c = λ older place are few.
    found_next c.args.analysis.now c.note.new.self older c.args.record.now c.args.lsn place c.requires.plain few are (next_of_found c.args.analysis.now older c.args.record.now are c.requires.plain (c.may_take.ensures.order c.if-not-may_take.false)) c.in-Ok.ensures.noted

pub returns-in-Ok-clause-follows : goal.returns-in-Ok-clause-follows
returns-in-Ok-clause-follows g c = λ older place are follow back.
    ((c.may_take.ensures.next older are follow c.requires.plain c.can_be_read-reads.ensures back).0 c.if-not-may_take.false).follows

pub returns-in-Ok-clause-repeated : goal.returns-in-Ok-clause-repeated
returns-in-Ok-clause-repeated g c = λ older place are follow back.
    one_repeated c.args.pages.now.sizes c.args.pages.now.sizes older c.args.record.now refl c.args.lsn place (paged c.args.pages.now) (paged c.apply.new.pages) ((c.may_take.ensures.next older are follow c.requires.plain c.can_be_read-reads.ensures back).0 c.if-not-may_take.false) (c.may_redo.ensures.0 c.if-not-may_redo.false) c.apply.ensures.redone

-- what is refused would belong there otherwise
pub returns-then-not-may_take-clause-not : goal.returns-then-not-may_take-clause-not
returns-then-not-may_take-clause-not g c = λ older place are follow back. (
  place,
  λ belongs.
      let z = c.args.pages.now.sizes in
      let may = belongs_then z z older c.args.record.now refl c.args.lsn place (paged c.args.pages.now) belongs in
      elim c.then-not-may_take.branch [
        | then-not-may_take-via-then-not-may_take w ↦ absurd (let bad : true ≡ false = sym ((c.may_take.ensures.next older are follow c.requires.plain c.can_be_read-reads.ensures back).1 may.0) ∙ w.if-not-may_take.true in cc bad)
        | then-not-may_take-via-else-not-may_take+then-not-may_redo w ↦ absurd (let bad : true ≡ false = sym (w.may_redo.ensures.1 may.1) ∙ w.if-not-may_redo.true in cc bad)
      ],
)

-- what fits is refused where a table may grow
pub returns-in-Err-clause-not : goal.returns-in-Err-clause-not
returns-in-Err-clause-not g c = λ older place are follow back.
    let z = c.args.pages.now.sizes in
    let r = c.args.record.now in
    let old = paged c.args.pages.now in
    let next = (c.may_take.ensures.next older are follow c.requires.plain c.can_be_read-reads.ensures back).0 c.if-not-may_take.false in
    let may = subst (λ n. MayRedo z old n r) place (c.may_redo.ensures.0 c.if-not-may_redo.false) in
    subst (NotRepeated z older r old) (sym c.in-Err.ensures.err) (record {
      belongs = record { next = next.next; follows = next.follows; may = may };
      grows = subst (λ numbers. IsTrue (grows r numbers)) are.numbers c.in-Err.ensures.grows;
    })

pub returns-in-Err-clause-err : goal.returns-in-Err-clause-err
returns-in-Err-clause-err g c = subst NamesNoDevice (sym c.in-Err.ensures.err) tt
