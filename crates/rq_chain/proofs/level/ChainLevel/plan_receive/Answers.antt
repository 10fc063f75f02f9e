use Rattle.std.proofs.Common.{◌≡◌, ◌+◌, ◌<◌, ℕ, List, [], length, Some, true, false, refl, sym, ap, ◌∙◌, arith}
use Rattle.rq_model.specs.declared.record.Deed.{Deed}
use Rattle.rq_model.specs.declared.record.Deed.TheVariants.{UnlinkHead}
use Rattle.rq_model.specs.Deeds.{spelled_deed}
use Rattle.rq_bytes.specs.Number.{number_at}
use Rattle.rq_page.specs.Cells.{cell_in}
use Rattle.rq_page.proofs.CellBytes.{number_at-length}
use Rattle.rq_chain.proofs.Planned.{is_received, no_head, positive}
use Rattle.rq_chain.proofs.level.ChainLevel.plan_receive.Goals as goal

same_deed : {A : Type 0} (f : Deed → A) (s n : ℕ) {t u : ℕ} {b c : List ℕ} → t ≡ u → b ≡ c → f (UnlinkHead s n t b) ≡ f (UnlinkHead s n u c)
same_deed f s n {t} {u} {b} {c} tag body = ap (λ x. f (UnlinkHead s n x b)) tag ∙ ap (λ x. f (UnlinkHead s n u x)) body

pub body_in-requires : goal.body_in-requires
body_in-requires c =
    let head = c.in-Some-cell_given.ensures.cell in
    let bytes = c.in-Some-cell_given.head.bytes.now in
    let length_is : number_at 2 2 bytes ≡ length (cell_in bytes).body = ap (number_at 2 2) (sym head.spells) ∙ number_at-length (cell_in bytes) head.cell.numbers.body in
    let short = head.cell.numbers.body in
    omega (arith, length_is, short)

pub returns-in_default-cell_given-clause-err : goal.returns-in_default-cell_given-clause-err
returns-in_default-cell_given-clause-err c =
    (c.damage_of.ensures, no_head c.args.layout.now c.args.given.now c.args.sender c.head_of-2.result c.in-Some.group.directory c.head_of-2.ensures c.in-Some.ensures.holds c.in_default-cell_given.ensures.none)

pub returns-clause-ok : goal.returns-clause-ok
returns-clause-ok c =
    is_received c.args.layout.now c.args.self.now c.args.given.now [] c.args.sender 0 [] _ _ c.in-Some.group
    c.in-Some-cell_given.head c.in-Some-beside_given.next _ _ (omega (arith, c.if-sender-senders.false, c.senders.ensures.number)) c.in-Some.ensures.group.1 c.in-Some.ensures.holds (omega (arith, c.if-group.false))
    (let pos : 0 < c.head_of.result = positive c.head_of.result (λ e. let no : false ≡ true = sym c.if-is_none.false ∙ c.is_none.ensures.1 e in cc) in omega (arith, pos, c.head_of.ensures, c.head_of-2.ensures)) c.head_of-2.ensures c.in-Some-cell_given.ensures.holds c.next_in.ensures c.in-Some-beside_given.ensures.beside c.in-Ok.ensures.writes c.in-Ok.ensures.slots
    (c.spell_unlink_head.ensures.spelled ∙ same_deed spelled_deed c.args.sender (c.in-Some.group.directory.received + 1) c.tag_in.ensures c.body_in.ensures.body)
    (c.spell_unlink_head.ensures.told (omega arith) ∙ same_deed (λ d. Some d) c.args.sender (c.in-Some.group.directory.received + 1) c.tag_in.ensures c.body_in.ensures.body) refl refl
