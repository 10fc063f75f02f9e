use Rattle.std.proofs.Common.{◌≡◌, List, [], ◌∷◌, reverse, ap, refl}
use Rattle.std.proofs.lemmas.List.Elements.{All-cons, All-nil}
use Rattle.rq_page.specs.Sizes.{Sizes}
use Rattle.rq_views.specs.Log.{Write}
use Rattle.rq_level.specs.Writes.{AreSlotWrites, IsSlotWrite, write_of, writes_of}
use Rattle.rq_level.specs.declared.writes.SlotWrite.{SlotWrite}
use Rattle.rq_tags.proofs.Clients.{is_tag_plan, is_untag_plan}
use Rattle.rq_tests.proofs.own_level.make.Goals as goal

-- the writes of a plan are one alone
alone : (z : Sizes) (ws : List SlotWrite) (w : SlotWrite) (x : Write) → ws ≡ w ∷ [] → (write_of z w ≡ x) × IsSlotWrite z w → (reverse (writes_of z ws) ≡ x ∷ []) × AreSlotWrites z ws
alone z ws w x e is =
    (rw e (ap (λ (v : Write). v ∷ []) is.0), rw e (All-cons (IsSlotWrite z) w [] is.1 (All-nil (IsSlotWrite z))))

pub returns-in_default-clause-mark : goal.returns-in_default-clause-mark
returns-in_default-clause-mark c e k = ((c.damage_of.ensures, λ can. c.in_default.ensures.none can.held can.below can.held_is), refl)

pub returns-in_default-clause-back : goal.returns-in_default-clause-back
returns-in_default-clause-back c before e k = ((c.damage_of.ensures, λ can. c.in_default.ensures.none can.held can.below can.held_is), refl)

pub returns-in-Some-before-clause-back : goal.returns-in-Some-before-clause-back
returns-in-Some-before-clause-back c before e k =
    let is = c.in-Some-changed.ensures.back before e in
    let one = alone c.args.layout.now c.take_back.new.plan.writes.items c.write.result _ (rw c.take_back.ensures.writes c.in-Ok.ensures) c.write.ensures in
    is_untag_plan c.args.layout.now k c.args.given.now c.args.change.client c.args.change.tag c.take_back.new.plan c.in-Some.held c.in-Some-changed.after c.in-Some.ensures.some
    one.0 one.1 before is.0 is.1 is.2 c.take_back.ensures.inverse

pub returns-in-None-clause-mark : goal.returns-in-None-clause-mark
returns-in-None-clause-mark c e k =
    let is = c.in-Some-changed.ensures.mark e in
    let one = alone c.args.layout.now c.put_only.new.writes.items c.write.result _ c.in-Ok.ensures c.write.ensures in
    is_tag_plan c.args.layout.now k c.args.given.now c.args.change.client c.args.change.tag _ c.in-Some.held c.in-Some-changed.after c.in-Some.ensures.some
    one.0 one.1 is.0 is.1 c.spell_mark.ensures.spelled c.spell_mark.ensures.told refl
