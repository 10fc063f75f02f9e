use Rattle.std.proofs.Common.{◌≡◌, sym, ap, ◌∙◌, subst}
use Rattle.std.specs.Option.{option_map}
use Rattle.std.proofs.lemmas.Option.{same_Some}
use Rattle.rq_model.specs.Deeds.{deed_by}
use Rattle.rq_level.specs.Writes.{answer_of}
use Rattle.rq_txn.specs.declared.Aim.TheVariants.{Doing}
use Rattle.rq_store.specs.State.{State}
use Rattle.rq_engine.specs.declared.operations.Ending.TheVariants as ends
use Rattle.rq_engine.specs.Answers.{IsUnderWay, ending_of}
use Rattle.rq_engine.proofs.Calls.{same_deed, under_any}
use Rattle.rq_engine.proofs.Opened.{state_is}
use Rattle.rq_engine.proofs.engine.Engine.answer.Goals as goal

pub deed_under_way-deed-requires : goal.deed_under_way-deed-requires
deed_under_way-deed-requires g c =
    under_any _ _ _ _ c.self.invariant.kept c.args.sub _ (subst (λ (s : State). IsUnderWay s c.args.sub (λ r u. ending_of u.aim ≡ ends.Deed c.args.gist)) (sym (state_is c.self.view_is)) c.requires)

pub returns-in-UnlinkHead : goal.returns-in-UnlinkHead
returns-in-UnlinkHead g c d named =
    let of_it = subst (λ (s : State). IsUnderWay s c.args.sub (λ r u. u.aim ≡ Doing d)) (sym (state_is c.self.view_is)) named in
    let one : d ≡ c.deed_under_way-deed.result.now = same_deed _ _ _ _ c.self.invariant.kept c.args.sub (Doing d) _ of_it c.deed_under_way-deed.ensures in
    same_Some _ _ (sym c.unwrap.ensures ∙ c.outcome.ensures ∙ ap (λ n. option_map answer_of (deed_by n c.bytes.result.now)) c.level.ensures ∙ ap (option_map answer_of) c.bytes.ensures.reads)
    ∙ ap answer_of (sym one)
