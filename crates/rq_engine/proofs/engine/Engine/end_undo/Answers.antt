use Rattle.std.proofs.Common.{◌≡◌, ◌+◌, ◌<◌, ◌≤◌, rules, sym, ap, ◌∙◌, subst, arith, length, refl}
use Rattle.rq_txn.specs.declared.Aim.{Aim}
use Rattle.rq_txn.specs.declared.Aim.TheVariants.{Undoing}
use Rattle.rq_model.specs.declared.record.Deed.{Deed}
use Rattle.rq_views.specs.Claims.{takes_of}
use Rattle.rq_views.specs.Plans.{deed_sender}
use Rattle.rq_store.specs.State.{State}
use Rattle.rq_engine.specs.declared.operations.Ending.TheVariants.{Inverse}
use Rattle.rq_engine.specs.Answers.{IsUnderWay, ending_of}
use Rattle.rq_engine.proofs.Calls.{AllMade, end_fits, end_room, end_sender, going_owed, going_range, same_deed, under_any, undo_kept, undoing_is}
use Rattle.rq_engine.proofs.Opened.{state_is}
use Rattle.rq_engine.proofs.Waits.{takes_below}
use Rattle.rq_engine.proofs.Frames.{fixed_finished, going_few, going_stored}
use Rattle.rq_txn.specs.Rows.{row_taken_back}
use Rattle.rq_engine.proofs.engine.Engine.end_undo.Goals as goal

pub append_comp_end-self-inside-requires-clause-record : goal.append_comp_end-self-inside-requires-clause-record
append_comp_end-self-inside-requires-clause-record g c =
    let aim : Aim = Undoing c.args.lsn c.deed_under_way-deed.result.now in
    let ready = subst (λ (s : State). IsUnderWay s c.args.sub (λ r u. (length u.writes ≤ u.made) × (ending_of u.aim ≡ Inverse c.args.lsn))) (sym (state_is c.self.view_is)) c.requires.ready in
    let h = undoing_is _ _ _ _ c.self.invariant.kept c.args.sub c.args.lsn c.deed_under_way-deed.result.now ready c.deed_under_way-deed.ensures in
    let r = going_range _ _ _ _ c.self.invariant.kept c.args.sub (AllMade aim) h in
    (r.0, r.1, end_fits _ _ _ _ c.self.invariant.kept c.args.sub aim h)

pub append_comp_end-self-inside-requires-clause-room : goal.append_comp_end-self-inside-requires-clause-room
append_comp_end-self-inside-requires-clause-room g c =
    let aim : Aim = Undoing c.args.lsn c.deed_under_way-deed.result.now in
    let ready = subst (λ (s : State). IsUnderWay s c.args.sub (λ r u. (length u.writes ≤ u.made) × (ending_of u.aim ≡ Inverse c.args.lsn))) (sym (state_is c.self.view_is)) c.requires.ready in
    let h = undoing_is _ _ _ _ c.self.invariant.kept c.args.sub c.args.lsn c.deed_under_way-deed.result.now ready c.deed_under_way-deed.ensures in
    let r = end_room _ _ _ _ c.self.invariant.kept c.args.sub aim h in
    omega (arith, r)

pub pages_under_way-pages-requires : goal.pages_under_way-pages-requires
pages_under_way-pages-requires g c =
    let ready = subst (λ (s : State). IsUnderWay s c.args.sub (λ r u. (length u.writes ≤ u.made) × (ending_of u.aim ≡ Inverse c.args.lsn))) (sym (state_is c.self.view_is)) c.requires.ready in
    going_few _ _ _ _ c.self.invariant.kept c.args.sub (λ r u. (length u.writes ≤ u.made) × (ending_of u.aim ≡ Inverse c.args.lsn)) ready

pub deed_under_way-deed-requires : goal.deed_under_way-deed-requires
deed_under_way-deed-requires g c =
    let ready = subst (λ (s : State). IsUnderWay s c.args.sub (λ r u. (length u.writes ≤ u.made) × (ending_of u.aim ≡ Inverse c.args.lsn))) (sym (state_is c.self.view_is)) c.requires.ready in
    under_any _ _ _ _ c.self.invariant.kept c.args.sub _ ready

pub let_all-requires : goal.let_all-requires
let_all-requires g c = record { of_store = rw (c.as_slice.ensures) (going_stored _ _ _ _ c.self.invariant.kept c.args.sub c.pages_under_way-pages.result c.pages_under_way-pages.ensures) }

pub overflow_sub-self : goal.overflow_sub-self
overflow_sub-self g c =
    let aim : Aim = Undoing c.args.lsn c.deed_under_way-deed.result.now in
    let ready = subst (λ (s : State). IsUnderWay s c.args.sub (λ r u. (length u.writes ≤ u.made) × (ending_of u.aim ≡ Inverse c.args.lsn))) (sym (state_is c.self.view_is)) c.requires.ready in
    let h = undoing_is _ _ _ _ c.self.invariant.kept c.args.sub c.args.lsn c.deed_under_way-deed.result.now ready c.deed_under_way-deed.ensures in
    going_owed _ _ _ _ c.self.invariant.kept c.args.sub (AllMade aim) h

pub invariant_of-self : goal.invariant_of-self
invariant_of-self g c =
    let aim : Aim = Undoing c.args.lsn c.deed_under_way-deed.result.now in
    let ready = subst (λ (s : State). IsUnderWay s c.args.sub (λ r u. (length u.writes ≤ u.made) × (ending_of u.aim ≡ Inverse c.args.lsn))) (sym (state_is c.self.view_is)) c.requires.ready in
    let h = undoing_is _ _ _ _ c.self.invariant.kept c.args.sub c.args.lsn c.deed_under_way-deed.result.now ready c.deed_under_way-deed.ensures in
    let room : c.append_comp_end-self-inside.new.self.reserved + 37 ≡ c.self.inside.log.reserved = (let a = c.append_comp_end-self-inside.ensures.reserved in omega (arith, a)) in
    let failed : c.self.inside.log.failed ≡ c.append_comp_end-self-inside.new.self.failed = c.self.invariant.kept.fails (ap (λ (s : State). s.failed) (state_is c.self.view_is) ∙ c.requires.running) ∙ sym c.append_comp_end-self-inside.ensures.failed in
    record {
      kept = rw (c.undo.ensures, c.let_all.ensures.still.sizes, c.let_all.ensures.still.images, c.put_in_taken.ensures, c.append_comp_end-self-inside.ensures.records, c.append_comp_end-self-inside.ensures.forced, sym failed)
          (undo_kept _ _ _ _ c.self.invariant.kept c.args.sub aim h c.deed_under_way-deed.result.now _ _ c.append_comp_end-self-inside.new.self.reserved room);
      durable = rw (c.append_comp_end-self-inside.ensures.settled) c.self.invariant.durable;
      cells = rw (c.let_all.ensures.still.sizes, c.let_all.ensures.still.images) c.self.invariant.cells;
      frames_are = rw (c.undo.ensures) (fixed_finished _ _ _ _ c.self.invariant.kept c.args.sub c.pages_under_way-pages.result c.pages_under_way-pages.ensures row_taken_back (λ r. refl) c.self.inside.pages.frames c.let_all.new.self.frames (rw (← c.as_slice.ensures) c.let_all.ensures.free) (rw (← c.as_slice.ensures) c.let_all.ensures.stay) c.self.invariant.frames_are);
    }

pub returns-clause-sender : goal.returns-clause-sender
returns-clause-sender g c d named takes =
    let aim : Aim = Undoing c.args.lsn c.deed_under_way-deed.result.now in
    let ready = subst (λ (s : State). IsUnderWay s c.args.sub (λ r u. (length u.writes ≤ u.made) × (ending_of u.aim ≡ Inverse c.args.lsn))) (sym (state_is c.self.view_is)) c.requires.ready in
    let h = undoing_is _ _ _ _ c.self.invariant.kept c.args.sub c.args.lsn c.deed_under_way-deed.result.now ready c.deed_under_way-deed.ensures in
    let of_it = subst (λ (s : State). IsUnderWay s c.args.sub (λ r u. u.aim ≡ Undoing c.args.lsn d)) (sym (state_is c.self.view_is)) named in
    let one : d ≡ c.deed_under_way-deed.result.now = same_deed _ _ _ _ c.self.invariant.kept c.args.sub (Undoing c.args.lsn d) _ of_it c.deed_under_way-deed.ensures in
    let below = takes_below c.self.inside.pages.sizes c.deed_under_way-deed.result.now (end_sender _ _ _ _ c.self.invariant.kept c.args.sub aim h) (ap takes_of (sym one) ∙ takes) in
    let count = c.self.invariant.kept.senders in
    subst (λ (e : Deed). deed_sender e < length c.args.self.now.state.waiting) (sym one)
    (subst (λ (s : State). deed_sender c.deed_under_way-deed.result.now < length s.waiting) (state_is c.self.view_is) (omega (arith, below, count)))

pub returns-clause-ended : goal.returns-clause-ended
returns-clause-ended g c d named =
    let of_it = subst (λ (s : State). IsUnderWay s c.args.sub (λ r u. u.aim ≡ Undoing c.args.lsn d)) (sym (state_is c.self.view_is)) named in
    let one : d ≡ c.deed_under_way-deed.result.now = same_deed _ _ _ _ c.self.invariant.kept c.args.sub (Undoing c.args.lsn d) _ of_it c.deed_under_way-deed.ensures in
    rw (one) (search rules)
