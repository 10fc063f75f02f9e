use Rattle.std.proofs.Common.{◌≡◌, ℕ, List, ◌+◌, ◌≤◌, rules, refl, sym, ap, ◌∙◌, subst, arith, length}
use Rattle.rq_store.specs.State.{State}
use Rattle.rq_engine.specs.Answers.{IsDoing, IsUnderWay}
use Rattle.rq_model.specs.declared.record.Record.TheVariants.{OpEnd}
use Rattle.rq_model.specs.Deeds.{deed_level, spelled_deed}
use Rattle.rq_model.proofs.Deeds.{has_level}
use Rattle.rq_engine.proofs.AbortCalls.{ended_rows}
use Rattle.rq_engine.proofs.Calls.{AllMade, doing_is, end_fits, end_kept, end_room, going_owed, going_range, same_deed, under_any}
use Rattle.rq_txn.specs.declared.Aim.TheVariants.{Doing}
use Rattle.rq_engine.proofs.Opened.{state_is}
use Rattle.rq_engine.proofs.Frames.{fixed_finished, going_few, going_stored}
use Rattle.rq_txn.specs.Rows.{row_ended}
use Rattle.rq_engine.proofs.engine.Engine.end.Goals as goal

pub append_op_end-lsn-requires-clause-record : goal.append_op_end-lsn-requires-clause-record
append_op_end-lsn-requires-clause-record g c =
    let ready = subst (λ (s : State). IsUnderWay s c.args.sub (λ r u. (length u.writes ≤ u.made) × IsDoing u.aim)) (sym (state_is c.self.view_is)) c.requires.ready in
    let h = doing_is _ _ _ _ c.self.invariant.kept c.args.sub c.deed_under_way-deed.result.now ready c.deed_under_way-deed.ensures in
    let r = going_range _ _ _ _ c.self.invariant.kept c.args.sub (AllMade (Doing c.deed_under_way-deed.result.now)) h in
    let f = end_fits _ _ _ _ c.self.invariant.kept c.args.sub (Doing c.deed_under_way-deed.result.now) h in
    let low = f.0 in
    let high = f.1 in
    let d : length c.bytes.result.now ≡ length (spelled_deed c.deed_under_way-deed.result.now) = ap length c.bytes.ensures.spelled in
    let some = has_level c.deed_under_way-deed.result.now in
    (r.0, r.1, omega (arith, some), omega (arith, low, d), omega (arith, high, d))

pub append_op_end-lsn-requires-clause-room : goal.append_op_end-lsn-requires-clause-room
append_op_end-lsn-requires-clause-room g c =
    let ready = subst (λ (s : State). IsUnderWay s c.args.sub (λ r u. (length u.writes ≤ u.made) × IsDoing u.aim)) (sym (state_is c.self.view_is)) c.requires.ready in
    let h = doing_is _ _ _ _ c.self.invariant.kept c.args.sub c.deed_under_way-deed.result.now ready c.deed_under_way-deed.ensures in
    let r = end_room _ _ _ _ c.self.invariant.kept c.args.sub (Doing c.deed_under_way-deed.result.now) h in
    let d : length c.bytes.result.now ≡ length (spelled_deed c.deed_under_way-deed.result.now) = ap length c.bytes.ensures.spelled in
    omega (arith, r, d)

pub pages_under_way-pages-requires : goal.pages_under_way-pages-requires
pages_under_way-pages-requires g c =
    let ready = subst (λ (s : State). IsUnderWay s c.args.sub (λ r u. (length u.writes ≤ u.made) × IsDoing u.aim)) (sym (state_is c.self.view_is)) c.requires.ready in
    going_few _ _ _ _ c.self.invariant.kept c.args.sub (λ r u. (length u.writes ≤ u.made) × IsDoing u.aim) ready

pub deed_under_way-deed-requires : goal.deed_under_way-deed-requires
deed_under_way-deed-requires g c =
    let ready = subst (λ (s : State). IsUnderWay s c.args.sub (λ r u. (length u.writes ≤ u.made) × IsDoing u.aim)) (sym (state_is c.self.view_is)) c.requires.ready in
    under_any _ _ _ _ c.self.invariant.kept c.args.sub _ ready

pub let_all-requires : goal.let_all-requires
let_all-requires g c = record { of_store = rw (c.as_slice.ensures) (going_stored _ _ _ _ c.self.invariant.kept c.args.sub c.pages_under_way-pages.result c.pages_under_way-pages.ensures) }

pub overflow_sub-self : goal.overflow_sub-self
overflow_sub-self g c =
    let ready = subst (λ (s : State). IsUnderWay s c.args.sub (λ r u. (length u.writes ≤ u.made) × IsDoing u.aim)) (sym (state_is c.self.view_is)) c.requires.ready in
    let h = doing_is _ _ _ _ c.self.invariant.kept c.args.sub c.deed_under_way-deed.result.now ready c.deed_under_way-deed.ensures in
    going_owed _ _ _ _ c.self.invariant.kept c.args.sub (AllMade (Doing c.deed_under_way-deed.result.now)) h

pub invariant_of-self : goal.invariant_of-self
invariant_of-self g c =
    let ready = subst (λ (s : State). IsUnderWay s c.args.sub (λ r u. (length u.writes ≤ u.made) × IsDoing u.aim)) (sym (state_is c.self.view_is)) c.requires.ready in
    let h = doing_is _ _ _ _ c.self.invariant.kept c.args.sub c.deed_under_way-deed.result.now ready c.deed_under_way-deed.ensures in
    let d : length c.bytes.result.now ≡ length (spelled_deed c.deed_under_way-deed.result.now) = ap length c.bytes.ensures.spelled in
    let room : c.append_op_end-lsn.new.self.reserved + (30 + length (spelled_deed c.deed_under_way-deed.result.now)) ≡ c.self.inside.log.reserved = (let a = c.append_op_end-lsn.ensures.reserved in omega (arith, a, d)) in
    let failed : c.self.inside.log.failed ≡ c.append_op_end-lsn.new.self.failed = c.self.invariant.kept.fails (ap (λ (s : State). s.failed) (state_is c.self.view_is) ∙ c.requires.running) ∙ sym c.append_op_end-lsn.ensures.failed in
    record {
      kept = rw (c.note.ensures, ended_rows _ _ _ _ c.self.invariant.kept c.args.sub c.deed_under_way-deed.result.now c.append_op_end-lsn.result h, c.let_all.ensures.still.sizes, c.let_all.ensures.still.images, c.leave_out_taken.ensures, c.append_op_end-lsn.ensures.records, c.append_op_end-lsn.ensures.forced, sym failed)
          (end_kept _ _ _ _ c.self.invariant.kept c.args.sub (Doing c.deed_under_way-deed.result.now) h c.deed_under_way-deed.result.now _ _ c.append_op_end-lsn.new.self.reserved room (let l = c.append_op_end-lsn.ensures.lsn in let r = ap length c.append_op_end-lsn.ensures.records in omega (arith, l, r)) refl (end_fits _ _ _ _ c.self.invariant.kept c.args.sub (Doing c.deed_under_way-deed.result.now) h).2
          (ap (λ (n : ℕ). OpEnd c.args.sub.txn c.args.sub.number n c.bytes.result.now) c.level.ensures ∙ ap (λ (b : List ℕ). OpEnd c.args.sub.txn c.args.sub.number (deed_level c.deed_under_way-deed.result.now) b) c.bytes.ensures.spelled));
      durable = rw (c.append_op_end-lsn.ensures.settled) c.self.invariant.durable;
      cells = rw (c.let_all.ensures.still.sizes, c.let_all.ensures.still.images) c.self.invariant.cells;
      frames_are = rw (c.note.ensures) (fixed_finished _ _ _ _ c.self.invariant.kept c.args.sub c.pages_under_way-pages.result c.pages_under_way-pages.ensures (row_ended c.append_op_end-lsn.result) (λ r. refl) c.self.inside.pages.frames c.let_all.new.self.frames (rw (← c.as_slice.ensures) c.let_all.ensures.free) (rw (← c.as_slice.ensures) c.let_all.ensures.stay) c.self.invariant.frames_are);
    }

pub returns-clause-ended : goal.returns-clause-ended
returns-clause-ended g c d named =
    let ready = subst (λ (s : State). IsUnderWay s c.args.sub (λ r u. (length u.writes ≤ u.made) × IsDoing u.aim)) (sym (state_is c.self.view_is)) c.requires.ready in
    let h = doing_is _ _ _ _ c.self.invariant.kept c.args.sub c.deed_under_way-deed.result.now ready c.deed_under_way-deed.ensures in
    let of_it = subst (λ (s : State). IsUnderWay s c.args.sub (λ r u. u.aim ≡ Doing d)) (sym (state_is c.self.view_is)) named in
    let one : d ≡ c.deed_under_way-deed.result.now = same_deed _ _ _ _ c.self.invariant.kept c.args.sub (Doing d) _ of_it c.deed_under_way-deed.ensures in
    let rows = ended_rows _ _ _ _ c.self.invariant.kept c.args.sub c.deed_under_way-deed.result.now c.append_op_end-lsn.result h in
    rw (one) (search (rules, rows))
