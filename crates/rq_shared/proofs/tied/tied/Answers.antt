use Rattle.std.proofs.Common.{rules, arith, ◌≡◌, ◌<◌, List, length, sym, ap, ◌∙◌}
use Rattle.std.proofs.lemmas.Bool.Decides.{nat_tests}
use Rattle.std.proofs.lemmas.List.{drop_all}
use Rattle.rq_shared.specs.declared.kept.AuditEntry.{AuditEntry}
use Rattle.rq_shared.specs.Entries.{entries, entry_of}
use Rattle.rq_shared.specs.Tied.{own, stamp_of}
use Rattle.rq_shared.proofs.Ties.{told_here, own_here, get_is, get_of, told_end, tie_step, tie_stop, tie_left, tie_end, left_one}
use Rattle.rq_shared.proofs.tied.tied.Goals as goal

pub returns-then-not-is_of : goal.returns-then-not-is_of
returns-then-not-is_of c =
    let at = c.next_of-at.result in
    let x = c.index-audit-at.result in
    let s = c.stamp-item.result in
    let lt : at < length c.args.audit.now = search rules in
    let f = c.next_of-at.ensures.found lt in
    let same = get_is c.args.audit.now at x f.0 f.1 c.index-audit-at.is in
    let mine = own_here c.args.pass c.args.audit.now at x lt c.index-audit-at.is (ap (λ (n : AuditEntry). n.pass) same ∙ f.2) in
    let theirs = told_here c.args.given.now c.loop-stamp.stamp-index s c.loop-stamp-test.true c.stamp-item.is (left_one s.reply (λ e. let q = c.is_no_memory.ensures.1 (c.reply.ensures ∙ e) in let r = c.if-is_no_memory.false in cc)) in
    ((λ t. absurd (cc)), λ h. absurd (tie_stop _ _ _ _ _ _ (entry_of x) (stamp_of s) c.loop-stamp.invariant.1 (c.next_of-at.ensures.skipped ∙ mine) theirs (λ e. let q = c.is_of.ensures.1 e in let r = c.if-not-is_of.true in cc) h))

pub loop-stamp-preserved : goal.loop-stamp-preserved
loop-stamp-preserved c =
    let at = c.next_of-at.result in
    let x = c.index-audit-at.result in
    let s = c.stamp-item.result in
    let lt : at < length c.args.audit.now = search rules in
    let f = c.next_of-at.ensures.found lt in
    let same = get_is c.args.audit.now at x f.0 f.1 c.index-audit-at.is in
    let mine = own_here c.args.pass c.args.audit.now at x lt c.index-audit-at.is (ap (λ (n : AuditEntry). n.pass) same ∙ f.2) in
    let theirs = told_here c.args.given.now c.loop-stamp.stamp-index s c.loop-stamp-test.true c.stamp-item.is (left_one s.reply (λ e. let q = c.is_no_memory.ensures.1 (c.reply.ensures ∙ e) in let r = c.if-is_no_memory.false in cc)) in
    (omega arith, tie_step _ _ _ _ _ _ (entry_of x) (stamp_of s) c.loop-stamp.invariant.1 (c.next_of-at.ensures.skipped ∙ mine) theirs (c.is_of.ensures.0 c.if-not-is_of.false))

pub returns : goal.returns
returns c =
    let at = c.next_of.result in
    let all = c.args.audit.now in
    let gone = told_end c.args.given.now c.loop-stamp.stamp-index c.loop-stamp-test.false in (
      (λ t.
          let end : at ≡ length all = grind (arith, nat_tests) in
          c.loop-stamp.invariant.1.1 (c.next_of.ensures.skipped ∙ ap (λ (l : List AuditEntry). own c.args.pass (entries l)) (drop_all at all (omega arith)) ∙ sym gone)),
      tie_end at (length all) _ _ c.next_of.ensures.within
          (λ lt.
          let f = c.next_of.ensures.found lt in
          let mine = own_here c.args.pass all at f.0 lt (get_of all at f.0 f.1) f.2 in
          tie_left _ _ _ _ _ (entry_of f.0) c.loop-stamp.invariant.1 (c.next_of.ensures.skipped ∙ mine) gone),
    )
