-- A crash and a restart go on with a legal history, and the ledger still has what the log tells.
use Rattle.std.proofs.Common.{◌≡◌, ℕ, ◌+◌, ◌≤◌, List, ◌∷◌, ◌++◌, length, take, map, inl, inr, refl, sym, ◌∙◌, ap, subst, arith, None, Some}
use Rattle.std.proofs.lemmas.List.{length-append}
use Rattle.rq_model.specs.declared.record.Record.{Record}
use Rattle.rq_model.specs.declared.record.Record.TheVariants.{Restart as Restart_record}
use Rattle.rq_model.specs.History.{Entry}
use Rattle.rq_model.specs.History.Entry.{Grew, Restarted}
use Rattle.rq_model.specs.Ledger.{Done, Ledger, Phase, ledger, after, group_in, kept_in}
use Rattle.rq_model.specs.Ledger.Phase.{Running, Stopped, Shut}
use Rattle.rq_model.specs.Legal.{IsLegal, IsUpTo, MayGrow}
use Rattle.rq_model.specs.Tests.{Size, size_at}
use Rattle.rq_model.specs.Content.{content}
use Rattle.rq_model.specs.Commits.{committed_of}
use Rattle.rq_model.specs.Rules.{KeepsRules}
use Rattle.rq_model.specs.Incarnations.{Ties, Extends, incarnation_of, InOrder, opened_ledger}
use Rattle.rq_model.specs.Promises.{EndsBy, EndsInCrash, EndsInRestart, crash_to, log_grown}
use Rattle.rq_model.specs.Bases.{based}
use Rattle.rq_model.specs.Growth.{Growth, IsGrownBy, IsOfMigration, MayStand, growth, records_grown}
use Rattle.rq_model.specs.Growth.Growth.{Grows}
use Rattle.rq_model.proofs.Follows.{none_told, shut_told}
use Rattle.rq_model.proofs.Same.{Tied-ledger}
use Rattle.rq_model.proofs.Shown.{group_are}
use Rattle.rq_model.proofs.Told.{content_is}
use Rattle.std.proofs.Math.Seq.{take-length}
use Rattle.rq_model.proofs.Rises.{kept_less, all_kept}
use Rattle.rq_model.proofs.Cuts.{cut_commits, extends_commits, extends_incarnation}
use Rattle.rq_model.proofs.Placed.{placed}

pub up_to : (p : Phase) (n m : ℕ) → n ≤ m → IsUpTo m p n
up_to Running n m h = h
up_to Stopped n m h = h
up_to Shut n m h = tt

pub crash_goes_on : (z : Size) (h : List Entry) (newer older : List Record) → IsLegal z h → IsGrownBy (growth h) None → Ties (ledger h) (newer ++ older) → KeepsRules older
    → (ledger h).forced ≤ length older → (ledger h).incarnation ≤ incarnation_of older → EndsInCrash z h older
crash_goes_on z h newer older a told t rules f i =
    let l = ledger h in
    let w = placed z h a in
    let c : take (kept_in (length older) l.committed) l.committed ≡ committed_of older = subst (λ x. take (kept_in (length older) x) x ≡ committed_of older) (sym t.committed) (cut_commits newer older) in
    let d = w.durable in
    let less = kept_less l.forced (length older) l.committed f in
    let n = length-append newer older in
    let r = t.records in
    let legal : IsLegal z (crash_to older h ∷ h) = ((record { durable = omega (arith, d, less); forced = f; exact = refl }, told, inl (up_to l.phase (length older) l.records (omega (arith, n, r)))), a) in
    record {
      legal = legal;
      ties = record { committed = c; records = refl; incarnation = i };
      commits = ap (map (λ (x : Done). x.txn)) (sym c) ∙ (Tied-ledger z (crash_to older h ∷ h) legal).names;
      content = λ s. content_is s older rules ∙ ap (λ x. group_in x s) (sym c) ∙ sym (group_are z (crash_to older h ∷ h) s legal);
    }

pub checkpoint_crash_goes_on : (z : Size) (h : List Entry) (log : List Record) → IsLegal z h → IsGrownBy (growth h) None → Ties (ledger h) log → KeepsRules log → MayStand (growth h) (ledger h)
    → EndsInCrash z h (based (incarnation_of log) log)
checkpoint_crash_goes_on z h log a told t rules may =
    let l = ledger h in
    let now : List Record = based (incarnation_of log) log in
    let n : length now ≡ length log + 1 = omega arith in
    let w = placed z h a in
    let r = t.records in
    let all : kept_in (length now) l.committed ≡ length l.committed = all_kept 0 l.records (length now) l.committed w.rising (omega (arith, n, r)) in
    let c : take (kept_in (length now) l.committed) l.committed ≡ committed_of log = ap (λ k. take k l.committed) all ∙ take-length l.committed ∙ t.committed in
    let f = w.forced in
    let d = w.durable in
    let less = kept_less l.forced (length now) l.committed (omega (arith, n, r, f)) in
    let legal : IsLegal z (crash_to now h ∷ h) =
    ((record { durable = omega (arith, d, less); forced = omega (arith, n, r, f); exact = refl }, told, inr (may, omega (arith, n, r))), a) in
    record {
      legal = legal;
      ties = record { committed = c; records = refl; incarnation = t.incarnation };
      commits = ap (map (λ (x : Done). x.txn)) (sym c) ∙ (Tied-ledger z (crash_to now h ∷ h) legal).names;
      content = λ s. content_is s log rules ∙ ap (λ x. group_in x s) (sym c) ∙ sym (group_are z (crash_to now h ∷ h) s legal);
    }

-- the log that stands with tag pages tells what the log tells
many_grown : (g : Growth) (l : Ledger) (log : List Record) → l.records ≡ length log → length (log_grown g log) ≡ records_grown g l
many_grown (Grows pages) l log is = sym is
many_grown _ l log is = omega (arith, is)

committed_grown : (g : Growth) (log : List Record) → committed_of log ≡ committed_of (log_grown g log)
committed_grown (Grows pages) log = refl
committed_grown _ log = refl

incarnation_grown : (g : Growth) (log : List Record) → incarnation_of log ≡ incarnation_of (log_grown g log)
incarnation_grown (Grows pages) log = refl
incarnation_grown _ log = refl

content_grown : (g : Growth) (log : List Record) (s : ℕ) → content (log_grown g log) s ≡ content log s
content_grown (Grows pages) log s = refl
content_grown _ log s = refl

pub growth_goes_on : (z : Size) (h : List Entry) (pages : ℕ) (log : List Record) → IsLegal z h → MayGrow (size_at z h) (ledger h) pages → IsOfMigration (growth h) (ledger h) pages → Ties (ledger h) log → KeepsRules log
    → EndsBy (Some pages) z h (log_grown (growth h) log)
growth_goes_on z h pages log a may of t rules =
    let g = growth h in
    let now : List Record = log_grown g log in
    let e : Entry = Grew pages (length now) in
    let c : (ledger h).committed ≡ committed_of now = t.committed ∙ committed_grown g log in
    let legal : IsLegal z (e ∷ h) = ((may, of, many_grown g (ledger h) log t.records), a) in
    let i = t.incarnation in
    let j = incarnation_grown g log in
    record {
      legal = legal;
      ties = record { committed = c; records = refl; incarnation = omega (arith, i, j) };
      commits = ap (map (λ (x : Done). x.txn)) (sym c) ∙ (Tied-ledger z (e ∷ h) legal).names;
      content = λ s. content_grown g log s ∙ content_is s log rules ∙ ap (λ x. group_in x s) (sym t.committed) ∙ sym (group_are z (e ∷ h) s legal);
    }

shut_to : (p : Phase) (n m : ℕ) → p ≡ Shut → IsUpTo m p n
shut_to p n m e = subst (λ q. IsUpTo m q n) (sym e) tt

pub shut_crash_goes_on : (z : Size) (h : List Entry) (older now : List Record) → IsLegal z h → (ledger h).phase ≡ Shut → Ties (ledger h) older
    → Extends older now → InOrder now → KeepsRules now → EndsInCrash z h now
shut_crash_goes_on z h older now a p t g o rules =
    let l = ledger h in
    let w = placed z h a in
    let j = extends_incarnation older now g o in
    let n : length now ≡ length g.0 + length older = ap length (sym g.1) ∙ length-append g.0 older in
    let r = t.records in
    let all : kept_in (length now) l.committed ≡ length l.committed = all_kept 0 l.records (length now) l.committed w.rising (omega (arith, n, r)) in
    let c : take (kept_in (length now) l.committed) l.committed ≡ committed_of now =
    ap (λ k. take k l.committed) all ∙ take-length l.committed ∙ t.committed ∙ sym (extends_commits older now g) in
    let f = w.forced in
    let d = w.durable in
    let less = kept_less l.forced (length now) l.committed (omega (arith, n, r, f)) in
    let legal : IsLegal z (crash_to now h ∷ h) =
    ((record { durable = omega (arith, d, less); forced = omega (arith, n, r, f); exact = refl }, none_told (growth h) (shut_told z h a p), inl (shut_to l.phase (length now) l.records p)), a) in
    record {
      legal = legal;
      ties = record { committed = c; records = refl; incarnation = (let i = t.incarnation in omega (arith, i, j)) };
      commits = ap (map (λ (x : Done). x.txn)) (sym c) ∙ (Tied-ledger z (crash_to now h ∷ h) legal).names;
      content = λ s. content_is s now rules ∙ ap (λ x. group_in x s) (sym c) ∙ sym (group_are z (crash_to now h ∷ h) s legal);
    }

opened_is : (l : Ledger) (log : List Record) (i n : ℕ) → committed_of log ≡ l.committed → i ≡ incarnation_of log → n ≡ length log → opened_ledger log ≡ after (Restarted i n) l
opened_is l log i n c j m = cc (c, j, m)

pub restart_goes_on : (z : Size) (h : List Entry) (older now : List Record) → IsLegal z h → (ledger h).phase ≡ Shut → Ties (ledger h) older
    → Extends older now → InOrder now → EndsInRestart z h (Restart_record (incarnation_of now + 1) ∷ now)
restart_goes_on z h older now a p t g o =
    let l = ledger h in
    let j = extends_incarnation older now g o in
    let e : length now ≡ length g.0 + length older = ap length (sym g.1) ∙ length-append g.0 older in
    let r = t.records in
    let i = t.incarnation in
    let c : l.committed ≡ committed_of now = t.committed ∙ sym (extends_commits older now g) in
    record {
      legal = (record { later = omega (arith, i, j); shut = p; more = omega (arith, e, r) }, a);
      ties = record { committed = c; records = refl; incarnation = omega arith };
      ledger = opened_is l (Restart_record (incarnation_of now + 1) ∷ now) (incarnation_of now + 1) (length (Restart_record (incarnation_of now + 1) ∷ now)) (extends_commits older now g ∙ sym t.committed) refl refl;
    }
