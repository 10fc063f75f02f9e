-- A commit that an audit acknowledges is in every log that a crash may leave.
use Rattle.std.proofs.Common.{◌≡◌, ◌⊎◌, ℕ, ◌+◌, ◌<◌, ◌≤◌, List, [], ◌∷◌, ◌++◌, length, take, drop, map, Some, None, Bool, true, false, zero, refl, sym, ◌∙◌, ap, subst, inl, inr, ⊎_elim, arith, nat_lt, nat_eq, not}
use Rattle.std.proofs.lemmas.Bool.{and_parts, true≢false, not-true}
use Rattle.std.proofs.lemmas.Bool.Decides.{nat_tests}
use Rattle.std.proofs.lemmas.List.{length-append, length-drop, take-append-drop}
use Rattle.rq_model.specs.declared.record.Record.{Record}
use Rattle.rq_model.specs.declared.record.Record.TheVariants.{Base, Restart, Commit as Commit_record}
use Rattle.rq_model.specs.Vocabulary.{In}
use Rattle.rq_model.specs.History.{Entry, Call}
use Rattle.rq_model.specs.History.Call.{Begin, Start_send, Start_receive, Start_receive_from, Start_close, Start_mark, Step, Finish, Commit, Acknowledge, Start_abort, Undo_next, End_abort, Hand_over, Force, Checkpoint, Write_page, Last_tag, Client_tag, Show}
use Rattle.rq_model.specs.History.Entry.{Acknowledged, Committed, Crash, Grew, Restarted}
use Rattle.rq_model.specs.Ledger.{Done, Ledger, after, found, ops_of}
use Rattle.rq_model.specs.Tests.{Size}
use Rattle.rq_model.specs.Legal.{Legal}
use Rattle.rq_model.specs.Commits.{committed_of, told}
use Rattle.rq_model.specs.Replay.{Number, Reply, Says, Replays}
use Rattle.rq_model.specs.Replay.Reply.{Gave_txn, Gave_sub, Gave_none, Gave_nothing_left, Gave_lsn, Gave_ready, Gave_sent, Gave_message, Gave_closed, Gave_marked, Gave_undone, Gave_handed_over, Gave_checkpoint, Gave_forced, Gave_aborting, Gave_aborted, Gave_commit, Gave_receipt, Gave_written, Gave_tag, Gave_client_tag, Gave_content, Gave_refusal}
use Rattle.rq_model.proofs.Replayed.{never_break}
use Rattle.rq_model.proofs.EntryKinds.{Kind, kind}
use Rattle.rq_model.proofs.EntryKinds.Kind.{Plain, Commits, Forces, Checkpoints, Migrates, Grows as Gains_pages, Crashes, Restarts}
use Rattle.rq_model.proofs.Same.{In-append}
use Rattle.rq_model.proofs.Lists.{In-left, In-last, In-to, In-reverse}
use Rattle.rq_disk.specs.declared.device.LogDevice as log_device
use Rattle.rq_disk.specs.declared.device.PageDevice as page_device
use Rattle.rq_model.specs.Bases.{based, gone}
use Rattle.rq_log.specs.Spelled.{AreSpelled, IsBeginning, spelled}
use Rattle.rq_log.proofs.Runs.{ends_all, first_of_log}
use Rattle.rq_engine.specs.Checkpoint.{IsBeginningOrBase}
use Rattle.rq_store.specs.State.{ledger_of, size_of}
use Rattle.rq_sound.specs.Sound.{IsSound}
use Rattle.rq_engine.specs.Earlier.{IsEarlier, on, rebased, unknown}
use Rattle.rq_engine.specs.Opened.{OpenStore, AreHonest}
use Rattle.rq_engine.proofs.Earlier.{beginning_on, long_on, standing_on}
use Rattle.rq_shared.proofs.Replaying.{earlier_there}
use Rattle.rq_shared.specs.Entries.{Noted, Follows, answers, answer_of}
use Rattle.rq_shared.specs.Receipts.{IsReceiptOf, KeepsCommit, IsDurable}

commit_says : (c : Call) (n : Number) (e : Entry) → Says c (Gave_commit n) e → e ≡ Committed n.txn n.lsn
commit_says (Commit t) n e s = s.1 ∙ ap (λ u. Committed u n.lsn) (sym s.0)
commit_says c n e s = absurd s

receipt_says : (c : Call) (n : Number) (e : Entry) → Says c (Gave_receipt (Some n)) e → e ≡ Acknowledged n.txn n.lsn true
receipt_says (Acknowledge t lsn) n e s = s.1 ∙ ap (λ (m : Number). Acknowledged m.txn m.lsn true) (sym s.0)
receipt_says c n e s = absurd s

-- What a call leaves: each commit, each record, and what is forced, which is in the log.
record Grows (l m : Ledger) : Type 0 where
  pub commits : (d : Done) → In d l.committed → In d m.committed
  pub forced : l.forced ≤ m.forced
  pub records : l.records ≤ m.records
  pub within : m.forced ≤ m.records

grows : (c : Call) (g : Reply) (l : Ledger) (e : Entry) → Kind e → Says c g e → l.forced ≤ l.records → Grows l (after e l)
grows c g l e (Plain f none) s low =
    let k = f l in
    let a = k.forced in
    let b = k.records in
    record { commits = λ d i. subst (In d) (sym k.committed) i; forced = omega (arith, a); records = b; within = omega (arith, a, b, low) }
grows c g l e (Commits t lsn) s low =
    record { commits = λ d i. In-left l.committed (record { txn = t; lsn = lsn; ops = ops_of (found t l.open_ones) } ∷ []) d i; forced = omega arith; records = omega arith; within = omega (arith, low) }
grows c g l e (Forces lsn) s low = record { commits = λ d i. i; forced = low; records = omega arith; within = omega arith }
grows c g l e (Checkpoints lsn) s low = record { commits = λ d i. i; forced = omega (arith, low); records = omega arith; within = omega arith }
grows c g l e (Migrates pages lsn) s low = record { commits = λ d i. i; forced = omega (arith, low); records = omega arith; within = omega arith }
grows c g l e (Gains_pages pages records) s low = absurd (true≢false (never_break c g (Grew pages records) s))
grows c g l e (Crashes kept records) s low = absurd (true≢false (never_break c g (Crash kept records) s))
grows c g l e (Restarts i records) s low = absurd (true≢false (never_break c g (Restarted i records) s))

module _ (z : Size) (base : Ledger) (low : base.forced ≤ base.records) where
  within : (audit : List (Call × Reply)) (l : Ledger) → Replays z base audit l → l.forced ≤ l.records
  within [] l r = subst (λ (m : Ledger). m.forced ≤ m.records) (sym r) low
  within (a ∷ audit) l r =
      subst (λ (m : Ledger). m.forced ≤ m.records) (sym r.5) (grows a.0 a.1 r.0 r.1 (kind r.1) r.3 (within audit r.0 r.2)).within

  one_grows : (a : Call × Reply) (audit : List (Call × Reply)) (l : Ledger) (r : Replays z base (a ∷ audit) l) → Grows r.0 l
  one_grows a audit l r =
      subst (λ (m : Ledger). Grows r.0 m) (sym r.5) (grows a.0 a.1 r.0 r.1 (kind r.1) r.3 (within audit r.0 r.2))

  -- a commit that was answered stands
  commit_stands : (n : Number) (x : Call × Reply) (audit : List (Call × Reply)) (l : Ledger) → Replays z base audit l → In x audit → x.1 ≡ Gave_commit n → (d : Done) × (d.txn ≡ n.txn) × (d.lsn ≡ n.lsn) × In d l.committed
  commit_stands n x [] l r i e = absurd i
  commit_stands n x (a ∷ audit) l r i e =
      ⊎_elim
      (λ (here : x ≡ a).
      let gives : a.1 ≡ Gave_commit n = ap (λ (y : Call × Reply). y.1) (sym here) ∙ e in
      let is : r.1 ≡ Committed n.txn n.lsn = commit_says a.0 n r.1 (subst (λ g. Says a.0 g r.1) gives r.3) in
      let d : Done = record { txn = n.txn; lsn = n.lsn; ops = ops_of (found n.txn r.0.open_ones) } in
      let on : l ≡ after (Committed n.txn n.lsn) r.0 = r.5 ∙ ap (λ f. after f r.0) is in
      (d, refl, refl, subst (λ (m : Ledger). In d m.committed) (sym on) (In-last d r.0.committed)))
      (λ (there : In x audit).
      let w = commit_stands n x audit r.0 r.2 there e in
      (w.0, w.1, w.2, (one_grows a audit l r).commits w.0 w.3))
      i

  no_fewer : (audit : List (Call × Reply)) (l : Ledger) → Replays z base audit l → base.records ≤ l.records
  no_fewer [] l r = subst (λ (m : Ledger). base.records ≤ m.records) (sym r) (omega arith)
  no_fewer (a ∷ audit) l r = let was = no_fewer audit r.0 r.2 in let more = (one_grows a audit l r).records in omega (arith, was, more)

  -- its record is behind all those that stood before
  commit_behind : (n : Number) (x : Call × Reply) (audit : List (Call × Reply)) (l : Ledger) → Replays z base audit l → In x audit → x.1 ≡ Gave_commit n → base.records < n.lsn
  commit_behind n x [] l r i e = absurd i
  commit_behind n x (a ∷ audit) l r i e =
      ⊎_elim
      (λ (here : x ≡ a).
      let gives : a.1 ≡ Gave_commit n = ap (λ (y : Call × Reply). y.1) (sym here) ∙ e in
      let is : r.1 ≡ Committed n.txn n.lsn = commit_says a.0 n r.1 (subst (λ g. Says a.0 g r.1) gives r.3) in
      let legal : Legal z r.0 (Committed n.txn n.lsn) = subst (Legal z r.0) is r.4 in
      let next : n.lsn ≡ r.0.records + 1 = legal.1 in
      let was = no_fewer audit r.0 r.2 in
      omega (arith, next, was))
      (λ (there : In x audit). commit_behind n x audit r.0 r.2 there e)
      i

  -- one that was acknowledged is forced
  receipt_forced : (n : Number) (x : Call × Reply) (audit : List (Call × Reply)) (l : Ledger) → Replays z base audit l → In x audit → x.1 ≡ Gave_receipt (Some n) → n.lsn ≤ l.forced
  receipt_forced n x [] l r i e = absurd i
  receipt_forced n x (a ∷ audit) l r i e =
      let more = (one_grows a audit l r).forced in
      ⊎_elim
      (λ (here : x ≡ a).
      let gives : a.1 ≡ Gave_receipt (Some n) = ap (λ (y : Call × Reply). y.1) (sym here) ∙ e in
      let is : r.1 ≡ Acknowledged n.txn n.lsn true = receipt_says a.0 n r.1 (subst (λ g. Says a.0 g r.1) gives r.3) in
      let legal : Legal z r.0 (Acknowledged n.txn n.lsn true) = subst (Legal z r.0) is r.4 in
      let both = and_parts (nat_eq n.txn.incarnation r.0.incarnation) (not (nat_lt r.0.forced n.lsn)) (sym legal.1) in
      let beyond : nat_lt r.0.forced n.lsn ≡ false = not-true (nat_lt r.0.forced n.lsn) both.1 in
      let was : n.lsn ≤ r.0.forced = grind (arith, nat_tests) in
      omega (arith, was, more))
      (λ (there : In x audit). let was = receipt_forced n x audit r.0 r.2 there e in omega (arith, was, more))
      i

-- a commit within the first records of a log is one of theirs
in_older : (newer older : List Record) (d : Done) → In d (committed_of (newer ++ older)) → d.lsn ≤ length older → In d (committed_of older)
in_older [] older d i low = i
in_older (Commit_record t ∷ newer) older d i low =
    ⊎_elim
    (λ (was : In d (committed_of (newer ++ older))). in_older newer older d was low)
    (λ (is : d ≡ record { txn = t; lsn = length (newer ++ older) + 1; ops = told t (newer ++ older) }).
    let at : d.lsn ≡ length (newer ++ older) + 1 = ap (λ (x : Done). x.lsn) is in
    let all = length-append newer older in
    absurd (omega (arith, at, all, low)))
    (In-append (committed_of (newer ++ older)) (record { txn = t; lsn = length (newer ++ older) + 1; ops = told t (newer ++ older) }) d i)
in_older (r ∷ newer) older d i low = in_older newer older d i low

-- a commit has its record
commit_placed : (log : List Record) (d : Done) → In d (committed_of log) → 1 ≤ d.lsn
commit_placed [] d i = absurd i
commit_placed (Commit_record t ∷ log) d i =
    ⊎_elim
    (λ (was : In d (committed_of log)). commit_placed log d was)
    (λ (is : d ≡ record { txn = t; lsn = length log + 1; ops = told t log }). let at : d.lsn ≡ length log + 1 = ap (λ (x : Done). x.lsn) is in omega (arith, at))
    (In-append (committed_of log) (record { txn = t; lsn = length log + 1; ops = told t log }) d i)
commit_placed (r ∷ log) d i = commit_placed log d i

survives : (records : List Record) (forced : ℕ) (d : Done) (bytes : List ℕ) → (0 < forced → gone records < forced) → In d (committed_of records) → d.lsn ≤ forced → IsBeginning records forced bytes → KeepsCommit records d bytes
survives records forced d bytes based i low b =
    let placed = commit_placed records d i in
    let f = first_of_log records forced bytes (based (omega (arith, placed, low))) b in
    let rest = drop f.0 records in
    let count = length-drop f.0 records in
    let room = f.1 in
    let all : In d (committed_of (take f.0 records ++ rest)) = subst (λ log. In d (committed_of log)) (sym (take-append-drop f.0 records)) i in
    (f.0, f.2, in_older (take f.0 records) rest d all (omega (arith, low, count, room)))

by_test : (P : Type 0) (b : Bool) → (b ≡ true → P) → (b ≡ false → P) → P
by_test P true f g = f refl
by_test P false f g = g refl

few_one : (r : Record) (log : List Record) → length (unknown log) ≤ length log → length (unknown (r ∷ log)) ≤ length (r ∷ log)
few_one (Restart zero) log few = omega arith
few_one _ log few = omega (arith, few)

unknown_few : (log : List Record) → length (unknown log) ≤ length log
unknown_few [] = omega arith
unknown_few (r ∷ log) = few_one r log (unknown_few log)

module _ {P L : Type 0} (p : page_device.Ghosts P) (l : log_device.Ghosts L) where
  pub receipts_are_durable : (base engine : OpenStore P L) (audit : List Noted) → Follows p l base audit engine → AreHonest p l engine → (e : List Record) → IsEarlier e base.state → IsSound (on e base.state)
      → AreSpelled engine.state.records → (0 < engine.state.forced → gone engine.state.records < engine.state.forced) → (engine.replacing ≡ false → (bytes : List ℕ) → l.may_leave engine.log bytes → IsBeginning engine.state.records engine.state.forced bytes)
      → ((bytes : List ℕ) → l.may_leave engine.log bytes → IsBeginningOrBase engine.state.records engine.state.forced bytes) → (n : Number) → IsReceiptOf audit n → IsDurable l e engine n
  receipts_are_durable base engine audit f honest e at sound told base_forced leaves at_rest n r =
      let led = (f.replays honest e at sound).1 in
      let z = size_of base.state.sizes in
      let from = ledger_of (on e base.state) in
      let forced = engine.state.forced in
      let records = rebased e engine.state.records in
      let here : IsEarlier e engine.state = earlier_there p l base engine audit e f at in
      let there = λ (x : Noted) (i : In x audit). In-reverse (answer_of x) (map answer_of audit) (In-to answer_of audit x i) in
      let c = commit_stands z from sound.forced n (answer_of r.committed.0) (answers audit) (ledger_of (on e engine.state)) led (there r.committed.0 r.committed.1) r.committed.2 in
      let behind = commit_behind z from sound.forced n (answer_of r.committed.0) (answers audit) (ledger_of (on e engine.state)) led (there r.committed.0 r.committed.1) r.committed.2 in
      let low = receipt_forced z from sound.forced n (answer_of r.acknowledged.0) (answers audit) (ledger_of (on e engine.state)) led (there r.acknowledged.0 r.acknowledged.1) r.acknowledged.2 in
      let lsn = c.2 in
      let same : gone records ≡ gone engine.state.records = (standing_on e engine.state.records told here).1 in
      let few = unknown_few base.state.records in
      let long : length (rebased e base.state.records) ≡ length base.state.records = long_on e base.state at in
      record {
        commit = c.0;
        txn = c.1;
        lsn = c.2;
        behind = omega (arith, at, few, long, behind, lsn);
        stands = c.3;
        survives = λ bytes m.
            let kept : IsBeginning engine.state.records forced bytes → KeepsCommit records c.0 bytes = λ b.
            survives records forced c.0 bytes (λ some. subst (λ k. k < forced) (sym same) (base_forced some)) c.3 (omega (arith, low, lsn)) (beginning_on e engine.state.records forced bytes told here b) in
            by_test (KeepsCommit records c.0 bytes ⊎ ((engine.replacing ≡ true) × (i : ℕ) × KeepsCommit (based i records) c.0 bytes)) engine.replacing
            (λ tried. ⊎_elim
            (λ b. inl (kept b))
            (λ b. inr (tried, b.0, (0, ends_all (Base (length records) b.0 ∷ []) bytes (b.1 ∙ ap (λ (k : ℕ). spelled (Base k b.0 ∷ [])) (sym (long_on e engine.state here))), c.3)))
            (at_rest bytes m))
            (λ untried. inl (kept (leaves untried bytes m)));
      }
