-- What calls answer, what that says of devices, and what is shown.
use Rattle.std.proofs.Common.{◌≡◌, ℕ, ◌<◌, List, [], ◌∷◌, drop, Some, None, refl, sym, ap, ◌∙◌, subst, inl, inr, arith, ⊎_elim}
use Rattle.rq_model.specs.declared.record.Record.{Record}
use Rattle.rq_model.specs.Commits.{committed_of}
use Rattle.rq_model.specs.Ledger.{Done}
use Rattle.rq_model.specs.Vocabulary.{In}
use Rattle.rq_model.specs.Vocabulary.Op.{Send}
use Rattle.rq_model.specs.Replay.Reply.{Gave_commit, Gave_forced, Gave_receipt}
use Rattle.rq_disk.specs.declared.mem_log.MemLog.{MemLog}
use Rattle.rq_disk.specs.declared.mem_pages.MemPages.{MemPages}
use Rattle.rq_log.specs.Spelled.{EndsWith, spelled}
use Rattle.rq_views.specs.WorkedItems.{t1}
use Rattle.rq_log.proofs.Runs.{ends_all}
use Rattle.rq_engine.specs.Earlier.{IsSoundOver, rebased}
use Rattle.rq_engine.specs.Opened.{OpenStore}
use Rattle.rq_shared.specs.Entries.{Noted}
use Rattle.rq_shared.specs.Receipts.{IsReceiptOf}
use Rattle.rq_core.specs.Worked.{hello}
use Rattle.rq_cases.specs.Audits.{beyond}
use Rattle.rq_cases.specs.Opened.{IsNewLog, over}
use Rattle.rq_cases.specs.Replies.{ReceiptsAreJudged, asked_commit, asked_force, asked_receipt, of_send}
use Rattle.rq_cases.specs.Run.{forced, log_1, log_5, take_started}
use Rattle.rq_cases.proofs.Audits.{audits, left_out_of, unsound}
use Rattle.rq_cases.proofs.Bytes.{first_spelled, the_log}
use Rattle.rq_cases.proofs.Held.{log_left, only_records}
use Rattle.rq_cases.proofs.Bytes.{first_plain}
use Rattle.rq_cases.proofs.Bytes.{drop_spelled}
use Rattle.rq_cases.proofs.Running as running

-- the commit of the send
abbrev done : Done
done = record { txn = t1; lsn = 5; ops = Send hello ∷ [] }

taken_away : (log : MemLog) → IsNewLog log log_1 → (commit : Done) (lost : ℕ) → EndsWith (drop lost log_5) (spelled log_1) → In commit (committed_of (drop lost log_5)) → ⊥
taken_away log n commit lost e i =
    let same : drop lost log_5 ≡ log_1 = sym (the_log log_1 first_plain (drop lost log_5) (spelled log_1) first_spelled (drop_spelled lost) refl e) in
    subst (λ (l : List Record). In commit (committed_of l)) same i

-- what no entry of an audit gave
no_receipt : IsReceiptOf (asked_commit ∷ asked_receipt None ∷ []) of_send → ⊥
no_receipt r = at r.acknowledged.0 r.acknowledged.1 r.acknowledged.2 where
  at : (x : Noted) → In x (asked_commit ∷ asked_receipt None ∷ []) → x.gave ≡ Gave_receipt (Some of_send) → ⊥
  at x (inl e) g = (let q : Gave_commit of_send ≡ Gave_receipt (Some of_send) = ap (λ (n : Noted). n.gave) (sym e) ∙ g in cc q)
  at x (inr (inl e)) g = (let q : Gave_receipt None ≡ Gave_receipt (Some of_send) = ap (λ (n : Noted). n.gave) (sym e) ∙ g in cc q)
  at x (inr (inr none)) g = none

taken_before : IsReceiptOf (asked_force ∷ asked_receipt (Some of_send) ∷ []) of_send → ⊥
taken_before r = at r.committed.0 r.committed.1 r.committed.2 where
  at : (x : Noted) → In x (asked_force ∷ asked_receipt (Some of_send) ∷ []) → x.gave ≡ Gave_commit of_send → ⊥
  at x (inl e) g = (let q : Gave_forced 5 ≡ Gave_commit of_send = ap (λ (n : Noted). n.gave) (sym e) ∙ g in cc q)
  at x (inr (inl e)) g = (let q : Gave_receipt (Some of_send) ≡ Gave_commit of_send = ap (λ (n : Noted). n.gave) (sym e) ∙ g in cc q)
  at x (inr (inr none)) g = none

pub receipts : ReceiptsAreJudged
receipts = record {
  durable = λ pages log n. record {
    commit = done;
    txn = refl;
    lsn = refl;
    behind = omega arith;
    stands = inl refl;
    survives = λ bytes may. inl (0, ends_all log_5 bytes (only_records log log_5 n bytes may), inl refl);
  };
  not_forced = λ pages log n k.
      ⊎_elim (λ s. taken_away log n k.commit s.0 s.1 s.2) (λ s. absurd (cc s.0)) (k.survives (spelled log_1) (log_left log log_1 n));
  of_no_commit = λ earlier s n e k. subst (λ (l : List Record). In k.commit (committed_of (rebased earlier l))) e k.stands;
  among_the_earlier = λ s k. (let over : 5 < k.commit.lsn = k.behind in let at = k.lsn in omega (arith, over, at));
  its_receipt = record {
    committed = (asked_commit, inl refl, refl);
    acknowledged = (asked_receipt (Some of_send), inr (inr (inl refl)), refl);
  };
  no_receipt_yet = no_receipt;
  commit_taken_before = taken_before;
  taken = λ pages log. (
    record { engine = over take_started pages log; audit = _; base = over forced pages log; taken = 0 },
    record { base = refl; before = refl; audit = refl; replays = audits.of_two_calls pages log },
    λ premise honest. ([], refl, running.force.sound),
  );
  taken_of_nobody = λ pages log k. left_out_of pages log k.0.engine k.1.replays;
  taken_of_unsound = λ pages log k.
      unsound (subst (λ (s : OpenStore MemPages MemLog). IsSoundOver s.state) (sym k.1.base) (k.2 tt (tt, tt)));
  taken_without_premise = λ pages log. (
    record { engine = over beyond pages log; audit = []; base = over beyond pages log; taken = 0 },
    record { base = refl; before = refl; audit = refl; replays = record { sizes = refl; unknown = refl; replays = λ h e at k. (k, refl) } },
    λ none honest. absurd none,
  );
}
