-- Where the commits of a history stand, and that those which were acknowledged stay.
use Rattle.std.proofs.Common.{◌≡◌, ℕ, ◌+◌, ◌<◌, ◌≤◌, List, [], ◌∷◌, ◌++◌, length, take, refl, sym, ◌∙◌, ap, subst, true, false, not, inl, inr, arith, nat_lt, nat_eq}
use Rattle.std.proofs.lemmas.List.{take-take, take-append-le}
use Rattle.std.proofs.Math.Seq.{take-length}
use Rattle.std.proofs.lemmas.Bool.{and_parts, true≢false, eqb-true, not-true, not-false}
use Rattle.std.proofs.lemmas.Bool.Decides.{nat_tests}
use Rattle.rq_model.specs.declared.txn.Txn.{Txn}
use Rattle.rq_model.specs.Vocabulary.{In, is_some}
use Rattle.rq_model.specs.History.{Entry, commits}
use Rattle.rq_model.specs.History.Entry.{Acknowledged, Committed, Forced, Checkpointed, Migrated, Grew, Crash, Restarted}
use Rattle.rq_model.specs.Ledger.{Done, Ledger, runs, kept_in, ledger, after, found, ops_of, Rising}
use Rattle.rq_model.specs.Legal.{Legal, IsLegal}
use Rattle.rq_model.specs.Tests.{Size, size_at}
use Rattle.rq_model.proofs.Rises.{kept_within, all_kept, rising_append, rising_further, rising_cut, kept_cut}
use Rattle.rq_model.proofs.Same.{In-take, Tied-ledger}
use Rattle.rq_model.proofs.Keeps.{found_in}
use Rattle.rq_model.proofs.Each.{Good-ledger, some_is}
use Rattle.rq_model.proofs.Cuts.{kept_beyond, among}
use Rattle.rq_model.proofs.EntryKinds.{Kind, Same, kind, is_commit}
use Rattle.rq_model.proofs.EntryKinds.Kind.{Plain, Commits, Forces, Checkpoints, Migrates, Grows, Crashes, Restarts}
use Rattle.rq_model.proofs.Lists.{In-left, In-last, In-to}
use Rattle.rq_model.proofs.Follows.{legal_there}

-- the beginnings of a legal history are legal
pub tail_legal : (z : Size) (newer h : List Entry) → IsLegal z (newer ++ h) → IsLegal z h
tail_legal z [] h a = a
tail_legal z (e ∷ newer) h a = tail_legal z newer h a.1

-- LSNs rise; what is forced is in the log; no crash takes a commit whose record is forced, and while the store runs it may take any other
pub record Placed (l : Ledger) : Type 0 where
  pub rising : Rising 0 l.committed l.records
  pub forced : l.forced ≤ l.records
  pub durable : l.durable ≤ kept_in l.forced l.committed
  pub exact : runs l.phase ≡ true → kept_in l.forced l.committed ≤ l.durable

placed_same : (l m : Ledger) → Same l m → Placed l → Placed m
placed_same l m s p = record {
  rising = subst (λ c. Rising 0 c m.records) (sym s.committed) (rising_further 0 l.records m.records l.committed s.records p.rising);
  forced = (let a = s.forced in let b = s.records in let c = p.forced in omega (arith, a, b, c));
  durable = (let a = s.durable in let b = p.durable in let e : kept_in m.forced m.committed ≡ kept_in l.forced l.committed = ap (λ n. kept_in n m.committed) s.forced ∙ ap (kept_in l.forced) s.committed in omega (arith, a, b, e));
  exact = λ r. (let a = s.durable in let b = p.exact (s.running r) in let e : kept_in m.forced m.committed ≡ kept_in l.forced l.committed = ap (λ n. kept_in n m.committed) s.forced ∙ ap (kept_in l.forced) s.committed in omega (arith, a, b, e));
}

pub placed_after : (z : Size) (l : Ledger) (e : Entry) → Kind e → Legal z l e → Placed l → Placed (after e l)
placed_after z l e (Plain f none) a w = placed_same l (after e l) (f l) w
placed_after z l e (Commits u n) a w =
    let d : Done = record { txn = u; lsn = n; ops = ops_of (found u l.open_ones) } in
    let k : n ≡ l.records + 1 = a.1 in
    let f = w.forced in
    let same : kept_in l.forced (l.committed ++ d ∷ []) ≡ kept_in l.forced l.committed = kept_beyond l.forced l.committed d (omega (arith, k, f)) in
    let more : l.durable ≤ kept_in l.forced l.committed = w.durable in
    record {
      rising = rising_append 0 l.records (l.records + 1) l.committed d w.rising (omega (arith, k)) (omega (arith, k));
      forced = omega (arith, f);
      durable = omega (arith, same, more);
      exact = λ r. (let b = w.exact r in omega (arith, same, b));
    }
placed_after z l e (Forces n) a w =
    let all = all_kept 0 l.records l.records l.committed w.rising (omega arith) in
    record { rising = w.rising; forced = omega arith; durable = omega (arith, all); exact = λ r. omega (arith, all) }
placed_after z l e (Checkpoints n) a w =
    let all = all_kept 0 l.records (l.records + 1) l.committed w.rising (omega arith) in
    record { rising = rising_further 0 l.records (l.records + 1) l.committed (omega arith) w.rising; forced = omega arith; durable = omega (arith, all); exact = λ r. omega (arith, all) }
placed_after z l e (Migrates pages n) a w =
    let all = all_kept 0 l.records (l.records + 1) l.committed w.rising (omega arith) in
    record { rising = rising_further 0 l.records (l.records + 1) l.committed (omega arith) w.rising; forced = omega arith; durable = omega (arith, all); exact = λ r. cc r }
placed_after z l e (Grows pages n) a w =
    let more : l.records ≤ n = a.1 in
    let all = all_kept 0 l.records n l.committed w.rising more in
    record { rising = rising_further 0 l.records n l.committed more w.rising; forced = omega arith; durable = omega (arith, all); exact = λ r. cc r }
placed_after z l e (Crashes k n) a w =
    let e : k ≡ kept_in n l.committed = a.exact in
    let c : kept_in n (take k l.committed) ≡ k = subst (λ j. kept_in n (take j l.committed) ≡ j) (sym e) (kept_cut l.records n l.committed w.rising) in
    let b : l.durable ≤ k = a.durable in
    record {
      rising = subst (λ j. Rising 0 (take j l.committed) n) (sym e) (rising_cut 0 l.records n l.committed w.rising (omega arith));
      forced = omega arith;
      durable = omega (arith, c, b);
      exact = λ r. cc r;
    }
placed_after z l e (Restarts i n) a w =
    let m : l.records < n = a.more in
    let all = all_kept 0 l.records n l.committed w.rising (omega (arith, m)) in
    record { rising = rising_further 0 l.records n l.committed (omega (arith, m)) w.rising; forced = omega arith; durable = omega (arith, all); exact = λ r. omega (arith, all) }

pub placed : (z : Size) (h : List Entry) → IsLegal z h → Placed (ledger h)
placed z [] a = record { rising = omega arith; forced = omega arith; durable = omega arith; exact = λ r. omega arith }
placed z (e ∷ h) a = placed_after (size_at z h) (ledger h) e (kind e) (legal_there z h e a.0) (placed z h a.1)

-- the commit stands in the list
pub record StandsIn (t : Txn) (lsn : ℕ) (c : List Done) : Type 0 where
  pub done : Done
  pub there : In done c
  pub txn : done.txn ≡ t
  pub at : done.lsn ≡ lsn

-- of the commits that were answered: none is of a later incarnation, and while the store runs those of its own stand in the list
pub record Known (h : List Entry) (l : Ledger) : Type 0 where
  pub old : (t : Txn) (n : ℕ) → In (Committed t n) h → t.incarnation ≤ l.incarnation
  pub stands : runs l.phase ≡ true → (t : Txn) (n : ℕ) → In (Committed t n) h → t.incarnation ≡ l.incarnation → StandsIn t n l.committed

no_commit : (e : Entry) (t : Txn) (n : ℕ) → is_commit e ≡ false → Committed t n ≡ e → ⊥
no_commit e t n none q = true≢false (ap is_commit q ∙ none)

older : (e : Entry) (h : List Entry) (t : Txn) (n : ℕ) → is_commit e ≡ false → In (Committed t n) (e ∷ h) → In (Committed t n) h
older e h t n none j = elim j [ inl q ↦ absurd (no_commit e t n none q) | inr i ↦ i ]

-- who commits has begun in this incarnation
pub committer : (z : Size) (h : List Entry) (t : Txn) (n : ℕ) → IsLegal z h → Legal (size_at z h) (ledger h) (Committed t n) → t.incarnation ≡ (ledger h).incarnation
committer z h t n a c =
    let s = some_is (found t (ledger h).open_ones) (not-false (is_some (found t (ledger h).open_ones)) c.0.1.0) in
    let at = found_in t (ledger h).open_ones s.0 s.1 in
    sym (ap (λ (u : Txn). u.incarnation) at.1) ∙ ((Good-ledger z h a).old s.0 at.0).of_incarnation

known_after : (z : Size) (h : List Entry) (e : Entry) → Kind e → IsLegal z (e ∷ h) → Known h (ledger h) → Known (e ∷ h) (after e (ledger h))
known_after z h e (Plain f none) a w =
    let l = ledger h in
    let s = f l in
    record {
      old = λ t n j. (let b = w.old t n (older e h t n none j) in let c = s.incarnation in omega (arith, b, c));
      stands = λ r t n j i. subst (StandsIn t n) (sym s.committed) (w.stands (s.running r) t n (older e h t n none j) (i ∙ s.incarnation));
    }
known_after z h e (Commits u m) a w =
    let l = ledger h in
    let d : Done = record { txn = u; lsn = m; ops = ops_of (found u l.open_ones) } in
    record {
      old = λ t n j. elim j [ inl q ↦ (let e : t ≡ u = cc q in let f = ap (λ (x : Txn). x.incarnation) e in let i = committer z h u m a.1 a.0 in omega (arith, f, i)) | inr i ↦ w.old t n i ];
      stands = λ r t n j i. elim j [
        | inl q ↦ (let e : t ≡ u = cc q in let g : n ≡ m = cc q in record { done = d; there = In-last d l.committed; txn = sym e; at = sym g })
        | inr k ↦ (let s = w.stands r t n k i in record { done = s.done; there = In-left l.committed (d ∷ []) s.done s.there; txn = s.txn; at = s.at })
      ];
    }
known_after z h e (Forces m) a w = record {
  old = λ t n j. w.old t n (older (Forced m) h t n refl j);
  stands = λ r t n j i. w.stands r t n (older (Forced m) h t n refl j) i;
}
known_after z h e (Checkpoints m) a w = record {
  old = λ t n j. w.old t n (older (Checkpointed m) h t n refl j);
  stands = λ r t n j i. w.stands r t n (older (Checkpointed m) h t n refl j) i;
}
known_after z h e (Migrates pages m) a w = record {
  old = λ t n j. w.old t n (older (Migrated pages m) h t n refl j);
  stands = λ r. cc r;
}
known_after z h e (Grows pages m) a w = record {
  old = λ t n j. w.old t n (older (Grew pages m) h t n refl j);
  stands = λ r. cc r;
}
known_after z h e (Crashes k m) a w = record {
  old = λ t n j. w.old t n (older (Crash k m) h t n refl j);
  stands = λ r. cc r;
}
known_after z h e (Restarts g m) a w = record {
  old = λ t n j. (let b = w.old t n (older (Restarted g m) h t n refl j) in let c : (ledger h).incarnation < g = a.0.later in omega (arith, b, c));
  stands = λ r t n j i. absurd (let b = w.old t n (older (Restarted g m) h t n refl j) in let c : (ledger h).incarnation < g = a.0.later in let e : t.incarnation ≡ g = i in omega (arith, b, c, e));
}

pub known : (z : Size) (h : List Entry) → IsLegal z h → Known h (ledger h)
known z [] a = record { old = λ t n j. absurd j; stands = λ r t n j. absurd j }
known z (e ∷ h) a = known_after z h e (kind e) a (known z h a.1)

-- the commit is among those that no crash may take
abbrev Firm : Done → Ledger → Type 0
Firm d l = In d (take l.durable l.committed)

all_of : (xs : List Done) → take (length xs) xs ≡ xs
all_of xs = take-length xs

firm_after : (z : Size) (l : Ledger) (e : Entry) (d : Done) → Kind e → Legal z l e → Placed l → Firm d l → Firm d (after e l)
firm_after z l e d (Plain f none) a w g = let s = f l in subst (λ c. In d (take (after e l).durable c)) (sym s.committed) (subst (λ n. In d (take n l.committed)) (sym s.durable) g)
firm_after z l e d (Commits u n) a w g =
    let k = kept_within l.forced l.committed in
    let b = w.durable in
    subst (In d) (sym (take-append-le l.durable l.committed (record { txn = u; lsn = n; ops = ops_of (found u l.open_ones) } ∷ []) (omega (arith, k, b)))) g
firm_after z l e d (Forces n) a w g = subst (In d) (sym (all_of l.committed)) (In-take l.durable l.committed d g)
firm_after z l e d (Checkpoints n) a w g = subst (In d) (sym (all_of l.committed)) (In-take l.durable l.committed d g)
firm_after z l e d (Migrates pages n) a w g = subst (In d) (sym (all_of l.committed)) (In-take l.durable l.committed d g)
firm_after z l e d (Grows pages n) a w g = subst (In d) (sym (all_of l.committed)) (In-take l.durable l.committed d g)
firm_after z l e d (Crashes k n) a w g = subst (In d) (sym (take-take l.durable k l.committed a.durable)) g
firm_after z l e d (Restarts i n) a w g = subst (In d) (sym (all_of l.committed)) (In-take l.durable l.committed d g)

firm_on : (z : Size) (newer h : List Entry) (d : Done) → IsLegal z (newer ++ h) → Firm d (ledger h) → Firm d (ledger (newer ++ h))
firm_on z [] h d a g = g
firm_on z (e ∷ newer) h d a g = firm_after (size_at z (newer ++ h)) (ledger (newer ++ h)) e d (kind e) (legal_there z (newer ++ h) e a.0) (placed z (newer ++ h) a.1) (firm_on z newer h d a.1 g)

-- a commit that was acknowledged is firm
firm_acknowledged : (z : Size) (h : List Entry) (t : Txn) (n : ℕ) → IsLegal z h → Legal (size_at z h) (ledger h) (Acknowledged t n true) → In (Committed t n) h → (d : Done) × (d.txn ≡ t) × Firm d (ledger h)
firm_acknowledged z h t n a c j =
    let l = ledger h in
    let w = placed z h a in
    let run : runs l.phase ≡ true = not-false (runs l.phase) c.0.0 in
    let b = and_parts (nat_eq t.incarnation l.incarnation) (not (nat_lt l.forced n)) (sym c.1) in
    let i : t.incarnation ≡ l.incarnation = eqb-true t.incarnation l.incarnation b.0 in
    let s = (known z h a).stands run t n j i in
    let q : nat_lt l.forced n ≡ false = not-true (nat_lt l.forced n) b.1 in
    let at = s.at in
    let le : s.done.lsn ≤ l.forced = grind (arith, nat_tests) in
    let in_kept = among 0 l.records l.forced l.committed s.done w.rising s.there le in
    let x = w.durable in
    let y = w.exact run in
    let e : kept_in l.forced l.committed ≡ l.durable = omega (arith, x, y) in
    (s.done, s.txn, subst (λ m. In s.done (take m l.committed)) e in_kept)

-- every commit that was acknowledged is among the commits, whatever came since
pub acknowledged_stay : (z : Size) (newer h : List Entry) (t : Txn) (n : ℕ) → IsLegal z (newer ++ (Acknowledged t n true ∷ h)) → In (Committed t n) h → In t (commits (newer ++ (Acknowledged t n true ∷ h)))
acknowledged_stay z newer h t n a j =
    let all = newer ++ (Acknowledged t n true ∷ h) in
    let b = tail_legal z newer (Acknowledged t n true ∷ h) a in
    let f = firm_acknowledged z h t n b.1 b.0 j in
    let g = firm_on z newer (Acknowledged t n true ∷ h) f.0 a f.2 in
    let c = (ledger all).committed in
    let k = In-to (λ (x : Done). x.txn) c f.0 (In-take (ledger all).durable c f.0 g) in
    subst (λ (u : Txn). In u (commits all)) f.1 (subst (In f.0.txn) (Tied-ledger z all a).names k)
