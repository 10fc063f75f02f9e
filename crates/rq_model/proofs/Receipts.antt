-- For the number that a commit answered a receipt is given exactly where a force has answered since, and no restart.
use Rattle.std.proofs.Common.{◌≡◌, ℕ, ◌+◌, ◌<◌, ◌≤◌, List, [], ◌∷◌, ◌++◌, refl, ◌∙◌, subst, Bool, true, false, not, nat_eq, nat_lt, ◌&&◌, arith}
use Rattle.std.proofs.lemmas.Bool.{true≢false, false≢true, not-false}
use Rattle.std.proofs.lemmas.Bool.Decides.{nat_tests}
use Rattle.rq_model.specs.declared.txn.Txn.{Txn}
use Rattle.rq_model.specs.declared.refusal.Refusal.{Refusal}
use Rattle.rq_model.specs.declared.refusal.Refusal.TheVariants.{DiskWrite}
use Rattle.rq_model.specs.History.{Entry, Call}
use Rattle.rq_model.specs.History.Entry.{Stepped, Did, Undid, Committed, Aborted, Forced, Checkpointed, Migrated, Grew, Refused, Crash, Restarted}
use Rattle.rq_model.specs.Ledger.{Ledger, runs, after, ledger}
use Rattle.rq_model.specs.Legal.{Legal, IsLegal}
use Rattle.rq_model.specs.Promises.{is_force, is_restart, any_entry, ReceiptsAreExact}
use Rattle.rq_model.specs.Tests.{Size, size_at}
use Rattle.rq_model.proofs.Placed.{placed, committer}
use Rattle.rq_model.proofs.Follows.{legal_there}

-- what is so of a commit's number behind it: until a restart it is of the running incarnation, and its record is forced
-- exactly where a force has answered
record Since (t : Txn) (lsn : ℕ) (opened was_forced running : Bool) (incarnation records forced : ℕ) : Type 0 where
  not_later : t.incarnation ≤ incarnation
  earlier : opened ≡ true → t.incarnation < incarnation
  current : opened ≡ false → t.incarnation ≡ incarnation
  within : opened ≡ false → running ≡ true → lsn ≤ records
  kept : opened ≡ false → running ≡ true → was_forced ≡ true → lsn ≤ forced
  pending : opened ≡ false → running ≡ true → was_forced ≡ false → forced < lsn

abbrev SinceIn : Txn → ℕ → List Entry → Ledger → Type 0
SinceIn t lsn newer l = Since t lsn (any_entry is_restart newer) (any_entry is_force newer) (runs l.phase) l.incarnation l.records l.forced

-- a record more
more : (t : Txn) (lsn : ℕ) (opened was_forced running : Bool) (incarnation records forced : ℕ) → Since t lsn opened was_forced running incarnation records forced → Since t lsn opened was_forced running incarnation (records + 1) forced
more t lsn o w r i n k s = record {
  not_later = s.not_later;
  earlier = s.earlier;
  current = s.current;
  within = λ a b. (let c = s.within a b in omega (arith, c));
  kept = s.kept;
  pending = s.pending;
}

-- of a store that does not run nothing is asked
still : (t : Txn) (lsn : ℕ) (opened was_forced running : Bool) (incarnation records forced n k : ℕ) → Since t lsn opened was_forced running incarnation records forced → Since t lsn opened was_forced false incarnation n k
still t lsn o w r i m f n k s = record {
  not_later = s.not_later;
  earlier = s.earlier;
  current = s.current;
  within = λ a b. absurd (false≢true b);
  kept = λ a b c. absurd (false≢true b);
  pending = λ a b c. absurd (false≢true b);
}

since_refused : (t : Txn) (lsn : ℕ) (newer : List Entry) (l : Ledger) (c : Call) (r : Refusal) → SinceIn t lsn newer l → SinceIn t lsn (Refused c r ∷ newer) (after (Refused c r) l)
since_refused t lsn newer l c DiskWrite s = still t lsn _ _ _ _ _ _ _ _ s
since_refused t lsn newer l c r s = s

since_after : (z : Size) (t : Txn) (lsn : ℕ) (newer : List Entry) (l : Ledger) (e : Entry) → Legal z l e → SinceIn t lsn newer l → SinceIn t lsn (e ∷ newer) (after e l)
since_after z t lsn newer l (Stepped u n k) a s = more t lsn _ _ _ _ _ _ s
since_after z t lsn newer l (Did u n op) a s = more t lsn _ _ _ _ _ _ s
since_after z t lsn newer l (Undid u n) a s = more t lsn _ _ _ _ _ _ s
since_after z t lsn newer l (Committed u n) a s = more t lsn _ _ _ _ _ _ s
since_after z t lsn newer l (Aborted u) a s = more t lsn _ _ _ _ _ _ s
since_after z t lsn newer l (Forced n) a s = record {
  not_later = s.not_later;
  earlier = s.earlier;
  current = s.current;
  within = s.within;
  kept = λ a b c. s.within a b;
  pending = λ a b c. absurd (true≢false c);
}
since_after z t lsn newer l (Checkpointed n) a s = record {
  not_later = s.not_later;
  earlier = s.earlier;
  current = s.current;
  within = λ a b. (let c = s.within a b in omega (arith, c));
  kept = λ a b c. (let d = s.within a b in omega (arith, d));
  pending = λ a b c. absurd (true≢false c);
}
since_after z t lsn newer l (Migrated pages n) a s = record {
  not_later = s.not_later;
  earlier = s.earlier;
  current = s.current;
  within = λ a b. absurd (false≢true b);
  kept = λ a b c. absurd (false≢true b);
  pending = λ a b c. absurd (true≢false c);
}
since_after z t lsn newer l (Grew pages records) a s = still t lsn _ _ _ _ _ _ _ _ s
since_after z t lsn newer l (Refused c r) a s = since_refused t lsn newer l c r s
since_after z t lsn newer l (Crash k n) a s = still t lsn _ _ _ _ _ _ _ _ s
since_after z t lsn newer l (Restarted i n) a s =
    let here : t.incarnation < i = (let b = s.not_later in let c : l.incarnation < i = a.later in omega (arith, b, c)) in
    record {
      not_later = omega (arith, here);
      earlier = λ _. here;
      current = λ b. absurd (true≢false b);
      within = λ b. absurd (true≢false b);
      kept = λ b. absurd (true≢false b);
      pending = λ b. absurd (true≢false b);
    }
since_after z t lsn newer l e a s = s

since : (z : Size) (t : Txn) (lsn : ℕ) (newer older : List Entry) → IsLegal z (newer ++ (Committed t lsn ∷ older)) → SinceIn t lsn newer (ledger (newer ++ (Committed t lsn ∷ older)))
since z t lsn [] older a =
    let l = ledger older in
    let i = committer z older t lsn a.1 a.0 in
    let n : lsn ≡ l.records + 1 = a.0.1 in
    let f = (placed z older a.1).forced in
    record {
      not_later = omega (arith, i);
      earlier = λ b. absurd (false≢true b);
      current = λ _. i;
      within = λ _ _. omega (arith, n);
      kept = λ _ _ b. absurd (false≢true b);
      pending = λ _ _ _. omega (arith, n, f);
    }
since z t lsn (e ∷ newer) older a = since_after (size_at z (newer ++ (Committed t lsn ∷ older))) t lsn newer (ledger (newer ++ (Committed t lsn ∷ older))) e (legal_there z (newer ++ (Committed t lsn ∷ older)) e a.0) (since z t lsn newer older a.1)

-- what is asked of a number, by what is so of it
given_is : (t : Txn) (lsn : ℕ) (opened was_forced : Bool) (incarnation records forced : ℕ) → Since t lsn opened was_forced true incarnation records forced → (nat_eq t.incarnation incarnation && not (nat_lt forced lsn)) ≡ (was_forced && not opened)
given_is t lsn true true i n k s = (let e = s.earlier refl in grind (arith, nat_tests, e))
given_is t lsn true false i n k s = (let e = s.earlier refl in grind (arith, nat_tests, e))
given_is t lsn false true i n k s = (let e = s.current refl in let f = s.kept refl refl refl in grind (arith, nat_tests, e, f))
given_is t lsn false false i n k s = (let e = s.current refl in let f = s.pending refl refl refl in grind (arith, nat_tests, e, f))

pub receipts_are_exact : (z : Size) → ReceiptsAreExact z
receipts_are_exact z newer older t lsn given a =
    let l = ledger (newer ++ (Committed t lsn ∷ older)) in
    let run : runs l.phase ≡ true = not-false (runs l.phase) a.0.0.0 in
    a.0.1 ∙ given_is t lsn _ _ l.incarnation l.records l.forced (subst (λ (b : Bool). Since t lsn (any_entry is_restart newer) (any_entry is_force newer) b l.incarnation l.records l.forced) run (since z t lsn newer older a.1))
