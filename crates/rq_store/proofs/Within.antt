-- Every commit of a log stands in it.
use Rattle.std.proofs.Common.{◌≡◌, ℕ, ◌+◌, ◌≤◌, List, [], ◌∷◌, ◌++◌, length, refl, false, nat_lt, arith}
use Rattle.std.proofs.lemmas.Bool.{le-ltb}
use Rattle.std.proofs.lemmas.List.{length-append}
use Rattle.rq_model.specs.declared.record.Record.{Record}
use Rattle.rq_model.specs.declared.record.Record.TheVariants as records
use Rattle.rq_model.specs.Ledger.{Done, after, kept_in}
use Rattle.rq_model.specs.Commits.{committed_of, told}

kept_last : (n : ℕ) (c : List Done) (d : Done) → nat_lt n d.lsn ≡ false → kept_in n (c ++ d ∷ []) ≡ kept_in n c + 1
kept_last n [] d e = rw e refl
kept_last n (x ∷ c) d e = let h = kept_last n c d e in omega (arith, h)

-- every commit stands in the log
pub all_within : (log : List Record) (n : ℕ) → length log ≤ n → kept_in n (committed_of log) ≡ length (committed_of log)
all_within [] n h = refl
all_within (records.Commit t ∷ log) n h =
    let d : Done = record { txn = t; lsn = length log + 1; ops = told t log } in
    let a = kept_last n (committed_of log) d (le-ltb n (length log + 1) (omega arith)) in
    let b = all_within log n (omega arith) in
    let c = length-append (committed_of log) (d ∷ []) in
    omega (arith, a, b, c)
all_within (records.PageOp t m page slot before after ∷ log) n h = all_within log n (omega arith)
all_within (_ ∷ log) n h = all_within log n (omega arith)
