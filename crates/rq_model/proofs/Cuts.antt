-- What a cut of a log, and what a restart adds to one, make of its commit list and its incarnation.
use Rattle.std.proofs.Common.{◌≡◌, ℕ, ◌+◌, ◌<◌, ◌≤◌, suc, List, [], ◌∷◌, ◌++◌, length, take, refl, sym, ◌∙◌, ap, subst, true, false, inl, inr, arith, nat_lt, append_assoc}
use Rattle.std.proofs.lemmas.List.{length-append}
use Rattle.std.proofs.lemmas.Bool.Decides.{nat_tests}
use Rattle.rq_model.specs.declared.record.Record.{Record}
use Rattle.rq_model.specs.declared.record.Record.TheVariants.{PageOp, OpEnd, Commit, Restart, Base}
use Rattle.rq_model.specs.Vocabulary.{In}
use Rattle.rq_model.specs.Ledger.{Done, kept_in, Rising}
use Rattle.rq_model.specs.Commits.{committed_of, told}
use Rattle.rq_model.proofs.Rises.{all_kept, rising_append, rising_further}
use Rattle.rq_model.proofs.Told.{cut_is}
use Rattle.rq_model.specs.Incarnations.{incarnation_of, InOrder, ArePlain, Extends}

-- the LSNs of a log's commits rise to its length
pub rising_log : (log : List Record) → Rising 0 (committed_of log) (length log)
rising_log [] = omega arith
rising_log (Commit t ∷ log) = rising_append 0 (length log) (length (Commit t ∷ log)) (committed_of log) (record { txn = t; lsn = length log + 1; ops = told t log }) (rising_log log) (omega arith) (omega arith)
rising_log (_ ∷ log) = rising_further 0 (length log) (suc (length log)) (committed_of log) (omega arith) (rising_log log)

-- a commit beyond the first n records is not among theirs
pub kept_beyond : (n : ℕ) (c : List Done) (d : Done) → n < d.lsn → kept_in n (c ++ d ∷ []) ≡ kept_in n c
kept_beyond n [] d h = let y : nat_lt n d.lsn ≡ true = grind (arith, nat_tests) in rw y refl
kept_beyond n (x ∷ c) d h = let i = kept_beyond n c d h in rw i refl

beyond : (newer older : List Record) → length older < length (newer ++ older) + 1
beyond newer older = let e = length-append newer older in omega (arith, e)

-- as many commits stand in the first records of a log as these alone tell
pub kept_cut : (newer older : List Record) → kept_in (length older) (committed_of (newer ++ older)) ≡ length (committed_of older)
kept_cut [] older = all_kept 0 (length older) (length older) (committed_of older) (rising_log older) (omega arith)
kept_cut (Commit t ∷ newer) older =
    kept_beyond (length older) (committed_of (newer ++ older)) (record { txn = t; lsn = length (newer ++ older) + 1; ops = told t (newer ++ older) }) (beyond newer older) ∙ kept_cut newer older
kept_cut (PageOp t n page slot before after ∷ newer) older = kept_cut newer older
kept_cut (_ ∷ newer) older = kept_cut newer older

-- the commits that a cut leaves are those with an LSN at most the number of its records
pub cut_commits : (newer older : List Record) → take (kept_in (length older) (committed_of (newer ++ older))) (committed_of (newer ++ older)) ≡ committed_of older
cut_commits newer older = ap (λ n. take n (committed_of (newer ++ older))) (kept_cut newer older) ∙ cut_is newer older

pub plain_commits : (more older : List Record) → ArePlain more → committed_of (more ++ older) ≡ committed_of older
plain_commits [] older p = refl
plain_commits (Commit t ∷ more) older p = cc (p.0)
plain_commits (OpEnd t n level deed ∷ more) older p = cc (p.0)
plain_commits (_ ∷ more) older p = plain_commits more older p.1

pub plain_join : (xs ys : List Record) → ArePlain xs → ArePlain ys → ArePlain (xs ++ ys)
plain_join [] ys p q = q
plain_join (r ∷ xs) ys p q = (p.0, plain_join xs ys p.1 q)

pub extends_commits : (older log : List Record) → Extends older log → committed_of log ≡ committed_of older
extends_commits older log g = ap committed_of (sym g.1) ∙ plain_commits g.0 older g.2

pub extends_join : (a b c : List Record) → Extends a b → Extends b c → Extends a c
extends_join a b c g h = (h.0 ++ g.0, append_assoc h.0 g.0 a ∙ ap (λ l. h.0 ++ l) g.1 ∙ h.1, plain_join h.0 g.0 h.2 g.2)

-- incarnations are counted on, so a longer log is of no earlier one
pub incarnation_grows : (newer older : List Record) → InOrder (newer ++ older) → incarnation_of older ≤ incarnation_of (newer ++ older)
incarnation_grows [] older o = omega arith
incarnation_grows (Restart i ∷ newer) older o = let h = incarnation_grows newer older o.1 in let e : i ≡ incarnation_of (newer ++ older) + 1 = o.0 in omega (arith, h, e)
incarnation_grows (Base many i ∷ newer) older o = let h = incarnation_grows newer older o.1 in let e : i ≡ incarnation_of (newer ++ older) = o.0.1 in omega (arith, h, e)
incarnation_grows (_ ∷ newer) older o = incarnation_grows newer older o.1

pub extends_incarnation : (older log : List Record) → Extends older log → InOrder log → incarnation_of older ≤ incarnation_of log
extends_incarnation older log g o =
    let h = incarnation_grows g.0 older (subst InOrder (sym g.1) o) in
    let e = ap incarnation_of g.1 in
    omega (arith, h, e)

-- what comes later has a greater LSN
above : (low high : ℕ) (d : Done) (c : List Done) → Rising low c high → In d c → low < d.lsn
above low high d [] r j = absurd j
above low high d (x ∷ c) r j = elim j [ inl e ↦ (let q = ap (λ (z : Done). z.lsn) e in let g : low < x.lsn = r.0 in omega (arith, q, g)) | inr i ↦ (let g : low < x.lsn = r.0 in let h = above x.lsn high d c r.1 i in omega (arith, g, h)) ]

later : (low high : ℕ) (d x : Done) (c : List Done) → Rising low (x ∷ c) high → In d c → x.lsn < d.lsn
later low high d x c r i = above x.lsn high d c r.1 i

one_more : (k : ℕ) (x : Done) (c : List Done) → take (1 + k) (x ∷ c) ≡ x ∷ take k c
one_more k x c = let e : 1 + k ≡ suc k = omega arith in ap (λ n. take n (x ∷ c)) e

-- a commit with an LSN among the first n is among the commits of these
pub among : (low high n : ℕ) (c : List Done) (d : Done) → Rising low c high → In d c → d.lsn ≤ n → In d (take (kept_in n c) c)
among low high n [] d r j h = absurd j
among low high n (x ∷ c) d r j h = elim j [
  | inl e ↦ let y : nat_lt n x.lsn ≡ false = (let q = ap (λ (z : Done). z.lsn) e in grind (arith, nat_tests)) in rw y (subst (In d) (sym (one_more (kept_in n c) x c)) (inl e))
  | inr i ↦
      let b = later low high d x c r i in
      let y : nat_lt n x.lsn ≡ false = grind (arith, nat_tests) in
      rw y (subst (In d) (sym (one_more (kept_in n c) x c)) (inr (among x.lsn high n c d r.1 i h)))
]
