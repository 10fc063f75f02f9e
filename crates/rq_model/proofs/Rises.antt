-- LSNs of commits rise along the commit list, and how many stand within a beginning of the log.
use Rattle.std.proofs.Common.{◌≡◌, ℕ, suc, ◌+◌, ◌<◌, ◌≤◌, List, [], ◌∷◌, ◌++◌, length, take, refl, ◌∙◌, true, false, inl, inr, arith, nat_lt}
use Rattle.std.proofs.lemmas.Bool.{cases_Bool}
use Rattle.std.proofs.lemmas.Bool.Decides.{nat_tests}
use Rattle.std.proofs.lemmas.List.{length-take-le}
use Rattle.rq_model.specs.Ledger.{Done, Rising, kept_in}

pub kept_within : (n : ℕ) (c : List Done) → kept_in n c ≤ length c
kept_within n [] = omega arith
kept_within n (d ∷ c) = let h = kept_within n c in elim (cases_Bool (nat_lt n d.lsn)) [ inl y ↦ rw y (omega arith) | inr y ↦ rw y (omega arith) ]

pub kept_less : (m n : ℕ) (c : List Done) → m ≤ n → kept_in m c ≤ kept_in n c
kept_less m n [] h = omega arith
kept_less m n (d ∷ c) h =
    let i = kept_less m n c h in
    elim (cases_Bool (nat_lt n d.lsn)) [
      | inl y ↦ let x : nat_lt m d.lsn ≡ true = grind (arith, nat_tests) in rw (x, y) (omega arith)
      | inr y ↦ elim (cases_Bool (nat_lt m d.lsn)) [ inl x ↦ rw (x, y) (omega arith) | inr x ↦ rw (x, y) (omega arith) ]
    ]

pub rising_within : (low high : ℕ) (c : List Done) → Rising low c high → low ≤ high
rising_within low high [] r = r
rising_within low high (d ∷ c) r = let h = rising_within d.lsn high c r.1 in omega (arith, r.0)

pub rising_further : (low high more : ℕ) (c : List Done) → high ≤ more → Rising low c high → Rising low c more
rising_further low high more [] h r = omega (arith, r)
rising_further low high more (d ∷ c) h r = (r.0, rising_further d.lsn high more c h r.1)

pub rising_append : (low high more : ℕ) (c : List Done) (d : Done) → Rising low c high → high < d.lsn → d.lsn ≤ more → Rising low (c ++ d ∷ []) more
rising_append low high more [] d r g h = (omega (arith, r), h)
rising_append low high more (x ∷ c) d r g h = (r.0, rising_append x.lsn high more c d r.1 g h)

pub all_kept : (low high n : ℕ) (c : List Done) → Rising low c high → high ≤ n → kept_in n c ≡ length c
all_kept low high n [] r h = refl
all_kept low high n (d ∷ c) r h =
    let i = all_kept d.lsn high n c r.1 h in
    let b = rising_within d.lsn high c r.1 in
    let y : nat_lt n d.lsn ≡ false = grind (arith, nat_tests) in
    rw (y, i) (omega arith)

pub none_kept : (low high n : ℕ) (c : List Done) → Rising low c high → n ≤ low → kept_in n c ≡ 0
none_kept low high n [] r h = refl
none_kept low high n (d ∷ c) r h =
    let g : low < d.lsn = r.0 in
    let i = none_kept d.lsn high n c r.1 (omega arith) in
    let y : nat_lt n d.lsn ≡ true = grind (arith, nat_tests) in
    rw (y, i) refl

pub rising_cut : (low high n : ℕ) (c : List Done) → Rising low c high → low ≤ n → Rising low (take (kept_in n c) c) n
rising_cut low high n [] r h = h
rising_cut low high n (d ∷ c) r h =
    let g : low < d.lsn = r.0 in
    elim (cases_Bool (nat_lt n d.lsn)) [
      | inl y ↦
          let l : n < d.lsn = grind (arith, nat_tests) in
          rw (y, none_kept d.lsn high n c r.1 (omega arith)) h
      | inr y ↦
          let l : d.lsn ≤ n = grind (arith, nat_tests) in
          let e : 1 + kept_in n c ≡ suc (kept_in n c) = omega arith in
          rw (y, e) (g, rising_cut d.lsn high n c r.1 l)
    ]

pub kept_cut : (high n : ℕ) (c : List Done) → Rising 0 c high → kept_in n (take (kept_in n c) c) ≡ kept_in n c
kept_cut high n c r =
    let k = kept_within n c in
    all_kept 0 n n (take (kept_in n c) c) (rising_cut 0 high n c r (omega arith)) (omega arith) ∙ length-take-le (kept_in n c) c k
