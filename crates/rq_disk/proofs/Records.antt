-- Whole records, one after the other.
use Rattle.std.proofs.Common.{◌<◌, ◌≡◌, ℕ, zero, suc, ◌+◌, ◌-◌, ◌*◌, ◌≤◌, min, List, [], ◌++◌, length, take, drop, refl, sym, ◌∙◌, ap, subst, arith, length-append, append_assoc}
use Rattle.std.proofs.lemmas.List.{take_all, drop_all, drop-drop, drop_at, length-take-le, length-drop, append-nil, take-append-drop, drop-take}
use Rattle.std.proofs.Math.Seq.{take-add}
use Rattle.byteorder.specs.Numbers.{big_from-append, big_from-take}
use Rattle.rq_disk.specs.Records.{record_size, HasRecord, AreRecords, torn_records}

-- a length field is the same whatever comes behind it
pub size-append : (a b : List ℕ) → 4 ≤ length a → record_size (a ++ b) ≡ record_size a
size-append a b le = ap (λ n. 4 + n) (big_from-append 4 a b le)

pub size-take : (m : ℕ) (a : List ℕ) → 4 ≤ m → record_size (take m a) ≡ record_size a
size-take m a le = ap (λ n. 4 + n) (big_from-take 0 4 m a (omega (arith, le)))

-- one record in front
pub one_more : (j : ℕ) (a more : List ℕ) → HasRecord a → AreRecords j more → AreRecords (suc j) (take (record_size a) a ++ more)
one_more j a more has are =
    let s = record_size a in
    let long : length (take s a) ≡ s = length-take-le s a has.1 in
    let same : record_size (take s a ++ more) ≡ s = size-append (take s a) more (omega (arith, long)) ∙ size-take s a (omega arith) in
    let total : length (take s a ++ more) ≡ s + length more = length-append (take s a) more ∙ ap (λ n. n + length more) long in (
      (omega (arith, total), omega (arith, total, same)),
      subst (AreRecords j) (sym (ap (λ n. drop n (take s a ++ more)) same ∙ drop_at (take s a) more s long)) are,
    )

pub records-append : (m n : ℕ) (a b : List ℕ) → AreRecords m a → AreRecords n b → AreRecords (m + n) (a ++ b)
records-append zero n a b is are =
    let same : n ≡ 0 + n = omega arith in
    subst (λ (k : ℕ). AreRecords k (a ++ b)) same (subst (λ (l : List ℕ). AreRecords n (l ++ b)) (sym is) are)
records-append (suc m) n a b is are =
    let s = record_size a in
    let same : suc (m + n) ≡ suc m + n = omega arith in
    let tail = records-append m n (drop s a) b is.1 are in
    let joined : take s a ++ (drop s a ++ b) ≡ a ++ b = sym (append_assoc (take s a) (drop s a) b) ∙ ap (λ l. l ++ b) (take-append-drop s a) in
    subst (λ (k : ℕ). AreRecords k (a ++ b)) same (subst (AreRecords (suc (m + n))) joined (one_more (m + n) a (drop s a ++ b) is.0 tail))

no_record : (n : ℕ) (b : List ℕ) → AreRecords n b → (HasRecord b → ⊥) → b ≡ []
no_record zero b are none = are
no_record (suc n) b are none = absurd (none are.0)

pub torn_nil : (keep torn : ℕ) → torn_records keep torn [] ≡ []
torn_nil zero torn = take_all (min torn (record_size [] - 1)) [] (omega arith)
torn_nil (suc keep) torn =
    let s = record_size [] in
    ap (λ (l : List ℕ). l ++ torn_records keep torn (drop s [])) (take_all s [] (omega arith))
    ∙ ap (torn_records keep torn) (drop_all s [] (omega arith)) ∙ torn_nil keep torn

-- the first c of whole records, where c is k or none is left, and some bytes of the one behind them
pub torn_is : (c n k e t torn : ℕ) (b : List ℕ) → AreRecords n b → e ≤ length b → AreRecords c (take e b) → c ≤ k
    → (c < k → HasRecord (drop e b) → ⊥) → take t (drop e b) ≡ take (min torn (record_size (drop e b) - 1)) (drop e b)
    → take (e + t) b ≡ torn_records k torn b
torn_is zero n zero e t torn b are within whole le last tail =
    let none : e ≡ 0 = omega (arith, length-take-le e b within, ap length whole) in
    let sum : e + t ≡ t = omega (arith, none) in
    ap (λ (i : ℕ). take i b) sum
    ∙ subst (λ (i : ℕ). take t (drop i b) ≡ take (min torn (record_size (drop i b) - 1)) (drop i b)) none tail
torn_is zero zero (suc k) e t torn b are within whole le last tail =
    ap (take (e + t)) are ∙ take_all (e + t) [] (omega arith) ∙ sym (torn_nil (suc k) torn)
    ∙ sym (ap (torn_records (suc k) torn) are)
torn_is zero (suc n) (suc k) e t torn b are within whole le last tail =
    let none : e ≡ 0 = omega (arith, length-take-le e b within, ap length whole) in
    absurd (last (omega arith) (subst (λ (i : ℕ). HasRecord (drop i b)) (sym none) are.0))
torn_is (suc c) zero k e t torn b are within whole le last tail =
    absurd (omega (arith, length-take-le e b within, whole.0.0, ap length are))
torn_is (suc c) (suc n) zero e t torn b are within whole le last tail = absurd (omega arith)
torn_is (suc c) (suc n) (suc k) e t torn b are within whole le last tail =
    let s = record_size b in
    let long : length (take e b) ≡ e = length-take-le e b within in
    let same : record_size (take e b) ≡ s = size-take e b (omega (arith, whole.0.0, long)) in
    let short : s ≤ e = omega (arith, whole.0.1, long, same) in
    let split : s + (e - s) ≡ e = omega (arith, short) in
    let sum : e + t ≡ s + ((e - s) + t) = omega (arith, short) in
    let rest : drop (record_size (take e b)) (take e b) ≡ take (e - s) (drop s b) =
    ap (λ i. drop i (take e b)) same ∙ ap (λ i. drop s (take i b)) (sym split) ∙ drop-take s (e - s) b in
    let behind : drop (e - s) (drop s b) ≡ drop e b = drop-drop (e - s) s b ∙ ap (λ i. drop i b) split in
    let more = torn_is c n k (e - s) t torn (drop s b) are.1 (omega (arith, length-drop s b, within))
    (subst (AreRecords c) rest whole.1) (omega arith)
    (λ lt has. last (omega (arith, lt)) (subst HasRecord behind has))
    (subst (λ (l : List ℕ). take t l ≡ take (min torn (record_size l - 1)) l) (sym behind) tail) in
    ap (λ i. take i b) sum ∙ take-add s ((e - s) + t) b ∙ ap (λ (l : List ℕ). take s b ++ l) more

-- where whole records are cut behind whole ones, whole ones are left, or none
pub none_behind : (c n e : ℕ) (b : List ℕ) → AreRecords n b → e ≤ length b → AreRecords c (take e b)
    → (HasRecord (drop e b) → ⊥) → drop e b ≡ []
none_behind zero n e b are within whole none =
    let zero_long : e ≡ 0 = omega (arith, length-take-le e b within, ap length whole) in
    ap (λ (i : ℕ). drop i b) zero_long ∙ no_record n b are (subst (λ (i : ℕ). HasRecord (drop i b) → ⊥) zero_long none)
none_behind (suc c) zero e b are within whole none =
    absurd (omega (arith, length-take-le e b within, whole.0.0, ap length are))
none_behind (suc c) (suc n) e b are within whole none =
    let s = record_size b in
    let long : length (take e b) ≡ e = length-take-le e b within in
    let same : record_size (take e b) ≡ s = size-take e b (omega (arith, whole.0.0, long)) in
    let short : s ≤ e = omega (arith, whole.0.1, long, same) in
    let split : s + (e - s) ≡ e = omega (arith, short) in
    let rest : drop (record_size (take e b)) (take e b) ≡ take (e - s) (drop s b) =
    ap (λ i. drop i (take e b)) same ∙ ap (λ i. drop s (take i b)) (sym split) ∙ drop-take s (e - s) b in
    let behind : drop (e - s) (drop s b) ≡ drop e b = drop-drop (e - s) s b ∙ ap (λ i. drop i b) split in
    sym behind ∙ none_behind c n (e - s) (drop s b) are.1 (omega (arith, length-drop s b, within))
    (subst (AreRecords c) rest whole.1) (λ has. none (subst HasRecord behind has))

-- one record more of a front
pub record_step : (c at : ℕ) (b : List ℕ) → at ≤ length b → AreRecords c (take at b) → HasRecord (drop at b) → AreRecords (c + 1) (take (at + record_size (drop at b)) b)
record_step c at b within are has =
    let s = record_size (drop at b) in
    let one : AreRecords 1 (take s (drop at b) ++ []) = one_more 0 (drop at b) [] has refl in
    let here : AreRecords 1 (take s (drop at b)) = subst (AreRecords 1) (append-nil (take s (drop at b))) one in
    subst (AreRecords (c + 1)) (sym (take-add at s b)) (records-append c 1 (take at b) (take s (drop at b)) are here)

-- each record has four bytes at least
pub records_long : (n : ℕ) (b : List ℕ) → AreRecords n b → 4 * n ≤ length b
records_long zero b are = omega arith
records_long (suc n) b are = let tail = records_long n (drop (record_size b) b) are.1 in omega (arith, tail, length-drop (record_size b) b, are.0.1)
