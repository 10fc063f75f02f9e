-- Spelled records in a row, and what of them is left.
use Rattle.std.specs.Prelude.{◌==◌, Bool, true, false, Option, Some, None}
use Rattle.std.proofs.lemmas.Bool.Decides.{nat_tests}
use Rattle.std.proofs.Common.{◌≡◌, ⊎_elim, ℕ, zero, suc, ◌+◌, ◌-◌, ◌<◌, ◌≤◌, inl, inr, List, [], ◌∷◌, ◌++◌, length, take, drop, refl, sym, ◌∙◌, ap, subst, arith, append_assoc}
use Rattle.std.proofs.lemmas.Bool.{cases_lt}
use Rattle.std.proofs.Math.Seq.{take-append-add}
use Rattle.std.proofs.lemmas.List.{take_all, drop_all, append-nil, take-append-drop, take-append-le, length-drop, length-take-le}
use Rattle.rq_model.specs.declared.record.Record.{Record}
use Rattle.rq_disk.specs.Device.{Appended}
use Rattle.rq_disk.specs.Records.{record_size, AreRecords}
use Rattle.rq_disk.proofs.Records.{records-append}
use Rattle.rq_record.specs.Spelling.{IsRecord, BeginsRecord, spelling}
use Rattle.rq_model.specs.declared.record.Record.TheVariants.{Restart}
use Rattle.rq_record.proofs.Whole.{framed_whole, long_spelling}
use Rattle.rq_model.specs.Bases.{gone}
use Rattle.rq_model.proofs.Bases.{drop_standing, length_standing}
use Rattle.rq_log.specs.Spelled.{spelled_all, AreAllSpelled, EndsWith, EndsWithAll, GoOnTo, HoldsTo, AreFirst, GoesOn, IsBeginning}

one_size : (r : Record) → IsRecord r → record_size (spelling r) ≡ length (spelling r)
one_size r is = framed_whole r is

pub one_record : (r : Record) → IsRecord r → AreRecords 1 (spelling r)
one_record r is =
    let b = spelling r in
    let size = one_size r is in (
      (omega (arith, long_spelling r is), omega (arith, size)),
      drop_all (record_size b) b (omega (arith, size)),
    )

pub spelled-append : (a b : List Record) → spelled_all (a ++ b) ≡ spelled_all b ++ spelled_all a
spelled-append [] b = sym (append-nil (spelled_all b))
spelled-append (r ∷ a) b = ap (λ (l : List ℕ). l ++ spelling r) (spelled-append a b) ∙ append_assoc (spelled_all b) (spelled_all a) (spelling r)

-- the older records and then the newer ones are all
pub spelled_whole : (count : ℕ) (rs : List Record) → spelled_all (drop count rs) ++ spelled_all (take count rs) ≡ spelled_all rs
spelled_whole count rs = sym (spelled-append (take count rs) (drop count rs)) ∙ ap spelled_all (take-append-drop count rs)

pub AreAllSpelled-take : (count : ℕ) (rs : List Record) → AreAllSpelled rs → AreAllSpelled (take count rs)
AreAllSpelled-take zero rs are = tt
AreAllSpelled-take (suc count) [] are = tt
AreAllSpelled-take (suc count) (r ∷ rs) are = (are.0, AreAllSpelled-take count rs are.1)

pub AreAllSpelled-drop : (count : ℕ) (rs : List Record) → AreAllSpelled rs → AreAllSpelled (drop count rs)
AreAllSpelled-drop zero rs are = are
AreAllSpelled-drop (suc count) [] are = tt
AreAllSpelled-drop (suc count) (r ∷ rs) are = AreAllSpelled-drop count rs are.1

pub spelled_records : (rs : List Record) → AreAllSpelled rs → AreRecords (length rs) (spelled_all rs)
spelled_records [] are = refl
spelled_records (r ∷ rs) are =
    let same : length rs + 1 ≡ suc (length rs) = omega arith in
    subst (λ (n : ℕ). AreRecords n (spelled_all rs ++ spelling r)) same (records-append (length rs) 1 (spelled_all rs) (spelling r) (spelled_records rs are.1) (one_record r are.0))

some_record : IsRecord (Restart 1)
some_record = (omega arith, omega arith)

-- no byte is a proper beginning of a record
pub nothing_short : BeginsRecord []
nothing_short =
    let long = long_spelling (Restart 1) some_record in
    (Restart 1, spelling (Restart 1), some_record, omega (arith, long), refl)

-- bytes that are these records end with them
pub ends_all : (rs : List Record) (bytes : List ℕ) → bytes ≡ spelled_all rs → EndsWithAll rs bytes
ends_all rs bytes e = ([], nothing_short, e ∙ sym (append-nil (spelled_all rs)))

-- and so do those that hold them
pub holds_ends : (torn_at : Option ℕ) (rs : List Record) (bytes : List ℕ) → HoldsTo torn_at rs bytes → EndsWithAll rs bytes
holds_ends None rs bytes is = ends_all rs bytes is
holds_ends (Some end) rs bytes is = is.0

pub holds_whole : (torn_at : Option ℕ) (rs : List Record) (bytes : List ℕ) → torn_at ≡ None → HoldsTo torn_at rs bytes → bytes ≡ spelled_all rs
holds_whole torn_at rs bytes whole is = subst (λ (t : Option ℕ). HoldsTo t rs bytes) whole is

-- all but the newest few of some records, and a torn end
pub record Older (rs : List Record) (bytes : List ℕ) : Type 0 where
  pub lost : ℕ
  pub few : lost ≤ length rs
  pub ends : EndsWithAll (drop lost rs) bytes

all_older : (rs : List Record) (bytes : List ℕ) → bytes ≡ spelled_all rs → Older rs bytes
all_older rs bytes e = record { lost = 0; few = omega arith; ends = ends_all rs bytes e }

-- the first few bytes of spelled_all records are all but the newest few of these and a torn end
pub front_spelled : (n : ℕ) (rs : List Record) → AreAllSpelled rs → Older rs (take n (spelled_all rs))
front_spelled n [] are = all_older [] (take n []) (take_all n [] (omega arith))
front_spelled n (r ∷ rs) are = elim (cases_lt (length (spelled_all rs)) n) [
  | inl beyond ↦
      let m : ℕ = n - length (spelled_all rs) in
      let e : n ≡ length (spelled_all rs) + m = omega (arith, beyond) in
      let cut : take n (spelled_all rs ++ spelling r) ≡ spelled_all rs ++ take m (spelling r) = ap (λ (k : ℕ). take k (spelled_all rs ++ spelling r)) e ∙ take-append-add (spelled_all rs) (spelling r) m in
      elim (cases_lt m (length (spelling r))) [
        | inl within ↦
            let left = length-drop m (spelling r) in
            record {
              lost = 1;
              few = omega arith;
              ends = (take m (spelling r), (r, drop m (spelling r), are.0, omega (arith, left, within), sym (take-append-drop m (spelling r))), cut);
            }
        | inr all ↦ all_older (r ∷ rs) (take n (spelled_all rs ++ spelling r)) (cut ∙ ap (λ (l : List ℕ). spelled_all rs ++ l) (take_all m (spelling r) all))
      ]
  | inr before ↦
      let f = front_spelled n rs are.1 in
      let few = f.few in
      record {
        lost = suc f.lost;
        few = omega (arith, few);
        ends = (f.ends.0, f.ends.1, take-append-le n (spelled_all rs) (spelling r) before ∙ f.ends.2);
      }
]

-- what spells older records goes on with the newer ones
pub go_on_newer : (count : ℕ) (rs : List Record) (bytes : List ℕ) → GoOnTo bytes (spelled_all (drop count rs)) → GoOnTo bytes (spelled_all rs)
go_on_newer count rs bytes on = (
  on.0 ++ spelled_all (take count rs),
  sym (spelled_whole count rs) ∙ ap (λ (l : List ℕ). l ++ spelled_all (take count rs)) on.1 ∙ append_assoc bytes on.0 (spelled_all (take count rs)),
)

pub go_on_all : (rs : List Record) (bytes : List ℕ) → bytes ≡ spelled_all rs → GoOnTo bytes (spelled_all rs)
go_on_all rs bytes e = ([], sym e ∙ sym (append-nil bytes))

-- and so do the first few bytes of the newer ones behind it
pub go_on_some : (count n : ℕ) (rs : List Record) (seen buffer c : List ℕ) → seen ≡ spelled_all (drop count rs) → buffer ≡ spelled_all (take count rs) → c ≡ seen ++ take n buffer → GoOnTo c (spelled_all rs)
go_on_some count n rs seen buffer c reads holds is = (
  drop n buffer,
  sym (spelled_whole count rs) ∙ ap (λ (l : List ℕ). l ++ spelled_all (take count rs)) (sym reads) ∙ ap (λ (l : List ℕ). seen ++ l) (sym holds ∙ sym (take-append-drop n buffer))
      ∙ sym (append_assoc seen (take n buffer) (drop n buffer)) ∙ ap (λ (l : List ℕ). l ++ drop n buffer) (sym is),
)

drop_joined : (m count : ℕ) (rs : List Record) → m ≤ count → drop m (take count rs) ++ drop count rs ≡ drop m rs
drop_joined zero count rs le = take-append-drop count rs
drop_joined (suc m) zero rs le = absurd (omega arith)
drop_joined (suc m) (suc count) [] le = refl
drop_joined (suc m) (suc count) (r ∷ rs) le = drop_joined m count rs (omega arith)

-- the older records and a few bytes of the newer ones behind them
newer_ends : (rs : List Record) (count : ℕ) (bytes : List ℕ) (f : Older (take count rs) bytes) → f.lost ≤ count → EndsWithAll (drop f.lost rs) (spelled_all (drop count rs) ++ bytes)
newer_ends rs count bytes f short = (
  f.ends.0,
  f.ends.1,
  ap (λ (l : List ℕ). spelled_all (drop count rs) ++ l) f.ends.2 ∙ sym (append_assoc (spelled_all (drop count rs)) (spelled_all (drop f.lost (take count rs))) f.ends.0)
      ∙ ap (λ (l : List ℕ). l ++ f.ends.0) (sym (spelled-append (drop f.lost (take count rs)) (drop count rs)) ∙ ap spelled_all (drop_joined f.lost count rs short)),
)

few_of : (rs : List Record) (kept count : ℕ) (bytes : List ℕ) (f : Older (take count rs) bytes) → count + kept ≤ length rs → f.lost ≤ count
few_of rs kept count bytes f le = let few = f.few in let size = length-take-le count rs (omega arith) in omega (arith, few, size)

pub some_newer : (rs : List Record) (kept count n : ℕ) → AreAllSpelled rs → count + kept ≤ length rs → AreFirst rs kept (spelled_all (drop count rs) ++ take n (spelled_all (take count rs)))
some_newer rs kept count n are le =
    let f = front_spelled n (take count rs) (AreAllSpelled-take count rs are) in
    let short = few_of rs kept count (take n (spelled_all (take count rs))) f le in
    (f.lost, omega (arith, short, le), newer_ends rs count (take n (spelled_all (take count rs))) f short, λ some. go_on_some count n rs (spelled_all (drop count rs)) (spelled_all (take count rs)) (spelled_all (drop count rs) ++ take n (spelled_all (take count rs))) refl refl refl)

-- what was read with a few bytes of the newer records behind it
pub goes_on : (rs : List Record) (kept count n : ℕ) (seen buffer c : List ℕ) → AreAllSpelled rs → count + kept ≤ length rs → seen ≡ spelled_all (drop count rs) → buffer ≡ spelled_all (take count rs) → c ≡ seen ++ take n buffer → GoesOn rs kept seen c
goes_on rs kept count n seen buffer c are le reads holds is =
    let f = front_spelled n (take count rs) (AreAllSpelled-take count rs are) in
    let short = few_of rs kept count (take n (spelled_all (take count rs))) f le in
    record {
      behind = count;
      within = le;
      reads = ends_all (drop count rs) seen reads;
      lost = f.lost;
      some = short;
      is = subst (EndsWithAll (drop f.lost rs)) (sym (is ∙ ap (λ (l : List ℕ). l ++ take n buffer) reads ∙ ap (λ (l : List ℕ). spelled_all (drop count rs) ++ take n l) holds)) (newer_ends rs count (take n (spelled_all (take count rs))) f short);
      from = inl (go_on_some count n rs seen buffer c reads holds is);
    }

-- what an append of the newer records may leave
pub appended : (rs : List Record) (kept count : ℕ) (seen buffer : List ℕ) (old new : List ℕ → Type 0) → AreAllSpelled rs → count + kept ≤ length rs → seen ≡ spelled_all (drop count rs) → buffer ≡ spelled_all (take count rs)
    → ((c : List ℕ) → old c → AreFirst rs kept c) → Appended seen buffer old new → (c : List ℕ) → new c → AreFirst rs kept c
appended rs kept count seen buffer old new are le reads holds before crash c now =
    ⊎_elim (before c)
    (λ added. subst (AreFirst rs kept) (sym (added.1 ∙ ap (λ (l : List ℕ). l ++ take added.0 buffer) reads ∙ ap (λ (l : List ℕ). spelled_all (drop count rs) ++ take added.0 l) holds)) (some_newer rs kept count added.0 are le))
    (crash c now)

-- a newer record behind them changes nothing of what is left
pub one_newer : (r : Record) (rs : List Record) (kept : ℕ) (c : List ℕ) → AreFirst rs kept c → AreFirst (r ∷ rs) kept c
one_newer r rs kept c is = (suc is.0, omega (arith, is.1), is.2, λ some. go_on_newer 1 (r ∷ rs) c (is.3 some))

pub all_of : (rs : List Record) (kept : ℕ) (c : List ℕ) → kept ≤ length rs → c ≡ spelled_all rs → AreFirst rs kept c
all_of rs kept c le e = (0, omega (arith, le), ends_all rs c e, λ some. go_on_all rs c e)

-- what has no bytes to hand over is all handed over
pub nothing_newer : (count : ℕ) (rs : List Record) (seen buffer : List ℕ) → seen ≡ spelled_all (drop count rs) → buffer ≡ spelled_all (take count rs) → length buffer ≡ 0 → seen ≡ spelled_all rs
nothing_newer count rs seen [] reads holds none = reads ∙ sym (append-nil (spelled_all (drop count rs))) ∙ ap (λ (l : List ℕ). spelled_all (drop count rs) ++ l) holds ∙ spelled_whole count rs
nothing_newer count rs seen (b ∷ buffer) reads holds none = absurd (omega arith)

-- what a test for no bytes tells
pub is_none : (n : ℕ) (test : Bool) → test ≡ (n == 0) → test ≡ true → n ≡ 0
is_none n test is holds = grind (arith, nat_tests)

pub is_some : (n : ℕ) (test : Bool) → test ≡ (n == 0) → test ≡ false → n ≡ 0 → ⊥
is_some n test is fails none = grind (arith, nat_tests)

-- of a log whose Base is forced: the newest few that are not lack, and a torn end stands behind the others
pub first_of_log : (log : List Record) (forced : ℕ) (bytes : List ℕ) → gone log < forced → IsBeginning log forced bytes → (lost : ℕ) × (lost + forced ≤ length log) × EndsWith (drop lost log) bytes
first_of_log log forced bytes based b =
    let all = length_standing log in
    let within : b.0 + forced ≤ length log = (let le = b.1 in omega (arith, le, all, based)) in
    (b.0, within, subst (λ (l : List Record). EndsWithAll l bytes) (sym (drop_standing b.0 log (omega (arith, within, based)))) b.2)
