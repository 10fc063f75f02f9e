-- What stands of a log that a Base begins.
use Rattle.std.proofs.Common.{◌≡◌, ℕ, zero, suc, ◌+◌, ◌<◌, ◌≤◌, ◌⊎◌, inl, inr, true, false, List, [], ◌∷◌, ◌++◌, length, drop, refl, sym, ◌∙◌, ap, arith, length-append}
use Rattle.rq_model.specs.declared.record.Record.{Record}
use Rattle.rq_model.specs.declared.record.Record.TheVariants.{Base}
use Rattle.rq_model.specs.Incarnations.{ArePlain, Extends, is_plain}
use Rattle.rq_model.specs.Bases.{HasNoBase, IsMarked, base_lsn, earlier, is_base, standing, gone, marked, marks, with_next}

pub standing_plain : (r : Record) (log : List Record) → is_base r ≡ false → standing (r ∷ log) ≡ r ∷ standing log
standing_plain (Base many i) log e = absurd cc
standing_plain _ log e = refl

pub gone_plain : (r : Record) (log : List Record) → is_base r ≡ false → gone (r ∷ log) ≡ gone log
gone_plain (Base many i) log e = absurd cc
gone_plain _ log e = refl

pub next_plain : (r : Record) (log : List Record) → is_base r ≡ false → with_next r log ≡ r ∷ log
next_plain (Base many i) log e = absurd cc
next_plain _ log e = refl

one_long : (r : Record) (log : List Record) → length (standing log) + gone log ≡ length log → length (standing (r ∷ log)) + gone (r ∷ log) ≡ length (r ∷ log)
one_long (Base many i) log e = omega arith
one_long _ log e = omega (arith, e)

-- what stands and what is gone is all
pub length_standing : (log : List Record) → length (standing log) + gone log ≡ length log
length_standing [] = refl
length_standing (r ∷ log) = one_long r log (length_standing log)

-- what stands if the newest records are cut off, and the Base is not
module _ (k : ℕ) (log : List Record) where
  drop_one : (r : Record) → suc k + gone (r ∷ log) < length (r ∷ log) → (k + gone log < length log → standing (drop k log) ≡ drop k (standing log)) → standing (drop (suc k) (r ∷ log)) ≡ drop (suc k) (standing (r ∷ log))
  drop_one (Base many i) low e = absurd (omega (arith, low))
  drop_one _ low e = e (omega (arith, low))

pub drop_standing : (k : ℕ) (log : List Record) → k + gone log < length log → standing (drop k log) ≡ drop k (standing log)
drop_standing zero log low = refl
drop_standing (suc k) [] low = absurd (omega (arith, low))
drop_standing (suc k) (r ∷ log) low = drop_one k log r low (drop_standing k log)

again_one : (r : Record) (log : List Record) → standing (standing log) ≡ standing log → standing (standing (r ∷ log)) ≡ standing (r ∷ log)
again_one (Base many i) log e = refl
again_one r log e = ap (λ l. r ∷ l) e

-- all of it stands
pub standing_again : (log : List Record) → standing (standing log) ≡ standing log
standing_again [] = refl
standing_again (r ∷ log) = again_one r log (standing_again log)

few_one : (x : Record) (log : List Record) (n : ℕ) → length (standing log) ≤ n + 1 → length (standing (x ∷ log)) ≤ suc n + 1
few_one (Base many i) log n e = omega arith
few_one _ log n e = omega (arith, e)

few_stand : (newer older : List Record) (r : Record) → is_base r ≡ true → length (standing (newer ++ (r ∷ older))) ≤ length newer + 1
few_stand [] older (Base many i) e = omega arith
few_stand [] older _ e = absurd cc
few_stand (x ∷ newer) older r e = few_one x (newer ++ (r ∷ older)) (length newer) (few_stand newer older r e)

-- so a Base is the oldest of what stands
pub base_first : (newer older : List Record) (r : Record) → standing (newer ++ (r ∷ older)) ≡ newer ++ (r ∷ older) → is_base r ≡ true → older ≡ []
base_first newer [] r e is = refl
base_first newer (x ∷ older) r e is =
    let few = few_stand newer (x ∷ older) r is in
    let sum = length-append newer (r ∷ (x ∷ older)) in
    let same = ap length e in
    absurd (omega (arith, few, sum, same))

pub length_marks : (n : ℕ) → length (marks n) ≡ n
length_marks zero = refl
length_marks (suc n) = ap suc (length_marks n)

-- the next that is read stands behind what was read
pub next_stands : (r : Record) (log : List Record) → (is_base r ≡ false) ⊎ (log ≡ []) → standing (with_next r log) ≡ r ∷ standing log
next_stands (Base many i) log (inl e) = absurd cc
next_stands (Base many i) log (inr none) = ap (λ l. Base many i ∷ standing l) (sym none)
next_stands _ log e = refl

pub none_stand : (log : List Record) → standing log ≡ [] → length log ≡ 0
none_stand [] e = refl
none_stand (r ∷ log) e = absurd (some r log e)
  where
    some : (r : Record) (log : List Record) → standing (r ∷ log) ≡ [] → ⊥
    some (Base many i) log e = cc
    some _ log e = cc

gone_few : (r : Record) (log : List Record) → length (standing log) + gone log ≡ length log → gone (r ∷ log) < length (r ∷ log)
gone_few (Base many i) log e = omega arith
gone_few _ log e = omega (arith, e)

-- where there is a record, one stands
pub gone_less : (log : List Record) → 0 < length log → gone log < length log
gone_less [] some = absurd (omega (arith, some))
gone_less (r ∷ log) some = gone_few r log (length_standing log)

-- a log without one stands whole
pub all_stand : (log : List Record) → HasNoBase log → standing log ≡ log
all_stand [] plain = refl
all_stand (r ∷ log) plain = standing_plain r log plain.0 ∙ ap (λ l. r ∷ l) (all_stand log plain.1)

pub none_gone : (log : List Record) → HasNoBase log → gone log ≡ 0
none_gone [] plain = refl
none_gone (r ∷ log) plain = gone_plain r log plain.0 ∙ none_gone log plain.1

plain_one : (r : Record) (log : List Record) → HasNoBase (standing (r ∷ log)) → (HasNoBase (standing log) → HasNoBase log) → HasNoBase (r ∷ log)
plain_one (Base many i) log plain older = absurd (cc plain.0)
plain_one _ log plain older = (plain.0, older plain.1)

-- where none stands, there is none
pub none_stands : (log : List Record) → HasNoBase (standing log) → HasNoBase log
none_stands [] plain = tt
none_stands (r ∷ log) plain = plain_one r log plain (none_stands log)

pub plain_drop : (n : ℕ) (log : List Record) → HasNoBase log → HasNoBase (drop n log)
plain_drop zero log plain = plain
plain_drop (suc n) [] plain = tt
plain_drop (suc n) (r ∷ log) plain = plain_drop n log plain.1

-- a log that is read record by record is marked
pub next_marked : (r : Record) (log : List Record) → (is_base r ≡ false) ⊎ (log ≡ []) → IsMarked log → IsMarked (with_next r log)
next_marked (Base many i) log first marked = refl
next_marked _ log first marked = marked

base_stands : (many i : ℕ) (log : List Record) (q : Record) (other : List Record) → Base many i ∷ [] ≡ standing (q ∷ other) → log ≡ marks many → IsMarked (q ∷ other) → Base many i ∷ log ≡ q ∷ other
base_stands many i log (Base n j) other e marked as_well =
    let same : Base many i ≡ Base n j = cc in
    let count : many ≡ n = cc in
    ap (λ l. Base many i ∷ l) (marked ∙ ap marks count ∙ sym as_well) ∙ ap (λ r. r ∷ other) same
base_stands many i log q other e marked as_well = absurd (let bad : Base many i ∷ [] ≡ q ∷ standing other = e in cc bad)

-- and is known by what stands of it
pub one_marked : (a b : List Record) → IsMarked a → IsMarked b → standing a ≡ standing b → a ≡ b
one_marked [] [] marked as_well e = refl
one_marked [] (q ∷ b) marked as_well e = absurd (let none = none_stand (q ∷ b) (sym e) in omega (arith, none))
one_marked (r ∷ a) [] marked as_well e = absurd (let none = none_stand (r ∷ a) e in omega (arith, none))
one_marked (Base many i ∷ a) (q ∷ b) marked as_well e = base_stands many i a q b e marked as_well
one_marked (r ∷ a) (Base many i ∷ b) marked as_well e = sym (base_stands many i b r a (sym e) as_well marked)
one_marked (r ∷ a) (q ∷ b) marked as_well e =
    let same : r ≡ q = cc in
    let rest : standing a ≡ standing b = cc in
    ap (λ x. x ∷ a) same ∙ ap (λ l. q ∷ l) (one_marked a b marked as_well rest)

pub added_plain : (r : Record) → is_plain r ≡ true → is_base r ≡ false
added_plain (Base many i) plain = absurd cc
added_plain _ plain = refl

-- what a restart adds stands
pub added_stand : (more log : List Record) → ArePlain more → standing (more ++ log) ≡ more ++ standing log
added_stand [] log plain = refl
added_stand (r ∷ more) log plain = standing_plain r (more ++ log) (added_plain r plain.0) ∙ ap (λ l. r ∷ l) (added_stand more log plain.1)

-- ---- the newest Base's LSN

pub base_plain : (r : Record) (log : List Record) → is_base r ≡ false → base_lsn (r ∷ log) ≡ base_lsn log
base_plain (Base many i) log e = absurd cc
base_plain _ log e = refl

next_base : (r : Record) (log : List Record) → (base_lsn log ≡ 0) ⊎ (base_lsn log ≡ gone log + 1) → (base_lsn (r ∷ log) ≡ 0) ⊎ (base_lsn (r ∷ log) ≡ gone (r ∷ log) + 1)
next_base (Base many i) log e = inr refl
next_base _ log e = e

-- it stands behind all that is gone
pub base_behind : (log : List Record) → (base_lsn log ≡ 0) ⊎ (base_lsn log ≡ gone log + 1)
base_behind [] = inl refl
base_behind (r ∷ log) = next_base r log (base_behind log)

-- so it is among as many records as are more than these
pub base_among : (n : ℕ) (log : List Record) → gone log < n → base_lsn log ≤ n
base_among n log more = elim (base_behind log) [
  | inl none ↦ omega (arith, none)
  | inr one ↦ omega (arith, one, more)
]

within_one : (r : Record) (log : List Record) → base_lsn log ≤ length log → base_lsn (r ∷ log) ≤ length (r ∷ log)
within_one (Base many i) log e = omega arith
within_one _ log e = omega (arith, e)

pub base_within : (log : List Record) → base_lsn log ≤ length log
base_within [] = omega arith
base_within (r ∷ log) = within_one r log (base_within log)

-- the newest records are cut off, and it is not
module _ (k : ℕ) (log : List Record) where
  base_one : (r : Record) → base_lsn (r ∷ log) + suc k ≤ length (r ∷ log) → (base_lsn log + k ≤ length log → base_lsn (drop k log) ≡ base_lsn log) → base_lsn (drop (suc k) (r ∷ log)) ≡ base_lsn (r ∷ log)
  base_one (Base many i) low e = absurd (omega (arith, low))
  base_one _ low e = e (omega (arith, low))

pub drop_base : (k : ℕ) (log : List Record) → base_lsn log + k ≤ length log → base_lsn (drop k log) ≡ base_lsn log
drop_base zero log low = refl
drop_base (suc k) [] low = refl
drop_base (suc k) (r ∷ log) low = base_one k log r low (drop_base k log)

-- what a restart adds is none
pub added_base : (more log : List Record) → ArePlain more → base_lsn (more ++ log) ≡ base_lsn log
added_base [] log plain = refl
added_base (r ∷ more) log plain = base_plain r (more ++ log) (added_plain r plain.0) ∙ added_base more log plain.1

pub extends_base : (older log : List Record) → Extends older log → base_lsn log ≡ base_lsn older
extends_base older log e = ap base_lsn (sym e.1) ∙ added_base e.0 older e.2

-- a log without one
pub no_base : (log : List Record) → HasNoBase log → base_lsn log ≡ 0
no_base [] plain = refl
no_base (r ∷ log) plain = base_plain r log plain.0 ∙ no_base log plain.1

-- ---- a log as it is read

marked_one : (r : Record) (log : List Record) → standing (marked log) ≡ standing log → standing (marked (r ∷ log)) ≡ standing (r ∷ log)
marked_one (Base many i) log e = refl
marked_one r log e = ap (λ l. r ∷ l) e

pub marked_stands : (log : List Record) → standing (marked log) ≡ standing log
marked_stands [] = refl
marked_stands (r ∷ log) = marked_one r log (marked_stands log)

marks_one : (r : Record) (log : List Record) → IsMarked (marked log) → IsMarked (marked (r ∷ log))
marks_one (Base many i) log m = refl
marks_one _ log m = m

pub marked_is : (log : List Record) → IsMarked (marked log)
marked_is [] = tt
marked_is (r ∷ log) = marks_one r log (marked_is log)

-- what was read of a device is the log that stands there, so read
pub read_marked : (read log : List Record) → IsMarked read → standing read ≡ standing log → read ≡ marked log
read_marked read log m e = one_marked read (marked log) m (marked_is log) (e ∙ sym (marked_stands log))

pub next_same : (r : Record) (log : List Record) → is_base r ≡ false → marked (r ∷ log) ≡ r ∷ marked log
next_same r log plain = next_plain r (marked log) plain

-- a log without one is read whole
pub marked_alone : (log : List Record) → HasNoBase log → marked log ≡ log
marked_alone [] plain = refl
marked_alone (r ∷ log) plain = next_same r log plain.0 ∙ ap (λ l. r ∷ l) (marked_alone log plain.1)

earlier_plain : (r : Record) (log : List Record) → is_base r ≡ false → earlier (r ∷ log) ≡ earlier log
earlier_plain (Base many i) log plain = absurd (cc plain)
earlier_plain _ log plain = refl

-- records that a restart adds change neither
pub added_earlier : (more log : List Record) → ArePlain more → earlier (more ++ log) ≡ earlier log
added_earlier [] log plain = refl
added_earlier (r ∷ more) log plain = earlier_plain r (more ++ log) (added_plain r plain.0) ∙ added_earlier more log plain.1
