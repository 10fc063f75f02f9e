-- One level of several changes.
use Rattle.std.proofs.Common.{◌≡◌, ℕ, zero, suc, ◌+◌, ◌<◌, ◌≤◌, List, [], ◌∷◌, length, map, get_or, set, refl, sym, ap, ◌∙◌, subst, inl, inr, arith}
use Rattle.std.proofs.lemmas.Bool.{cases_eq, cases_lt}
use Rattle.std.proofs.lemmas.List.{map-set, get_or-map, length-map, length-set, get_or-set_same, get_or-set_other}
use Rattle.std.proofs.Math.Seq.{map-set_same}
use Rattle.rq_level.specs.LevelState.{LevelState}
use Rattle.rq_level.specs.Meaning.{AreTold, KeepsNothingAt, Meaning, meaning_of, kept_at, CountOn}

pub kept_here : {X : Type 0} (kept : X → LevelState) (xs : List X) (i : ℕ) (x : X) (old : List LevelState) → map kept xs ≡ old → x ≡ get_or xs i x → i < length old → kept_at old i ≡ kept x
kept_here kept xs i x old e at h = ap (λ o. kept_at o i) (sym e) ∙ get_or-map kept xs i x _ (omega (arith, ap length e, length-map xs kept)) ∙ ap kept (sym at)

-- the number of the level that stands at a place
pub number_here : {X : Type 0} (level : X → ℕ) (kept : X → LevelState) (xs : List X) (i : ℕ) (x : X) (old : List LevelState)
    → map kept xs ≡ old → x ≡ get_or xs i x → i < length old → ((j : ℕ) (d : X) → j < length xs → level (get_or xs j d) ≡ j) → level x ≡ i
number_here level kept xs i x old e at h inv = ap level at ∙ inv i x (omega (arith, ap length e, length-map xs kept))

-- the levels after one is changed
pub changed_to : {X : Type 0} (kept : X → LevelState) (xs : List X) (i : ℕ) (y : X) (old : List LevelState) → map kept xs ≡ old → map kept (set xs i y) ≡ set old i (kept y)
changed_to kept xs i y old e = map-set kept xs i y ∙ ap (λ o. set o i (kept y)) e

pub kept_there : {X : Type 0} (kept : X → LevelState) (xs : List X) (i : ℕ) (y : X) (old : List LevelState) → map kept xs ≡ old → i < length old → kept_at (map kept (set xs i y)) i ≡ kept y
kept_there kept xs i y old e h = ap (λ o. kept_at o i) (changed_to kept xs i y old e) ∙ get_or-set_same old i (kept y) _ h

pub one_changed : {X : Type 0} (kept : X → LevelState) (xs : List X) (i : ℕ) (y : X) (old : List LevelState)
    → map kept xs ≡ old → i < length old → map kept (set xs i y) ≡ set old i (kept_at (map kept (set xs i y)) i)
one_changed kept xs i y old e h = changed_to kept xs i y old e ∙ ap (set old i) (sym (kept_there kept xs i y old e h))

pub one_kept : {X : Type 0} (kept : X → LevelState) (xs : List X) (i : ℕ) (x y : X) (old : List LevelState) → map kept xs ≡ old → x ≡ get_or xs i x → i < length old → kept y ≡ kept x → map kept (set xs i y) ≡ old
one_kept kept xs i x y old e at h k = map-set_same kept xs i y x (k ∙ ap kept at) ∙ e

pub one_noted : {X : Type 0} (kept : X → LevelState) (level : X → ℕ) (xs : List X) (i : ℕ) (x y : X) (old : List LevelState) (f : Meaning → LevelState → LevelState)
    → map kept xs ≡ old → x ≡ get_or xs i x → i < length old → ((j : ℕ) (d : X) → j < length xs → level (get_or xs j d) ≡ j)
    → kept y ≡ f (meaning_of (level x)) (kept x) → map kept (set xs i y) ≡ set old i (f (meaning_of i) (kept_at old i))
one_noted kept level xs i x y old f e at h inv k =
    changed_to kept xs i y old e ∙ ap (set old i) (k ∙ ap (λ n. f (meaning_of n) (kept x)) (number_here level kept xs i x old e at h inv) ∙ ap (f (meaning_of i)) (sym (kept_here kept xs i x old e at h)))

pub by_index : {X : Type 0} (level : X → ℕ) (k : ℕ) (xs : List X) → CountOn k (map level xs) → (i : ℕ) (d : X) → i < length xs → level (get_or xs i d) ≡ k + i
by_index level k [] h i d l = absurd (omega arith)
by_index level k (x ∷ xs) h zero d l = h.0 ∙ (let e : k ≡ k + 0 = omega arith in e)
by_index level k (x ∷ xs) h (suc i) d l = by_index level (k + 1) xs h.1 i d (omega arith) ∙ (let e : k + 1 + i ≡ k + suc i = omega arith in e)

pub one_answered : {X : Type 0} (kept : X → LevelState) (level : X → ℕ) (xs : List X) (i : ℕ) (x y : X) (old : List LevelState) (P : Meaning → LevelState → LevelState → Type 0)
    → map kept xs ≡ old → x ≡ get_or xs i x → i < length old → ((j : ℕ) (d : X) → j < length xs → level (get_or xs j d) ≡ j)
    → P (meaning_of (level x)) (kept x) (kept y) → P (meaning_of i) (kept_at old i) (kept_at (map kept (set xs i y)) i)
one_answered kept level xs i x y old P e at h inv p =
    subst (P (meaning_of i) (kept_at old i)) (sym (kept_there kept xs i y old e h))
    (subst (λ (k : LevelState). P (meaning_of i) k (kept y)) (sym (kept_here kept xs i x old e at h))
    (subst (λ (n : ℕ). P (meaning_of n) (kept x) (kept y)) (number_here level kept xs i x old e at h inv) p))

-- ---- all are told, one after the other

-- those of smaller numbers were told of a slot, and the others not yet
pub record AreToldBelow (m a : ℕ) (bytes : List ℕ) (old now : List LevelState) : Type 0 where
  pub count : length now ≡ length old
  pub told : (i : ℕ) → i < m → kept_at now i ≡ (meaning_of i).note (kept_at old i) a bytes
  pub rest : (i : ℕ) → m ≤ i → kept_at now i ≡ kept_at old i

-- those that keep nothing of it count as told
pub none_told : (n a : ℕ) (bytes : List ℕ) (old : List LevelState) → ((i : ℕ) → i < n → KeepsNothingAt (meaning_of i) a) → AreToldBelow n a bytes old old
none_told n a bytes old idle = record { count = refl; told = λ i lt. sym (idle i lt (kept_at old i) bytes); rest = λ i le. refl }

pub one_told : (m a : ℕ) (bytes : List ℕ) (old mid now : List LevelState) → AreToldBelow m a bytes old mid → m < length old
    → now ≡ set mid m ((meaning_of m).note (kept_at mid m) a bytes) → AreToldBelow (m + 1) a bytes old now
one_told m a bytes old mid now h inside e =
    let k : LevelState = (meaning_of m).note (kept_at mid m) a bytes in
    let here : m < length mid = (let c = h.count in omega (arith, c, inside)) in
    record {
      count = ap length e ∙ length-set mid m k ∙ h.count;
      told = λ i lt. elim (cases_eq i m) [
        | inl same ↦
            ap (kept_at now) same ∙ ap (λ (l : List LevelState). kept_at l m) e ∙ get_or-set_same mid m k _ here
            ∙ ap (λ (x : LevelState). (meaning_of m).note x a bytes) (h.rest m (omega arith)) ∙ ap (λ n. (meaning_of n).note (kept_at old n) a bytes) (sym same)
        | inr other ↦ ap (λ (l : List LevelState). kept_at l i) e ∙ get_or-set_other mid m i k _ other ∙ h.told i (omega (arith, lt, other))
      ];
      rest = λ i le. ap (λ (l : List LevelState). kept_at l i) e ∙ get_or-set_other mid m i k _ (λ same. omega (arith, le, same)) ∙ h.rest i (omega (arith, le));
    }

pub all_told : (a n : ℕ) (bytes : List ℕ) (old now : List LevelState) → AreToldBelow n a bytes old now → ((i : ℕ) → n ≤ i → i < length old → KeepsNothingAt (meaning_of i) a) → AreTold a bytes old now
all_told a n bytes old now h idle = record {
  count = h.count;
  each = λ i lt. elim (cases_lt i n) [
    | inl less ↦ h.told i less
    | inr le ↦ h.rest i le ∙ sym (idle i le lt (kept_at old i) bytes)
  ];
}
