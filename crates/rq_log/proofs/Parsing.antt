-- Bytes are the spelling of one log at most, and what spells a log has no damage behind its first records.
use Rattle.std.proofs.Common.{◌≡◌, ◌<◌, List, ℕ, true, [], ◌∷◌, ◌++◌, length, reverse, refl, sym, ◌∙◌, ap, subst, arith, append_assoc, length-append}
use Rattle.std.proofs.lemmas.List.{append-nil, nil_from_length, reverse-append, reverse-reverse}
use Rattle.rq_model.specs.declared.record.Record.{Record}
use Rattle.rq_record.specs.Spelling.{IsRecord, BeginsRecord, spelling}
use Rattle.rq_record.proofs.Whole.{one_spelling}
use Rattle.rq_model.specs.Bases.{HasNoBase, IsMarked, is_base, standing}
use Rattle.rq_model.proofs.Bases.{all_stand, base_first, none_stand, none_stands, one_marked, standing_again}
use Rattle.rq_log.specs.Spelled.{spelled_all, AreSpelled, EndsWith, AreAllSpelled, EndsWithAll}
use Rattle.rq_log.specs.Reading.{IsDamagedBehind}

-- the spellings, the first record's first
abbrev in_row : List Record → List ℕ
in_row [] = []
in_row (r ∷ rs) = spelling r ++ in_row rs

in_row-append : (a b : List Record) → in_row (a ++ b) ≡ in_row a ++ in_row b
in_row-append [] b = refl
in_row-append (r ∷ a) b = ap (λ l. spelling r ++ l) (in_row-append a b) ∙ sym (append_assoc (spelling r) (in_row a) (in_row b))

spelled_row : (log : List Record) → spelled_all log ≡ in_row (reverse log)
spelled_row [] = refl
spelled_row (r ∷ log) =
    ap (λ l. l ++ spelling r) (spelled_row log) ∙ ap (λ l. in_row (reverse log) ++ l) (sym (append-nil (spelling r)))
    ∙ sym (in_row-append (reverse log) (r ∷ [])) ∙ ap in_row (sym (reverse-append (r ∷ []) log))

AreAllSpelled-append : (a b : List Record) → AreAllSpelled a → AreAllSpelled b → AreAllSpelled (a ++ b)
AreAllSpelled-append [] b h k = k
AreAllSpelled-append (r ∷ a) b h k = (h.0, AreAllSpelled-append a b h.1 k)

AreAllSpelled-reverse : (log : List Record) → AreAllSpelled log → AreAllSpelled (reverse log)
AreAllSpelled-reverse [] h = tt
AreAllSpelled-reverse (r ∷ log) h = subst AreAllSpelled (sym (reverse-append (r ∷ []) log)) (AreAllSpelled-append (reverse log) (r ∷ []) (AreAllSpelled-reverse log h.1) (h.0, tt))

-- no record is a proper beginning of one
pub no_end : (r : Record) (end more : List ℕ) → IsRecord r → BeginsRecord end → end ≡ spelling r ++ more → ⊥
no_end r end more is b e =
    let one = one_spelling b.0 r [] (more ++ b.1) b.2 is (append-nil (spelling b.0) ∙ b.4 ∙ ap (λ l. l ++ b.1) e ∙ append_assoc (spelling r) more b.1) in
    let some : 0 < length b.1 = b.3 in
    let none = ap length one.1 in
    let sum = length-append more b.1 in
    omega (arith, some, none, sum)

-- what is behind some of the records is the others, with what they end with
pub record Rest (xs ys : List Record) (end rest : List ℕ) : Type 0 where
  pub others : List Record
  pub whole : xs ≡ ys ++ others
  pub are : AreAllSpelled others
  pub is : rest ≡ in_row others ++ end

parsed : (xs ys : List Record) (end rest : List ℕ) → AreAllSpelled xs → AreAllSpelled ys → BeginsRecord end → in_row xs ++ end ≡ in_row ys ++ rest → Rest xs ys end rest
parsed xs [] end rest h k short e = record { others = xs; whole = refl; are = h; is = sym e }
parsed [] (b ∷ ys) end rest h k short e = absurd (no_end b end (in_row ys ++ rest) k.0 short (e ∙ append_assoc (spelling b) (in_row ys) rest))
parsed (a ∷ xs) (b ∷ ys) end rest h k short e =
    let p = one_spelling a b (in_row xs ++ end) (in_row ys ++ rest) h.0 k.0 (sym (append_assoc (spelling a) (in_row xs) end) ∙ e ∙ append_assoc (spelling b) (in_row ys) rest) in
    let q : Rest xs ys end rest = parsed xs ys end rest h.1 k.1 short p.1 in
    record { others = q.others; whole = ap (λ r. r ∷ xs) p.0 ∙ ap (λ l. b ∷ l) q.whole; are = q.are; is = q.is }

-- bytes that go on behind spelled_all records: the others
pub rest_of : (a b : List Record) (bytes rest : List ℕ) → AreAllSpelled a → AreAllSpelled b → (ends : EndsWithAll a bytes) → bytes ≡ spelled_all b ++ rest → Rest (reverse a) (reverse b) ends.0 rest
rest_of a b bytes rest h k ends e =
    parsed (reverse a) (reverse b) ends.0 rest (AreAllSpelled-reverse a h) (AreAllSpelled-reverse b k) ends.1
    (ap (λ l. l ++ ends.0) (sym (spelled_row a)) ∙ sym ends.2 ∙ e ∙ ap (λ l. l ++ rest) (spelled_row b))

-- one log at most, with whatever end
pub one_log : (a b : List Record) (bytes : List ℕ) → AreAllSpelled a → AreAllSpelled b → EndsWithAll a bytes → EndsWithAll b bytes → a ≡ b
one_log a b bytes h k x y = by r.others r.is r.are r.whole where
  r : Rest (reverse a) (reverse b) x.0 y.0
  r = rest_of a b bytes y.0 h k x y.2

  by : (others : List Record) → y.0 ≡ in_row others ++ x.0 → AreAllSpelled others → reverse a ≡ reverse b ++ others → a ≡ b
  by [] e are w = sym (reverse-reverse a) ∙ ap reverse (w ∙ append-nil (reverse b)) ∙ reverse-reverse b
  by (o ∷ others) e are w = absurd (no_end o y.0 (in_row others ++ x.0) are.0 y.1 (e ∙ append_assoc (spelling o) (in_row others) x.0))

-- the records behind some of what stands are no Base
not_first : (a b others : List Record) (o : Record) → standing a ≡ a → reverse a ≡ reverse b ++ (o ∷ others) → is_base o ≡ true → b ≡ []
not_first a b others o stand e is =
    let whole : a ≡ reverse others ++ (o ∷ b) =
    sym (reverse-reverse a) ∙ ap reverse e ∙ reverse-append (reverse b) (o ∷ others) ∙ ap (λ l. reverse (o ∷ others) ++ l) (reverse-reverse b) ∙ ap (λ l. l ++ b) (reverse-append (o ∷ []) others) ∙ append_assoc (reverse others) (o ∷ []) b in
    base_first (reverse others) b o (subst (λ l. standing l ≡ l) whole stand) is

-- and no damage
pub no_damage : (a b : List Record) (bytes : List ℕ) → AreSpelled a → AreSpelled b → EndsWith a bytes → IsDamagedBehind b bytes → ⊥
no_damage a b bytes h k x d = by r.others r.is r.are r.whole where
  r : Rest (reverse (standing a)) (reverse (standing b)) x.0 d.rest
  r = rest_of (standing a) (standing b) bytes d.rest h k x d.is

  by : (others : List Record) → d.rest ≡ in_row others ++ x.0 → AreAllSpelled others → reverse (standing a) ≡ reverse (standing b) ++ others → ⊥
  by [] e are w = d.no_beginning (subst BeginsRecord (sym e) x.1)
  by (o ∷ others) e are w =
      let bad = d.bad (o, in_row others ++ x.0, are.0, e ∙ append_assoc (spelling o) (in_row others) x.0) in
      bad.1 (nil_from_length b (none_stand b (not_first (standing a) (standing b) others o (standing_again a) w bad.0)))

-- of logs without a Base
pub told_all : (log : List Record) → HasNoBase log → AreSpelled log → AreAllSpelled log
told_all log plain told = subst AreAllSpelled (all_stand log plain) told

pub one_based : (a b : List Record) (bytes : List ℕ) → HasNoBase b → AreSpelled a → AreSpelled b → EndsWith a bytes → EndsWith b bytes → a ≡ b
one_based a b bytes plain h k x y =
    let same : standing a ≡ b = one_log (standing a) (standing b) bytes h k x y ∙ all_stand b plain in
    sym (all_stand a (none_stands a (subst HasNoBase (sym same) plain))) ∙ same

-- what was read of a device is known by its bytes
pub one_read : (a b : List Record) (bytes : List ℕ) → AreSpelled a → IsMarked a → AreSpelled b → IsMarked b → EndsWith a bytes → EndsWith b bytes → a ≡ b
one_read a b bytes h marked k as_well x y = one_marked a b marked as_well (one_log (standing a) (standing b) bytes h k x y)
