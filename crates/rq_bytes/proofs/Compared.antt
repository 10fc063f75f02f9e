-- Lists of bytes that are compared, some at a time.
use Rattle.std.specs.Bool.{OnTrue}
use Rattle.std.specs.Prelude.{◌&&◌, nat_eq}
use Rattle.std.proofs.Common.{◌≡◌, ℕ, ◌+◌, ◌-◌, ◌≤◌, List, ◌++◌, length, take, drop, refl, sym, ap, ◌∙◌, arith}
use Rattle.std.proofs.lemmas.Bool.{eqb-true, OnTrue_from, and_parts}
use Rattle.std.proofs.Math.Seq.{take-add, take-length}
use Rattle.std.proofs.lemmas.List.{take-append-drop, length-drop}
use Rattle.byteorder.specs.Endian.{big_number}
use Rattle.rq_bytes.specs.Number.{AreBytes, number}
use Rattle.rq_bytes.proofs.Strings.{AreBytes-drop, number_written}

all_rest : (at : ℕ) (xs : List ℕ) → take (length xs - at) (drop at xs) ≡ drop at xs
all_rest at xs = rw (sym (length-drop at xs)) (take-length (drop at xs))

-- the number in the next eight bytes is that of these bytes
next_number : (at : ℕ) (xs : List ℕ) → AreBytes xs → at + 8 ≤ length xs → number 8 (big_number 8 (take (length xs - at) (drop at xs))) ≡ take 8 (drop at xs)
next_number at xs f fits =
    ap (λ (l : List ℕ). number 8 (big_number 8 l)) (all_rest at xs) ∙ number_written 8 (drop at xs) (AreBytes-drop at xs f) (omega (arith, length-drop at xs))

module _ (at : ℕ) (xs ys : List ℕ) where
  -- the next bytes are those of the same number
  pub same_further : AreBytes xs → AreBytes ys → at + 8 ≤ length xs → at + 8 ≤ length ys → take at xs ≡ take at ys
      → big_number 8 (take (length xs - at) (drop at xs)) ≡ big_number 8 (take (length ys - at) (drop at ys)) → take (at + 8) xs ≡ take (at + 8) ys
  same_further f g fits long same e =
      let next : take 8 (drop at xs) ≡ take 8 (drop at ys) = sym (next_number at xs f fits) ∙ ap (number 8) e ∙ next_number at ys g long in
      take-add at 8 xs ∙ ap (λ (front : List ℕ). front ++ take 8 (drop at xs)) same ∙ ap (λ (back : List ℕ). take at ys ++ back) next ∙ sym (take-add at 8 ys)

  -- so are the next 32
  pub same_on : take at xs ≡ take at ys → take 32 (take (length xs - at) (drop at xs)) ≡ take 32 (take (length ys - at) (drop at ys)) → take (at + 32) xs ≡ take (at + 32) ys
  same_on same e =
      let next : take 32 (drop at xs) ≡ take 32 (drop at ys) = sym (ap (take 32) (all_rest at xs)) ∙ e ∙ ap (take 32) (all_rest at ys) in
      take-add at 32 xs ∙ ap (λ (front : List ℕ). front ++ take 32 (drop at xs)) same ∙ ap (λ (back : List ℕ). take at ys ++ back) next ∙ sym (take-add at 32 ys)

  pub same_whole : take at xs ≡ take at ys → take (length xs - at) (drop at xs) ≡ take (length ys - at) (drop at ys) → xs ≡ ys
  same_whole front back =
      let behind : drop at xs ≡ drop at ys = sym (all_rest at xs) ∙ back ∙ all_rest at ys in
      sym (take-append-drop at xs) ∙ ap (λ (l : List ℕ). l ++ drop at xs) front ∙ ap (λ (l : List ℕ). take at ys ++ l) behind ∙ take-append-drop at ys

-- ---- four words

abbrev word : ℕ → List ℕ → ℕ
word at xs = big_number 8 (take (length xs - at) (drop at xs))

module _ (xs ys : List ℕ) (f : AreBytes xs) (g : AreBytes ys) (long : 32 ≤ length xs) (wide : 32 ≤ length ys) where
  front_same : big_number 8 xs ≡ big_number 8 ys → word 8 xs ≡ word 8 ys → word 16 xs ≡ word 16 ys → word 24 xs ≡ word 24 ys → take 32 xs ≡ take 32 ys
  front_same a b c d =
      let first : word 0 xs ≡ word 0 ys = ap (big_number 8) (all_rest 0 xs) ∙ a ∙ sym (ap (big_number 8) (all_rest 0 ys)) in
      let one : take 8 xs ≡ take 8 ys = same_further 0 xs ys f g (omega arith) (omega arith) refl first in
      let two : take 16 xs ≡ take 16 ys = same_further 8 xs ys f g (omega arith) (omega arith) one b in
      let three : take 24 xs ≡ take 24 ys = same_further 16 xs ys f g (omega arith) (omega arith) two c in
      same_further 24 xs ys f g (omega arith) (omega arith) three d

  -- the numbers of four words tell 32 bytes
  pub same_front : (a b c d k l m n : ℕ) → a ≡ big_number 8 xs → k ≡ big_number 8 ys → b ≡ word 8 xs → l ≡ word 8 ys → c ≡ word 16 xs → m ≡ word 16 ys → d ≡ word 24 xs → n ≡ word 24 ys
      → OnTrue (((nat_eq a k && nat_eq b l) && nat_eq c m) && nat_eq d n) (take 32 xs ≡ take 32 ys)
  same_front a b c d k l m n ea ek eb el ec em ed en =
      OnTrue_from (((nat_eq a k && nat_eq b l) && nat_eq c m) && nat_eq d n) (take 32 xs ≡ take 32 ys) (λ all.
      let three = and_parts ((nat_eq a k && nat_eq b l) && nat_eq c m) (nat_eq d n) all in
      let two = and_parts (nat_eq a k && nat_eq b l) (nat_eq c m) three.0 in
      let first : a ≡ k = eqb-true a k (and_parts (nat_eq a k) (nat_eq b l) two.0).0 in
      let second : b ≡ l = eqb-true b l (and_parts (nat_eq a k) (nat_eq b l) two.0).1 in
      let third : c ≡ m = eqb-true c m two.1 in
      let fourth : d ≡ n = eqb-true d n three.1 in
      front_same (sym ea ∙ first ∙ ek) (sym eb ∙ second ∙ el) (sym ec ∙ third ∙ em) (sym ed ∙ fourth ∙ en))
