-- Texts that are joined piece by piece.
use Rattle.std.proofs.Common.{◌≡◌, ℕ, ◌+◌, ◌<◌, List, [], ◌∷◌, ◌++◌, length, get_or, take, codes, sym, ◌∙◌, ap, append_assoc}
use Rattle.std.proofs.lemmas.List.{append-nil, take_more}
use Rattle.std.proofs.lemmas.List.Concat.{flat_map-append}
use Rattle.rq_inspect.specs.Reports.{each}

pub ruleset texts = (append_assoc)

-- one more behind a blank
pub each_more : {X : Type 0} (text : X → List ℕ) (xs : List X) (i : ℕ) (d : X) (start out new : List ℕ) → i < length xs
    → out ≡ start ++ each text (take i xs) → new ≡ out ++ (codes " " ++ text (get_or xs i d)) → new ≡ start ++ each text (take (i + 1) xs)
each_more text xs i d start out new lt h m =
    let x = get_or xs i d in
    let more : each text (take (i + 1) xs) ≡ each text (take i xs) ++ (codes " " ++ text x) =
    ap (each text) (take_more xs i d lt) ∙ flat_map-append (λ y. codes " " ++ text y) (take i xs) (x ∷ [])
    ∙ ap (λ l. each text (take i xs) ++ l) (append-nil (codes " " ++ text x)) in
    m ∙ ap (λ l. l ++ (codes " " ++ text x)) h ∙ append_assoc start (each text (take i xs)) (codes " " ++ text x) ∙ ap (λ l. start ++ l) (sym more)

-- a line of names: its front, the names, its end
pub names_written : (o a b d front names : List ℕ) → a ≡ o ++ front → b ≡ a ++ names → d ≡ b ++ codes "\n" → d ≡ o ++ (front ++ (names ++ codes "\n"))
names_written o a b d front names h k m =
    m ∙ ap (λ l. l ++ codes "\n") (k ∙ ap (λ l. l ++ names) h) ∙ append_assoc (o ++ front) names (codes "\n")
    ∙ append_assoc o front (names ++ codes "\n")

-- four lines
pub lines_written : (o a b c d first second third fourth : List ℕ) → a ≡ o ++ first → b ≡ a ++ second → c ≡ b ++ third → d ≡ c ++ fourth
    → d ≡ o ++ (first ++ (second ++ (third ++ fourth)))
lines_written o a b c d first second third fourth h k m n =
    n ∙ ap (λ l. l ++ fourth) (m ∙ ap (λ l. l ++ third) (k ∙ ap (λ l. l ++ second) h))
    ∙ append_assoc ((o ++ first) ++ second) third fourth ∙ append_assoc (o ++ first) second (third ++ fourth)
    ∙ append_assoc o first (second ++ (third ++ fourth))
