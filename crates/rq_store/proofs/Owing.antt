-- What is made and what is owed is the whole plan; addresses, and lists that are one longer.
use Rattle.std.proofs.Common.{◌≡◌, ℕ, ◌+◌, ◌/◌, ◌%◌, List, [], ◌∷◌, ◌++◌, length, take, drop, reverse, refl, sym, ◌∙◌, ap, arith}
use Rattle.std.proofs.lemmas.List.{reverse-append, take-append-drop}
use Rattle.rq_page.specs.Sizes.{address}
use Rattle.rq_views.specs.Log.{Write}
use Rattle.rq_views.specs.Legal.{onto}

pub address_is : (a : ℕ) → address (a / 16) (a % 16) ≡ a
address_is a = omega arith

pub onto_more : (owed ws us : List Write) → onto owed (ws ++ us) ≡ onto owed ws ++ us
onto_more [] ws us = refl
onto_more (w ∷ owed) ws us = onto_more owed (w ∷ ws) us

pub onto_nil : (owed : List Write) → onto owed [] ≡ reverse owed
onto_nil [] = refl
onto_nil (w ∷ owed) = onto_more owed [] (w ∷ []) ∙ ap (λ l. l ++ w ∷ []) (onto_nil owed) ∙ sym (reverse-append (w ∷ []) owed)

-- what is made and what is owed is the whole plan
pub onto_whole : (ws : List Write) (k : ℕ) → onto (drop k ws) (reverse (take k ws)) ≡ reverse ws
onto_whole ws k = onto_more (drop k ws) [] (reverse (take k ws)) ∙ ap (λ l. l ++ reverse (take k ws)) (onto_nil (drop k ws)) ∙ sym (reverse-append (take k ws) (drop k ws)) ∙ ap reverse (take-append-drop k ws)

pub one_longer : {X : Type 0} (x : X) (xs : List X) → length (x ∷ xs) ≡ length xs + 1
one_longer x xs = omega arith
