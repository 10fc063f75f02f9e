-- Walks along chains of cells.
use Rattle.std.proofs.Common.{◌≡◌, ℕ, zero, suc, ◌+◌, ◌-◌, ◌<◌, ◌≤◌, List, [], ◌∷◌, ◌++◌, length, map, take, refl, sym, ◌∙◌, ap, append_assoc, arith, Some, None}
use Rattle.std.proofs.lemmas.List.{append-nil, length-append}
use Rattle.rq_model.specs.declared.message.Message.{Message}
use Rattle.rq_page.specs.declared.cell.Cell.{Cell}
use Rattle.rq_views.specs.Chain.{Cells, Node, Linked, first, message}
use Rattle.rq_views.specs.Committed.{message_of}
use Rattle.rq_content.specs.Read.{met, message_in, follow}

pub met_none : (m : Cells) (s at n : ℕ) → m at ≡ None → met m s at n ≡ []
met_none m s at zero e = refl
met_none m s at (suc n) e = rw e refl

met_more : (m : Cells) (s at n : ℕ) (c : Cell) → m at ≡ Some c → met m s at (suc n) ≡ message_in s c ∷ met m s c.next n
met_more m s at n c e = ap (λ o. follow s o (λ a. met m s a n)) e

-- one more cell is met
pub walk_step : (m : Cells) (s at i n : ℕ) (c : Cell) (xs ys all : List Message) → m at ≡ Some c → i < n → xs ++ met m s at (n - i) ≡ all → ys ≡ xs ++ message_in s c ∷ [] → ys ++ met m s c.next (n - (i + 1)) ≡ all
walk_step m s at i n c xs ys all e lt h is =
    let one : n - i ≡ suc (n - (i + 1)) = omega arith in
    let here : met m s at (n - i) ≡ message_in s c ∷ met m s c.next (n - (i + 1)) = ap (met m s at) one ∙ met_more m s at (n - (i + 1)) c e in
    ap (λ l. l ++ met m s c.next (n - (i + 1))) is ∙ append_assoc xs (message_in s c ∷ []) (met m s c.next (n - (i + 1))) ∙ ap (λ l. xs ++ l) (sym here) ∙ h

-- where no cell stands, fewer were met
pub walk_short : (m : Cells) (s at head i n : ℕ) (xs ys : List Message) → m at ≡ None → i < n → xs ++ met m s at (n - i) ≡ ys ++ met m s head n → length xs ≡ length ys + i → length (met m s head n) < n
walk_short m s at head i n xs ys e lt h k =
    let none : xs ≡ ys ++ met m s head n = sym (append-nil xs) ∙ ap (λ l. xs ++ l) (sym (met_none m s at (n - i) e)) ∙ h in
    let many : length xs ≡ length ys + length (met m s head n) = ap length none ∙ length-append ys (met m s head n) in
    omega (arith, many, k, lt)

pub linked_over : (m k : Cells) → ((a : ℕ) → m a ≡ k a) → (s p q : ℕ) (ns : List Node) (z : ℕ) → Linked k s p q ns z → Linked m s p q ns z
linked_over m k e s p q [] z h = tt
linked_over m k e s p q (n ∷ ns) z h = (h.0, e n.at ∙ h.1, linked_over m k e s n.at (q + 1) ns z h.2)

-- along a whole chain its messages are met
pub met_linked : (m : Cells) (s p q : ℕ) (ns : List Node) (z n : ℕ) → Linked m s p q ns z → n ≤ length ns → met m s (first ns z) n ≡ map (message_of s) (take n (map message ns))
met_linked m s p q ns z zero h le = refl
met_linked m s p q [] z (suc n) h le = absurd (omega (arith, le))
met_linked m s p q (x ∷ ns) z (suc n) h le =
    met_more m s x.at n (record { sender = s; sequence = q; tag = x.tag; body = x.body; next = first ns z; prev = p }) h.1
    ∙ ap (λ l. message_of s (message x) ∷ l) (met_linked m s x.at (q + 1) ns z n h.2 (omega (arith, le)))
