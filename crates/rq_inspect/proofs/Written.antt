-- A text that is written piece by piece.
use Rattle.std.proofs.Common.{◌≡◌, ℕ, List, [], ◌++◌, Option, Some, None, Result, Ok, Err, OnOk, sym, ◌∙◌, ap, subst, append_assoc}
use Rattle.std.proofs.lemmas.List.{append-nil}
use Rattle.std.specs.Io.KnownBytes.{Appends}
use Rattle.rq_inspect.specs.Inspections.{IsWrittenBut}

-- what follows of two facts, where it is Ok
pub on_ok_both : {T E P Q R : Type 0} (r : Result T E) → (P → Q → R) → OnOk r P → OnOk r Q → OnOk r R
on_ok_both (Ok x) f p q = f p q
on_ok_both (Err e) f p q = tt

pub appends_nothing : (a : Option (List ℕ)) → Appends a a []
appends_nothing None = tt
appends_nothing (Some xs) = sym (append-nil xs)

pub appends_joined : (a b c : Option (List ℕ)) (x y : List ℕ) → Appends a b x → Appends b c y → Appends a c (x ++ y)
appends_joined None b c x y h k = tt
appends_joined (Some xs) None c x y h k = absurd h
appends_joined (Some xs) (Some ys) None x y h k = absurd k
appends_joined (Some xs) (Some ys) (Some zs) x y h k = k ∙ ap (λ l. l ++ y) h ∙ append_assoc xs x y

-- the piece is written
pub all_written : (a b c : Option (List ℕ)) (piece text : List ℕ) → IsWrittenBut a b piece text → Appends b c piece → Appends a c text
all_written a b c piece text w h = subst (Appends a c) w.2 (appends_joined a b c w.0 piece w.1 h)

pub piece_written : (a b c : Option (List ℕ)) (piece text none : List ℕ) → none ≡ [] → Appends b c piece → IsWrittenBut a b piece text → IsWrittenBut a c none text
piece_written a b c piece text none is h w = (text, all_written a b c piece text w h, ap (λ l. text ++ l) is ∙ append-nil text)
