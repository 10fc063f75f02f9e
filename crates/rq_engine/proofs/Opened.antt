-- The parts of an open store.
use Rattle.std.proofs.Common.{◌≡◌, refl, ap, subst, false, Option, Some, None}
use Rattle.std.proofs.lemmas.Bool.{true≢false}
use Rattle.std.specs.Prelude.{IfNone}
use Rattle.rq_model.specs.Vocabulary.{is_some}
use Rattle.rq_engine.specs.Opened.{OpenStore}

pub state_is : {P L : Type 0} {a b : OpenStore P L} → a ≡ b → a.state ≡ b.state
state_is e = ap (λ (o : OpenStore _ _). o.state) e

pub changed_is : {P L : Type 0} {a b : OpenStore P L} → a ≡ b → a.changed ≡ b.changed
changed_is e = ap (λ (o : OpenStore _ _). o.changed) e

pub none_told : {X : Type 0} (P : Type 0) (o : Option X) → o ≡ None → IfNone o P → P
none_told P o e h = subst (λ (y : Option _). IfNone y P) e h

pub none_tried : {X : Type 0} (o : Option X) → is_some o ≡ false → o ≡ None
none_tried None h = refl
none_tried (Some x) h = absurd (true≢false h)
