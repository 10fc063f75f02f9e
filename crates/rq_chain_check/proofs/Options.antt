-- What is told of a value that there may be.
use Rattle.std.proofs.Common.{◌≡◌, Option, Some, None, subst}
use Rattle.std.specs.Prelude.{IfSome, IfNone}

pub some_told : {X : Type 0} (P : X → Type 0) (o : Option X) (x : X) → o ≡ Some x → IfSome o P → P x
some_told {X} P o x is told = subst (λ (p : Option X). IfSome p P) is told

pub none_told : {X : Type 0} (P : Type 0) (o : Option X) → o ≡ None → IfNone o P → P
none_told {X} P o is told = subst (λ (p : Option X). IfNone p P) is told
