-- That a level is ready for a store is a fact, of which there is one proof at most.
use Rattle.std.specs.Prelude.{◌≡◌, ℕ, zero, suc, Option, None, Some}
use Rattle.std.proofs.Common.{refl}
use Rattle.std.specs.Coded.{Coded, Coded-set, code_by, coded×, coded_option, coded_ℕ, le_prop}
use Rattle.rq_page.specs.Sizes.{Sizes}
use Rattle.rq_level.specs.LevelState.{LevelState}
use Rattle.rq_level.specs.Meaning.{meaning_of}

sizes_code : Coded Sizes
sizes_code = code_by (ℕ × (ℕ × ℕ)) (coded× coded_ℕ (coded× coded_ℕ coded_ℕ)) (λ z. (z.directory, (z.cells, z.tags))) (λ n. record { directory = n.0; cells = n.1.0; tags = n.1.1 }) (λ z. refl)

told-prop : (o p : Option Sizes) → IsProp (o ≡ p)
told-prop o p = Coded-set (coded_option sizes_code) o p

pub ready-prop : (n : ℕ) (z : Sizes) (k : LevelState) → IsProp ((meaning_of n).ready z k)
unfolding meaning_of
ready-prop zero z k = told-prop k.sizes None
ready-prop (suc zero) z k = λ a b i. record {
  sizes = told-prop k.sizes (Some z) a.sizes b.sizes i;
  free = le_prop a.free b.free i;
  reserved = le_prop a.reserved b.reserved i;
}
ready-prop (suc (suc zero)) z k = told-prop k.sizes (Some z)
ready-prop (suc (suc (suc n))) z k = told-prop k.sizes None
