-- Sets of pages with some taken out.
use Rattle.std.proofs.Common.{◌≡◌, ℕ, Bool, List, ap, ◌∙◌}
use Rattle.std.specs.List.{filter}
use Rattle.rq_level.specs.Given.{Pages}

abbrev pub pages_of : List ℕ → ℕ → Pages
pages_of ps room = record { pages = ps; room = room }

pub left_in : (ys xs : List ℕ) (cap room : ℕ) (s : Pages) (test : ℕ → Bool) → pages_of xs room ≡ s → ys ≡ filter test xs → cap ≡ room → pages_of ys cap ≡ pages_of (filter test s.pages) s.room
left_in ys xs cap room s test v e k =
    ap (λ (y : List ℕ). pages_of y cap) e ∙ ap (λ (n : ℕ). pages_of (filter test xs) n) k ∙ ap (λ (p : Pages). pages_of (filter test p.pages) p.room) v
