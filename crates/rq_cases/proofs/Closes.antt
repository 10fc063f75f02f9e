-- A close.
use Rattle.std.proofs.Common.{[], ◌∷◌, refl, arith}
use Rattle.rq_page.specs.Directories.{new_directory}
use Rattle.rq_views.specs.Stored.{slots_in}
use Rattle.rq_engine.specs.Closes.{IsClosePlan}
use Rattle.rq_cases.specs.Closes.{close_under}
use Rattle.rq_cases.specs.Store.{formatted_pages, sizes}
use Rattle.rq_cases.proofs.Pages.{closed_told, new_told}
use Rattle.rq_cases.proofs.Running as running

pub close_plan : IsClosePlan sizes (slots_in sizes formatted_pages) (close_under 0) 0
close_plan = record {
  made = refl;
  below = omega arith;
  marking = record {
    directory = new_directory;
    directory_is = running.begin.sound.pages 17;
    writes = λ i. record { at = 17; before = new_told.0 i; after = closed_told.0 i } ∷ [];
  };
  aim = refl;
  reads = refl;
}
