use Rattle.std.proofs.Common.{◌≡◌, ◌≤◌, ◌<◌, ℕ, length, ap, sym, ◌∙◌, arith, subst}
use Rattle.rq_page.specs.Sizes.{page_count}
use Rattle.rq_pool.specs.Fetching.{AreAllFramed}
use Rattle.rq_pool.specs.Frames.{changed_of, frames_of, images_of, pages_of, places_of}
use Rattle.rq_pool.specs.Held.{StandOnce}
use Rattle.rq_pool.specs.Pooled.{Pooled}
use Rattle.rq_pool.proofs.Counting.{all_framed}
use Rattle.rq_pool.proofs.Ties.{stand_once}
use Rattle.rq_pool.proofs.Wants.{framed_from}
use Rattle.rq_pool.proofs.Pages.shows_all.Goals as goal

pub returns : goal.returns
returns g c =
    let inside = c.self.inside in
    let tied = c.self.invariant.4 in
    let once = stand_once (images_of inside.entries.items) (changed_of inside.entries.items) (places_of inside.entries.items) (frames_of inside.frames.items) (pages_of inside.frames.items) tied in
    subst (λ (v : Pooled _). page_count v.sizes ≤ length v.frames → AreAllFramed v) c.self.view_is (λ many q low high. framed_from (frames_of inside.frames.items) q (all_framed (page_count inside.layout) (frames_of inside.frames.items) once (λ i lt. (let high = (tied.back i lt).high in let count = tied.count in let images = c.self.invariant.0.pool.count in omega (arith, high, count, images))) many q high))
