use Rattle.std.proofs.Common.{subst}
use Rattle.rq_pool.specs.Frames.{changed_of, frames_of, images_of, pages_of, places_of}
use Rattle.rq_pool.specs.Held.{StandOnce}
use Rattle.rq_pool.specs.Pooled.{Pooled}
use Rattle.rq_pool.proofs.Counting.{cannot_is_count}
use Rattle.rq_pool.proofs.Ties.{stand_once}
use Rattle.rq_pool.proofs.Pages.shows_frames.Goals as goal

pub returns-clause-counted : goal.returns-clause-counted
returns-clause-counted g c forced pages =
    let inside = c.self.inside in
    let once = stand_once (images_of inside.entries.items) (changed_of inside.entries.items) (places_of inside.entries.items) (frames_of inside.frames.items) (pages_of inside.frames.items) c.self.invariant.4 in
    cannot_is_count c.args.self.now forced pages (subst (λ (v : Pooled _). StandOnce v.frames) c.self.view_is once)
