use Rattle.std.proofs.Common.{◌≡◌, ℕ, ◌<◌, ◌≤◌, false}
use Rattle.rq_page.specs.Pages.{lsn_of}
use Rattle.rq_pool.specs.Held.{fixed_at}
use Rattle.rq_pool.specs.Frames.{bytes_at, frames_of, pages_of}
use Rattle.rq_pool.proofs.frames.next_loose.Given as goal

abbrev pub invariant-loop-place : goal.invariant-loop-place
invariant-loop-place l = (i : ℕ) → l.from ≤ i → i < l.place → fixed_at (frames_of l.frames) i ≡ false → l.forced < lsn_of (bytes_at (pages_of l.frames) i)
