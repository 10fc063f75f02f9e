use Rattle.std.proofs.Common.{◌≡◌, false, replicate}
use Rattle.rq_pool.specs.Frames.{changed_of, frames_of, images_of, pages_of, places_of}
use Rattle.rq_pool.specs.Indexed.{closed_groups, free_cells}
use Rattle.rq_pool.specs.Pooled.{image_at}
use Rattle.rq_pool.specs.Reading.{OnlyRead, AreSeen}
use Rattle.rq_pool.proofs.Numbering.{AreNumberedTo}
use Rattle.rq_pool.proofs.Order.{AreFirst}
use Rattle.rq_pool.proofs.Readings.{AreRead}
use Rattle.rq_pool.proofs.Indexes.{AreNotedTo}
use Rattle.rq_pool.proofs.reading.read_frames.Given as goal

abbrev pub invariant-loop-number : goal.invariant-loop-number
invariant-loop-number g l =
    let P = g.P.PageDevice in
    record {
      read : AreRead l.layout (images_of l.entries.items) l.number;
      superblock : image_at (images_of l.entries.items) 0 ≡ l.fn.superblock;
      seen : P.honest l.device → AreSeen (P.seen l.fn.device) (images_of l.entries.items) l.number;
      unchanged : changed_of l.entries.items ≡ replicate l.number false;
      first : AreFirst l.fn.most l.number (images_of l.entries.items) (places_of l.entries.items) (frames_of l.frames.items) (pages_of l.frames.items);
      numbers : AreNumberedTo l.layout (images_of l.entries.items) l.number l.ahead.items;
      free : AreNotedTo (free_cells l.layout) l.layout (images_of l.entries.items) l.free l.number;
      closed : AreNotedTo (closed_groups l.layout) l.layout (images_of l.entries.items) l.closed l.number;
      faults : P.faults l.device ≡ P.faults l.fn.device;
      device : OnlyRead P l.fn.device l.device;
    }
