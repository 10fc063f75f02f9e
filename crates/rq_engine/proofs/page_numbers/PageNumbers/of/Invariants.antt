use Rattle.std.proofs.Common.{◌≡◌, length, take}
use Rattle.rq_engine.specs.Frames.{pages_of}
use Rattle.rq_engine.proofs.page_numbers.PageNumbers.of.Given as goal

-- the pages of the writes so far stand in front
abbrev pub invariant-loop-place : goal.invariant-loop-place
invariant-loop-place l = record { count : length l.numbers ≡ 3; front : take l.place l.numbers ≡ pages_of (take l.place l.writes) }
