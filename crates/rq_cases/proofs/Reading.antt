-- What was only read, what is damaged, and which cell a send takes.
use Rattle.std.proofs.Common.{◌≡◌, ℕ, [], length, ap, arith}
use Rattle.rq_page.specs.Pages.{header_bytes, header_of}
use Rattle.rq_page.proofs.PageParts.{length-header_bytes}
use Rattle.rq_pool.specs.Reading.{IsSuperblock}
use Rattle.rq_cases.specs.Store.{sizes}
use Rattle.rq_cases.specs.Reading.{superblock}
use Rattle.rq_cases.proofs.Pages.{are_formatted, range}

pub no_header : (lsn page kind : ℕ) → header_of [] ≡ header_bytes lsn page kind → ⊥
unfolding header_of
no_header lsn page kind e = (let n : 0 ≡ length (header_bytes lsn page kind) = ap length e in let m = length-header_bytes lsn page kind in omega (arith, n, m))

pub first_block : IsSuperblock sizes superblock
first_block = record { range = range; formatted = are_formatted 0 (omega arith) }
