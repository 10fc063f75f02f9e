use Rattle.std.proofs.Common.{◌≡◌, ◌+◌, map, take, length}
use Rattle.std.specs.List.{sum_by}
use Rattle.rq_model.specs.Ledger.{own_sends, own_takes, rest_in}
use Rattle.rq_reference.specs.Plain.{open_of, done_of}
use Rattle.rq_reference.proofs.scans.chain_length.Given as goal

-- what those so far sent and took
abbrev pub invariant-loop-row : goal.invariant-loop-row
invariant-loop-row l = (length l.there.items ≡ length (rest_in (map done_of l.committed) l.sender) + sum_by (λ o. length (own_sends l.sender o)) (map open_of (take l.row-index l.rows))) × (length l.gone.items ≡ sum_by (λ o. length (own_takes l.sender o)) (map open_of (take l.row-index l.rows)))
