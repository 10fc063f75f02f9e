use Rattle.std.proofs.Common.{◌≡◌, take}
use Rattle.rq_model.specs.Ledger.{tag_of}
use Rattle.rq_reference.proofs.scans.last_tag.Given as goal

abbrev pub invariant-loop-message : goal.invariant-loop-message
invariant-loop-message l = l.tag ≡ tag_of (take l.message-index l.messages)
