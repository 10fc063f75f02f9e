use Rattle.std.proofs.Common.{◌≡◌, ◌∙◌, Some, length, refl, sym}
use Rattle.std.specs.List.{slice_get}
use Rattle.rq_model.specs.Ledger.{found, fresh_one, own_takes, rest_in}
use Rattle.rq_reference.proofs.Receives.{on_place, on_more, waits_from}
use Rattle.rq_reference.proofs.Reference.outcome.Goals as goal

pub returns-in-Sending-clause-ok : goal.returns-in-Sending-clause-ok
returns-in-Sending-clause-ok c = rw c.in-Sending.is (on_place c.args.self.now.ledger c.args.txn c.args.place (fresh_one c.args.txn) _ c.requires (λ o. refl))

pub returns-in-Ok-Some-clause-ok : goal.returns-in-Ok-Some-clause-ok
returns-in-Ok-Some-clause-ok c =
    let l = c.args.self.now.ledger in
    let s = c.in-Taking.sender in
    let m = c.in-Ok-Some.message in
    let r = c.in-Ok-Some.field-0 in
    rw c.in-Taking.is (on_more (found c.args.txn l.open_ones) (λ o. r ≡ slice_get (rest_in l.committed s) (length (own_takes s o))) (λ o. (m.sender ≡ s) × (slice_get (rest_in l.committed s) (length (own_takes s o)) ≡ Some m)) c.in-Ok-Some.ensures (λ o h.
    (let g : Some m ≡ slice_get (rest_in l.committed s) (length (own_takes s o)) = sym c.in-Ok-Some.field-0-is ∙ h in (waits_from l.committed s (length (own_takes s o)) m g, sym g))))

pub returns-in-Closing-clause-ok : goal.returns-in-Closing-clause-ok
returns-in-Closing-clause-ok c = rw c.in-Closing.is (on_place c.args.self.now.ledger c.args.txn c.args.place (fresh_one c.args.txn) _ c.requires (λ o. refl))

pub returns-in-Marking-clause-ok : goal.returns-in-Marking-clause-ok
returns-in-Marking-clause-ok c = rw c.in-Marking.is (on_place c.args.self.now.ledger c.args.txn c.args.place (fresh_one c.args.txn) _ c.requires (λ o. (refl, refl)))

pub returns-in-Undoing-clause-ok : goal.returns-in-Undoing-clause-ok
returns-in-Undoing-clause-ok c = rw c.in-Undoing.is (on_place c.args.self.now.ledger c.args.txn c.args.place (fresh_one c.args.txn) _ c.requires (λ o. refl))
