use Rattle.rq_chain.proofs.Slots.{same_write_at}
use Rattle.rq_tags.proofs.Clients.{client_told}
use Rattle.rq_tests.proofs.own_level.write.Goals as goal

pub returns : goal.returns
returns c =
    let z = c.args.layout.now in
    let at = c.client_slot_of-at.ensures in
    let first = client_told z c.client_slot_of-at.result c.args.held.now c.encode.result at c.requires.below c.requires.held c.encode.ensures in
    let last = client_told z c.client_slot_of-at.result c.args.after.now c.encode-2.result (rw c.requires.same at) (rw c.requires.same c.requires.below) c.requires.after c.encode-2.ensures in
    (same_write_at _ _ _ _ _ _ at first.told last.told, record { place = first.place; before = first.slot; after = last.slot })
