use Rattle.std.proofs.Common.{ap, ◌∙◌}
use Rattle.rq_page.specs.Directories.{directory_bytes}
use Rattle.rq_chain.proofs.Slots.{group_told, same_write_at}
use Rattle.rq_chain.proofs.writes.group_write.Goals as goal

pub returns-clause-write : goal.returns-clause-write
returns-clause-write c =
    let z = c.args.layout.now in
    let g = c.args.group.now in
    let before = group_told z g.sender g.at _ c.encode.result c.requires.group.at c.requires.group.sender c.requires.group.directory (c.encode.ensures ∙ ap directory_bytes c.directory_slot.ensures) in
    let after = group_told z g.sender g.at _ c.encode-2.result c.requires.group.at c.requires.group.sender c.requires.after (c.encode-2.ensures ∙ ap directory_bytes c.directory_slot-2.ensures) in
    same_write_at _ _ _ _ _ _ c.requires.group.at before.told after.told

pub returns-clause-slots : goal.returns-clause-slots
returns-clause-slots c =
    let z = c.args.layout.now in
    let g = c.args.group.now in
    let before = group_told z g.sender g.at _ c.encode.result c.requires.group.at c.requires.group.sender c.requires.group.directory (c.encode.ensures ∙ ap directory_bytes c.directory_slot.ensures) in
    let after = group_told z g.sender g.at _ c.encode-2.result c.requires.group.at c.requires.group.sender c.requires.after (c.encode-2.ensures ∙ ap directory_bytes c.directory_slot-2.ensures) in
    record { place = before.place; before = before.slot; after = after.slot }
