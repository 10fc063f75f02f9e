use Rattle.std.proofs.Common.{refl}
use Rattle.rq_chain.proofs.Givens.{cell_held, given_is, used_told}
use Rattle.rq_chain.proofs.given.cell_given.Goals as goal

pub returns-clause-cell : goal.returns-clause-cell
returns-clause-cell c =
    let z = c.args.layout.now in
    let bytes = c.in_ok-bytes.bytes.now in
    let is = used_told z c.args.at bytes (cell_held z c.args.at bytes c.requires.at (given_is z c.args.at c.args.given.now bytes c.requires.given c.in_ok-bytes.ensures).slot) c.if-bytes-eq0.false in
    record { at = refl; address = c.requires.at; cell = is.fits; spells = is.spells }
