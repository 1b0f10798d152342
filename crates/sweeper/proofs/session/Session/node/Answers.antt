use Rattle.std.proofs.Common.{◌∙◌, arith}
use Rattle.sweeper.specs.Tables.{image, no_reduced}
use Rattle.sweeper.proofs.Telling.{described_row, row_at-take}
use Rattle.sweeper.proofs.session.Session.node.Goals as goal

pub returns : goal.returns
returns c =
    let i = image c.args.self.now.core in
    let s = c.args.self.now.sound in
    described_row i s c.args.node _ (c.row_at.ensures no_reduced ∙ row_at-take no_reduced i.reduced i.nodes c.args.node (omega (arith, s.fewer, s.room, s.reduced_rows)))
