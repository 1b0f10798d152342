use Rattle.std.proofs.Common.{◌∙◌}
use Rattle.sweeper.specs.Tables.{image, no_edge}
use Rattle.sweeper.proofs.Telling.{row_told, row_at-take}
use Rattle.sweeper.proofs.session.Session.output_edge.Goals as goal

pub returns : goal.returns
returns c =
    let i = image c.args.self.now.core in
    row_told (λ e. e.number) no_edge 0 i.outputs i.outs c.args.rank _ (c.row_at.ensures no_edge ∙ row_at-take no_edge i.outputs i.outs c.args.rank c.args.self.now.sound.output_rows)
