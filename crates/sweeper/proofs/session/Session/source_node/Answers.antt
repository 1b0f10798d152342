use Rattle.std.proofs.Common.{◌≡◌, ◌∙◌, ap, arith, rules}
use Rattle.std.specs.Option.{option_map}
use Rattle.model.specs.Graphs.{input}
use Rattle.sweeper.specs.Tables.{image, no_source, node_in}
use Rattle.sweeper.specs.Reports.{node_told}
use Rattle.sweeper.specs.declared.rows.SourceRow.{SourceRow}
use Rattle.sweeper.proofs.Telling.{row_told, row_at-take, node_row}
use Rattle.sweeper.proofs.session.Session.source_node.Goals as goal

pub returns : goal.returns
returns c =
    let i = image c.args.self.now.core in
    let s = c.args.self.now.sound in
    let row = c.row_at.ensures no_source ∙ row_at-take no_source i.source i.sources c.args.node (omega (arith, s.room, s.source_rows)) in
    let is : c.map.result ≡ option_map (λ (r : SourceRow). r.node) c.row_at.result = search rules in
    ap node_told is ∙ node_row _ ∙ row_told (λ r. node_in r.node) no_source input i.source i.sources c.args.node _ row
