use Rattle.std.proofs.Common.{◌≡◌, ◌∙◌, ap, arith, rules}
use Rattle.std.specs.Option.{option_map}
use Rattle.sweeper.specs.Tables.{image, no_source}
use Rattle.sweeper.specs.Answers.{numbered}
use Rattle.sweeper.specs.declared.rows.SourceRow.{SourceRow}
use Rattle.sweeper.proofs.Telling.{row_told, row_at-take, mapped_row}
use Rattle.sweeper.proofs.session.Session.mapped.Goals as goal

pub returns : goal.returns
returns c =
    let i = image c.args.self.now.core in
    let s = c.args.self.now.sound in
    let row = c.row_at.ensures no_source ∙ row_at-take no_source i.source i.sources c.args.node (omega (arith, s.room, s.source_rows)) in
    let is : c.map.result ≡ option_map (λ (r : SourceRow). r.mapped) c.row_at.result = search rules in
    ap numbered is ∙ mapped_row _ ∙ row_told (λ r. r.mapped.number) no_source 0 i.source i.sources c.args.node _ row
