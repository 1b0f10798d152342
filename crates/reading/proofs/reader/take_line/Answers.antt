use Rattle.std.proofs.Common.{Ok, ap, ◌∙◌, subst}
use Rattle.lines.specs.Position.{position_of, Moves}
use Rattle.lines.proofs.Moving.{is_past}
use Rattle.reading.proofs.reader.take_line.Goals as goal

pub call-requires : goal.call-requires
call-requires g c =
    let n = c.source_nodes.result in
    let s = position_of c.args.reader.now in
    let t = position_of c.next_line.new.self in
    (is_past n s c.in-Some.line t (subst (λ x. Moves n s x t) (c.in_ok-line.was ∙ ap Ok c.in-Some.is) c.next_line.ensures)).fit
