use Rattle.std.proofs.Common.{length, drop, ap, ◌∙◌, arith, length-append}
use Rattle.model.specs.Texts.{text_of}
use Rattle.sweeper.specs.States.{state_in}
use Rattle.listing.specs.Sections.{closed}
use Rattle.listing.proofs.Onward.{rest-parts}
use Rattle.listing.proofs.stage.Stage.rest_length.Goals as goal

pub returns : goal.returns
returns g c =
    let s = state_in c.args.session.now in
    let lines = g.S.Section.lines s in
    let k = c.args.self.now.next in
    let all = ap length (rest-parts lines (g.S.Section.closing s) k c.closing_line.result c.closing_line.ensures) ∙ length-append (text_of (drop k lines)) (text_of (closed c.closing_line.result)) in
    record { value = omega (arith, all); bound = omega arith }
