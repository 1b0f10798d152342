use Rattle.std.proofs.Common.{arith}
use Rattle.pages.specs.Lines.{line_in}
use Rattle.sweeper.specs.States.{state_in}
use Rattle.listing.proofs.Onward.{next-within, line-went}
use Rattle.listing.proofs.stage.Stage.line.Goals as goal

pub overflow_add-self : goal.overflow_add-self
overflow_add-self g c =
    let s = c.args.session.now in
    omega (arith, next-within (g.S.Section.lines (state_in s)) c.args.self.now.next (line_in c.in-Some.line) c.in-Some.ensures, g.met.S.Section.few s)

pub returns : goal.returns
returns g c = line-went _ c.args.self.now (line_in c.in-Some.line) _ _ _ c.in-Some.ensures c.in_ok-self.ensures
