use Rattle.std.proofs.Common.{drop}
use Rattle.model.specs.Texts.{text_of}
use Rattle.sweeper.specs.States.{state_in}
use Rattle.listing.proofs.Onward.{Sofar}
use Rattle.listing.proofs.stage.Stage.write_lines.Given as goal

abbrev pub invariant-loop-k : goal.invariant-loop-k
invariant-loop-k g l =
    Sofar (text_of (drop l.self.next (g.S.Section.lines (state_in l.session)))) (text_of (drop l.k (g.S.Section.lines (state_in l.session)))) l.self.at l.initial.page l.end l.page
