use Rattle.std.proofs.Common.{◌≡◌, ◌+◌, ◌-◌, ◌*◌, ◌≤◌, length, drop}
use Rattle.model.specs.Sessions.{output_limit}
use Rattle.model.specs.Texts.{text_of}
use Rattle.sweeper.specs.States.{state_in}
use Rattle.listing.proofs.stage.Stage.lines_length.Given as goal

-- what is summed with what is left is the whole, and the sum leaves room for the lines that are left
abbrev pub invariant-loop-k : goal.invariant-loop-k
invariant-loop-k g l =
    (l.sum + length (text_of (drop l.k (g.S.Section.lines (state_in l.session)))) ≡ length (text_of (drop l.self.next (g.S.Section.lines (state_in l.session)))))
    × (l.sum + 26 * (l.k-end - l.k) ≤ 26 * output_limit)
