use Rattle.std.proofs.Common.{◌≤◌}
use Rattle.sweeper.specs.States.{state_in}
use Rattle.cones.proofs.Passing.{Going}
use Rattle.cones.proofs.counting.count.Given as goal

abbrev pub invariant-loop-node : goal.invariant-loop-node
invariant-loop-node l = Going (state_in l.session).reduced l.top l.marks l.node l.gates × (l.gates ≤ l.cap)
