use Rattle.std.proofs.Common.{arith}
use Rattle.sweeper.specs.Counted.{few}
use Rattle.sweeper.specs.States.{state_in}
use Rattle.evaluation.proofs.graph.Graph.nodes.Goals as goal

pub returns-in-Source-clause-few : goal.returns-in-Source-clause-few
returns-in-Source-clause-few c =
    let s = c.args.self.now.session.now in
    omega (arith, (few (state_in s) s.reached).source, c.source_nodes.ensures)

pub returns-in-Reduced-clause-few : goal.returns-in-Reduced-clause-few
returns-in-Reduced-clause-few c =
    let s = c.args.self.now.session.now in
    omega (arith, (few (state_in s) s.reached).reduced, c.reduced_nodes.ensures)
