-- The two graphs of a session.
use Rattle.std.specs.Prelude.{Bool, true, false, Some, None, Option}
use Rattle.model.specs.Graphs.{Node, input, gate, Graph}
use Rattle.model.specs.Sessions.{graph_of, source_graph, reduced_graph}
use Rattle.model.specs.Sessions as model
use Rattle.sweeper.specs.declared.session.Session.{Session}
use Rattle.sweeper.specs.States.{state_in}
use Rattle.evaluation.specs.declared.graph.Graph.{Graph as Viewed}
use Rattle.evaluation.specs.declared.side.Side.{Side}
use Rattle.evaluation.specs.declared.side.Side.TheVariants.{Source, Reduced}

abbrev pub side_in : Side → model.Side
side_in Source = source_graph
side_in Reduced = reduced_graph

abbrev pub graph_in : Side → Session → Graph
graph_in side s = graph_of (side_in side) (state_in s)

-- the nodes of the graph that is looked at
abbrev pub nodes_in : Viewed → Graph
nodes_in v = graph_in v.side v.session.now

abbrev pub is_input : Option Node → Bool
is_input (Some input) = true
is_input (Some (gate x y)) = false
is_input None = false
