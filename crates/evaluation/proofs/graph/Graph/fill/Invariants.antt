use Rattle.std.specs.Slice.Iter.{iter_rest}
use Rattle.evaluation.specs.Sides.{nodes_in}
use Rattle.evaluation.specs.Walks.{kind_of}
use Rattle.evaluation.proofs.Filled.{Reaching}
use Rattle.evaluation.proofs.graph.Graph.fill.Given as goal

-- the first n nodes are walked
abbrev pub invariant-loop-n : goal.invariant-loop-n
invariant-loop-n g l = Reaching (kind_of g.S.Signal) l.given (nodes_in l.self) l.initial.places l.n (iter_rest l.left) l.places
