use Rattle.std.proofs.Common.{◌≡◌, ℕ, ◌+◌, ◌<◌, ◌≤◌, length, set, Some, Option, arith, length-set}
use Rattle.std.specs.Slice.Iter.{iter_rest}
use Rattle.cuts.specs.declared.edge.Edge.{Edge}
use Rattle.search.specs.declared.rows.Node.{Node}
use Rattle.search.specs.declared.rows.Node.TheVariants.{Gate}
use Rattle.model.specs.Edges.{node_of}
use Rattle.model.specs.Graphs.{input}
use Rattle.sweeper.specs.Reports.{entry, node_told}
use Rattle.sweeper.specs.States.{state_in}
use Rattle.evaluation.specs.declared.graph.Graph.{Graph as Viewed}
use Rattle.evaluation.specs.Sides.{nodes_in, side_in}
use Rattle.evaluation.specs.Walks.{kind_of}
use Rattle.evaluation.proofs.Filled.{reaching_none, reaching_input, reaching_gate, reaching_all, some_left, told_as, next_some, next_first}
use Rattle.evaluation.proofs.Earlier.{told-earlier}
use Rattle.evaluation.proofs.graph.Graph.fill.Goals as goal
use Rattle.evaluation.proofs.graph.Graph.fill.Goals.{in-Input, in-Gate}

-- the fanins of a gate stand before it
earlier : (v : Viewed) (n : ℕ) (x : Node) (a b : Edge) (o : Option Node) → o ≡ Some x → x ≡ Gate a b → node_told o ≡ entry input (nodes_in v) (n + 1) → (node_of a.number ≤ n) × (node_of b.number ≤ n)
earlier v n x a b o is gate-is told =
    let s = v.session.now in
    told-earlier (side_in v.side) (state_in s) s.reached n a.number b.number (told_as o x (Gate a b) _ is gate-is told)

pub loop-n-init : goal.loop-n-init
loop-n-init g c =
    reaching_none (kind_of g.S.Signal) c.args.given.now (nodes_in c.args.self.now) c.args.places.now (iter_rest c.iter-left.result) c.iter-left.ensures.rest c.falsity.result
    (omega (arith, c.requires.room)) c.falsity.ensures

pub unwrap-requires-in-Input : goal.unwrap-requires-in-Input
unwrap-requires-in-Input g c =
    let told = told_as _ _ _ _ c.unwrap.ensures c.in-Input.is c.node.ensures in
    next_some c.loop-n.left _ c.next.result c.next.ensures.steps (some_left (kind_of g.S.Signal) c.args.given.now (nodes_in c.args.self.now) (set c.args.places.now 0 c.falsity.result) c.loop-n.n (iter_rest c.loop-n.left) c.loop-n.places c.loop-n.invariant told c.requires.given)

pub edge_at-requires : goal.edge_at-requires
edge_at-requires g c =
    let low = earlier c.args.self.now c.loop-n.n c.unwrap.result _ _ c.node.result c.unwrap.ensures c.in-Gate.is c.node.ensures in
    omega (arith, low.0, c.requires.room, simp length-set at c.loop-n.auto.places)

pub edge_at-requires-in-Gate : goal.edge_at-requires-in-Gate
edge_at-requires-in-Gate g c =
    let low = earlier c.args.self.now c.loop-n.n c.unwrap.result _ _ c.node.result c.unwrap.ensures c.in-Gate.is c.node.ensures in
    omega (arith, low.1, c.requires.room, simp length-set at c.loop-n.auto.places)

-- node n + 1 is walked
pub loop-n-preserved : goal.loop-n-preserved
loop-n-preserved g c =
    let so = c.loop-n.invariant in
    let room : c.loop-n.n + 1 < length c.loop-n.places = omega (arith, c.requires.room, simp length-set at c.loop-n.auto.places) in
    elim c.match-unwrap.branch [
      | in-Input w ↦ rw (w.left-is, w.signal-is) (reaching_input (kind_of g.S.Signal) c.args.given.now (nodes_in c.args.self.now) (set c.args.places.now 0 c.falsity.result) c.loop-n.n (iter_rest c.loop-n.left) c.loop-n.places so w.unwrap-in-Input.result.now _
          (told_as _ _ _ _ c.unwrap.ensures w.in-Input.is c.node.ensures) c.requires.given
          (next_first c.loop-n.left _ w.next.result w.unwrap-in-Input.result w.next.ensures.steps w.unwrap-in-Input.ensures) room)
      | in-Gate w ↦
          let low = earlier c.args.self.now c.loop-n.n c.unwrap.result _ _ c.node.result c.unwrap.ensures w.in-Gate.is c.node.ensures in
          rw (w.left-is, w.signal-is) (reaching_gate (kind_of g.S.Signal) c.args.given.now (nodes_in c.args.self.now) (set c.args.places.now 0 c.falsity.result) c.loop-n.n (iter_rest c.loop-n.left) c.loop-n.places so w.and-signal.result w.edge_at.result w.edge_at-in-Gate.result w.in-Gate.a.number w.in-Gate.b.number
          (told_as _ _ _ _ c.unwrap.ensures w.in-Gate.is c.node.ensures) low.0 low.1 room w.and-signal.ensures w.edge_at.ensures w.edge_at-in-Gate.ensures)
    ]

-- all nodes are walked
pub returns : goal.returns
returns g c =
    reaching_all g.S.Signal g.met.S.Signal.low_formed g.met.S.Signal.meet_formed c.args.given.now (nodes_in c.args.self.now)
    c.args.places.now (iter_rest c.loop-n.left) c.loop-n.places c.falsity.result c.loop-n.n c.loop-n.invariant (omega (arith, c.nodes-n-end.ensures.count)) c.requires.room
    (simp length-set at c.loop-n.auto.places)
