use Rattle.std.proofs.Common.{◌≡◌, ◌+◌, length, ap, ◌∙◌, arith, rules}
use Rattle.model.specs.Edges.{node_of}
use Rattle.model.specs.Graphs.{cone_of, gates_that, rests_on}
use Rattle.sweeper.specs.Counted.{few}
use Rattle.sweeper.specs.States.{state_in}
use Rattle.cones.specs.Cones.{capped}
use Rattle.sweeper.proofs.Reaching.{ordered}
use Rattle.cones.proofs.Listing.{cone_of_lem}
use Rattle.cones.proofs.Answering.{no_such_node, few_marks, counts, marks_wiped, cone-told}
use Rattle.cones.proofs.cone.Goals as goal

pub returns-then-node-nodes : goal.returns-then-node-nodes
returns-then-node-nodes c = record {
  runs = no_such_node (state_in c.args.session.now) c.args.e.number (length c.args.marks.now) c.args.cap (omega arith);
  paths = tt;
  marked = search rules;
}

pub overflow_add-result : goal.overflow_add-result
overflow_add-result c = omega (arith, (few (state_in c.args.session.now) c.args.session.now.reached).reduced)

pub returns-then-marks-nodes : goal.returns-then-marks-nodes
returns-then-marks-nodes c = record {
  runs = few_marks (state_in c.args.session.now) c.args.e.number (length c.args.marks.now) c.args.cap (omega arith) (c.reduced_nodes-nodes.result + 1) (omega arith) (omega arith);
  paths = tt;
  marked = search rules;
}

pub returns : goal.returns
returns c =
    let s = state_in c.args.session.now in
    let e = c.args.e.number in
    let is : c.count.result ≡ capped (cone_of s.reduced e) c.args.cap = c.count.ensures ∙ ap (λ n. capped (gates_that (rests_on s.reduced n) s.reduced) c.args.cap) c.node-node.ensures in
    record {
      runs = counts s e (length c.args.marks.now) c.args.cap (omega arith) (omega arith) c.count.result is;
      paths = cone-told s.reduced e c.args.cap (cone_of_lem s.reduced (ordered s c.args.session.now.reached) (node_of e)) c.count.result is;
      marked = marks_wiped _ _ (cone_of s.reduced e) c.args.cap (record { clear = search rules; number = search rules }) c.count.result is;
    }
