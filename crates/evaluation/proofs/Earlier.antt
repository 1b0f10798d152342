-- What holds of both graphs of a state that a run leads to: fanins are earlier nodes, and the inputs are as many.
use Rattle.std.proofs.Common.{◌≡◌, ℕ, suc, ◌+◌, ◌<◌, ◌≤◌, ◌∷◌, length, Some, sym, ap, ◌∙◌, subst, add-one, arith}
use mathlib.Core.Logic.{∥∥₁_elim}
use native.Mathlib.Bridge.{le_prop}
use native.Mathlib.Nat.{ℕ_set}
use Rattle.model.specs.Edges.{node_of}
use Rattle.model.specs.Graphs.{input, gate, Graph, at, inputs, Ordered}
use Rattle.model.specs.Sessions.{State, Side, source_graph, reduced_graph, graph_of}
use Rattle.model.proofs.Consistent.{Consistent, run_consistent}
use Rattle.sweeper.specs.Runs.{Reached}
use Rattle.sweeper.specs.Reports.{entry}
use Rattle.evaluation.proofs.Fronts.{front, front_length, front-more, front_ordered, entry-some}

-- the fanins of node n + 1 are at most n
pub fanins-earlier : (g : Graph) → Ordered g → (n x y : ℕ) → n < length g → at input g (n + 1) ≡ gate x y → (node_of x ≤ n) × (node_of y ≤ n)
fanins-earlier g o n x y h is =
    let e : front g (suc n) ≡ gate x y ∷ front g n = front-more g n h ∙ ap (λ nd. nd ∷ front g n) (ap (at input g) (sym (add-one n)) ∙ is) in
    let p : Ordered (gate x y ∷ front g n) = subst Ordered e (front_ordered g (suc n) o) in
    let long = front_length g n (omega arith) in
    (omega (arith, p.0, long), omega (arith, p.1, long))

ordered_by : (side : Side) (s : State) → Consistent s → Ordered (graph_of side s)
ordered_by source_graph s k = k.ordered
ordered_by reduced_graph s k = k.reduced-ordered

-- of gate n + 1
pub told-earlier : (side : Side) (s : State) (r : Reached s) (n x y : ℕ) → Some (gate x y) ≡ entry input (graph_of side s) (n + 1) → (node_of x ≤ n) × (node_of y ≤ n)
told-earlier side s r n x y told = (∥∥₁_elim r le_prop λ l. (both (run_consistent l.run)).0, ∥∥₁_elim r le_prop λ l. (both (run_consistent l.run)).1)
  where
    both : Consistent s → (node_of x ≤ n) × (node_of y ≤ n)
    both k = let here = entry-some (graph_of side s) n (gate x y) told in fanins-earlier (graph_of side s) (ordered_by side s k) n x y here.0 here.1

pub same_inputs : (s : State) → Reached s → inputs s.reduced ≡ inputs s.source
same_inputs s r = ∥∥₁_elim r (ℕ_set _ _) λ l. (run_consistent l.run).same_inputs
