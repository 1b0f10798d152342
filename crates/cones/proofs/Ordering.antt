-- The fanins of a gate are earlier nodes.
use Rattle.std.proofs.Common.{◌≡◌, ℕ, ◌<◌, Some, refl, ap, arith}
use Rattle.model.specs.Edges.{node_of}
use Rattle.model.specs.Graphs.{Node, Graph, input, gate, at, Ordered}
use Rattle.cones.specs.Cones.{fanin_nodes}
use Rattle.cones.proofs.Resting.{gate-at}

-- the nodes of a gate's fanins
pub record Earlier (n a b : ℕ) : Type 0 where
  pub first : a < n
  pub second : b < n

pub fanins-earlier : (g : Graph) → Ordered g → (n a b : ℕ) → Some (a, b) ≡ fanin_nodes (at input g n) → Earlier n a b
fanins-earlier g o n a b = go (at input g n) refl
  where
    go : (nd : Node) → at input g n ≡ nd → Some (a, b) ≡ fanin_nodes nd → Earlier n a b
    go input h e = absurd (let z : ◌≡◌ {A = ℕ} 0 1 = cc in omega arith)
    go (gate x y) h e =
        let at-gate = gate-at g o n x y h in
        let both : ◌≡◌ {A = ℕ × ℕ} (a, b) (node_of x, node_of y) = cc in
        let p : a ≡ node_of x = ap (λ (w : ℕ × ℕ). w.0) both in
        let q : b ≡ node_of y = ap (λ (w : ℕ × ℕ). w.1) both in
        record { first = omega (arith, at-gate.first); second = omega (arith, at-gate.second) }
