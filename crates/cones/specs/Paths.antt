-- Paths of fanins, and the gates that they lead to.
use Rattle.std.specs.Prelude.{◌≡◌, ℕ, ◌<◌, Bool, true, false, ◌⊎◌, List, [], ◌∷◌, length}
use Rattle.model.specs.Edges.{node_of}
use Rattle.model.specs.Leaves.{has}
use Rattle.model.specs.Rankings.{Every}
use Rattle.model.specs.Graphs.{Node, Graph, input, gate, at, Ordered, rests_on, cone_of}

abbrev pub is_gate : Node → Bool
is_gate input = false
is_gate (gate x y) = true

-- node n is a gate with node k at a fanin
pub record Fanin (g : Graph) (n k : ℕ) : Type 0 where
  pub x : ℕ
  pub y : ℕ
  pub is : at input g n ≡ gate x y
  pub one : (node_of x ≡ k) ⊎ (node_of y ≡ k)

-- a path of fanins from node n to node m
pub data Rests (g : Graph) : ℕ → ℕ → Type 0 where
  here : {n : ℕ} → Rests g n n
  by_fanin : {n k m : ℕ} → Fanin g n k → Rests g k m → Rests g n m

-- each number is below the one before it
abbrev pub Falling : List ℕ → Type 0
Falling [] = Unit {0}
Falling (m ∷ ms) = Every (λ k. k < m) ms × Falling ms

-- that many gates have a path from node n
pub record Cone (g : Graph) (n count : ℕ) : Type 0 where
  pub gates : List ℕ
  pub once : Falling gates
  pub number : length gates ≡ count
  pub gate : (m : ℕ) → has m gates ≡ true → is_gate (at input g m) ≡ true
  pub path : (m : ℕ) → has m gates ≡ true → Rests g n m
  pub every : (m : ℕ) → is_gate (at input g m) ≡ true → Rests g n m → has m gates ≡ true

-- where fanins are earlier nodes, a node rests on those that it has a path to, and its cone has the gates among them
pub record ConesArePaths : Type 0 where
  pub path : (g : Graph) → Ordered g → (n m : ℕ) → rests_on g n m ≡ true → Rests g n m
  pub rests : (g : Graph) → Ordered g → (n m : ℕ) → Rests g n m → rests_on g n m ≡ true
  pub cone : (g : Graph) → Ordered g → (e : ℕ) → Cone g (node_of e) (cone_of g e)
