-- Laws of graphs: what one more node leaves as it was.
use Rattle.std.specs.Prelude.{◌≡◌, ℕ, ◌*◌, ◌≤◌, Bool, List, ◌∷◌, length}
use Rattle.model.specs.Cuts.{Cut, value_of}
use Rattle.model.specs.Graphs.{Node, Graph, value, edge_value, height, cuts_of}
use Rattle.model.specs.Edges.{node_of}
use Rattle.model.specs.Rankings.{Every}
use Rattle.model.specs.Sessions.{Tables, capacity_of}

-- under every assignment the cut gives the node's value from its leaves' values
abbrev pub Describes : Graph → Cut → ℕ → Type 0
Describes g c n = (env : ℕ → Bool) → value_of c (value g env) ≡ value g env n

-- one more node changes no earlier value or height, and a cut that describes its node goes on describing it
pub record Grows (nd : Node) (g : Graph) : Type 0 where
  pub values : (env : ℕ → Bool) (n : ℕ) → n ≤ length g → value (nd ∷ g) env n ≡ value g env n
  pub edges : (env : ℕ → Bool) (e : ℕ) → node_of e ≤ length g → edge_value (nd ∷ g) env e ≡ edge_value g env e
  pub heights : (n : ℕ) → n ≤ length g → height (nd ∷ g) n ≡ height g n
  pub describes : (c : Cut) (n : ℕ) → n ≤ length g → Every (λ l. l ≤ length g) c.leaves → Describes g c n → Describes (nd ∷ g) c n

abbrev pub GrowingChangesNothingEarlier : Type 0
GrowingChangesNothingEarlier = (nd : Node) (g : Graph) → Grows nd g

-- nor an earlier node's cuts
abbrev pub CutsStay : Type 0
CutsStay = (p : ℕ) (cs : List Cut) (ks : List (List Cut)) (n : ℕ) → n ≤ length ks → cuts_of p (cs ∷ ks) n ≡ cuts_of p ks n

-- the tables hold c nodes, each of which may keep n cuts
pub record Holds (n : ℕ) (t : Tables) (c : ℕ) : Type 0 where
  pub source : c ≤ t.source
  pub reduced : c ≤ t.reduced
  pub pairs : c ≤ t.pairs
  pub cuts : n * c ≤ t.cuts
  pub keys : n * c ≤ t.keys

-- the capacity is the largest number, up to a limit, of nodes that the tables hold
pub record Capacity (most n : ℕ) (t : Tables) : Type 0 where
  pub within : capacity_of most n t ≤ most
  pub holds : Holds n t (capacity_of most n t)
  pub largest : (c : ℕ) → c ≤ most → Holds n t c → c ≤ capacity_of most n t

abbrev pub CapacityIsLargest : Type 0
CapacityIsLargest = (most n : ℕ) (t : Tables) → 1 ≤ n → Capacity most n t
