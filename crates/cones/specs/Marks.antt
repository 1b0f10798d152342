-- Marks of nodes: 1 where the count has reached a node.
use Rattle.std.specs.Prelude.{◌≡◌, ℕ, ◌<◌, Bool, ◌&&◌, List, length, ◌==◌, slice_index, slice_set}
use Rattle.model.specs.Edges.{node_of}
use Rattle.model.specs.Graphs.{Node, input, gate, Graph, at}
use Rattle.cones.specs.Paths.{is_gate}

-- every mark is 0
abbrev pub Clear : List ℕ → Type 0
Clear ms = (k : ℕ) → k < length ms → slice_index ms k ≡ 0

-- as many marks as there were, each 0
pub record Wiped (before after : List ℕ) : Type 0 where
  pub clear : Clear after
  pub number : length after ≡ length before

-- a marked gate
abbrev pub is_reached : Graph → List ℕ → ℕ → Bool
is_reached g ms k = slice_index ms k == 1 && is_gate (at input g k)

-- the marks with those of both fanins
abbrev pub with_fanins : Node → List ℕ → List ℕ
with_fanins input ms = ms
with_fanins (gate x y) ms = slice_set (slice_set ms (node_of x) 1) (node_of y) 1
