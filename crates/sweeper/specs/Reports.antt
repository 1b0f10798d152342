-- What a session tells of itself.
use Rattle.std.specs.Prelude.{ℕ, ◌-◌, Bool, cond, ◌||◌, List, [], length, Some, None, Option, ◌==◌, nat_lt, slice_index_or}
use Rattle.model.specs.Graphs.{Node, input, at, height, uses}
use Rattle.model.specs.Sessions.{State}
use Rattle.search.specs.declared.rows.ReducedRow.{ReducedRow}
use Rattle.search.specs.declared.rows.Node.{Node as Kind}
use Rattle.sweeper.specs.Tables.{node_in}

-- a reduced node: an input or a gate, its height and uses, and how many cuts it keeps
pub record Described : Type 0 where
  pub node : Node
  pub height : ℕ
  pub uses : ℕ
  pub kept : ℕ

abbrev pub described : Option ReducedRow → Option Described
described (Some r) = Some (record { node = node_in r.node; height = r.facts.height; uses = r.facts.uses; kept = r.kept })
described None = None

-- there is no number 0, and none past the last
abbrev pub outside : ℕ → ℕ → Bool
outside count n = n == 0 || nat_lt count n

-- the constant has no row, and no node stands past the last
abbrev pub described_in : State → ℕ → Option Described
described_in s n = cond (n == 0 || nat_lt (length s.reduced) n) None
    (Some (record { node = at input s.reduced n; height = height s.reduced n; uses = uses s.reduced n; kept = length (at [] s.kept n) }))

-- number n of a list whose newest stands first
abbrev pub entry : {A : Type 0} → A → List A → ℕ → Option A
entry d xs n = cond (outside (length xs) n) None (Some (at d xs n))

-- number n of the first rows of a table
abbrev pub row_at : {A : Type 0} → A → List A → ℕ → ℕ → Option A
row_at d rows count n = cond (outside count n) None (Some (slice_index_or rows (n - 1) d))

abbrev pub node_told : Option Kind → Option Node
node_told (Some k) = Some (node_in k)
node_told None = None
