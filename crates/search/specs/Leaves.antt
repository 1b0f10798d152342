-- Where the facts of a leaf are read.
use Rattle.std.specs.Prelude.{ℕ, ◌-◌, cond, List, ◌==◌, slice_index_or}
use Rattle.model.specs.Rankings.{LeafFacts as Leaf}
use Rattle.rankings.specs.Facts.{leaf_of}
use Rattle.rankings.specs.declared.facts.LeafFacts.{LeafFacts}
use Rattle.search.specs.declared.rows.Node.TheVariants.{Input}
use Rattle.search.specs.declared.rows.ReducedRow.{ReducedRow}

abbrev pub no_facts : LeafFacts
no_facts = record { height = 0; uses = 0 }

abbrev pub no_row : ReducedRow
no_row = record { node = Input; facts = no_facts; kept = 0 }

-- node n has row n - 1; a leaf with no row has height 0 and no uses
abbrev pub leaf_at : List ReducedRow → ℕ → Leaf
leaf_at rows n = cond (n == 0) (leaf_of no_facts) (leaf_of (slice_index_or rows (n - 1) no_row).facts)
