-- The relation and the mark of each ranking that has a name.
use Rattle.std.specs.Prelude.{Bool, true, false}
use Rattle.model.specs.Rankings.{Before, by_height, by_gate_leaves, by_uses, by_nothing}
use Rattle.ranked.specs.declared.RankedBy.{RankedBy}
use Rattle.ranked.specs.declared.RankedBy.TheVariants.{Height, GateLeaves, Uses, Nothing}

abbrev pub before_of : RankedBy → Before
before_of Height = by_height
before_of GateLeaves = by_gate_leaves
before_of Uses = by_uses
before_of Nothing = by_nothing

-- whether it puts cuts of inputs alone first
abbrev pub mark_of : RankedBy → Bool
mark_of Height = true
mark_of GateLeaves = true
mark_of Uses = false
mark_of Nothing = false
