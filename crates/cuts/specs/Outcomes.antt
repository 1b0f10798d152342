-- What the answers of stretching, squeezing and joining say in the model.
use Rattle.std.specs.Prelude.{◌≡◌, ℕ, Bool, cond, List, [], length, Some, None, Option}
use Rattle.model.specs.Tables.{Loose, complemented}
use Rattle.model.specs.Leaves.{Within}
use Rattle.model.specs.Cuts.{Cut, stretched, squeeze}
use Rattle.model.specs.Sessions.{positions}
use Rattle.cuts.specs.Meaning.{meaning}
use Rattle.cuts.specs.declared.outcome.Squeezed.{Squeezed}
use Rattle.cuts.specs.declared.outcome.Squeezed.TheVariants as squeezed

-- a constant as a cut with no leaves: the same value in every row
abbrev pub constant_of : Bool → Cut
constant_of b = record { leaves = []; table = cond b (complemented positions 0) 0 }

abbrev pub squeezed_of : Squeezed → Cut
squeezed_of (squeezed.Constant b) = constant_of b
squeezed_of (squeezed.Cut c) = meaning c

-- none where the leaves of both are more than the limit
abbrev pub joined_of : Option Squeezed → Option Cut
joined_of None = None
joined_of (Some s) = Some (squeezed_of s)

-- the stretched table, or none exactly where a leaf is missing among the new ones
abbrev pub Stretches : Cut → List ℕ → Option ℕ → Type 0
Stretches c ls (Some t) = Within c.leaves ls × (t ≡ stretched positions c ls)
Stretches c ls None = Within c.leaves ls → ⊥

-- what is left without masked leaves, or none exactly where the table looks at a position that has no leaf
abbrev pub Squeezes : Cut → Option Squeezed → Type 0
Squeezes c (Some s) = Loose positions c.table (length c.leaves) × (squeezed_of s ≡ squeeze positions c)
Squeezes c None = Loose positions c.table (length c.leaves) → ⊥
