-- The height of the highest leaf, and cuts compared by it.
use Rattle.std.specs.Prelude.{ℕ, max, [], ◌∷◌, nat_lt}
use Rattle.model.specs.Rankings.{Facts, Before}

abbrev pub highest : Facts → ℕ
highest [] = 0
highest (f ∷ fs) = max f.height (highest fs)

abbrev pub by_highest : Before
by_highest a b = nat_lt (highest a) (highest b)
