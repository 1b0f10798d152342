-- The highest leaf of a cut of inputs, and of one with a gate. Assumes nothing.
use Rattle.std.proofs.Common.{arith}
use Rattle.std.specs.Prelude.{◌≡◌, ◌<◌, true, false, [], ◌∷◌, refl}
use Rattle.std.proofs.lemmas.Bool.{ltb-true, ltb-false}
use Rattle.model.specs.Rankings.{Facts, any_gate}
use Rattle.buyer.specs.Highest.{highest}

pub highest_none : (a : Facts) → any_gate a ≡ false → highest a ≡ 0
highest_none [] e = refl
highest_none (x ∷ xs) e = grind (arith, highest_none xs, ltb-true, ltb-false)

pub highest_some : (a : Facts) → any_gate a ≡ true → 0 < highest a
highest_some [] e = grind arith
highest_some (x ∷ xs) e = grind (arith, highest_some xs, ltb-true, ltb-false)
