use Rattle.std.proofs.Common.{◌≡◌, map, take, drop}
use Rattle.search.proofs.keeping.write_cuts.Given as goal

abbrev pub invariant-loop-i : goal.invariant-loop-i
invariant-loop-i l = (take l.i l.places ≡ map (λ c. c.item) (take l.i l.candidates)) × (drop l.i l.places ≡ drop l.i l.initial.places)
