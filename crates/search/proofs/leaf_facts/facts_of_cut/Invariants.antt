use Rattle.std.proofs.Common.{◌≡◌, map, length, take}
use Rattle.rankings.specs.Facts.{leaf_of}
use Rattle.search.specs.Leaves.{leaf_at}
use Rattle.search.proofs.leaf_facts.facts_of_cut.Given as goal

abbrev pub invariant-loop-i : goal.invariant-loop-i
invariant-loop-i l = (length l.facts ≡ 4) × (map leaf_of (take l.i l.facts) ≡ map (leaf_at l.rows) (take l.i l.leaves))
