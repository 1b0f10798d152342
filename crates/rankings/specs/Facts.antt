-- What the facts of a cut mean: the list of what is told of each leaf.
use Rattle.std.specs.Prelude.{map, take}
use Rattle.model.specs.Rankings.{LeafFacts as Leaf, Facts}
use Rattle.rankings.specs.declared.facts.LeafFacts.{LeafFacts}
use Rattle.rankings.specs.declared.facts.CutFacts.{CutFacts}

abbrev pub leaf_of : LeafFacts → Leaf
leaf_of f = record { height = f.height; uses = f.uses }

-- the places past the count are never read
abbrev pub facts_of : CutFacts → Facts
facts_of f = map leaf_of (take f.count f.leaves)
