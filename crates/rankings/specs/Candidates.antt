-- Candidates, ranked by their facts.
use Rattle.std.specs.Prelude.{Bool}
use Rattle.model.specs.Rankings.{Before}
use Rattle.rankings.specs.declared.candidate.Candidate.{Candidate}
use Rattle.rankings.specs.Facts.{facts_of}

abbrev pub by_facts : {T : Type 0} → Before → Candidate T → Candidate T → Bool
by_facts before a b = before (facts_of a.facts) (facts_of b.facts)
