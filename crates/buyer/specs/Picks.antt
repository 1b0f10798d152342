-- Three cuts, numbered from 0 in the order in which they were found.
use Rattle.std.specs.Prelude.{ℕ, List, [], ◌∷◌, map}
use Rattle.model.specs.Rankings.{Before, first_by}
use Rattle.rankings.specs.declared.candidate.Candidate.{Candidate}
use Rattle.rankings.specs.declared.facts.CutFacts.{CutFacts}
use Rattle.rankings.specs.Candidates.{by_facts}

abbrev pub numbered : CutFacts → CutFacts → CutFacts → List (Candidate ℕ)
numbered a b c = record { item = 0; facts = a } ∷ (record { item = 1; facts = b } ∷ (record { item = 2; facts = c } ∷ []))

-- the numbers of the first n
abbrev pub first_of_three : Before → ℕ → CutFacts → CutFacts → CutFacts → List ℕ
first_of_three before n a b c = map (λ k. k.item) (first_by (by_facts before) n (numbered a b c))
