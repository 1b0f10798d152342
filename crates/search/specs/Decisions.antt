-- A decision, with the kept cuts in their places, in the words of the model.
use Rattle.std.specs.Prelude.{ℕ, List, map, take}
use Rattle.model.specs.Search.{made}
use Rattle.model.specs.Search.{Decision as Decided}
use Rattle.cuts.specs.Meaning.{meaning}
use Rattle.cuts.specs.declared.cut.Cut.{Cut}
use Rattle.search.specs.declared.decision.Decision.{Decision}
use Rattle.search.specs.declared.decision.Decision.TheVariants.{Existing, Made}
use Rattle.search.specs.Finding.{existing}

abbrev pub decision_of : Decision → List Cut → Decided
decision_of (Existing e) places = existing e
decision_of (Made n) places = made (map meaning (take n places))

-- how many cuts are kept
abbrev pub kept_by : Decision → ℕ
kept_by (Existing e) = 0
kept_by (Made n) = n
