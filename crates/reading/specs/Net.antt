-- which texts are nets that a session takes, and where another text goes wrong
use Rattle.std.specs.Prelude.{ℕ, List, Result}
use Rattle.model.specs.Rankings.{Before}
use Rattle.model.specs.Sessions.{State}
use Rattle.lines.specs.declared.lines.Line.{Line}
use Rattle.lines.specs.Texts as texts
use Rattle.reading.specs.Faults.{Stop}
use Rattle.reading.specs.Reading.{caller}

-- the calls of the lines, in their order, are all accepted and lead from s to u
abbrev pub Accepted : Before → State → List Line → State → Type 0
Accepted before = texts.Accepted (caller before)

-- the text is that of a net, numbered on from the state's nodes, no number in it is above 32,767, and its calls lead to u
abbrev pub Follows : Before → State → List ℕ → State → Type 0
Follows before = texts.Follows (caller before)

-- the lines before the refused line are those of a net so far, their calls lead to u, and the rest of the text breaks a rule or is declined
abbrev pub Refused : Before → State → List ℕ → Stop → State → Type 0
Refused before = texts.Refused (caller before)

abbrev pub Told : Before → State → List ℕ → Result (Unit {0}) Stop → State → Type 0
Told before = texts.Told (caller before)
