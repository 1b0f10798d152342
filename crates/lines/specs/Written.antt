-- what is written of a line, and how large its numbers are
use Rattle.std.specs.Prelude.{ℕ, ◌<◌, List}
use Rattle.model.specs.Reports as report
use Rattle.model.specs.Texts as text
use Rattle.lines.specs.declared.lines.Line.{Line}
use Rattle.lines.specs.declared.lines.Line.TheVariants.{Net, Input, Gate, Out, End}

-- the line as a line of a net
abbrev pub line_in : Line → report.Line
line_in (Net n) = report.net n
line_in (Input n) = report.«in» n
line_in (Gate a b) = report.and a b
line_in (Out e) = report.out e
line_in (End n) = report.end n

-- a line without its end
abbrev pub line_text : Line → List ℕ
line_text l = text.line_text (line_in l)

-- a line with byte 10
abbrev pub written : Line → List ℕ
written l = text.written (line_in l)

-- the line's numbers are below a limit
abbrev pub NumbersBelow : ℕ → Line → Type 0
NumbersBelow limit (Net n) = n < limit
NumbersBelow limit (Input n) = n < limit
NumbersBelow limit (Gate a b) = (a < limit) × (b < limit)
NumbersBelow limit (Out e) = e < limit
NumbersBelow limit (End n) = n < limit

-- no number is above 32,767
abbrev pub Fit : Line → Type 0
Fit l = NumbersBelow 32768 l

-- no number has more than five digits
abbrev pub Short : Line → Type 0
Short l = NumbersBelow 100000 l
