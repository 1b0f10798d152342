-- a reader's position in a text, and how a line moves it on
use Rattle.std.specs.Prelude.{◌≡◌, ℕ, ◌+◌, List, Some, None, Ok, Err, Option, Result, MatchResult}
use Rattle.lines.specs.declared.faults.LineFault.{LineFault}
use Rattle.lines.specs.declared.lines.Line.{Line}
use Rattle.lines.specs.declared.reader.Place.{Place}
use Rattle.lines.specs.declared.reader.Place.TheVariants.{Start}
use Rattle.lines.specs.declared.reader.Reader.{Reader}
use Rattle.lines.specs.Order.{arrives, finished}
use Rattle.lines.specs.Shape.{cut_at, read_line}

-- the place among the lines, the number of the next line, and what is left of the text
pub record Position : Type 0 where
  pub place : Place
  pub line : ℕ
  pub rest : List ℕ

abbrev pub position_of : Reader → Position
position_of r = record { place = r.place; line = r.passed + 1; rest = r.rest.now }

-- at the first line of a text
abbrev pub begun : List ℕ → Position
begun text = record { place = Start; line = 1; rest = text }

abbrev pub placed_at : Position → Result Place LineFault → Result Position LineFault
placed_at s (Ok p) = Ok (record { place = p; line = s.line; rest = s.rest })
placed_at s (Err e) = Err e

-- the place that was due is come to, or the position is as it was
abbrev pub Lands : Result Place LineFault → Position → Result (Unit {0}) LineFault → Position → Type 0
Lands due s r t = MatchResult r (λ _. placed_at s due ≡ Ok t) (λ e. (due ≡ Err e) × (t ≡ s))

abbrev pub past : Position → Line → List ℕ → Result Place LineFault → Result (Option (Line × Position)) LineFault
past s l after (Ok p) = Ok (Some (l, record { place = p; line = s.line + 1; rest = after }))
past s l after (Err e) = Err e

abbrev pub past_read : ℕ → Position → List ℕ → Result Line LineFault → Result (Option (Line × Position)) LineFault
past_read nodes s after (Ok l) = past s l after (arrives s.place nodes l)
past_read nodes s after (Err e) = Err e

abbrev pub none_left : Result (Unit {0}) LineFault → Result (Option (Line × Position)) LineFault
none_left (Ok x) = Ok None
none_left (Err e) = Err e

abbrev pub past_cut : ℕ → Position → Option (List ℕ × List ℕ) → Result (Option (Line × Position)) LineFault
past_cut nodes s None = none_left (finished s.place s.rest)
past_cut nodes s (Some (before, after)) = past_read nodes s after (read_line before)

-- the next line and the position after it, or none after the end line; its numbers are those due after so many nodes
abbrev pub next_line : ℕ → Position → Result (Option (Line × Position)) LineFault
next_line nodes s = past_cut nodes s (cut_at 10 s.rest)

-- the next line is answered and the position is past it, or it is as it was
abbrev pub Moves : ℕ → Position → Result (Option Line) LineFault → Position → Type 0
Moves nodes s (Ok (Some l)) t = next_line nodes s ≡ Ok (Some (l, t))
Moves nodes s (Ok None) t = (next_line nodes s ≡ Ok None) × (t ≡ s)
Moves nodes s (Err e) t = (next_line nodes s ≡ Err e) × (t ≡ s)
