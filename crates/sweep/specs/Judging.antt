-- what the program answers for its input
use Rattle.std.specs.Prelude.{ℕ, cond, List, length, Ok, Err, Result, nat_le}
use Rattle.lines.specs.declared.faults.LineFault.{LineFault}
use Rattle.lines.specs.declared.faults.TextFault.{TextFault}
use Rattle.lines.specs.Faults.{line_refusal}
use Rattle.netlist.specs.declared.reader.Outline.{Outline}
use Rattle.netlist.specs.Reading.{read_text}
use Rattle.sweep.specs.declared.Refusal.{Refusal}
use Rattle.sweep.specs.declared.Refusal.TheVariants.{TooLong, Text}

-- the number of a refusal that is printed
abbrev pub number_of : Refusal → ℕ
number_of TooLong = 5
number_of (Text e) = line_refusal e.fault

-- and the line
abbrev pub line_of : Refusal → ℕ
line_of TooLong = 0
line_of (Text e) = e.line

abbrev pub answered : Result Outline (TextFault LineFault) → Result Outline Refusal
answered (Ok o) = Ok o
answered (Err e) = Err (Text e)

-- more than 16,384 bytes are refused, with number 5 at line 0; any other input is read
abbrev pub judged : List ℕ → Result Outline Refusal
judged text = cond (nat_le (length text) 16384) (answered (read_text text)) (Err TooLong)
