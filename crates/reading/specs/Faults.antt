-- why a line is refused: it breaks a rule for lines, or the session declines its call
use Rattle.std.specs.Prelude.{ℕ, Ok, Err, Result}
use Rattle.model.specs.Sessions.{Refusal, no_shape, out_of_place, wrong_number}
use Rattle.lines.specs.declared.faults.LineFault.TheVariants.{Shape, Place, Number}
use Rattle.lines.specs.declared.faults.TextFault.{TextFault}
use Rattle.lines.specs.Reading as lines
use Rattle.lines.specs.Reading.{broken, declined}
use Rattle.sweeper.specs.Answers.{refusal_in}
use Rattle.reading.specs.declared.faults.ReadFault.{ReadFault}
use Rattle.reading.specs.declared.faults.ReadFault.TheVariants.{Line, Session}

abbrev pub Fault : Type 0
Fault = lines.Fault Refusal

abbrev pub fault_in : ReadFault → Fault
fault_in (Line f) = broken f
fault_in (Session r) = declined (refusal_in r)

-- the refusal of a fault at a line
abbrev pub refusal_at : ℕ → Fault → Refusal
refusal_at k (broken Shape) = no_shape k
refusal_at k (broken Place) = out_of_place k
refusal_at k (broken Number) = wrong_number k
refusal_at k (declined r) = r

-- the line that is refused, counted from 1, and why
abbrev pub Stop : Type 0
Stop = TextFault Fault

abbrev pub stop_in : TextFault ReadFault → Stop
stop_in e = record { line = e.line; fault = fault_in e.fault }

abbrev pub answer_in : Result (Unit {0}) (TextFault ReadFault) → Result (Unit {0}) Stop
answer_in (Ok x) = Ok x
answer_in (Err e) = Err (stop_in e)
