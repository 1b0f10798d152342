-- The number and the line of a refusal.
use Rattle.std.specs.Prelude.{ℕ}
use Rattle.model.specs.Sessions.{refusal_number, too_short}
use Rattle.reading.specs.Faults.{Stop, refusal_at, stop_in}
use Rattle.netsweep.specs.declared.Refusal.{Refusal}
use Rattle.netsweep.specs.declared.Refusal.TheVariants.{TooLong, Text, Page}

-- what is printed of a refusal
pub record Told : Type 0 where
  pub number : ℕ
  pub line : ℕ

-- a line is refused with its number
abbrev pub refused_by : Stop → Told
refused_by e = record { number = refusal_number (refusal_at e.line e.fault); line = e.line }

-- the text is too long, or the page too short: no line is to blame
abbrev pub no_room : Told
no_room = record { number = refusal_number (too_short 0); line = 0 }

abbrev pub told : Refusal → Told
told TooLong = no_room
told (Text e) = refused_by (stop_in e)
told (Page short) = no_room

abbrev pub number_of : Refusal → ℕ
number_of r = (told r).number

abbrev pub line_of : Refusal → ℕ
line_of r = (told r).line
