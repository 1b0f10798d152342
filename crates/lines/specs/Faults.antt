-- the numbers of refusals, and faults with their lines
use Rattle.std.specs.Prelude.{ℕ, Ok, Err, Result}
use Rattle.lines.specs.declared.faults.LineFault.{LineFault}
use Rattle.lines.specs.declared.faults.LineFault.TheVariants.{Shape, Place, Number}
use Rattle.lines.specs.declared.faults.TextFault.{TextFault}

abbrev pub line_refusal : LineFault → ℕ
line_refusal Shape = 7
line_refusal Place = 8
line_refusal Number = 9

abbrev pub at_line : {X F : Type 0} → ℕ → Result X F → Result X (TextFault F)
at_line k (Ok x) = Ok x
at_line k (Err e) = Err (record { line = k; fault = e })
