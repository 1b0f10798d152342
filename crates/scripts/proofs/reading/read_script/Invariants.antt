use Rattle.std.proofs.Common.{◌≡◌, true, All}
use Rattle.scripts.proofs.reading.read_script.Given as goal

-- the program takes each call so far
abbrev pub invariant-loop-line : goal.invariant-loop-line
invariant-loop-line g l = All (λ call. g.P.Program.takes call ≡ true) l.calls.items
