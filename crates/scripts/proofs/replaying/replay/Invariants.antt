use Rattle.std.proofs.Common.{string_bytes}
use Rattle.scripts.specs.Added.{AddsTo}
use Rattle.scripts.proofs.replaying.replay.Given as goal

-- answers were only added so far
abbrev pub invariant-loop-i : goal.invariant-loop-i
invariant-loop-i l = AddsTo (string_bytes l.fn.answers) (string_bytes l.answers)
