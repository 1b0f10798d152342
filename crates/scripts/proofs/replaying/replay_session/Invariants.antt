use Rattle.std.proofs.Common.{string_bytes}
use Rattle.scripts.specs.Added.{AddsTo}
use Rattle.scripts.proofs.replaying.replay_session.Given as goal

-- answers were only added so far
abbrev pub invariant-loop-call : goal.invariant-loop-call
invariant-loop-call l = AddsTo (string_bytes l.fn.answers) (string_bytes l.answers)
