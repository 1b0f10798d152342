use Rattle.model.proofs.Squeezing.{Dropped}
use Rattle.cuts.proofs.squeezing.drop_masked.Given as goal

abbrev pub invariant-loop-position : goal.invariant-loop-position
invariant-loop-position l = Dropped 4 l.table l.leaves l.position l.count l.word l.found
