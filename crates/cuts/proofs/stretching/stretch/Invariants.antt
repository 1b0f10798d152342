use Rattle.std.proofs.Common.{◌≡◌, length, take}
use Rattle.model.proofs.Stretching.{Partly}
use Rattle.cuts.proofs.stretching.stretch.Given as goal

abbrev pub invariant-loop-left : goal.invariant-loop-left
invariant-loop-left l = record {
  old : l.left ≡ take (length l.left) l.old;
  new : l.places ≡ take (length l.places) l.new;
  partly : Partly 4 l.table l.old l.new (length l.left) (length l.places) l.word;
}

abbrev pub decreases-loop-left : goal.decreases-loop-left
decreases-loop-left l = length l.places
