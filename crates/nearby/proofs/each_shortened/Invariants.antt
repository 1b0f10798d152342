use Rattle.std.specs.List.{FoldsTo}
use Rattle.nearby.specs.Texts.{shortened}
use Rattle.nearby.proofs.each_shortened.Given as goal

-- so far the visitor was shown the fronts of fewer bytes
abbrev pub invariant-loop-n : goal.invariant-loop-n
invariant-loop-n g l = FoldsTo g.V.Visitor.visits l.fn.visitor (shortened l.text l.n) l.visitor
