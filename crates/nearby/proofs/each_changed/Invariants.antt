use Rattle.std.proofs.Common.{◌++◌}
use Rattle.std.specs.List.{FoldsTo}
use Rattle.nearby.specs.Texts.{changed, changed_at}
use Rattle.nearby.proofs.each_changed.Given as goal

-- so far the visitor was shown the changes in the places before
abbrev pub invariant-loop-i : goal.invariant-loop-i
invariant-loop-i g l = FoldsTo g.V.Visitor.visits l.fn.visitor (changed l.text l.i) l.visitor

-- and in this place those to a lower byte
abbrev pub invariant-loop-b : goal.invariant-loop-b
invariant-loop-b g l = FoldsTo g.V.Visitor.visits l.fn.visitor (changed l.text l.i ++ changed_at l.text l.i l.b) l.visitor
