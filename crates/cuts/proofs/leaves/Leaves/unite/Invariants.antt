use Rattle.std.proofs.Common.{◌≡◌, ◌-◌, length, drop}
use Rattle.model.proofs.Uniting.{Merged}
use Rattle.cuts.specs.Meaning.{leaves_of}
use Rattle.cuts.proofs.leaves.Leaves.unite.Given as goal

abbrev pub invariant-loop-a : goal.invariant-loop-a
invariant-loop-a l =
    let xs = leaves_of l.self in
    let ys = leaves_of l.other in
    record {
      merged : Merged l.most xs ys (length xs - length l.a) (length ys - length l.b) l.count l.nodes;
      a : l.a ≡ drop (length xs - length l.a) xs;
      b : l.b ≡ drop (length ys - length l.b) ys;
      places : length l.nodes ≡ 4;
    }

abbrev pub decreases-loop-a : goal.decreases-loop-a
decreases-loop-a l = l.most - l.count
