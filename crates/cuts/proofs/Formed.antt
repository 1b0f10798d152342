-- A cut of the code is well formed by its type.
use Rattle.std.proofs.Common.{◌≡◌, ◌^◌, ◌<◌, ◌≤◌, length, sym, subst, arith, length-take-le}
use Rattle.model.specs.Cuts.{Formed}
use Rattle.model.specs.Tables.{Rests}
use Rattle.model.proofs.Masked.{loose-rests}
use Rattle.cuts.specs.Meaning.{leaves_of, meaning}
use Rattle.cuts.specs.declared.cut.Cut.{Cut}

pub formed : (c : Cut) → c.table < 2 ^ 2 ^ 4 → Formed 4 (meaning c)
formed c small =
    let places : length c.leaves.nodes ≡ 4 = c.leaves.places in
    let few : c.leaves.count ≤ 4 = c.leaves.few in
    let n : length (leaves_of c.leaves) ≡ c.leaves.count = length-take-le c.leaves.count c.leaves.nodes (omega arith) in
    record {
      small = small;
      few = omega arith;
      rising = c.leaves.rising;
      rests = subst (Rests 4 c.table) (sym n) (loose-rests 4 c.table c.leaves.count c.loose);
      tight = λ i h. c.tight i (omega arith);
    }
