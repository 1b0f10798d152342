use Rattle.std.proofs.Common.{◌≡◌, ℕ, false, List, subst, ap₂, arith}
use Rattle.model.specs.Cuts.{Cut}
use Rattle.model.specs.Tables.{masked}
use Rattle.model.proofs.Wellformed.{trivial-table}
use Rattle.cuts.proofs.Masks.{P, mask_of, mask_small, first-loose, first-tight}
use Rattle.cuts.proofs.cut.Cut.trivial.Goals as goal

pub invariant_of-result : goal.invariant_of-result
invariant_of-result c = record {
  some = omega arith;
  loose = λ i a b. first-loose i (omega arith) b;
  tight = λ i h. subst (λ n. masked P 0xAAAA n ≡ false) (omega arith) first-tight;
}

pub returns : goal.returns
returns c =
    ap₂ {A = List ℕ} {B = ℕ} {C = Cut} (λ l t. record { leaves = l; table = t }) c.one.ensures.list
    (trivial-table P c.args.node 0xAAAA (mask_small 0 (omega arith)) (mask_of 0 (omega arith)))
