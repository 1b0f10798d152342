use Rattle.std.proofs.Common.{◌≡◌, ℕ, ◌<◌, false, sym, ap, subst, arith}
use Rattle.model.specs.Cuts.{Cut}
use Rattle.model.specs.Tables.{masked, Loose}
use Rattle.model.proofs.Wellformed.{inverted-loose, inverted-tight}
use Rattle.cuts.specs.Keys.{Restores}
use Rattle.cuts.specs.Meaning.{meaning}
use Rattle.cuts.proofs.Keyed.{restored}
use Rattle.cuts.proofs.key.CutKey.cut.Goals as goal

pub invariant_of-result : goal.invariant_of-result
invariant_of-result c =
    let x = c.args.self.now.cut in
    let s = c.args.sign in
    record {
      some = x.some;
      loose = subst (λ w. Loose 4 w x.leaves.count) (sym c.complement_if.ensures) (inverted-loose 4 s x.table x.leaves.count (omega arith) x.loose);
      tight = subst (λ w. (i : ℕ) → i < x.leaves.count → masked 4 w i ≡ false) (sym c.complement_if.ensures) (inverted-tight 4 s x.table x.leaves.count (omega arith) (omega arith) x.tight);
    }

pub returns : goal.returns
returns c =
    let k = c.args.self.now in
    let e = ap {A = ℕ} {B = Cut} (λ w. record { leaves = (meaning k.cut).leaves; table = w }) c.complement_if.ensures in
    record {
      cut = e;
      restores = subst (Restores k c.args.sign) (sym e) (restored k c.args.sign (omega arith));
    }
