use Rattle.std.proofs.Common.{◌≡◌, ℕ, ◌<◌, false, eqb, List, ◌∷◌, sym, ap, ◌∙◌, subst, arith}
use lib.Bits.{bit_and}
use Rattle.model.specs.Tables.{bit_at, masked, Loose}
use Rattle.model.proofs.Wellformed.{inverted, inverted-loose, inverted-tight, inverted_plain}
use Rattle.cuts.specs.Meaning.{meaning}
use Rattle.cuts.proofs.Bit.{odd}
use Rattle.cuts.proofs.cut.Cut.key.Goals as goal

pub invariant_of-cut : goal.invariant_of-cut
invariant_of-cut c =
    let x = c.args.self.now in
    let s = eqb (bit_and x.table 1) 1 in
    record {
      some = x.some;
      loose = subst (λ w. Loose 4 w x.leaves.count) (sym c.complement_if.ensures) (inverted-loose 4 s x.table x.leaves.count (omega arith) x.loose);
      tight = subst (λ w. (i : ℕ) → i < x.leaves.count → masked 4 w i ≡ false) (sym c.complement_if.ensures) (inverted-tight 4 s x.table x.leaves.count (omega arith) (omega arith) x.tight);
    }

pub invariant_of-result : goal.invariant_of-result
invariant_of-result c =
    let t = c.args.self.now.table in
    record { plain = ap (λ w. bit_at w 0) (c.complement_if.ensures ∙ ap (λ s. inverted 4 s t) (odd t)) ∙ inverted_plain 4 t (omega arith) }

pub returns : goal.returns
returns c =
    let t = c.args.self.now.table in
    record {
      key = ap {A = ℕ} {B = List ℕ} (λ w. w ∷ (meaning c.args.self.now).leaves) (c.complement_if.ensures ∙ ap (λ s. inverted 4 s t) (odd t));
      sign = odd t;
    }
