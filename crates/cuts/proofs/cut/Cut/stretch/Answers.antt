use Rattle.std.proofs.Common.{ℕ, List, sym, ◌∙◌, subst, ap₂, arith, length-take}
use Rattle.std.proofs.lemmas.Bool.{both_ways}
use Rattle.model.specs.Cuts.{stretched}
use Rattle.model.specs.Leaves.{Rising, Within}
use Rattle.model.specs.Tables.{Loose}
use Rattle.model.proofs.Containing.{within_unites, unites_within}
use Rattle.cuts.specs.Meaning.{leaves_of, meaning}
use Rattle.cuts.specs.Outcomes.{Stretches}
use Rattle.cuts.proofs.United.{united-is, united-out}
use Rattle.cuts.proofs.cut.Cut.stretch.Goals as goal

pub returns-in_err-all : goal.returns-in_err-all
returns-in_err-all c =
    let a = leaves_of c.args.self.now.leaves in
    let b = leaves_of c.args.onto.now in
    subst (Stretches (meaning c.args.self.now) b) (sym c.from_residual.ensures)
    (united-out 4 a b c.in_err-all.ensures (omega (arith, length-take c.args.onto.now.count c.args.onto.now.nodes)) c.args.onto.now.rising)

pub stretch-requires : goal.stretch-requires
stretch-requires c =
    let a = leaves_of c.args.self.now.leaves in
    let b = leaves_of c.args.onto.now in
    let u = united-is 4 (leaves_of c.in_ok-all.all) a b c.in_ok-all.ensures in
    record {
      few = omega arith;
      rising = (subst Rising (sym c.leaves.ensures.list) c.args.self.now.leaves.rising, subst Rising (sym c.as_slice.ensures.list) c.args.onto.now.rising);
      within = subst (λ l. Within l c.as_slice.result.now) (sym c.leaves.ensures.list)
          (subst (Within a) (sym c.as_slice.ensures.list) (unites_within a b (sym u.0 ∙ c.eq.ensures.exact.0 c.if-eq.true)));
      loose = subst (Loose 4 c.args.self.now.table) (sym c.leaves.ensures.count) c.args.self.now.loose;
    }

pub returns-then-eq : goal.returns-then-eq
returns-then-eq c =
    let a = leaves_of c.args.self.now.leaves in
    let b = leaves_of c.args.onto.now in
    let u = united-is 4 (leaves_of c.in_ok-all.all) a b c.in_ok-all.ensures in (
      unites_within a b (sym u.0 ∙ c.eq.ensures.exact.0 c.if-eq.true),
      c.stretch.ensures
          ∙ ap₂ {A = List ℕ} {B = List ℕ} (λ l m. stretched 4 (record { leaves = l; table = c.args.self.now.table }) m) c.leaves.ensures.list c.as_slice.ensures.list,
    )

pub returns-else-eq : goal.returns-else-eq
returns-else-eq c w =
    let a = leaves_of c.args.self.now.leaves in
    let b = leaves_of c.args.onto.now in
    let u = united-is 4 (leaves_of c.in_ok-all.all) a b c.in_ok-all.ensures in
    both_ways c.eq.result c.if-eq.false (c.eq.ensures.exact.1 (u.0 ∙ within_unites a b c.args.onto.now.rising w))
