use Rattle.std.proofs.Common.{min, Some, sym, refl, ap, ◌∙◌, subst}
use lib.Bits.{bit_and}
use Rattle.std.proofs.lemmas.Bool.{le-leb}
use Rattle.model.specs.Cuts.{squeeze}
use Rattle.model.specs.Leaves.{Within}
use Rattle.model.specs.Tables.{Loose}
use Rattle.model.proofs.Uniting.{within-left, within-right}
use Rattle.model.proofs.Joining.{joined-table, join_is, tabulated-loose}
use Rattle.cuts.specs.Meaning.{leaves_of, meaning}
use Rattle.cuts.proofs.United.{united-is}
use Rattle.cuts.proofs.joining.join.Goals as goal

pub stretch-requires-clause-within : goal.stretch-requires-clause-within
stretch-requires-clause-within c =
    let a = leaves_of c.args.a.cut.now.leaves in
    let b = leaves_of c.args.b.cut.now.leaves in
    let u = united-is (min c.args.limit 4) (leaves_of c.in_ok-leaves.leaves) a b c.in_ok-leaves.ensures in
    subst (Within a) (sym (c.as_slice-all.ensures.list ∙ u.0)) (within-left a b)

pub stretch-requires-2-clause-within : goal.stretch-requires-2-clause-within
stretch-requires-2-clause-within c =
    let a = leaves_of c.args.a.cut.now.leaves in
    let b = leaves_of c.args.b.cut.now.leaves in
    let u = united-is (min c.args.limit 4) (leaves_of c.in_ok-leaves.leaves) a b c.in_ok-leaves.ensures in
    subst (Within b) (sym (c.as_slice-all.ensures.list ∙ u.0)) (within-right a b)

pub squeeze-requires : goal.squeeze-requires
squeeze-requires c =
    let all = c.as_slice-all.result.now in
    subst (Loose 4 _) c.as_slice-all.ensures.count
    (tabulated-loose 4 all _ _ (joined-table 4 (meaning c.args.a.cut.now) (meaning c.args.b.cut.now) c.args.a.sign c.args.b.sign all refl refl c.stretch.ensures c.stretch-2.ensures))

pub returns : goal.returns
returns c =
    let a = meaning c.args.a.cut.now in
    let b = meaning c.args.b.cut.now in
    let s = c.args.a.sign in
    let t = c.args.b.sign in
    let all = c.as_slice-all.result.now in
    let word = bit_and c.stretch.result c.stretch-2.result in
    let u = united-is (min c.args.limit 4) (leaves_of c.in_ok-leaves.leaves) a.leaves b.leaves c.in_ok-leaves.ensures in
    rw (le-leb _ _ u.1) (ap Some (c.squeeze.ensures ∙ ap (λ l. squeeze 4 (record { leaves = l; table = word })) (sym c.as_slice-all.ensures.list)
    ∙ join_is 4 a b s t all word (c.as_slice-all.ensures.list ∙ u.0) (joined-table 4 a b s t all refl refl c.stretch.ensures c.stretch-2.ensures)))
