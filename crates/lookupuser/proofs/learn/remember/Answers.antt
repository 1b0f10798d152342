use Rattle.std.proofs.Common.{cond, Some, None, refl, ap, ◌∙◌, arith}
use Rattle.model.proofs.Keys.{same_refl}
use Rattle.lookupuser.specs.Leaves.{leaf_meaning}
use Rattle.lookupuser.proofs.learn.remember.Goals as goal

pub returns : goal.returns
returns c = λ pos.
    let m = leaf_meaning c.args.key in
    let entered = c.enter.ensures.new (λ _. None) 0 c.open-table.ensures.stands refl (omega (arith, c.open-table.ensures.room)) in
    c.find.ensures.exact ∙ entered.1.gives m ∙ ap (λ t. cond t (Some c.args.value) None) (same_refl m)
