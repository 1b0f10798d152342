use Rattle.cuts.proofs.words.high.Goals as goal
use Rattle.std.proofs.Common.{◌/◌, ◌^◌, cond, ap, ◌∙◌, arith}
use Rattle.model.specs.Tables.{val}
use Rattle.cuts.proofs.Masks.{P, step_is, step_fits}
use Rattle.model.proofs.Positions.{high_choice}

pub overflow_shr-table : goal.overflow_shr-table
overflow_shr-table c = omega (arith, step_is c.args.position c.requires, step_fits c.args.position c.requires)

pub returns : goal.returns
returns c v =
    c.pick.ensures v
    ∙ ap (λ s. cond (v c.args.position) (val P c.args.table v) (val P (c.args.table / 2 ^ s) v)) (step_is c.args.position c.requires)
    ∙ high_choice P c.args.position c.args.table c.requires v
