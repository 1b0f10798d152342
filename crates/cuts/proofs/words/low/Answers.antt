use Rattle.cuts.proofs.words.low.Goals as goal
use Rattle.std.proofs.Common.{◌*◌, ◌%◌, ◌^◌, cond, ap, ◌∙◌, arith}
use Rattle.model.specs.Tables.{val}
use Rattle.cuts.proofs.Masks.{P, step_is, step_fits}
use Rattle.model.proofs.Positions.{low-choice}

pub overflow_shl-table : goal.overflow_shl-table
overflow_shl-table c = omega (arith, step_is c.args.position c.requires, step_fits c.args.position c.requires)

pub returns : goal.returns
returns c v =
    c.pick.ensures v
    ∙ ap (λ s. cond (v c.args.position) (val P ((c.args.table * 2 ^ s) % 2 ^ 2 ^ P) v) (val P c.args.table v)) (step_is c.args.position c.requires)
    ∙ low-choice P c.args.position c.args.table c.requires v
