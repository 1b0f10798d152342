use Rattle.cuts.proofs.words.is_free.Goals as goal
use Rattle.std.proofs.Common.{◌-◌, ◌/◌, ◌^◌, eqb, get_or, ap, ◌∙◌, arith}
use lib.Bits.{bit_and, bit_xor}
use Rattle.cuts.proofs.Masks.{masks, P, mask_of, mask_small, step_is, step_fits}
use Rattle.model.proofs.MaskTest.{masked_word}

pub overflow_shr-result : goal.overflow_shr-result
overflow_shr-result c = omega (arith, step_is c.args.position c.requires, step_fits c.args.position c.requires)

pub returns : goal.returns
returns c =
    let i = c.args.position in
    let t = c.args.table in
    let m = get_or masks i 0 in
    ap (λ s. eqb (bit_and (bit_xor (t / 2 ^ s) t) (2 ^ 2 ^ P - 1 - m)) 0) (step_is i c.requires)
    ∙ masked_word P t i m c.requires (omega arith) (mask_small i c.requires) (mask_of i c.requires)
