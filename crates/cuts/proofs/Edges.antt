-- An edge and its complement differ in the lowest bit.
use Rattle.std.proofs.Common.{◌≡◌, ℕ, ◌+◌, ◌*◌, ◌/◌, ◌%◌, Bool, true, false, refl, ◌∙◌, ⊎_elim, arith}
use lib.Bits.{bit_xor, xor_step, xor_zero_r}
use mir.Val.{bool_byte}
use Rattle.std.proofs.lemmas.Bool.{cases_eq, eq-eqb, ne_eqb}
use Rattle.model.specs.Edges.{signed}

pub flip_is : (e : ℕ) (s : Bool) → bit_xor e (bool_byte s) ≡ signed e s
flip_is e true = ⊎_elim
    (λ (z : e % 2 ≡ 1).
    let h : bit_xor e 1 ≡ bit_xor (e / 2) 0 * 2 + 0 = xor_step e 1 ∙ rw z refl in
    let k : bit_xor (e / 2) 0 ≡ e / 2 = xor_zero_r (e / 2) in
    rw (eq-eqb (e % 2) 1 z) (omega arith))
    (λ (z : e % 2 ≡ 1 → ⊥).
    let y : e % 2 ≡ 0 = omega arith in
    let h : bit_xor e 1 ≡ bit_xor (e / 2) 0 * 2 + 1 = xor_step e 1 ∙ rw y refl in
    let k : bit_xor (e / 2) 0 ≡ e / 2 = xor_zero_r (e / 2) in
    rw (ne_eqb (e % 2) 1 z) (omega arith))
    (cases_eq (e % 2) 1)
flip_is e false = xor_zero_r e
