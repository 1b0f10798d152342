-- The test of a masked position by one shift: each row where the position is 0 against the row where it is 1.
use Rattle.std.proofs.Common.{◌≡◌, ℕ, zero, suc, ◌-◌, ◌/◌, ◌^◌, ◌<◌, Bool, true, false, cond, not, ◌&&◌, eqb, sym, refl, ap, ◌∙◌, ap₂, div-le_self, arith, pow_pos}
use lib.Bits.{bit_and, bit_xor, and_lt, or_lt, xor_lt}
use lib.Pow.{ones_sub-lt}
use Rattle.std.proofs.lemmas.Bool.{eqb-true, eq-eqb}
use Rattle.model.specs.Tables.{bit_at, flip_if, masked, Mask}
use Rattle.model.proofs.Bits.{bit-and, bit-xor, bit_not, same_bits}
use Rattle.model.proofs.Positions.{muxed, bit-muxed, pick_law, high_choice}
use Rattle.model.proofs.Masked.{both, masked_test}

pub bit-zero : (j : ℕ) → bit_at 0 j ≡ false
bit-zero zero = refl
bit-zero (suc j) = bit-zero j

no_change : (m u t : Bool) → (flip_if u t && not m) ≡ false → cond m t u ≡ t
no_change true u t e = refl
no_change false true true e = refl
no_change false true false e = e
no_change false false true e = sym e
no_change false false false e = refl

no_difference : (m u t : Bool) → cond m t u ≡ t → (flip_if u t && not m) ≡ false
no_difference true true true e = refl
no_difference true true false e = refl
no_difference true false true e = refl
no_difference true false false e = refl
no_difference false true true e = refl
no_difference false true false e = e
no_difference false false true e = sym e
no_difference false false false e = refl

-- words of w bits: u and t differ nowhere outside m
module _ (w m u t : ℕ) (hm : m < 2 ^ w) (hu : u < 2 ^ w) (ht : t < 2 ^ w) where
  abbrev change : ℕ
  change = bit_and (bit_xor u t) (2 ^ w - 1 - m)

  bit-change : (j : ℕ) → j < w → bit_at change j ≡ (flip_if (bit_at u j) (bit_at t j) && not (bit_at m j))
  bit-change j l = bit-and (bit_xor u t) (2 ^ w - 1 - m) j ∙ ap₂ ◌&&◌ (bit-xor u t j) (bit_not w m j hm l)

  pub muxed-below : muxed w m t u < 2 ^ w
  muxed-below = or_lt w (bit_and t m) (bit_and u (2 ^ w - 1 - m)) (and_lt w t m ht hm) (and_lt w u (2 ^ w - 1 - m) hu (ones_sub-lt w m))

  pub change_test : eqb change 0 ≡ eqb (muxed w m t u) t
  change_test = both (eqb change 0) (eqb (muxed w m t u) t)
      (λ e. eq-eqb (muxed w m t u) t (same_bits w (muxed w m t u) t muxed-below ht (λ j l.
      bit-muxed w m t u j hm l ∙ no_change (bit_at m j) (bit_at u j) (bit_at t j) (sym (bit-change j l) ∙ ap (λ n. bit_at n j) (eqb-true change 0 e) ∙ bit-zero j))))
      (λ e. eq-eqb change 0 (same_bits w change 0 (and_lt w (bit_xor u t) (2 ^ w - 1 - m) (xor_lt w u t hu ht) (ones_sub-lt w m)) (pow_pos w) (λ j l.
      bit-change j l ∙ no_difference (bit_at m j) (bit_at u j) (bit_at t j) (sym (bit-muxed w m t u j hm l) ∙ ap (λ n. bit_at n j) (eqb-true (muxed w m t u) t e)) ∙ sym (bit-zero j))))

pub masked_word : (p t i m : ℕ) → i < p → t < 2 ^ 2 ^ p → m < 2 ^ 2 ^ p → Mask p i m
    → eqb (bit_and (bit_xor (t / 2 ^ 2 ^ i) t) (2 ^ 2 ^ p - 1 - m)) 0 ≡ masked p t i
masked_word p t i m l ht hm mask =
    let u = t / 2 ^ 2 ^ i in
    let hu : u < 2 ^ 2 ^ p = omega (arith, div-le_self t (2 ^ 2 ^ i)) in
    change_test (2 ^ p) m u t hm hu ht
    ∙ masked_test p t i (muxed (2 ^ p) m t u) l ht (muxed-below (2 ^ p) m u t hm hu ht)
    (λ v. pick_law p i m t u l hm mask v ∙ high_choice p i t l v)
