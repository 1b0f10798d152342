-- The lowest bit of a word, as the code reads it.
use Rattle.std.proofs.Common.{◌≡◌, ℕ, ◌%◌, eqb, ap}
use lib.Bits.{bit_and, and_mask}

pub odd : (t : ℕ) → eqb (bit_and t 1) 1 ≡ eqb (t % 2) 1
odd t = ap (λ n. eqb n 1) (and_mask t 1)
