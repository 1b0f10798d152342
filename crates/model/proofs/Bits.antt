-- The bits of AND, OR, XOR, complement, shifts and remainders, and equality by bits, at any width. Assumes nothing.
use Rattle.std.proofs.Common.{◌≡◌, ℕ, zero, suc, ◌+◌, ◌-◌, ◌*◌, ◌/◌, ◌%◌, ◌^◌, ◌<◌, min, max, Bool, true, false, not, ◌&&◌, ◌||◌, eqb, sym, refl, ap, ◌∙◌, suc-add, pow-suc, zero-add, arith, shr-shr}
use lib.Pow.{field, mod-mod-pow, shl-shr}
use lib.Bits.{bit_and, bit_or, bit_xor, and_shr, or_shr, xor_shr, and_step, or_step, xor_step, shifted_half, shifted_even, differ}
use Rattle.std.proofs.lemmas.Bool.{eqb-true, eqb-false, eq-eqb, ne_eqb}
use Rattle.model.specs.Tables.{bit_at, flip_if, number, rows_from}

module _ (op : ℕ → ℕ → ℕ) (f : Bool → Bool → Bool)
    (halves : (a b : ℕ) → op a b / 2 ≡ op (a / 2) (b / 2))
    (lows : (a b : ℕ) → eqb (op a b % 2) 1 ≡ f (eqb (a % 2) 1) (eqb (b % 2) 1)) where
  bit_op : (a b j : ℕ) → bit_at (op a b) j ≡ f (bit_at a j) (bit_at b j)
  bit_op a b zero = lows a b
  bit_op a b (suc j) = ap (λ n. bit_at n j) (halves a b) ∙ bit_op (a / 2) (b / 2) j

-- what holds of the four pairs of bits
bits-both : (P : ℕ → ℕ → Type 0) → P 0 0 → P 0 1 → P 1 0 → P 1 1 → (p q : ℕ) → p < 2 → q < 2 → P p q
bits-both P a b c d zero zero h k = a
bits-both P a b c d zero (suc zero) h k = b
bits-both P a b c d (suc zero) zero h k = c
bits-both P a b c d (suc zero) (suc zero) h k = d
bits-both P a b c d (suc (suc p)) q h k = absurd (omega arith)
bits-both P a b c d zero (suc (suc q)) h k = absurd (omega arith)
bits-both P a b c d (suc zero) (suc (suc q)) h k = absurd (omega arith)

pub bit-and : (a b j : ℕ) → bit_at (bit_and a b) j ≡ (bit_at a j && bit_at b j)
bit-and = bit_op bit_and ◌&&◌ (λ a b. and_shr a b 1)
    (λ a b. let e : bit_and a b % 2 ≡ min (a % 2) (b % 2) = omega (arith, and_step a b) in
    ap (λ n. eqb n 1) e ∙ bits-both (λ p q. eqb (min p q) 1 ≡ (eqb p 1 && eqb q 1)) refl refl refl refl (a % 2) (b % 2) (omega arith) (omega arith))

pub bit-or : (a b j : ℕ) → bit_at (bit_or a b) j ≡ (bit_at a j || bit_at b j)
bit-or = bit_op bit_or ◌||◌ (λ a b. or_shr a b 1)
    (λ a b. let e : bit_or a b % 2 ≡ max (a % 2) (b % 2) = omega (arith, or_step a b) in
    ap (λ n. eqb n 1) e ∙ bits-both (λ p q. eqb (max p q) 1 ≡ (eqb p 1 || eqb q 1)) refl refl refl refl (a % 2) (b % 2) (omega arith) (omega arith))

pub bit-xor : (a b j : ℕ) → bit_at (bit_xor a b) j ≡ flip_if (bit_at a j) (bit_at b j)
bit-xor = bit_op bit_xor flip_if (λ a b. xor_shr a b 1)
    (λ a b.
    let d = bits-both (λ p q. (eqb (differ p q) 1 ≡ flip_if (eqb p 1) (eqb q 1)) × (differ p q < 2)) (refl, omega arith) (refl, omega arith) (refl, omega arith) (refl, omega arith)
    (a % 2) (b % 2) (omega arith) (omega arith) in
    let e : bit_xor a b % 2 ≡ differ (a % 2) (b % 2) = omega (arith, xor_step a b, d.1) in
    ap (λ n. eqb n 1) e ∙ d.0)

flip_test : (p q : ℕ) → p + q ≡ 1 → eqb p 1 ≡ not (eqb q 1)
flip_test p q h = grind (arith, eqb-true, eqb-false, eq-eqb, ne_eqb)

pub bit_not : (w a j : ℕ) → a < 2 ^ w → j < w → bit_at (2 ^ w - 1 - a) j ≡ not (bit_at a j)
bit_not zero a j h k = absurd (omega arith)
bit_not (suc w) a zero h k =
    let e : 2 ^ suc w ≡ 2 ^ w * 2 = pow-suc 2 w in
    flip_test ((2 ^ suc w - 1 - a) % 2) (a % 2) (omega arith)
bit_not (suc w) a (suc j) h k =
    let e : 2 ^ suc w ≡ 2 ^ w * 2 = pow-suc 2 w in
    let d : (2 ^ suc w - 1 - a) / 2 ≡ 2 ^ w - 1 - a / 2 = omega arith in
    ap (λ n. bit_at n j) d ∙ bit_not w (a / 2) j (omega arith) (omega arith)

pub bit-shr : (a s j : ℕ) → bit_at (a / 2 ^ s) j ≡ bit_at a (s + j)
bit-shr a zero j =
    let e : a / 1 ≡ a = omega arith in
    ap (λ n. bit_at n j) e ∙ ap (bit_at a) (sym (zero-add j))
bit-shr a (suc s) j =
    let e : a / 2 ^ suc s ≡ a / 2 / 2 ^ s = sym (shr-shr a 1 s ∙ ap (λ n. a / 2 ^ n) (omega arith)) in
    ap (λ n. bit_at n j) e ∙ bit-shr (a / 2) s j ∙ ap (bit_at a) (sym (suc-add s j))

pub bit_low : (a s j : ℕ) → j < s → bit_at (a * 2 ^ s) j ≡ false
bit_low a zero j h = absurd (omega arith)
bit_low a (suc s) zero h = ap (λ n. eqb n 1) (shifted_even a s)
bit_low a (suc s) (suc j) h = ap (λ n. bit_at n j) (shifted_half a s) ∙ bit_low a s j (omega arith)

pub bit-shl : (a s j : ℕ) → bit_at (a * 2 ^ s) (s + j) ≡ bit_at a j
bit-shl a s j = sym (bit-shr (a * 2 ^ s) s j) ∙ ap (λ n. bit_at n j) (shl-shr a s)

pub bit-mod : (a w j : ℕ) → j < w → bit_at (a % 2 ^ w) j ≡ bit_at a j
bit-mod a zero j h = absurd (omega arith)
bit-mod a (suc w) zero h =
    let f : a % 2 ^ suc w % 2 ≡ a % 2 = ap (λ n. a % 2 ^ n % 2) (omega arith) ∙ mod-mod-pow a w 1 in
    ap (λ n. eqb n 1) f
bit-mod a (suc w) (suc j) h =
    let f : a % 2 ^ suc w / 2 ≡ a / 2 % 2 ^ w = ap (λ n. a % 2 ^ n / 2) (omega arith) ∙ field a w 1 in
    ap (λ n. bit_at n j) f ∙ bit-mod (a / 2) w j (omega arith)

low_bit : (a b : ℕ) → eqb (a % 2) 1 ≡ eqb (b % 2) 1 → a % 2 ≡ b % 2
low_bit a b h = grind (arith, eqb-true, eqb-false, eq-eqb, ne_eqb)

-- two words of w bits with the same bits are one
pub same_bits : (w a b : ℕ) → a < 2 ^ w → b < 2 ^ w → ((j : ℕ) → j < w → bit_at a j ≡ bit_at b j) → a ≡ b
same_bits zero a b h k e = omega arith
same_bits (suc w) a b h k e =
    let s : 2 ^ suc w ≡ 2 ^ w * 2 = pow-suc 2 w in
    let hi : a / 2 ≡ b / 2 = same_bits w (a / 2) (b / 2) (omega arith) (omega arith) (λ j l. e (suc j) (omega arith)) in
    let lo : a % 2 ≡ b % 2 = low_bit a b (e 0 (omega arith)) in
    omega arith

pub rows-below : (f : ℕ → Bool) (j n : ℕ) → rows_from f j n < 2 ^ n
rows-below f j zero = omega arith
rows-below f j (suc n) =
    let s : 2 ^ suc n ≡ 2 ^ n * 2 = pow-suc 2 n in
    let l : number (f j) < 2 = bound (f j) in
    omega (arith, rows-below f (suc j) n)
  where
    bound : (b : Bool) → number b < 2
    bound true = omega arith
    bound false = omega arith
