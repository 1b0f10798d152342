-- The bits of an AND and of a complement, at any width.
use Rattle.std.specs.Prelude.{◌≡◌, ℕ, ◌+◌, ◌-◌, ◌*◌, ◌/◌, ◌%◌, ◌^◌, ◌<◌, min, not, ◌&&◌, ◌==◌, nat_eq}
use Rattle.std.proofs.Common.{ap, ◌∙◌, add-mul, one-mul, arith}
use Rattle.std.specs.Int.{bit_at}
use Rattle.std.specs.Int.Bits.{bit_and}
use Rattle.std.proofs.lemmas.Nat.{pow_pos, pow-add, div-add-mod', mod_below, div-mul-add, div_below, mod-pow-add}
use Rattle.std.proofs.lemmas.Nat.Bits.{bit_at_and, bit_at-lt}
use Rattle.std.proofs.lemmas.Bool.{eqb-true, eqb-false, eq-eqb, ne_eqb}
use Rattle.std.proofs.Math.Pow.{mod-mod-pow}
use Rattle.signals.specs.Lanes.{bit, flip_word}

min_test : (p q : ℕ) → p < 2 → q < 2 → (min p q == 1) ≡ (p == 1 && q == 1)
min_test p q h k = grind (arith, eqb-true, eqb-false, eq-eqb, ne_eqb)

pub bit-and : (a b i : ℕ) → bit (bit_and a b) i ≡ (bit a i && bit b i)
bit-and a b i = ap (λ n. nat_eq n 1) (bit_at_and a b i) ∙ min_test (bit_at a i) (bit_at b i) (bit_at-lt a i) (bit_at-lt b i)

-- the quotient of what is left of n * m
div_rest : (n m a : ℕ) → 0 < m → a < n * m → (n * m - 1 - a) / m ≡ n - 1 - a / m
div_rest n m a pos h =
    let q = a / m in
    let r = a % m in
    let k = n - 1 - q in
    let split : q * m + r ≡ a = div-add-mod' a m in
    let low : r < m = mod_below a m pos in
    let top : q < n = div_below a m n pos h in
    let whole : n * m ≡ k * m + m + q * m = ap (λ z. z * m) (the_sum n q top) ∙ add-mul (k + 1) q m ∙ ap (λ z. z + q * m) (add-mul k 1 m ∙ ap (λ z. k * m + z) (one-mul m)) in
    let rest : n * m - 1 - a ≡ k * m + (m - 1 - r) = omega arith in
    ap (λ z. z / m) rest ∙ div-mul-add k m (m - 1 - r) (omega arith)
  where
    the_sum : (n q : ℕ) → q < n → n ≡ (n - 1 - q) + 1 + q
    the_sum n q h = omega arith

odd_test : (p q : ℕ) → p + q ≡ 1 → (p == 1) ≡ not (q == 1)
odd_test p q h = grind (arith, eqb-true, eqb-false, eq-eqb, ne_eqb)

-- of a word of w bits
pub bit_not : (w a i : ℕ) → a < 2 ^ w → i < w → bit (2 ^ w - 1 - a) i ≡ not (bit a i)
bit_not w a i h lt =
    let j = w - i - 1 in
    let e : w ≡ (1 + j) + i = omega arith in
    let p : 2 ^ w ≡ (2 * 2 ^ j) * 2 ^ i = ap (λ z. 2 ^ z) e ∙ pow-add 2 (1 + j) i ∙ ap (λ z. z * 2 ^ i) (pow-add 2 1 j) in
    let d : (2 ^ w - 1 - a) / 2 ^ i ≡ 2 * 2 ^ j - 1 - a / 2 ^ i = ap (λ z. (z - 1 - a) / 2 ^ i) p ∙ div_rest (2 * 2 ^ j) (2 ^ i) a (pow_pos i) (rw p at h) in
    let t : a / 2 ^ i < 2 * 2 ^ j = div_below a (2 ^ i) (2 * 2 ^ j) (pow_pos i) (rw p at h) in
    ap (λ n. nat_eq (n % 2) 1) d ∙ odd_test ((2 * 2 ^ j - 1 - a / 2 ^ i) % 2) (a / 2 ^ i % 2) (omega arith)

-- a bit below the width is a bit of the remainder
pub bit_low : (w a i : ℕ) → i < w → bit (a % 2 ^ w) i ≡ bit a i
bit_low w a i lt =
    let j = w - i - 1 in
    let n = a / 2 ^ i in
    let e : w ≡ (j + 1) + i = omega arith in
    let p : a % 2 ^ w ≡ (n % 2 ^ (j + 1)) * 2 ^ i + a % 2 ^ i = ap (λ z. a % 2 ^ z) e ∙ mod-pow-add a (j + 1) i in
    let d : a % 2 ^ w / 2 ^ i ≡ n % 2 ^ (j + 1) = ap (λ z. z / 2 ^ i) p ∙ div-mul-add (n % 2 ^ (j + 1)) (2 ^ i) (a % 2 ^ i) (mod_below a (2 ^ i) (pow_pos i)) in
    ap (λ z. nat_eq (z % 2) 1) d ∙ ap (λ z. nat_eq z 1) (mod-mod-pow n j 1)

pub bit_flip : (w a i : ℕ) → i < w → bit (flip_word w a) i ≡ not (bit a i)
bit_flip w a i lt = bit_not w (a % 2 ^ w) i (mod_below a (2 ^ w) (pow_pos w)) lt ∙ ap not (bit_low w a i lt)
