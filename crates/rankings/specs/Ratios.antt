-- Ratios of whole numbers, compared by products. Assumes nothing.
use Rattle.std.specs.Prelude.{◌≡◌, ℕ, ◌*◌, ◌<◌}
use Rattle.std.proofs.Common.{ap, arith, mul_right_comm, mul-lt-mul_of_pos_right, lt_of_mul-lt-mul_right}
use Rattle.std.proofs.Math.Nat.{eq_of_mul-eq-mul_right}

-- x / l < y / m and y / m < z / n
pub ratio_trans : (x y z l m n : ℕ) → 0 < l → 0 < n → x * m < y * l → y * n < z * m → x * n < z * l
ratio_trans x y z l m n hl hn p q =
    let p' : x * m * n < y * l * n = mul-lt-mul_of_pos_right p hn in
    let q' : y * n * l < z * m * l = mul-lt-mul_of_pos_right q hl in
    lt_of_mul-lt-mul_right m (omega (arith, mul_right_comm x m n, mul_right_comm y l n, mul_right_comm z m l))

pub ratio_ties : (x y z l m n : ℕ) → 0 < m → x * m ≡ y * l → y * n ≡ z * m → x * n ≡ z * l
ratio_ties x y z l m n hm p q =
    let p' : x * m * n ≡ y * l * n = ap (λ k. k * n) p in
    let q' : y * n * l ≡ z * m * l = ap (λ k. k * l) q in
    eq_of_mul-eq-mul_right m hm (x * n) (z * l) (omega (arith, mul_right_comm x m n, mul_right_comm y l n, mul_right_comm z m l))
