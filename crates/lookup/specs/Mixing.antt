-- A hash stays below 2^64, so the slot that it names is one of the slots.
use Rattle.std.specs.Prelude.{◌≡◌, ℕ, ◌*◌, ◌^◌, ◌<◌, List, [], ◌∷◌}
use Rattle.std.proofs.Common.{mul_comm, mul-lt-mul_of_pos_right, arith}
use Rattle.std.proofs.lemmas.Nat.{div_below}
use Rattle.lookup.specs.Hash.{mixed, mixed_all, hashed_slot}

mixed_small : (h x : ℕ) → mixed h x < 2 ^ 64
mixed_small h x = omega arith

all_small : (h : ℕ) (m : List ℕ) → h < 2 ^ 64 → mixed_all h m < 2 ^ 64
all_small h [] l = l
all_small h (x ∷ xs) l = all_small (mixed h x) xs (mixed_small h x)

pub slot_within : (m : List ℕ) (n : ℕ) → 0 < n → hashed_slot m n < n
slot_within m n pos =
    let h = mixed_all 0 m in
    let small : h < 2 ^ 64 = all_small 0 m (omega arith) in
    let lt : h * n < 2 ^ 64 * n = mul-lt-mul_of_pos_right small pos in
    let sw : 2 ^ 64 * n ≡ n * 2 ^ 64 = mul_comm (2 ^ 64) n in
    div_below (h * n) (2 ^ 64) n (omega arith) (omega arith)
