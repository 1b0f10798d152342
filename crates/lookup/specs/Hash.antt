-- A first slot worked out from the numbers that a key means.
use Rattle.std.specs.Prelude.{ℕ, ◌*◌, ◌/◌, ◌%◌, ◌^◌, List, [], ◌∷◌, bit_xor}

-- one number more into a hash of 64 bits; the factor is 2^64 over the golden ratio, made odd
abbrev pub mixed : ℕ → ℕ → ℕ
mixed h x = bit_xor (bit_xor h (h / 2 ^ 32)) x * 0x9E37_79B9_7F4A_7C15 % 2 ^ 64

abbrev pub mixed_all : ℕ → List ℕ → ℕ
mixed_all h [] = h
mixed_all h (x ∷ xs) = mixed_all (mixed h x) xs

-- the same share of n as the hash is of 2^64
abbrev pub slot_of : ℕ → ℕ → ℕ
slot_of h n = h * n / 2 ^ 64

abbrev pub hashed_slot : List ℕ → ℕ → ℕ
hashed_slot m n = slot_of (mixed_all 0 m) n
