-- The lanes of a word, and what AND and complement make of words.
use Rattle.std.specs.Prelude.{ℕ, ◌-◌, ◌/◌, ◌%◌, ◌^◌, Bool, cond, ◌==◌, bit_and}

-- how many patterns a word holds
abbrev pub WORD : ℕ
WORD = 64

-- bit i of a word
abbrev pub bit : ℕ → ℕ → Bool
bit w i = w / 2 ^ i % 2 == 1

abbrev pub meet_words : ℕ → ℕ → ℕ
meet_words a b = bit_and a b

-- the complement of the low `width` bits
abbrev pub flip_word : ℕ → ℕ → ℕ
flip_word width a = 2 ^ width - 1 - a % 2 ^ width

-- what an edge makes of its node's value: complemented for sign 1
abbrev pub signed : {S : Type 0} → (S → S) → Bool → S → S
signed flip sign s = cond sign (flip s) s
