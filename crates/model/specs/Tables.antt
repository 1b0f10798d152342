-- Truth tables over p positions, as numbers: bit j is the value where position i has the value of bit i of j.
use Rattle.std.specs.Prelude.{◌≡◌, ℕ, zero, suc, ◌+◌, ◌-◌, ◌*◌, ◌/◌, ◌%◌, ◌^◌, ◌<◌, ◌≤◌, Bool, true, false, cond, not, ◌&&◌, List, [], ◌∷◌, ◌==◌}

abbrev pub number : Bool → ℕ
number true = 1
number false = 0

-- a value, complemented where the sign is true
abbrev pub flip_if : Bool → Bool → Bool
flip_if true b = not b
flip_if false b = b

abbrev pub bit_at : ℕ → ℕ → Bool
bit_at t zero = t % 2 == 1
bit_at t (suc j) = bit_at (t / 2) j

-- the word of the n bits f j, f (j + 1) and on
abbrev pub rows_from : (ℕ → Bool) → ℕ → ℕ → ℕ
rows_from f j zero = 0
rows_from f j (suc n) = number (f j) + 2 * rows_from f (suc j) n

-- the row of a table that a valuation picks, the first in the list the lowest bit
abbrev pub row : (ℕ → Bool) → List ℕ → ℕ
row v [] = 0
row v (l ∷ ls) = number (v l) + 2 * row v ls

-- n positions from k on
abbrev pub span : ℕ → ℕ → List ℕ
span k zero = []
span k (suc n) = k ∷ span (suc k) n

-- a table of p positions, at a valuation of the positions
abbrev pub val : ℕ → ℕ → (ℕ → Bool) → Bool
val p t v = bit_at t (row v (span 0 p))

-- a valuation with one place changed
abbrev pub put : (ℕ → Bool) → ℕ → Bool → ℕ → Bool
put v i b q = cond (q == i) b (v q)

-- the table of a position: bit j is bit i of j
abbrev pub Mask : ℕ → ℕ → ℕ → Type 0
Mask p i m = (j : ℕ) → j < 2 ^ p → bit_at m j ≡ bit_at j i

-- the table does not look at position i
abbrev pub Free : ℕ → ℕ → ℕ → Type 0
Free p t i = (v : ℕ → Bool) (b : Bool) → val p t (put v i b) ≡ val p t v

-- the table looks at no position from n on
abbrev pub Rests : ℕ → ℕ → ℕ → Type 0
Rests p t n = (i : ℕ) → n ≤ i → i < p → Free p t i

abbrev pub all_rows : (ℕ → Bool) → ℕ → ℕ → Bool
all_rows f j zero = true
all_rows f j (suc n) = f j && all_rows f (suc j) n

abbrev pub same : Bool → Bool → Bool
same true b = b
same false b = not b

-- row j with bit i changed
abbrev pub flipped : ℕ → ℕ → ℕ
flipped j i = cond (bit_at j i) (j - 2 ^ i) (j + 2 ^ i)

-- changing bit i of the row never changes the table
unfoldable pub masked : ℕ → ℕ → ℕ → Bool
masked p t i = all_rows (λ j. same (bit_at t j) (bit_at t (flipped j i))) 0 (2 ^ p)

-- every position from n on is masked
abbrev pub Loose : ℕ → ℕ → ℕ → Type 0
Loose p t n = (i : ℕ) → n ≤ i → i < p → masked p t i ≡ true

-- the table with each row's value complemented
abbrev pub complemented : ℕ → ℕ → ℕ
complemented p t = 2 ^ 2 ^ p - 1 - t
