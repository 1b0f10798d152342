-- Lists of leaves: nodes in strictly rising number, and their values.
use Rattle.std.specs.Prelude.{◌≡◌, ℕ, suc, ◌<◌, Bool, true, false, cond, ◌||◌, List, [], ◌∷◌, length, ◌==◌, nat_lt, slice_index}
use Rattle.model.specs.Tables.{bit_at}

abbrev pub Rising : List ℕ → Type 0
Rising ls = (i j : ℕ) → i < j → j < length ls → slice_index ls i < slice_index ls j

abbrev pub has : ℕ → List ℕ → Bool
has l [] = false
has l (m ∷ ms) = l == m || has l ms

-- the position of a leaf
abbrev pub place : ℕ → List ℕ → ℕ
place l [] = 0
place l (m ∷ ms) = let r = place l ms in cond (l == m) 0 (suc r)

-- each of the old leaves is among the new
abbrev pub Within : List ℕ → List ℕ → Type 0
Within old new = (q : ℕ) → q < length old → has (slice_index old q) new ≡ true

abbrev pub insert : ℕ → List ℕ → List ℕ
insert x [] = x ∷ []
insert x (y ∷ ys) = let r = insert x ys in cond (nat_lt x y) (x ∷ (y ∷ ys)) (cond (x == y) (y ∷ ys) (y ∷ r))

-- the leaves of either list, each once
abbrev pub unite : List ℕ → List ℕ → List ℕ
unite [] ys = ys
unite (x ∷ xs) ys = insert x (unite xs ys)

-- the values of the leaves in row j
abbrev pub valuation : List ℕ → ℕ → ℕ → Bool
valuation ls j l = cond (has l ls) (bit_at j (place l ls)) false
