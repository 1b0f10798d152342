-- Texts next to a text.
use Rattle.std.specs.Prelude.{ℕ, zero, suc, cond, List, [], ◌∷◌, ◌++◌, take, ◌==◌, slice_index, slice_set}

-- the fronts of fewer bytes than a number
unfoldable pub shortened : List ℕ → ℕ → List (List ℕ)
shortened text zero = []
shortened text (suc n) = shortened text n ++ take n text ∷ []

-- the text with each byte below a number in one place, but for the byte that is there
unfoldable pub changed_at : List ℕ → ℕ → ℕ → List (List ℕ)
changed_at text place zero = []
changed_at text place (suc b) = changed_at text place b ++ cond (b == slice_index text place) [] (slice_set text place b ∷ [])

-- the same with any byte, in each place before a number
unfoldable pub changed : List ℕ → ℕ → List (List ℕ)
changed text zero = []
changed text (suc n) = changed text n ++ changed_at text n 256
