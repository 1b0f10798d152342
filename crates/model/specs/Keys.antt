-- Keys by their meanings, which are lists of numbers: the first of a meaning, and lists without repetition.
use Rattle.std.specs.Prelude.{ℕ, Bool, true, false, cond, not, ◌&&◌, List, [], ◌∷◌, ◌++◌, length, ◌==◌, nat_lt}

abbrev pub eq_list : List ℕ → List ℕ → Bool
eq_list [] [] = true
eq_list [] (y ∷ ys) = false
eq_list (x ∷ xs) [] = false
eq_list (x ∷ xs) (y ∷ ys) = x == y && eq_list xs ys

-- what the first of the xs that means m gives, and none if no one does
unfoldable pub first_of : {A B : Type 0} → (A → List ℕ) → (A → B) → B → List ℕ → List A → B
first_of mean gives none m [] = none
first_of mean gives none m (x ∷ xs) = cond (eq_list (mean x) m) (gives x) (first_of mean gives none m xs)

-- is m the meaning of one of the xs
abbrev pub holds : {A : Type 0} → (A → List ℕ) → List ℕ → List A → Bool
holds mean = first_of mean (λ _. true) false

-- one more at the end, unless its meaning is there
abbrev pub added : {A : Type 0} → (A → List ℕ) → A → List A → List A
added mean x xs = cond (holds mean (mean x) xs) xs (xs ++ (x ∷ []))

-- the same in n places: one more while there is a place
abbrev pub added_in : {A : Type 0} → ℕ → (A → List ℕ) → A → List A → List A
added_in n mean x xs = cond (nat_lt (length xs) n) (added mean x xs) xs

-- and whether it was added
abbrev pub is_new : {A : Type 0} → ℕ → (A → List ℕ) → A → List A → Bool
is_new n mean x xs = cond (nat_lt (length xs) n) (not (holds mean (mean x) xs)) false
