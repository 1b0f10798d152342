-- A key is held exactly where some key of the list has its meaning.
use Rattle.std.proofs.Common.{◌≡◌, ℕ, Bool, true, false, cond, ◌||◌, List, [], ◌∷◌, refl}
use Rattle.std.specs.List.{list_any}
use Rattle.model.specs.Keys.{eq_list, first_of, holds}

or-cond : (a b c : Bool) → b ≡ c → (a || b) ≡ cond a true c
or-cond true b c e = refl
or-cond false b c e = e

pub any-holds : {A : Type 0} (mean : A → List ℕ) (m : List ℕ) (xs : List A) → list_any (λ x. eq_list (mean x) m) xs ≡ holds mean m xs
unfolding first_of
any-holds mean m [] = refl
any-holds mean m (x ∷ xs) = or-cond (eq_list (mean x) m) _ _ (any-holds mean m xs)
