-- What holds of whatever a search over pairs of cuts comes to.
use Rattle.std.proofs.Common.{ℕ, Bool, List, [], ◌∷◌, Option}
use Rattle.model.specs.Cuts.{Cut}
use Rattle.model.specs.Rankings.{Every, first_by}
use Rattle.model.specs.Search.{Decision, made, Search, ended, candidates, after, along, considered, search_row, search_all, chosen}
use Rattle.model.proofs.Lists.{every-chosen}

-- a search ended in a decision that D holds of, or has candidates that C holds of
abbrev pub Comes : (Cut → Type 0) → (Decision → Type 0) → Search → Type 0
Comes C D (ended d) = D d
Comes C D (candidates cs) = Every C cs

module _ (C : Cut → Type 0) (D : Decision → Type 0) where
  pub along-comes : {A : Type 0} (Q : A → Type 0) (step : A → List Cut → Search)
      → ((x : A) → Q x → (found : List Cut) → Every C found → Comes C D (step x found))
      → (xs : List A) → Every Q xs → (found : List Cut) → Every C found → Comes C D (along step xs found)
  unfolding along
  along-comes Q step h [] q found e = e
  along-comes Q step h (x ∷ xs) q found e = go (step x found) (h x q.0 found e) (along-comes Q step h xs q.1)
    where
      go : (s : Search) → Comes C D s → ((f : List Cut) → Every C f → Comes C D (along step xs f)) → Comes C D (after s (along step xs))
      go (ended d) k ih = k
      go (candidates f) k ih = ih f k

  pub search-comes : (p : ℕ) (look : List ℕ → Option ℕ) (join : Cut → Cut → Option Cut) (X Y : Cut → Type 0)
      → ((x y : Cut) → X x → Y y → (found : List Cut) → Every C found → Comes C D (considered p look (join x y) found))
      → (xs ys : List Cut) → Every X xs → Every Y ys → Comes C D (search_all p look join xs ys [])
  search-comes p look join X Y h xs ys ex ey =
      along-comes X (search_row p look join ys) (λ x qx found e. along-comes Y (λ y. considered p look (join x y)) (λ y qy. h x y qx qy) ys ey found e) xs ex [] tt

  pub chosen-comes : (n : ℕ) (before : Cut → Cut → Bool) (s : Search) → Comes C D s → ((cs : List Cut) → Every C cs → D (made cs)) → D (chosen n before s)
  chosen-comes n before (ended d) h k = h
  chosen-comes n before (candidates cs) h k = k (first_by before n cs) (every-chosen C before n cs h)
