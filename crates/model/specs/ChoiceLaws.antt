-- Laws of choosing: what is kept is the first n of a stable order, whatever lawful ranking is asked.
use Rattle.std.specs.Prelude.{◌≡◌, ℕ, ◌<◌, Bool, false, ◌⊎◌, List, map, length, slice_index, slice_index_or}
use Rattle.model.specs.Cuts.{Cut}
use Rattle.model.specs.Rankings.{LeafFacts, Ranking, Sized, Every, First, first_by}
use Rattle.model.specs.Search.{by_leaves}

-- the chosen are the first n, only they are, and none that is left out ranks before one that is kept
pub record Choice (before : Cut → Cut → Bool) (n : ℕ) (d : Cut) (cs : List Cut) : Type 0 where
  pub first : First before n d cs (first_by before n cs)
  pub only : (ks : List Cut) → First before n d cs ks → ks ≡ first_by before n cs
  pub none : (ks : List Cut) (f : First before n d cs ks) (i q : ℕ) → i < length cs → q < length f.places
      → ((r : ℕ) × (r < length f.places) × (slice_index f.places r ≡ i)) ⊎ (before (slice_index_or cs i d) (slice_index_or cs (slice_index f.places q) d) ≡ false)

abbrev pub ChoosingKeepsTheFirst : Type 0
ChoosingKeepsTheFirst = (p : ℕ) (r : Ranking p) (leaf : ℕ → LeafFacts) (n : ℕ) (d : Cut) (cs : List Cut)
    → Every (λ c. Sized p (map leaf c.leaves)) cs → Choice (by_leaves r.before leaf) n d cs
