-- Rankings of cuts, by what they are told of the leaves, and the choice of the first n.
use Rattle.std.specs.Prelude.{◌≡◌, ℕ, suc, ◌+◌, ◌*◌, ◌/◌, ◌<◌, ◌≤◌, min, Bool, true, false, cond, not, ◌&&◌, ◌||◌, ◌⊎◌, List, [], ◌∷◌, map, length, get_or, take, nat_lt, slice_index, slice_index_or}
use Rattle.model.specs.Tables.{number}

-- what a ranking is told of a leaf; of a cut it is told this of each leaf, in order
pub record LeafFacts : Type 0 where
  pub height : ℕ
  pub uses : ℕ

abbrev pub Facts : Type 0
Facts = List LeafFacts

-- the first cut ranks before the second
abbrev pub Before : Type 0
Before = Facts → Facts → Bool

-- the facts of a cut with one to p leaves
abbrev pub Sized : ℕ → Facts → Type 0
Sized p a = (0 < length a) × (length a ≤ p)

-- some leaf has height 1 or more
abbrev pub any_gate : Facts → Bool
any_gate [] = false
any_gate (f ∷ fs) = nat_lt 0 f.height || any_gate fs

-- the laws of a ranking of cuts with up to p leaves, whose mark says whether it puts inputs first
pub record Lawful (p : ℕ) (before : Before) (mark : Bool) : Type 0 where
  pub irreflexive : (a : Facts) → Sized p a → before a a ≡ false
  pub transitive : (a b c : Facts) → Sized p a → Sized p b → Sized p c → before a b ≡ true → before b c ≡ true → before a c ≡ true
  pub ties : (a b c : Facts) → Sized p a → Sized p b → Sized p c
      → before a b ≡ false → before b a ≡ false → before b c ≡ false → before c b ≡ false → before a c ≡ false
  pub inputs_first : mark ≡ true → (a b : Facts) → Sized p a → Sized p b → any_gate a ≡ false → any_gate b ≡ true → before a b ≡ true

pub record Ranking (p : ℕ) : Type 0 where
  pub before : Before
  pub mark : Bool
  pub lawful : Lawful p before mark

abbrev pub total : (LeafFacts → ℕ) → Facts → ℕ
total w [] = 0
total w (f ∷ fs) = w f + total w fs

-- the smaller average height, compared without fractions
abbrev pub by_height : Before
by_height a b = nat_lt (total (λ f. f.height) a * length b) (total (λ f. f.height) b * length a)

-- fewer leaves of height 1 or more
abbrev pub gate_leaf : LeafFacts → ℕ
gate_leaf f = number (nat_lt 0 f.height)

abbrev pub by_gate_leaves : Before
by_gate_leaves a b = nat_lt (total gate_leaf a) (total gate_leaf b)

-- the smaller sum of 65,536 divided by uses + 1, fractions dropped
abbrev pub share : LeafFacts → ℕ
share f = 65536 / suc f.uses

abbrev pub by_uses : Before
by_uses a b = nat_lt (total share a) (total share b)

-- nothing ranks before anything
abbrev pub by_nothing : Before
by_nothing a b = false

-- insertion after all that x does not rank before
unfoldable pub rank_in : {A : Type 0} → (A → A → Bool) → A → List A → List A
rank_in before x [] = x ∷ []
rank_in before x (y ∷ ys) = cond (before x y) (x ∷ (y ∷ ys)) (y ∷ rank_in before x ys)

-- all in the order of the ranking, ties by earlier discovery, where those done stand in that order already
unfoldable pub ranked : {A : Type 0} → (A → A → Bool) → List A → List A → List A
ranked before [] done = done
ranked before (x ∷ xs) done = ranked before xs (rank_in before x done)

-- where insertion puts x
unfoldable pub spot : {A : Type 0} → (A → A → Bool) → A → List A → ℕ
spot before x [] = 0
spot before x (y ∷ ys) = cond (before x y) 0 (suc (spot before x ys))

-- the first n by the ranking, ties by earlier discovery
abbrev pub first_by : {A : Type 0} → (A → A → Bool) → ℕ → List A → List A
first_by before n xs = take n (ranked before xs [])

-- of two candidates, by their places: the one that ranks before, or the earlier of a tie
abbrev pub precedes : {A : Type 0} → (A → A → Bool) → A → List A → ℕ → ℕ → Bool
precedes before d xs i j = before (slice_index_or xs i d) (slice_index_or xs j d) || (not (before (slice_index_or xs j d) (slice_index_or xs i d)) && nat_lt i j)

-- ks are the first n of the xs: the places at which they were found, each preceding the next, and all that are left out preceded by each
pub record First {A : Type 0} (before : A → A → Bool) (n : ℕ) (d : A) (xs ks : List A) : Type 0 where
  pub places : List ℕ
  pub are : ks ≡ map (λ i. get_or xs i d) places
  pub many : length places ≡ min n (length xs)
  pub found : (q : ℕ) → q < length places → slice_index places q < length xs
  pub order : (q r : ℕ) → q < r → r < length places → precedes before d xs (slice_index places q) (slice_index places r) ≡ true
  pub rest : (i : ℕ) → i < length xs → ((q : ℕ) × (q < length places) × (slice_index places q ≡ i)) ⊎ ((q : ℕ) → q < length places → precedes before d xs (slice_index places q) i ≡ true)

-- the order laws of a relation, among those that P holds of
pub record WeakOrder {A : Type 0} (P : A → Type 0) (before : A → A → Bool) : Type 0 where
  pub irreflexive : (a : A) → P a → before a a ≡ false
  pub transitive : (a b c : A) → P a → P b → P c → before a b ≡ true → before b c ≡ true → before a c ≡ true
  pub ties : (a b c : A) → P a → P b → P c → before a b ≡ false → before b a ≡ false → before b c ≡ false → before c b ≡ false → before a c ≡ false

abbrev pub Every : {A : Type 0} → (A → Type 0) → List A → Type 0
Every P [] = Unit {0}
Every P (x ∷ xs) = P x × Every P xs
