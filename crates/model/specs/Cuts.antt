-- Cuts: leaves and a table over p positions, which gives the node's value from the leaves'.
use Rattle.std.specs.Prelude.{◌≡◌, ℕ, suc, ◌^◌, ◌<◌, ◌≤◌, Bool, false, cond, ◌&&◌, List, [], ◌∷◌, length, Some, None, Option, nat_le}
use Rattle.model.specs.Tables.{bit_at, flip_if, row, rows_from, masked, Rests, complemented}
use Rattle.model.specs.Leaves.{Rising, unite, valuation}

pub record Cut : Type 0 where
  pub leaves : List ℕ
  pub table : ℕ

-- what the cut says of its node under a valuation of the leaves
abbrev pub value_of : Cut → (ℕ → Bool) → Bool
value_of c v = bit_at c.table (row v c.leaves)

-- the table over p positions of a function of the leaves' values
unfoldable pub tabulate : ℕ → List ℕ → ((ℕ → Bool) → Bool) → ℕ
tabulate p ls f = rows_from (λ j. f (valuation ls j)) 0 (2 ^ p)

-- the cut's table over other leaves: each of its positions is read at its leaf's new position
abbrev pub stretched : ℕ → Cut → List ℕ → ℕ
stretched p c ls = tabulate p ls (value_of c)

-- a well-formed cut: rising leaves, and a table that depends on each leaf and on no other position
pub record Formed (p : ℕ) (c : Cut) : Type 0 where
  pub small : c.table < 2 ^ 2 ^ p
  pub few : length c.leaves ≤ p
  pub rising : Rising c.leaves
  pub rests : Rests p c.table (length c.leaves)
  pub tight : (i : ℕ) → i < length c.leaves → masked p c.table i ≡ false

-- the leaves, from position i on, that are not masked
abbrev pub needed : ℕ → ℕ → ℕ → List ℕ → List ℕ
needed p t i [] = []
needed p t i (l ∷ ls) = cond (masked p t i) (needed p t (suc i) ls) (l ∷ needed p t (suc i) ls)

-- masked leaves go, and the table is stretched back to those that remain
unfoldable pub squeeze : ℕ → Cut → Cut
squeeze p c =
    let ls = needed p c.table 0 c.leaves in
    record { leaves = ls; table = stretched p c ls }

-- two cuts of fanin edges with signs s and t: over the united leaves, the AND of both, then masked leaves go
unfoldable pub join : ℕ → Cut → Bool → Cut → Bool → Cut
join p a s b t =
    let ls = unite a.leaves b.leaves in
    squeeze p (record { leaves = ls; table = tabulate p ls (λ v. flip_if s (value_of a v) && flip_if t (value_of b v)) })

-- the same where at most k leaves are united; a wider pair is passed over
abbrev pub joined : ℕ → ℕ → Bool → Bool → Cut → Cut → Option Cut
joined p k s t a b = let c = join p a s b t in cond (nat_le (length (unite a.leaves b.leaves)) k) (Some c) None

-- the cut of a node by itself: one leaf, and the table of position 0
abbrev pub trivial : ℕ → ℕ → Cut
trivial p n = record { leaves = n ∷ []; table = tabulate p (n ∷ []) (λ v. v n) }

-- the key's sign: the value where all leaves are FALSE
abbrev pub key_sign : Cut → Bool
key_sign c = bit_at c.table 0

-- the key: the leaves, and the table complemented for the key's sign
abbrev pub key_of : ℕ → Cut → Cut
key_of p c = record { leaves = c.leaves; table = cond (key_sign c) (complemented p c.table) c.table }

-- the key as a list of numbers, the table first
abbrev pub key_list : ℕ → Cut → List ℕ
key_list p c = (key_of p c).table ∷ c.leaves

-- the complement of a cut
abbrev pub complement_of : ℕ → Cut → Cut
complement_of p c = record { leaves = c.leaves; table = complemented p c.table }
