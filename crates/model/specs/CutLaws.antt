-- Laws of tables and cuts, over any number of positions.
use Rattle.std.specs.Prelude.{◌≡◌, ℕ, ◌<◌, ◌≤◌, Bool, true, false, cond, not, ◌&&◌, List, length, bit_and}
use Rattle.model.specs.Tables.{flip_if, put, Rests, complemented}
use Rattle.model.specs.Leaves.{has, Rising, Within, unite}
use Rattle.model.specs.Cuts.{Cut, value_of, tabulate, stretched, squeeze, join, trivial, Formed, key_of, key_sign, complement_of}

-- two valuations that are equal on the leaves
abbrev pub Alike : List ℕ → (ℕ → Bool) → (ℕ → Bool) → Type 0
Alike ls v w = (l : ℕ) → has l ls ≡ true → v l ≡ w l

-- the leaf does not matter to the cut
abbrev pub Idle : Cut → ℕ → Type 0
Idle c l = (v : ℕ → Bool) (b : Bool) → value_of c (put v l b) ≡ value_of c v

-- what was tabulated is read back, for a function that looks at the leaves only
abbrev pub TablesReadBack : Type 0
TablesReadBack = (p : ℕ) (ls : List ℕ) (f : (ℕ → Bool) → Bool) → length ls ≤ p → ((v w : ℕ → Bool) → Alike ls v w → f v ≡ f w)
    → (v : ℕ → Bool) → value_of (record { leaves = ls; table = tabulate p ls f }) v ≡ f v

-- and a well-formed cut's table is that of its meaning
abbrev pub MeaningsTabulate : Type 0
MeaningsTabulate = (p : ℕ) (c : Cut) → Formed p c → tabulate p c.leaves (value_of c) ≡ c.table

-- stretching onto leaves that include the old ones keeps the meaning
abbrev pub StretchingKeepsMeaning : Type 0
StretchingKeepsMeaning = (p : ℕ) (c : Cut) (ls : List ℕ) → length ls ≤ p → Within c.leaves ls
    → (v : ℕ → Bool) → value_of (record { leaves = ls; table = stretched p c ls }) v ≡ value_of c v

-- squeezing keeps the meaning, and leaves exactly the leaves that matter
pub record Squeezed (p : ℕ) (c : Cut) : Type 0 where
  pub means : (v : ℕ → Bool) → value_of (squeeze p c) v ≡ value_of c v
  pub formed : Formed p (squeeze p c)
  pub matter : (l : ℕ) → has l (squeeze p c).leaves ≡ true → Idle c l → ⊥
  pub idle : (l : ℕ) → has l (squeeze p c).leaves ≡ false → Idle c l
  pub fewer : length (squeeze p c).leaves ≤ length c.leaves
  pub among : (l : ℕ) → has l (squeeze p c).leaves ≡ true → has l c.leaves ≡ true

abbrev pub SqueezingKeepsWhatMatters : Type 0
SqueezingKeepsWhatMatters = (p : ℕ) (c : Cut) → length c.leaves ≤ p → Rising c.leaves → Rests p c.table (length c.leaves) → Squeezed p c

-- the joined cut says the AND of what its parts say, each under its sign; it is well formed, over leaves of its parts
pub record Joins (p : ℕ) (a : Cut) (s : Bool) (b : Cut) (t : Bool) : Type 0 where
  pub means : (v : ℕ → Bool) → value_of (join p a s b t) v ≡ (flip_if s (value_of a v) && flip_if t (value_of b v))
  pub formed : Formed p (join p a s b t)
  pub fewer : length (join p a s b t).leaves ≤ length (unite a.leaves b.leaves)
  pub among : (l : ℕ) → has l (join p a s b t).leaves ≡ true → has l (unite a.leaves b.leaves) ≡ true

abbrev pub JoiningIsAnd : Type 0
JoiningIsAnd = (p : ℕ) (a : Cut) (s : Bool) (b : Cut) (t : Bool) → Formed p a → Formed p b → length (unite a.leaves b.leaves) ≤ p → Joins p a s b t

-- the same on words: the stretched tables, each complemented for its sign, ANDed
abbrev pub JoinedWords : Type 0
JoinedWords = (p : ℕ) (a : Cut) (s : Bool) (b : Cut) (t : Bool) (ls : List ℕ)
    → bit_and (cond s (complemented p (stretched p a ls)) (stretched p a ls)) (cond t (complemented p (stretched p b ls)) (stretched p b ls))
    ≡ tabulate p ls (λ v. flip_if s (value_of a v) && flip_if t (value_of b v))

-- two well-formed cuts of one meaning are one cut
abbrev pub OneMeaningOneCut : Type 0
OneMeaningOneCut = (p : ℕ) (a b : Cut) → Formed p a → Formed p b → ((v : ℕ → Bool) → value_of a v ≡ value_of b v) → a ≡ b

-- the trivial cut is well formed, and says the value of its node
abbrev pub TrivialCutIsItsNode : Type 0
TrivialCutIsItsNode = (p n : ℕ) → 0 < p → Formed p (trivial p n) × ((v : ℕ → Bool) → value_of (trivial p n) v ≡ v n)

-- a cut and its complement: well formed, of complementary meaning, with one key and unlike signs; the key with its sign gives the cut back
pub record Keyed (p : ℕ) (c : Cut) : Type 0 where
  pub formed : Formed p (complement_of p c)
  pub means : (v : ℕ → Bool) → value_of (complement_of p c) v ≡ not (value_of c v)
  pub one_key : key_of p (complement_of p c) ≡ key_of p c
  pub unlike : key_sign (complement_of p c) ≡ not (key_sign c)
  pub back : cond (key_sign c) (complement_of p (key_of p c)) (key_of p c) ≡ c

abbrev pub ComplementsShareAKey : Type 0
ComplementsShareAKey = (p : ℕ) (c : Cut) → Formed p c → Keyed p c
