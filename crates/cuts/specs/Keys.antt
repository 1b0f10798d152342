-- What the keys of the code stand for.
use Rattle.std.specs.Prelude.{◌≡◌, ℕ, ◌^◌, ◌<◌, Bool, cond, List, ◌∷◌}
use Rattle.model.specs.Tables.{complemented}
use Rattle.model.specs.Cuts.{Cut, key_list, key_sign}
use Rattle.model.specs.Sessions.{positions}
use Rattle.cuts.specs.Meaning.{meaning}
use Rattle.cuts.specs.declared.key.CutKey.{CutKey}

-- the table first, as the model lists a key
abbrev pub key_meaning : CutKey → List ℕ
key_meaning k = (meaning k.cut).table ∷ (meaning k.cut).leaves

-- the cut of a key and a sign: the table complemented for the sign
abbrev pub cut_of : CutKey → Bool → Cut
cut_of k s = let c = meaning k.cut in record { leaves = c.leaves; table = cond s (complemented positions c.table) c.table }

-- the cut is the one that has this key and sign
pub record Restores (k : CutKey) (s : Bool) (r : Cut) : Type 0 where
  pub key : key_list positions r ≡ key_meaning k
  pub sign : key_sign r ≡ s
  pub only : (c : Cut) → c.table < 2 ^ 2 ^ positions → key_list positions c ≡ key_meaning k → key_sign c ≡ s → r ≡ c
