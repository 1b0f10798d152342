-- What a leaf key means: its table, then its leaves.
use Rattle.std.specs.Prelude.{ℕ, List, ◌∷◌, take}
use Rattle.lookupuser.specs.declared.leaf_key.LeafKey.{LeafKey}

abbrev pub leaf_meaning : LeafKey → List ℕ
leaf_meaning k = k.table ∷ take k.count k.leaves
