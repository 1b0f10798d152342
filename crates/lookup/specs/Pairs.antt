-- What a fanin pair means: its two edges in order.
use Rattle.std.specs.Prelude.{ℕ, List, [], ◌∷◌}
use Rattle.lookup.specs.declared.fanin_pair.FaninPair.{FaninPair}

abbrev pub pair_meaning : FaninPair → List ℕ
pair_meaning p = p.first ∷ (p.second ∷ [])
