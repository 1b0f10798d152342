-- The cuts of a fanin, and what is decided of two fanins.
use Rattle.std.specs.Prelude.{ℕ, ◌+◌, ◌*◌, min, List, ◌∷◌, map, take}
use Rattle.model.specs.Edges.{node_of}
use Rattle.model.specs.Cuts.{Cut as Meant, trivial}
use Rattle.model.specs.Search.{Limits}
use Rattle.model.specs.Sessions.{positions, lean}
use Rattle.cuts.specs.Meaning.{meaning}
use Rattle.search.specs.declared.fanin.Fanin.{Fanin}

-- the most cuts that a node keeps
abbrev pub most : ℕ
most = lean.kept

-- the most cuts of a fanin, with the trivial one, and the most pairs of such cuts
abbrev pub most_cuts : ℕ
most_cuts = most + 1

abbrev pub most_pairs : ℕ
most_pairs = most_cuts * most_cuts

-- the trivial cut first, then the kept ones
abbrev pub cuts_of : Fanin → List Meant
cuts_of f = trivial positions (node_of f.edge.number) ∷ map meaning (take most f.cuts.now)

-- a leaf limit and a number of places, each as far as cuts go
abbrev pub limits_of : ℕ → ℕ → Limits
limits_of limit places = record { leaves = min limit positions; kept = min places most }
