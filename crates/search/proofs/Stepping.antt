-- The steps of the search, over what the code is given, and its start. Assumes nothing.
use Rattle.std.proofs.Common.{◌≡◌, ℕ, min, Bool, List, [], map, take, ap}
use Rattle.model.specs.Edges.{sign_of}
use Rattle.model.specs.Cuts.{Cut, joined}
use Rattle.model.specs.Search.{Search, along, considered}
use Rattle.model.specs.Sessions.{positions}
use Rattle.cuts.specs.Meaning.{meaning}
use Rattle.cuts.specs.declared.cut.Cut.{Cut as Row}
use Rattle.cuts.specs.declared.key.CutKey.{CutKey}
use Rattle.lookup.specs.declared.distinct.DistinctList.{DistinctList}
use Rattle.lookup.specs.declared.table.SlotTable.{SlotTable}
use Rattle.search.specs.declared.fanin.Fanin.{Fanin}
use Rattle.search.specs.Finding.{look_in, listed}
use Rattle.search.specs.Fanins.{cuts_of}

-- a pair of cuts, and a cut under a sign with each of y's
abbrev pub pair_step : SlotTable CutKey → Bool → Fanin → ℕ → Cut → Cut → List Cut → Search
pair_step keys s y limit a b = considered positions (look_in keys) (joined positions (min limit positions) s (sign_of y.edge.number) a b)

abbrev pub row_step : SlotTable CutKey → Bool → Fanin → ℕ → Cut → List Cut → Search
row_step keys s y limit a = along (pair_step keys s y limit a) (cuts_of y)

-- a list with no candidate yet
pub none-listed : (d : DistinctList Row) → d.list.count ≡ 0 → listed d ≡ []
none-listed d e = ap (λ n. map meaning (take n d.list.places.now)) e
