-- What a search over pairs of cuts comes to, in the words of the model.
use Rattle.std.specs.Prelude.{ℕ, List, map, Some, None, Option}
use Rattle.model.specs.Edges.{edge}
use Rattle.model.specs.Cuts.{Cut as Meant}
use Rattle.model.specs.Search.{Decision, folded, merged, Search, ended, candidates}
use Rattle.cuts.specs.Meaning.{meaning}
use Rattle.cuts.specs.Keys.{key_meaning}
use Rattle.cuts.specs.declared.cut.Cut.{Cut}
use Rattle.cuts.specs.declared.key.CutKey.{CutKey}
use Rattle.lent.specs.Lists.{room, listed as items}
use Rattle.lookup.specs.Hash.{hashed_slot}
use Rattle.lookup.specs.Slots.{found}
use Rattle.lookup.specs.declared.distinct.DistinctList.{DistinctList}
use Rattle.lookup.specs.declared.table.SlotTable.{SlotTable}
use Rattle.search.specs.declared.decision.Existing.{Existing}
use Rattle.search.specs.declared.decision.Existing.TheVariants.{Folded, Merged}

abbrev pub existing : Existing → Decision
existing (Folded node sign) = folded (edge node sign)
existing (Merged e) = merged e.number

-- an answer, and the candidates beside it
abbrev pub told : Option Existing → List Meant → Search
told (Some e) cuts = ended (existing e)
told None cuts = candidates cuts

-- the edge that a table of keys gives for a key
abbrev pub look_in : SlotTable CutKey → List ℕ → Option ℕ
look_in t = found key_meaning hashed_slot t.slots.now

-- how many candidates a list has places for, and the candidates in it
abbrev pub places_of : DistinctList Cut → ℕ
places_of d = room d.list

abbrev pub listed : DistinctList Cut → List Meant
listed d = map meaning (items d.list)
