-- The worked sessions, by computing.
use Rattle.std.proofs.Common.{Bool, sym, refl}
use mathlib.Core.Path.{path_j}
use Rattle.model.specs.Tables.{masked}
use Rattle.model.specs.Cuts.{tabulate, squeeze, join}
use Rattle.model.specs.Keys.{first_of}
use Rattle.model.specs.Graphs.{heights, uses, rests_on, find_pair, find_key}
use Rattle.model.specs.Rankings.{Lawful, by_height, rank_in, ranked}
use Rattle.model.specs.Search.{along, decide}
use Rattle.model.specs.Sessions.{step, positions}
use Rattle.model.specs.Worked.{Worked, WorkedSessions}

-- at the relation by height itself
computed : (mark : Bool) (lawful : Lawful positions by_height mark) → Worked (record { before = by_height; mark = mark; lawful = lawful })
unfolding masked tabulate squeeze join first_of heights uses rests_on find_pair find_key rank_in ranked along decide step
computed mark lawful = record {
  table = refl;
  example = refl;
}

pub worked_sessions : WorkedSessions
worked_sessions r e =
    path_j (λ before _. (mark : Bool) (lawful : Lawful positions before mark) → Worked (record { before = before; mark = mark; lawful = lawful })) computed (sym e) r.mark r.lawful
