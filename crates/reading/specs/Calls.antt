-- the calls that lines ask for, as a part of a run
use Rattle.std.specs.Prelude.{◌≡◌, Bool, List, ◌++◌, map, reverse}
use Rattle.model.specs.Rankings.{Before, Ranking, Lawful}
use Rattle.model.specs.Reports.{calls_of}
use Rattle.model.specs.RunLaws as laws
use Rattle.model.specs.Runs.{Event, Run}
use Rattle.model.specs.Search.{Limits}
use Rattle.model.specs.Sessions.{State, Tables, positions}
use Rattle.lines.specs.declared.lines.Line.{Line}
use Rattle.lines.specs.Written.{line_in}
use Rattle.reading.specs.Net.{Accepted}

-- whatever run led to s, with the calls of the lines it leads to u, and the longer run keeps all laws
pub record Continues (r : Ranking positions) (s : State) (ls : List Line) (u : State) : Type 0 where
  pub events : List (Event positions)
  -- the newest first
  pub calls : map (λ e. e.call) events ≡ reverse (calls_of r (map line_in ls))
  pub whole : (m : Limits) (t : Tables) (es : List (Event positions)) → laws.Fit positions m → Run positions m t es s → Run positions m t (events ++ es) u × laws.Sound positions m t (events ++ es) u

-- lines whose calls are accepted continue every run, by a ranking that is given by its relation and its mark
pub record RunsOn (before : Before) (mark : Bool) (s : State) : Type 0 where
  pub lawful : Lawful positions before mark
  pub continues : (ls : List Line) (u : State) → Accepted before s ls u → Continues (record { before = before; mark = mark; lawful = lawful }) s ls u
