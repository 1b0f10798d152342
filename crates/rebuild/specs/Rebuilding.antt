-- A session's net carried over into another session.
use Rattle.std.specs.Prelude.{◌≡◌, ℕ, ◌<◌, ◌≤◌, List, [], map, length, Ok, Err, Result}
use Rattle.model.specs.Graphs.{Graph}
use Rattle.model.specs.Rankings.{Before}
use Rattle.model.specs.Sessions.{State, map_edge}
use Rattle.reading.specs.Faults.{stop_in}
use Rattle.reading.specs.Net.{Follows, Refused}
use Rattle.pages.specs.Page.{over}
use Rattle.listing.specs.Sections.{net_text}
use Rattle.rebuild.specs.declared.RebuildFault.{RebuildFault}
use Rattle.rebuild.specs.declared.RebuildFault.TheVariants.{Page, Text}

-- the net is written and read; or the page is too short and all is as it was; or a line of the written net was refused
abbrev pub Carries : Before → State → State → List ℕ → Result ℕ RebuildFault → List ℕ → State → Type 0
Carries before s t page (Ok n) page' u = (n ≡ length (net_text s)) × (page' ≡ over (net_text s) page) × Follows before t (net_text s) u
Carries before s t page (Err (Page e)) page' u = (e.wanted ≡ length (net_text s)) × (length page < length (net_text s)) × (page' ≡ page) × (u ≡ t)
Carries before s t page (Err (Text e)) page' u = (page' ≡ over (net_text s) page) × Refused before t (net_text s) (stop_in e) u

-- a new session with space for a graph and outputs
pub record Takes (t : State) (g : Graph) (outputs : List ℕ) : Type 0 where
  pub no_nodes : t.source ≡ []
  pub no_outputs : t.outputs ≡ []
  pub nodes : length g ≤ t.capacity
  pub rows : length outputs ≤ t.rows_for_outputs

-- where the page is long enough and the other session is new and has space, the reduced graph is its source graph,
-- and its outputs are the mapped edges of the listed outputs
pub record Rebuilds (s t : State) (page : List ℕ) (r : Result ℕ RebuildFault) (u : State) : Type 0 where
  pub answer : Takes t s.reduced s.outputs → length (net_text s) ≤ length page → r ≡ Ok (length (net_text s))
  pub source : Takes t s.reduced s.outputs → length (net_text s) ≤ length page → u.source ≡ s.reduced
  pub outputs : Takes t s.reduced s.outputs → length (net_text s) ≤ length page → u.outputs ≡ map (map_edge u) s.outputs
