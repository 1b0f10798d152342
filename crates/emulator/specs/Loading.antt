-- The calls that load the design, the run that they form, and what the audit finds then.
use Rattle.std.specs.Prelude.{◌≡◌, true, false, List, [], ◌∷◌, map}
use Rattle.model.specs.Rankings.{Lawful, by_nothing}
use Rattle.model.specs.Sessions.{State, Tables, positions, lean, reduced_graph, was_made}
use Rattle.model.specs.Sessions.{Call, input_call, gate_call, output_call, walk_call}
use Rattle.model.specs.Sessions.{Answer, node, swept, mapped_edge, filled}
use Rattle.model.specs.Runs.{Event, Run}
use Rattle.model.specs.RunLaws.{Sound}
use Rattle.buyer.specs.Highest.{by_highest}
use Rattle.sweeper.specs.Tallies.{tallied}
use Rattle.evaluation.specs.declared.auditing.Findings.{Findings}
use Rattle.evaluation.specs.Audits.{Tells}

-- the tables of the session: five nodes and one output
abbrev pub tables : Tables
tables = record { source = 5; reduced = 5; cuts = 20; pairs = 5; keys = 20; outputs = 1 }

-- two inputs, their exclusive-nor by three gates under two rankings, an output and a walk; the newest first
abbrev pub calls_by : Lawful positions by_highest true → Lawful positions by_nothing false → List (Call positions)
calls_by highest flat =
    walk_call reduced_graph 2 6
    ∷ output_call 10
    ∷ gate_call (record { before = by_highest; mark = true; lawful = highest }) 7 9
    ∷ gate_call (record { before = by_nothing; mark = false; lawful = flat }) 3 4
    ∷ gate_call (record { before = by_highest; mark = true; lawful = highest }) 2 5
    ∷ input_call
    ∷ input_call
    ∷ []

-- exactly those calls form a run from a session on tables of these lengths, the run keeps all laws, and the findings tell where it leads
pub record Loads (t : Tables) (r : Findings) : Type 0 where
  pub highest : Lawful positions by_highest true
  pub flat : Lawful positions by_nothing false
  pub state : State
  pub events : List (Event positions)
  pub calls : map (λ e. e.call) events ≡ calls_by highest flat
  pub run : Run positions lean t events state
  pub sound : Sound positions lean t events state
  pub told : Tells state r

-- no call is refused: every gate is made, and the walk fills a place for each node and for the constant
abbrev pub answers_then : List Answer
answers_then =
    filled 6 ∷ mapped_edge 10 ∷ swept was_made 10 ∷ swept was_made 8 ∷ swept was_made 6 ∷ node 2 ∷ node 1 ∷ []

pub record Loaded (r : Findings) : Type 0 where
  pub loads : Loads tables r
  pub answers : map (λ e. e.answer) loads.events ≡ answers_then
  pub inputs : r.inputs ≡ 2
  pub source : r.source_nodes ≡ 5
  pub reduced : r.reduced_nodes ≡ 5
  pub outputs : r.outputs ≡ 1
  pub tally : tallied r.tally ≡ record { made = 3; folded = 0; shared = 0; merged = 0 }
  pub few : r.few_inputs ≡ true
