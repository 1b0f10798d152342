-- What an audit tells of a session, and what holds of every run that leads to it.
use Rattle.std.specs.Prelude.{◌≡◌, List, length, nat_le}
use Rattle.model.specs.Graphs.{inputs}
use Rattle.model.specs.Search.{Limits}
use Rattle.model.specs.Sessions.{State, Tables, positions, lean}
use Rattle.model.specs.Runs.{Event, Run}
use Rattle.model.specs.RunLaws.{Fit, Sound, InputsFirst, Complete}
use Rattle.sweeper.specs.Tallies.{tallied}
use Rattle.evaluation.specs.declared.auditing.Findings.{Findings}

pub record Tells (s : State) (r : Findings) : Type 0 where
  pub given : r.inputs ≡ inputs s.source
  pub source : r.source_nodes ≡ length s.source
  pub reduced : r.reduced_nodes ≡ length s.reduced
  pub outputs : r.outputs ≡ length s.outputs
  pub tally : tallied r.tally ≡ s.tally
  pub few : r.few_inputs ≡ nat_le (inputs s.source) lean.leaves

-- whatever run leads to the state keeps all the laws
abbrev pub KeepsLaws : State → Type 0
KeepsLaws s = (m : Limits) (t : Tables) (es : List (Event positions)) → Fit positions m → Run positions m t es s → Sound positions m t es s

-- where a run that leads to the state had inputs-first rankings alone, equal edges have one reduced edge
abbrev pub Completes : State → Type 0
Completes s = (t : Tables) (es : List (Event positions)) → Run positions lean t es s → InputsFirst positions es → Complete s
