-- A state that some run of calls leads to.
use Rattle.std.specs.Prelude.{List}
use Rattle.model.specs.Sessions.{State, Tables, positions, lean}
use Rattle.model.specs.Runs.{Event, Run}

pub record Led (s : State) : Type 0 where
  pub tables : Tables
  pub events : List (Event positions)
  pub run : Run positions lean tables events s

abbrev pub Reached : State → Type 0
Reached s = ∥ Led s ∥₁
