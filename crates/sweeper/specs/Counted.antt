-- How many nodes and outputs a session has at most.
use Rattle.std.proofs.Common.{◌≡◌, ◌≤◌, length, arith}
use mathlib.Core.Logic.{∥∥₁_elim}
use native.Mathlib.Bridge.{le_prop}
use native.Mathlib.Nat.{ℕ_set}
use Rattle.model.specs.Sessions.{State, node_limit, output_limit}
use Rattle.model.proofs.Sound.{lose_nothing, sessions-fit}
use Rattle.sweeper.specs.Runs.{Led, Reached}

pub record Few (s : State) : Type 0 where
  pub source : length s.source ≤ node_limit
  pub mapped : length s.mapped ≡ length s.source
  pub reduced : length s.reduced ≤ node_limit
  pub outputs : length s.outputs ≤ output_limit

few_by : (s : State) → Led s → Few s
few_by s l =
    let all = lose_nothing _ _ _ _ s sessions-fit l.run in
    record {
      source = all.nodes_fit;
      mapped = all.one_map;
      reduced = omega (arith, all.nodes_fit, all.fewer);
      outputs = omega (arith, all.few_outputs, all.rows);
    }

few_prop : (s : State) → IsProp (Few s)
few_prop s a b = λ i. record {
  source = le_prop a.source b.source i;
  mapped = ℕ_set _ _ a.mapped b.mapped i;
  reduced = le_prop a.reduced b.reduced i;
  outputs = le_prop a.outputs b.outputs i;
}

pub few : (s : State) → Reached s → Few s
few s r = ∥∥₁_elim r (few_prop s) (few_by s)
