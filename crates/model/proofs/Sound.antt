-- Every run keeps all the laws.
use Rattle.std.proofs.Common.{ℕ, refl, arith}
use Rattle.model.specs.Sessions.{State, Call, Answer}
use Rattle.model.specs.Runs.{Steps, calling}
use Rattle.model.specs.RunLaws.{RunsHaveEqualSignals, RunsReduceTheGraph, RunsOnFewInputsAreComplete, RunsLoseNothing, EveryRunIsSound, Extends, CallsExtendRuns, SessionsFit}
use Rattle.model.proofs.Values.{well_run, equal_signals}
use Rattle.model.proofs.Consistent.{run_consistent}
use Rattle.model.proofs.Reducing.{one-a_pair_run, one-a-key-run, kept_run, made-run}
use Rattle.model.proofs.Completing.{complete-run}
use Rattle.model.proofs.History.{tally-told, gates-told, nothing_lost}

pub reduced_graph : RunsReduceTheGraph
reduced_graph p m t es s fit run = record {
  earlier = (run_consistent run).reduced-ordered;
  one_a_pair = one-a_pair_run run;
  one_a_key = one-a-key-run run;
  kept = kept_run fit run;
  made = made-run run;
  tally = tally-told run;
  sum = gates-told run;
}

pub equal-signals-run : RunsHaveEqualSignals
equal-signals-run p m t es s fit run = equal_signals p s fit.some (well_run fit run)

pub complete-few : RunsOnFewInputsAreComplete
complete-few p m t es s fit run = complete-run fit run

pub lose_nothing : RunsLoseNothing
lose_nothing p m t es s fit run = nothing_lost p m t es s run

pub every-run-is-sound : EveryRunIsSound
every-run-is-sound p m t es s fit run = record {
  equal_signals = equal-signals-run p m t es s fit run;
  reduced_graph = reduced_graph p m t es s fit run;
  complete = complete-few p m t es s fit run;
  nothing_lost = lose_nothing p m t es s fit run;
}

-- a call that steps as the rules say goes on from every run
pub extends : {p : ℕ} {s u : State} {c : Call p} {a : Answer} → Steps p s c u a → Extends p s c u a
extends h = record { steps = h; whole = λ m t es fit run. (calling run h, every-run-is-sound _ m t _ _ fit (calling run h)) }

pub calls_extend : CallsExtendRuns
calls_extend p s c = extends (record { state = refl; answer = refl })

pub sessions-fit : SessionsFit
sessions-fit = record { some = omega arith; leaves = omega arith; kept = omega arith }
