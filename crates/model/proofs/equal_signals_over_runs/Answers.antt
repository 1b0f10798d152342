use Rattle.model.proofs.Sound.{equal-signals-run}
use Rattle.model.proofs.equal_signals_over_runs.Goals as goal

pub returns : goal.returns
returns c = equal-signals-run
