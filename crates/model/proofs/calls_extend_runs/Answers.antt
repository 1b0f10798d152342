use Rattle.model.proofs.Sound.{calls_extend}
use Rattle.model.proofs.calls_extend_runs.Goals as goal

pub returns : goal.returns
returns c = calls_extend
