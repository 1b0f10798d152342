use Rattle.model.proofs.History.{deterministic}
use Rattle.model.proofs.runs_are_deterministic.Goals as goal

pub returns : goal.returns
returns c = deterministic
