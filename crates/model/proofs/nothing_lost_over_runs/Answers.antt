use Rattle.model.proofs.Sound.{lose_nothing}
use Rattle.model.proofs.nothing_lost_over_runs.Goals as goal

pub returns : goal.returns
returns c = lose_nothing
