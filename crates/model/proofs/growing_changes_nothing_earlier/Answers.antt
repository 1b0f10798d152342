use Rattle.model.proofs.Growing.{growing}
use Rattle.model.proofs.growing_changes_nothing_earlier.Goals as goal

pub returns : goal.returns
returns c = growing
