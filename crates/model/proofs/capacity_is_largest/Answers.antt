use Rattle.model.proofs.Growing.{capacity}
use Rattle.model.proofs.capacity_is_largest.Goals as goal

pub returns : goal.returns
returns c = capacity
