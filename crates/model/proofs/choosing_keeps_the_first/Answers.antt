use Rattle.model.proofs.Choosing.{choosing}
use Rattle.model.proofs.choosing_keeps_the_first.Goals as goal

pub returns : goal.returns
returns c = choosing
