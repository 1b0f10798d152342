use Rattle.model.proofs.Sound.{complete-few}
use Rattle.model.proofs.complete_on_few_inputs.Goals as goal

pub returns : goal.returns
returns c = complete-few
