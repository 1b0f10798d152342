use Rattle.model.proofs.Sound.{sessions-fit}
use Rattle.model.proofs.sessions_fit.Goals as goal

pub returns : goal.returns
returns c = sessions-fit
