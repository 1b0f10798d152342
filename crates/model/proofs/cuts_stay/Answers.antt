use Rattle.model.proofs.Growing.{cuts-stay}
use Rattle.model.proofs.cuts_stay.Goals as goal

pub returns : goal.returns
returns c = cuts-stay
