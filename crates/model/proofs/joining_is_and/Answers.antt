use Rattle.model.proofs.Meaning.{joining}
use Rattle.model.proofs.joining_is_and.Goals as goal

pub returns : goal.returns
returns c = joining
