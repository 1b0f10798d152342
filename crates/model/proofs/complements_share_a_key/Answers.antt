use Rattle.model.proofs.Meaning.{complements}
use Rattle.model.proofs.complements_share_a_key.Goals as goal

pub returns : goal.returns
returns c = complements
