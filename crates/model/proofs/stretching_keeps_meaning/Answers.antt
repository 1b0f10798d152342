use Rattle.model.proofs.Meaning.{stretching}
use Rattle.model.proofs.stretching_keeps_meaning.Goals as goal

pub returns : goal.returns
returns c = stretching
