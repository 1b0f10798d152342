use Rattle.model.proofs.Meaning.{squeezing}
use Rattle.model.proofs.squeezing_keeps_what_matters.Goals as goal

pub returns : goal.returns
returns c = squeezing
