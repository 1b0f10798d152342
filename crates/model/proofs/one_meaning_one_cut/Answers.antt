use Rattle.model.proofs.Meaning.{one-meaning}
use Rattle.model.proofs.one_meaning_one_cut.Goals as goal

pub returns : goal.returns
returns c = one-meaning
