use Rattle.model.proofs.Meaning.{joined_words}
use Rattle.model.proofs.joined_words.Goals as goal

pub returns : goal.returns
returns c = joined_words
