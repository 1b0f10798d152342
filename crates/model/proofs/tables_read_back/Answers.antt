use Rattle.model.proofs.Meaning.{reads_back}
use Rattle.model.proofs.tables_read_back.Goals as goal

pub returns : goal.returns
returns c = reads_back
