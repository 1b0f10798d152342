use Rattle.model.proofs.Meaning.{trivial-cut}
use Rattle.model.proofs.trivial_cut_is_its_node.Goals as goal

pub returns : goal.returns
returns c = trivial-cut
