use Rattle.model.proofs.Sound.{reduced_graph}
use Rattle.model.proofs.reduced_graph_over_runs.Goals as goal

pub returns : goal.returns
returns c = reduced_graph
