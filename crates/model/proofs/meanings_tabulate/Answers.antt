use Rattle.model.proofs.Meaning.{tabulated}
use Rattle.model.proofs.meanings_tabulate.Goals as goal

pub returns : goal.returns
returns c = tabulated
