use Rattle.cuts.proofs.Edges.{flip_is}
use Rattle.cuts.proofs.edge.Edge.complement_if.Goals as goal

pub returns : goal.returns
returns c = flip_is c.args.self.number c.args.sign
