use Rattle.std.proofs.Common.{sym, ◌∙◌}
use Rattle.sweeper.specs.Tables.{node_in, no_reduced}
use Rattle.sweeper.proofs.Newest.{newest-length}
use Rattle.sweeper.proofs.Lists.{in_use}
use Rattle.sweeper.proofs.session.Session.reduced_nodes.Goals as goal

pub returns : goal.returns
returns c = let l = c.args.self.now.core.reduced in c.len.ensures ∙ in_use l ∙ sym (newest-length (λ r. node_in r.node) no_reduced l.places.now l.count)
