use Rattle.std.proofs.Common.{sym, ◌∙◌}
use Rattle.sweeper.specs.Tables.{node_in, no_source}
use Rattle.sweeper.proofs.Newest.{newest-length}
use Rattle.sweeper.proofs.Lists.{in_use}
use Rattle.sweeper.proofs.session.Session.source_nodes.Goals as goal

pub returns : goal.returns
returns c = let l = c.args.self.now.core.source in c.len.ensures ∙ in_use l ∙ sym (newest-length (λ r. node_in r.node) no_source l.places.now l.count)
