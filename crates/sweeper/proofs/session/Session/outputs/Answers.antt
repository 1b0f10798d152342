use Rattle.std.proofs.Common.{sym, ◌∙◌}
use Rattle.sweeper.specs.Tables.{no_edge}
use Rattle.sweeper.proofs.Newest.{newest-length}
use Rattle.sweeper.proofs.Lists.{in_use}
use Rattle.sweeper.proofs.session.Session.outputs.Goals as goal

pub returns : goal.returns
returns c = let l = c.args.self.now.core.outputs in c.len.ensures ∙ in_use l ∙ sym (newest-length (λ e. e.number) no_edge l.places.now l.count)
