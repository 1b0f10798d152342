use Rattle.model.proofs.Sound.{extends}
use Rattle.sweeper.specs.Tables.{image}
use Rattle.sweeper.proofs.Mapping.{map_steps}
use Rattle.sweeper.proofs.session.Session.map.Goals as goal

pub returns : goal.returns
returns c = extends (map_steps (image c.args.self.now.core) c.args.e _ c.mapped_edge.ensures)
