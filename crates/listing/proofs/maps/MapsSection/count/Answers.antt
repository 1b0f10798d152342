use Rattle.std.proofs.Common.{arith}
use Rattle.model.specs.Reports.{mapped}
use Rattle.sweeper.specs.Counted.{few}
use Rattle.sweeper.specs.States.{state_in}
use Rattle.listing.specs.Listed.{numbers_count}
use Rattle.listing.proofs.maps.MapsSection.count.Goals as goal

pub returns : goal.returns
returns c =
    let s = c.args.session.now in
    omega (arith, numbers_count mapped (state_in s).mapped, (few (state_in s) s.reached).mapped, c.source_nodes.ensures)
