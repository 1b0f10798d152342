use Rattle.cones.proofs.Listing.{cones_are_paths}
use Rattle.cones.proofs.cones_are_paths.Goals as goal

pub returns : goal.returns
returns c = cones_are_paths
