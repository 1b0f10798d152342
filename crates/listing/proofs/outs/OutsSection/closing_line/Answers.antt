use Rattle.std.proofs.Common.{arith}
use Rattle.sweeper.specs.Counted.{few}
use Rattle.sweeper.specs.States.{state_in}
use Rattle.listing.proofs.outs.OutsSection.closing_line.Goals as goal

pub overflow_cast-result : goal.overflow_cast-result
overflow_cast-result c =
    let most = few (state_in c.args.session.now) c.args.session.now.reached in
    omega arith
