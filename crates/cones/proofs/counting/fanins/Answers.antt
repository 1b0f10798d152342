use Rattle.std.proofs.Common.{sym, ap, ◌∙◌}
use Rattle.sweeper.specs.States.{state_in}
use Rattle.cones.specs.Cones.{fanin_nodes}
use Rattle.cones.proofs.Seeing.{unseen}
use Rattle.cones.proofs.counting.fanins.Goals as goal

pub returns-in_err-x : goal.returns-in_err-x
returns-in_err-x c = c.from_residual.ensures ∙ sym (ap fanin_nodes (unseen (state_in c.args.session.now) c.args.node c.in_err-x.ensures))
