use Rattle.nearby.proofs.Changing.{no_front, one_front}
use Rattle.nearby.proofs.each_shortened.Goals as goal

pub loop-n-init : goal.loop-n-init
loop-n-init g c = no_front g.V.Visitor.visits c.args.visitor.now c.args.text.now

pub loop-n-preserved : goal.loop-n-preserved
loop-n-preserved g c = one_front g.V.Visitor.visits _ _ c.loop-n.visitor _ c.loop-n.n c.loop-n.invariant c.visit.ensures
