use Rattle.std.proofs.Common.{arith, length-set}
use Rattle.sweeper.specs.States.{state_in}
use Rattle.sweeper.proofs.Reaching.{ordered}
use Rattle.cones.proofs.Ordering.{fanins-earlier, Earlier}
use Rattle.cones.proofs.counting.spread.Goals as goal

earlier : (c : goal.In-Some) → Earlier c.args.node c.in-Some.x c.in-Some.y
earlier c =
    let s = state_in c.args.session.now in
    fanins-earlier s.reduced (ordered s c.args.session.now.reached) c.args.node c.in-Some.x c.in-Some.y c.in-Some.ensures

pub bounds-marks-x : goal.bounds-marks-x
bounds-marks-x c = omega (arith, (earlier c).first)

pub bounds-marks-y : goal.bounds-marks-y
bounds-marks-y c = simp length-set (omega (arith, (earlier c).second))
