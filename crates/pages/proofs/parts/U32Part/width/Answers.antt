use Rattle.std.proofs.Common.{arith}
use Rattle.pages.proofs.Over.{width_least}
use Rattle.pages.proofs.parts.U32Part.width.Goals as goal

pub returns : goal.returns
returns c =
    let e = c.ilog10.ensures in
    width_least c.ilog10.result c.args.self c.max.result c.max.ensures e.power_le e.next_power_gt (omega arith)
