use Rattle.std.proofs.Common.{sym, ap}
use Rattle.model.proofs.Positions.{put_back}
use Rattle.cuts.proofs.words.moved.Goals as goal

pub returns-then-from-to : goal.returns-then-from-to
returns-then-from-to c v = sym (put_back 4 c.args.table v c.args.from (v c.args.to) (ap v c.if-from-to.true))
