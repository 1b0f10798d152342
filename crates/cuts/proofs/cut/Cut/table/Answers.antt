use Rattle.std.proofs.Common.{refl, arith}
use Rattle.cuts.proofs.Formed.{formed}
use Rattle.cuts.proofs.cut.Cut.table.Goals as goal

pub returns : goal.returns
returns c = record {
  table = refl;
  formed = formed c.args.self.now (omega arith);
}
