use Rattle.std.proofs.Common.{arith}
use Rattle.pages.proofs.Over.{tail-over}
use Rattle.pages.proofs.parts.add.Goals as goal

pub returns : goal.returns
returns g c = record {
  value = omega (arith, c.put.ensures.value);
  after = tail-over c.args.at c.args.page.now _ (g.P.Part.bytes c.args.part) c.put.ensures.after;
}
