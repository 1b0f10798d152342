use Rattle.std.proofs.Common.{arith}
use Rattle.model.specs.Texts.{written}
use Rattle.pages.specs.Lines.{line_in}
use Rattle.pages.proofs.Over.{tail-over}
use Rattle.pages.proofs.writing.write_line.Goals as goal

pub returns : goal.returns
returns c = (
  omega arith,
  omega arith,
  tail-over c.args.at c.args.page.now _ (written (line_in c.args.line)) c.put_line.ensures.after,
)
