use Rattle.emulator.specs.Loading.{tables}
use Rattle.emulator.proofs.Loading.{loaded}
use Rattle.emulator.proofs.load_design.Goals as goal

pub returns : goal.returns
returns c = loaded c.load_into.result (c.load_into.ensures tables c.open-session.ensures.run)
