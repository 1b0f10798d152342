use Rattle.emulator.proofs.Loading.{with_fanins, loads}
use Rattle.emulator.proofs.load_into.Goals as goal

pub returns : goal.returns
returns c t run =
    loads
    t
    c.audit.result
    run
    c.input.ensures.runs
    c.input-2.ensures.runs
    (with_fanins 2 5 c.new.ensures c.new-2.ensures c.gate.ensures.runs)
    (with_fanins 3 4 c.new-3.ensures c.new-4.ensures c.gate-2.ensures.runs)
    (with_fanins 7 9 c.new-5.ensures c.new-6.ensures c.gate-3.ensures.runs)
    (rw c.new-7.ensures at c.output.ensures.runs)
    c.walk.ensures.runs
    c.audit.ensures.tells
