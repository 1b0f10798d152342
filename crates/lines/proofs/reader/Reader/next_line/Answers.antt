use Rattle.std.proofs.Common.{arith}
use Rattle.lines.specs.Order.{arrives}
use Rattle.lines.specs.Position.{position_of}
use Rattle.lines.proofs.Cuts.{cut-length}
use Rattle.lines.proofs.Moving.{landed-line}
use Rattle.lines.proofs.reader.Reader.next_line.Goals as goal

pub invariant_of-self : goal.invariant_of-self
invariant_of-self c =
    let s = c.args.self.now in
    let here = position_of s in
    let long = cut-length 10 s.rest.now c.in-Some.field-0.before.now c.in-Some.field-0.after.now c.in-Some.ensures in
    let same = landed-line here (position_of c.arrive.new.self) (arrives here.place c.args.nodes c.in_ok-line.line) c.in_ok-arrive.ensures in
    record { countable = omega (arith, long, same, s.countable) }
