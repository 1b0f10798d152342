use Rattle.std.proofs.Common.{◌≡◌, ◌+◌, ◌<◌, length}
use Rattle.lines.specs.Position.{position_of}
use Rattle.lines.proofs.Moving.{read_from}
use Rattle.netlist.specs.Reading.{nodes_of, counter, answer_of, read_text}
use Rattle.netlist.proofs.reader.read_text.Given as goal

abbrev pub invariant-loop-line : goal.invariant-loop-line
invariant-loop-line l =
    (answer_of (read_from counter (position_of l.reader) l.outline) ≡ read_text l.text)
    × (nodes_of l.outline + l.outline.outs < (position_of l.reader).line)

abbrev pub decreases-loop-line : goal.decreases-loop-line
decreases-loop-line l = length (position_of l.reader).rest
