use Rattle.std.proofs.Common.{◌≡◌, length}
use Rattle.sweeper.specs.States.{state_in, image_in}
use Rattle.sweeper.specs.Tables.{Rest}
use Rattle.lines.specs.Position.{position_of}
use Rattle.lines.proofs.Moving.{read_from}
use Rattle.reading.specs.Reading.{caller, read_text}
use Rattle.reading.proofs.reader.read_text.Given as goal

abbrev pub invariant-loop : goal.invariant-loop
invariant-loop g l =
    let before = g.R.Ranking.before l.by in
    (read_from (caller before) (position_of l.reader) (state_in l.session) ≡ read_text before (state_in l.initial.session) l.text)
    × Rest (image_in l.initial.session) (image_in l.session)

abbrev pub decreases-loop : goal.decreases-loop
decreases-loop g l = length (position_of l.reader).rest
