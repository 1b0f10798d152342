use Rattle.std.proofs.Common.{[], ◌∷◌, length, ap, arith}
use Rattle.model.specs.Reports.{lines_of, tally_lines, mapped, done}
use Rattle.sweeper.specs.States.{state_in}
use Rattle.listing.specs.Sections.{rest_text}
use Rattle.listing.proofs.Whole.{report-long}
use Rattle.listing.proofs.report.report_length.Goals as goal

pub returns : goal.returns
returns c =
    let s = state_in c.args.session.now in
    let counts = ap (λ n. length (rest_text (tally_lines s.tally) [] n)) c.start.ensures.1 in
    let maps = ap (λ n. length (rest_text (lines_of mapped s.mapped) (done (length s.source) ∷ []) n)) c.start-2.ensures.1 in
    omega (arith, counts, maps, report-long s)
