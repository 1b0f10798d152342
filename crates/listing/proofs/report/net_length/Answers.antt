use Rattle.std.proofs.Common.{[], ◌∷◌, length, ap, arith}
use Rattle.model.specs.Reports.{node_lines, lines_of, out, end}
use Rattle.sweeper.specs.States.{state_in}
use Rattle.listing.specs.Sections.{rest_text}
use Rattle.listing.proofs.Whole.{net-long}
use Rattle.listing.proofs.report.net_length.Goals as goal

pub returns : goal.returns
returns c =
    let s = state_in c.args.session.now in
    let nodes = ap (λ n. length (rest_text (node_lines s.reduced) [] n)) c.start.ensures.1 in
    let outs = ap (λ n. length (rest_text (lines_of out s.outputs) (end (length s.reduced) ∷ []) n)) c.start-2.ensures.1 in
    record { value = omega (arith, nodes, outs, net-long s); bound = omega arith }
