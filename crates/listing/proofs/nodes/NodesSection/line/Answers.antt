use Rattle.std.proofs.Common.{Some, None, ap, ◌∙◌, arith}
use Rattle.model.specs.Graphs.{input}
use Rattle.model.specs.Reports.{node_lines}
use Rattle.sweeper.specs.Reports.{entry}
use Rattle.sweeper.specs.Counted.{few}
use Rattle.sweeper.specs.States.{state_in}
use Rattle.sweeper.specs.Tables.{node_in}
use Rattle.listing.specs.Sections.{node_line}
use Rattle.listing.specs.Listed.{nodes_count, nodes_tell, next_none, node_of, node_entry}
use Rattle.listing.proofs.Onward.{next-within}
use Rattle.listing.proofs.nodes.NodesSection.line.Goals as goal

pub returns-in_err-number : goal.returns-in_err-number
returns-in_err-number c =
    let s = c.args.session.now in
    rw c.from_residual.ensures (next_none (node_lines (state_in s).reduced) c.args.k (omega (arith, nodes_count (state_in s).reduced, few (state_in s) s.reached, c.in_err-number.ensures)))

pub returns-in_err-row : goal.returns-in_err-row
returns-in_err-row c =
    let s = state_in c.args.session.now in
    let here = node_entry s c.in_ok-number.number ∙ ap (entry input s.reduced) c.in_ok-number.ensures.1 in
    rw c.from_residual-in_err-row.ensures (nodes_tell s.reduced c.args.k None (ap node_of c.in_err-row.ensures ∙ here))

pub overflow_cast-number : goal.overflow_cast-number
overflow_cast-number c =
    let s = state_in c.args.session.now in
    let here = node_entry s c.in_ok-number.number ∙ ap (entry input s.reduced) c.in_ok-number.ensures.1 in
    let row = nodes_tell s.reduced c.args.k (Some _) (ap node_of c.in_ok-row.ensures ∙ here) in
    omega (arith, next-within (node_lines s.reduced) c.args.k _ row, nodes_count s.reduced, few s c.args.session.now.reached, c.in_ok-number.ensures)

pub returns : goal.returns
returns c =
    let s = state_in c.args.session.now in
    let here = node_entry s c.in_ok-number.number ∙ ap (entry input s.reduced) c.in_ok-number.ensures.1 in
    ap Some (c.node_line.ensures ∙ ap (λ n. node_line n (node_in c.in_ok-row.row.node)) c.in_ok-number.ensures.1) ∙ nodes_tell s.reduced c.args.k (Some _) (ap node_of c.in_ok-row.ensures ∙ here)
