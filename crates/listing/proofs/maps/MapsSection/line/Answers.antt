use Rattle.std.proofs.Common.{ap, ◌∙◌, arith}
use Rattle.model.specs.Reports.{lines_of, mapped}
use Rattle.sweeper.specs.Counted.{few}
use Rattle.sweeper.specs.States.{state_in}
use Rattle.sweeper.specs.Reports.{entry}
use Rattle.listing.specs.Listed.{numbers_count, numbers_tell, next_none}
use Rattle.listing.proofs.maps.MapsSection.line.Goals as goal

pub returns-in_err-checked_add : goal.returns-in_err-checked_add
returns-in_err-checked_add c =
    let s = c.args.session.now in
    let ns = (state_in s).mapped in
    rw c.from_residual.ensures (next_none (lines_of mapped ns) c.args.k (omega (arith, numbers_count mapped ns, few (state_in s) s.reached, c.in_err-checked_add.ensures)))

pub returns : goal.returns
returns c =
    let ns = (state_in c.args.session.now).mapped in
    c.edge_line.ensures ∙ numbers_tell mapped ns c.args.k _ (c.mapped.ensures ∙ ap (entry 0 ns) c.in_ok-checked_add.ensures.1)
