use Rattle.std.proofs.Common.{Ok, Err, arith}
use Rattle.sweeper.specs.States.{state_in}
use Rattle.listing.specs.declared.counts.Counts.{Counts}
use Rattle.listing.specs.declared.outs.Outs.{Outs}
use Rattle.listing.specs.Sections.{net_text}
use Rattle.listing.proofs.Whole.{net-long, outs_up, tally_up, all_up}
use Rattle.listing.proofs.report.net_stages.Goals as goal

pub returns-in_err-nodes : goal.returns-in_err-nodes
returns-in_err-nodes c =
    let e = c.in_err-nodes.ensures in
    absurd (omega (arith, e.1, c.requires, net-long (state_in c.args.session.now)))

pub returns-in_err-outs : goal.returns-in_err-outs
returns-in_err-outs c =
    absurd (outs_up (state_in c.args.session.now) c.args.page.now c.requires {T = Outs} c.in_ok-nodes.nodes c.begin.new.page c.in_ok-nodes.ensures (omega arith) (Err c.in_err-outs.field-0.0) c.go_on.new.page c.in_err-outs.ensures)

pub returns-in_err-go_on : goal.returns-in_err-go_on
returns-in_err-go_on c =
    let s = state_in c.args.session.now in
    let outs = outs_up s c.args.page.now c.requires c.in_ok-nodes.nodes c.begin.new.page c.in_ok-nodes.ensures (omega arith) (Ok c.in_ok-outs.outs) c.go_on.new.page c.in_ok-outs.ensures in
    absurd (tally_up s c.args.page.now c.requires {T = Counts} c.in_ok-outs.outs c.go_on.new.page outs (omega arith) (Err c.in_err-go_on.field-0.0) c.go_on-2.new.page c.in_err-go_on.ensures)

pub returns : goal.returns
returns c =
    let s = state_in c.args.session.now in
    let outs = outs_up s c.args.page.now c.requires c.in_ok-nodes.nodes c.begin.new.page c.in_ok-nodes.ensures (omega arith) (Ok c.in_ok-outs.outs) c.go_on.new.page c.in_ok-outs.ensures in
    all_up (net_text s) c.args.page.now c.requires c.in_ok-go_on.field-0 c.go_on-2.new.page
    (tally_up s c.args.page.now c.requires c.in_ok-outs.outs c.go_on.new.page outs (omega arith) (Ok c.in_ok-go_on.field-0) c.go_on-2.new.page c.in_ok-go_on.ensures)
