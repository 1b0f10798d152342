use Rattle.std.proofs.Common.{Ok, Err, arith}
use Rattle.sweeper.specs.States.{state_in}
use Rattle.listing.specs.declared.maps.Maps.{Maps}
use Rattle.listing.proofs.Whole.{report-long, maps_up, end_up}
use Rattle.listing.proofs.report.write_stages.Goals as goal

pub net_stages-requires : goal.net_stages-requires
net_stages-requires c = omega (arith, c.requires, report-long (state_in c.args.session.now))

pub returns-in_err-tally : goal.returns-in_err-tally
returns-in_err-tally c = absurd c.in_err-tally.ensures

pub returns-in_err-maps : goal.returns-in_err-maps
returns-in_err-maps c =
    absurd (maps_up (state_in c.args.session.now) c.args.page.now c.requires {T = Maps} c.in_ok-tally.tally c.net_stages.new.page c.in_ok-tally.ensures (omega arith) (Err c.in_err-maps.field-0.0) c.go_on.new.page c.in_err-maps.ensures)

pub returns-in_err-go_on : goal.returns-in_err-go_on
returns-in_err-go_on c =
    let s = state_in c.args.session.now in
    let maps = maps_up s c.args.page.now c.requires c.in_ok-tally.tally c.net_stages.new.page c.in_ok-tally.ensures (omega arith) (Ok c.in_ok-maps.maps) c.go_on.new.page c.in_ok-maps.ensures in
    absurd (end_up s c.args.page.now c.requires c.in_ok-maps.maps c.go_on.new.page maps (omega arith) (Err c.in_err-go_on.field-0.0) c.go_on-2.new.page c.in_err-go_on.ensures)

pub returns : goal.returns
returns c =
    let s = state_in c.args.session.now in
    let maps = maps_up s c.args.page.now c.requires c.in_ok-tally.tally c.net_stages.new.page c.in_ok-tally.ensures (omega arith) (Ok c.in_ok-maps.maps) c.go_on.new.page c.in_ok-maps.ensures in
    end_up s c.args.page.now c.requires c.in_ok-maps.maps c.go_on.new.page maps (omega arith) (Ok c.in_ok-go_on.field-0) c.go_on-2.new.page c.in_ok-go_on.ensures
