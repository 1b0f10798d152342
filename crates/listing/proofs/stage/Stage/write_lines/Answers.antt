use Rattle.std.proofs.Common.{drop, arith}
use Rattle.model.specs.Texts.{text_of}
use Rattle.sweeper.specs.States.{state_in}
use Rattle.listing.proofs.Onward.{none_yet, lines-more, lines-room, lines-all}
use Rattle.listing.proofs.stage.Stage.write_lines.Goals as goal

pub loop-k-init : goal.loop-k-init
loop-k-init g c =
    let s = c.args.self.now in
    none_yet (text_of (drop s.next (g.S.Section.lines (state_in c.args.session.now)))) s.at c.args.page.now

pub loop-k-preserved : goal.loop-k-preserved
loop-k-preserved g c =
    let s = c.args.self.now in
    let l = c.loop-k in
    lines-more (g.S.Section.lines (state_in c.args.session.now)) s.next s.at c.args.page.now c.requires l.k l.end l.page l.invariant c.line.result c.line.ensures _ _ c.in_ok-end.ensures

pub returns-in_err-end : goal.returns-in_err-end
returns-in_err-end g c =
    let s = c.args.self.now in
    let l = c.loop-k in
    absurd (lines-room (g.S.Section.lines (state_in c.args.session.now)) s.next s.at c.args.page.now c.requires l.k l.end l.page l.invariant c.line.result c.line.ensures l.auto.page _ _ c.in_err-end.ensures)

pub returns : goal.returns
returns g c =
    let s = c.args.self.now in
    let l = c.loop-k in
    lines-all (g.S.Section.lines (state_in c.args.session.now)) s.next s.at c.args.page.now c.requires l.k l.end l.page l.invariant (omega arith)
