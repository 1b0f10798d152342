use Rattle.std.proofs.Common.{ℕ, List, length, drop, sym, ap, subst, arith}
use Rattle.model.specs.Texts.{text_of}
use Rattle.pages.specs.Page.{WritesAt}
use Rattle.sweeper.specs.States.{state_in}
use Rattle.listing.specs.Sections.{closed}
use Rattle.listing.proofs.Onward.{rest-longer, rest-parts, writes_more}
use Rattle.listing.proofs.stage.Stage.write_rest.Goals as goal

pub write_lines-requires : goal.write_lines-requires
write_lines-requires g c =
    let s = state_in c.args.session.now in
    omega (arith, rest-longer (g.S.Section.lines s) (g.S.Section.closing s) c.args.self.now.next)

pub returns-in_err-end : goal.returns-in_err-end
returns-in_err-end g c =
    let s = state_in c.args.session.now in
    let e = c.in_err-end.ensures in
    absurd (omega (arith, rest-longer (g.S.Section.lines s) (g.S.Section.closing s) c.args.self.now.next, e.1))

pub returns : goal.returns
returns g c =
    let s = state_in c.args.session.now in
    let lines = g.S.Section.lines s in
    let k = c.args.self.now.next in
    let at = c.args.self.now.at in
    let page = c.args.page.now in
    let e = c.in_ok-end.ensures in
    let all = rest-parts lines (g.S.Section.closing s) k c.closing_line.result c.closing_line.ensures in
    let w = writes_more at (text_of (drop k lines)) (text_of (closed c.closing_line.result)) page _ _ _ _ (omega (arith, ap length all)) e.0 e.2 (omega arith) c.write_if.ensures in
    subst (λ (t : List ℕ). WritesAt at t page c.write_if.result c.write_if.new.page) (sym all) w
