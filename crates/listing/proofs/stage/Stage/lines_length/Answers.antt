use Rattle.std.proofs.Common.{◌+◌, length, drop, ap, ◌∙◌, arith, length-append}
use Rattle.model.specs.Texts.{text_of}
use Rattle.sweeper.specs.States.{state_in}
use Rattle.listing.specs.Sections.{closed}
use Rattle.listing.proofs.Onward.{text_next, text_end}
use Rattle.listing.proofs.stage.Stage.lines_length.Goals as goal

pub overflow_add-sum : goal.overflow_add-sum
overflow_add-sum g c = omega (arith, c.loop-k.invariant.1)

pub loop-k-init : goal.loop-k-init
loop-k-init g c = (omega arith, omega (arith, g.met.S.Section.few c.args.session.now))

pub loop-k-preserved : goal.loop-k-preserved
loop-k-preserved g c =
    let lines = g.S.Section.lines (state_in c.args.session.now) in
    let k = c.loop-k.k in
    let more = ap length (text_next lines k c.line.result c.line.ensures) ∙ length-append (text_of (closed c.line.result)) (text_of (drop (k + 1) lines)) in
    (omega (arith, more, c.loop-k.invariant.0), omega (arith, c.loop-k.invariant.1))

pub returns : goal.returns
returns g c =
    let lines = g.S.Section.lines (state_in c.args.session.now) in
    record {
      value = omega (arith, c.loop-k.invariant.0, ap length (text_end lines c.loop-k.k (omega arith)));
      bound = omega (arith, c.loop-k.invariant.1);
    }
