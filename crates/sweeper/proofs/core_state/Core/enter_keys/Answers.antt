use Rattle.std.proofs.Common.{◌≡◌, take, refl, ap, ◌∙◌, subst, take_all}
use Rattle.model.specs.Edges.{signed}
use Rattle.sweeper.specs.Tables.{image, with_keys, Enters}
use Rattle.sweeper.proofs.Storing.{enters_none, enters_more}
use Rattle.sweeper.proofs.core_state.Core.enter_keys.Goals as goal

pub loop-cut-init : goal.loop-cut-init
loop-cut-init c = (refl, enters_none _ _)

pub loop-cut-preserved : goal.loop-cut-preserved
loop-cut-preserved c = (
  ap (λ i. with_keys i c.enter.new.self.slots.now) c.loop-cut.invariant.0,
  enters_more c.args.kept.now c.args.edge.number (image c.args.self.now).keys c.loop-cut.self.keys.slots.now c.enter.new.self.slots.now
      c.loop-cut.cut-index c.cut-item.result c.key-sign.result.0 c.number.result c.loop-cut-test.true c.cut-item.is c.key-sign.ensures.key
      (c.number.ensures ∙ c.complement_if.ensures ∙ ap (signed c.args.edge.number) c.key-sign.ensures.sign)
      c.loop-cut.invariant.1 c.enter.ensures.slots c.enter.ensures.room (λ look n st h k. (c.enter.ensures.new look n st h k).1),
)

pub returns : goal.returns
returns c =
    let all : take c.loop-cut.cut-index c.args.kept.now ≡ c.args.kept.now = take_all c.loop-cut.cut-index c.args.kept.now c.loop-cut-test.false in
    record { frame = c.loop-cut.invariant.0; enters = subst (λ l. Enters l c.args.edge.number (image c.args.self.now).keys (image c.loop-cut.self).keys) all c.loop-cut.invariant.1 }
