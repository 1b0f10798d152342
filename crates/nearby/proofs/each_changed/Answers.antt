use Rattle.std.proofs.Common.{◌+◌, subst, sym, ◌∙◌, arith}
use Rattle.std.specs.List.{FoldsTo}
use Rattle.nearby.specs.Texts.{changed}
use Rattle.nearby.proofs.Changing.{no_change, before, first_byte, same_byte, other_byte, last_byte}
use Rattle.nearby.proofs.each_changed.Goals as goal
use Rattle.nearby.proofs.each_changed.Goals.{then-b-text, else-b-text, else-loop-b-test, then-loop-b-test+else-b-lt255}

pub loop-i-init : goal.loop-i-init
loop-i-init g c = no_change g.V.Visitor.visits c.args.visitor.now c.args.text.now

pub loop-b-init : goal.loop-b-init
loop-b-init g c = first_byte g.V.Visitor.visits _ _ c.args.text.now c.loop-i.i 0 c.loop-i.invariant

pub loop-b-preserved : goal.loop-b-preserved
loop-b-preserved g c =
    let text = c.args.text.now in
    let i = c.loop-i.i in
    let b = c.loop-b.b in
    let R = g.V.Visitor.visits in
    let So : g.row.V.Denot → Type 0 = FoldsTo R c.args.visitor.now (before text i (b + 1)) in
    elim c.if-b-text.branch [
      | then-b-text w ↦ subst So (sym w.visitor-is) (other_byte R _ _ text i b _ w.if-b-text.true c.loop-b.invariant w.visit.ensures)
      | else-b-text w ↦ subst So (sym w.visitor-is) (same_byte R _ _ text i b w.if-b-text.false c.loop-b.invariant)
    ]

pub loop-i-preserved : goal.loop-i-preserved
loop-i-preserved g c =
    let text = c.args.text.now in
    let i = c.loop-i.i in
    let b = c.loop-b.b in
    let R = g.V.Visitor.visits in
    let So : g.row.V.Denot → Type 0 = FoldsTo R c.args.visitor.now (changed text (i + 1)) in
    elim c.loop-b-test.branch [
      | else-loop-b-test w ↦ absurd (omega arith)
      | then-loop-b-test+else-b-lt255 w ↦
          elim w.if-b-text.branch [
            | then-b-text v ↦ subst So (sym v.visitor-is ∙ sym w.visitor-is)
                (last_byte R _ _ text i b (omega arith) (other_byte R _ _ text i b _ v.if-b-text.true c.loop-b.invariant v.visit.ensures))
            | else-b-text v ↦ subst So (sym v.visitor-is ∙ sym w.visitor-is)
                (last_byte R _ _ text i b (omega arith) (same_byte R _ _ text i b v.if-b-text.false c.loop-b.invariant))
          ]
    ]
