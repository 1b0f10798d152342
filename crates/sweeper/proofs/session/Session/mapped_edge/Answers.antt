use Rattle.std.proofs.Common.{◌≡◌, Some, Err, sym, ap, ◌∙◌, rules}
use Rattle.model.specs.Edges.{signed}
use Rattle.sweeper.specs.Tables.{image, state_of}
use Rattle.sweeper.specs.Reports.{entry}
use Rattle.sweeper.specs.Answers.{numbered}
use Rattle.sweeper.specs.declared.refusal.Refusal.TheVariants.{NoNode}
use Rattle.sweeper.proofs.Mapping.{mapped-constant, mapped-row, mapped-none}
use Rattle.sweeper.proofs.session.Session.mapped_edge.Goals.{then-node-eq0, else-node-eq0+in_ok-plain}
use Rattle.sweeper.proofs.session.Session.mapped_edge.Goals as goal

pub returns-in_err-plain : goal.returns-in_err-plain
returns-in_err-plain c =
    let i = image c.args.self.now.core in
    let is : c.from_residual.result ≡ Err (NoNode c.args.which) = search rules in
    let node = c.node-node.ensures in
    is ∙ mapped-none i c.args.e c.args.which (λ z. c.if-node-eq0.false (node ∙ z)) (sym (ap numbered c.in_err-plain.ensures.ok_part) ∙ c.mapped.ensures ∙ ap (entry 0 (state_of i).mapped) node)

pub returns : goal.returns
returns c =
    let i = image c.args.self.now.core in
    let p = c.if-node-eq0.plain in
    let r = c.complement_if.result in
    let node = c.node-node.ensures in
    let signs = c.complement_if.ensures ∙ ap (signed p.number) c.sign.ensures in
    elim c.if-node-eq0.branch [
      | then-node-eq0 w ↦ mapped-constant i c.args.e r c.args.which (sym node ∙ w.if-node-eq0.true) (rw w.plain-is at signs)
      | else-node-eq0+in_ok-plain w ↦
          let some : w.mapped.result ≡ Some p = search rules in
          mapped-row i c.args.e p r c.args.which (sym (ap numbered some) ∙ w.mapped.ensures ∙ ap (entry 0 (state_of i).mapped) node) signs
    ]
