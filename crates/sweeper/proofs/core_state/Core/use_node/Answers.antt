use Rattle.std.proofs.Common.{◌-◌, ◌<◌, ◌∙◌, get_or, set, ap, arith, get_or-take}
use Rattle.sweeper.specs.Tables.{image, no_reduced, used_once}
use Rattle.sweeper.proofs.Lists.{replaced, with_lists}
use Rattle.sweeper.proofs.core_state.Core.use_node.Goals as goal

pub returns : goal.returns
returns c =
    let i = image c.args.self.now in
    let k = c.args.node - 1 in
    let below : k < i.nodes = omega (arith, c.requires.some, c.requires.known) in
    let row = ap used_once (ap (λ l. get_or l k no_reduced) c.items.ensures ∙ get_or-take i.nodes i.reduced k no_reduced below) in
    let p = replaced c.args.self.now.reduced c.set.new.self k _ c.set.ensures.items c.set.ensures.rest below in
    λ j. with_lists i i.source i.sources ((p.0 ∙ ap (set i.reduced k) row) j) (p.1 j) i.outputs i.outs
