use Rattle.std.proofs.Common.{take, sym, ap, ◌∙◌}
use Rattle.std.specs.List.{insert}
use Rattle.lent.specs.Lists.{listed, room}
use Rattle.model.specs.Rankings.{spot}
use Rattle.model.proofs.Ranks.{rank_in-spot}
use Rattle.rankings.specs.Candidates.{by_facts}
use Rattle.rankings.proofs.shortlist.offer.Goals as goal

pub returns-clause-is : goal.returns-clause-is
returns-clause-is g c =
    let B = by_facts (g.R.Ranking.before c.args.by.now) in
    let s = c.args.list.now in
    let x = c.args.candidate in
    let at = c.place-at.ensures ∙ ap (spot B x) c.items.ensures in
    c.insert.ensures.items ∙ ap (λ p. take (room s) (insert (listed s) p x)) at ∙ ap (take (room s)) (sym (rank_in-spot B x (listed s)))
