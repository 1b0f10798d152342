use Rattle.std.proofs.Common.{◌∙◌}
use Rattle.rankings.specs.Facts.{facts_of}
use Rattle.rankings.proofs.Laws.{lawful-from, facts_sized}
use Rattle.buyer.proofs.first.inputs_before.Goals as goal

pub returns-clause-marked : goal.returns-clause-marked
returns-clause-marked g c =
    let m = g.met.R.Ranking in
    let a = c.args.a.now in
    let b = c.args.b.now in
    let laws = lawful-from g.R.Ranking.before g.R.Ranking.INPUTS_FIRST m.irreflexive m.transitive m.ties m.inputs c.args.by.now in
    λ e none some. c.ranks_before.ensures ∙ laws.inputs_first e (facts_of a) (facts_of b) (facts_sized a) (facts_sized b) none some
