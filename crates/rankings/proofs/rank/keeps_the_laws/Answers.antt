use Rattle.rankings.proofs.Laws.{lawful-from}
use Rattle.rankings.proofs.rank.keeps_the_laws.Goals as goal

pub returns-clause-laws : goal.returns-clause-laws
returns-clause-laws g c =
    let m = g.met.R.Ranking in lawful-from g.R.Ranking.before g.R.Ranking.INPUTS_FIRST m.irreflexive m.transitive m.ties m.inputs c.args.by.now
