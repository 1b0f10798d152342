use Rattle.rankings.specs.Candidates.{by_facts}
use Rattle.rankings.proofs.Chosen.{Offered}
use Rattle.buyer.proofs.picking.pick_two.Given as goal

abbrev pub invariant-loop-candidate : goal.invariant-loop-candidate
invariant-loop-candidate g l = Offered (by_facts (g.R.Ranking.before l.by)) l.initial.list l.candidate-items l.candidate-index l.list
