use Rattle.std.proofs.Common.{◌≡◌, [], drop}
use Rattle.lent.specs.Lists.{listed, room}
use Rattle.search.specs.Leaves.{leaf_at}
use Rattle.search.proofs.Chosen.{to_come}
use Rattle.search.proofs.keeping.keep_first.Given as goal

abbrev pub invariant-loop-cut : goal.invariant-loop-cut
invariant-loop-cut g l =
    let before = g.R.Ranking.before l.by in
    let n = room l.initial.list in
    (room l.list ≡ n)
    × (to_come before (leaf_at l.rows) n (drop l.cut-index l.cuts) (listed l.list) ≡ to_come before (leaf_at l.rows) n l.cuts [])
