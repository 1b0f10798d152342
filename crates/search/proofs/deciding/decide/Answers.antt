use Rattle.std.proofs.Common.{min, map, length, refl, ap, ◌∙◌, arith}
use Rattle.model.specs.Cuts.{joined}
use Rattle.model.specs.Edges.{sign_of}
use Rattle.model.specs.Search.{chosen, by_leaves, search_all, made}
use Rattle.model.specs.Rankings.{first_by}
use Rattle.model.specs.Sessions.{positions}
use Rattle.cuts.specs.Meaning.{meaning}
use Rattle.search.specs.Finding.{look_in}
use Rattle.search.specs.Fanins.{most, cuts_of}
use Rattle.search.specs.Leaves.{leaf_at}
use Rattle.search.proofs.Stepping.{none-listed}
use Rattle.search.proofs.deciding.decide.Goals as goal

pub returns-in-Some : goal.returns-in-Some
returns-in-Some g c =
    let before = g.R.Ranking.before c.args.by.now in
    let x = c.args.x.now in
    let y = c.args.y.now in
    let join = joined positions (min c.args.limit positions) (sign_of x.edge.number) (sign_of y.edge.number) in
    let e = c.in-Some.ensures ∙ ap (search_all positions (look_in c.args.keys.now) join (cuts_of x) (cuts_of y)) (none-listed c.new.result c.new.ensures.empty) in
    record {
      decision = ap (chosen (min (length c.args.kept.now) most) (by_leaves before (leaf_at c.args.rows.now))) e;
      many = omega arith;
      rest = refl;
    }

pub returns-in-None : goal.returns-in-None
returns-in-None g c =
    let before = g.R.Ranking.before c.args.by.now in
    let leaf = leaf_at c.args.rows.now in
    let n = min (length c.args.kept.now) most in
    let x = c.args.x.now in
    let y = c.args.y.now in
    let join = joined positions (min c.args.limit positions) (sign_of x.edge.number) (sign_of y.edge.number) in
    let e = c.in-None.ensures ∙ ap (search_all positions (look_in c.args.keys.now) join (cuts_of x) (cuts_of y)) (none-listed c.new.result c.new.ensures.empty) in
    record {
      decision = ap made (c.keep_first.ensures.is ∙ ap (λ l. first_by (by_leaves before leaf) n (map meaning l)) c.items.ensures) ∙ ap (chosen n (by_leaves before leaf)) e;
      many = c.keep_first.ensures.many;
      rest = c.keep_first.ensures.rest;
    }
