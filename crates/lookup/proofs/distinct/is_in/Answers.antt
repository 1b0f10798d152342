use Rattle.std.proofs.Common.{rules, tests, sym, ◌∙◌}
use Rattle.std.proofs.lemmas.Iterator.{YieldsList-from_slice}
use Rattle.std.proofs.lemmas.Iterator.Search.{any_from_yields_List}
use Rattle.model.specs.Keys.{eq_list}
use Rattle.model.proofs.Keys.{same-is}
use Rattle.lookup.proofs.Holding.{any-holds}
use Rattle.lookup.proofs.distinct.is_in.Goals as goal

pub returns : goal.returns
returns g c =
    let mean = g.K.Key.meaning in
    let m = mean c.args.key.now in
    any_from_yields_List (λ k. eq_list (mean k) m) _ _ _ c.any.ensures.ran (YieldsList-from_slice c.args.keys.now c.iter.ensures.rest) (λ x b q k. (search (rules, tests), sym (same-is (mean x.now) m b (search (rules, tests)) (search (rules, tests))))) ∙ any-holds mean m c.args.keys.now
