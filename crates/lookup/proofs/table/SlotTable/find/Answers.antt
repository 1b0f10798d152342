use Rattle.std.proofs.Common.{rules, tests, ◌≡◌, get_or, None, option_map, sym, ap, ◌∙◌}
use Rattle.std.proofs.lemmas.List.{get_or_default}
use Rattle.lookup.proofs.Ends.{value_there}
use Rattle.lookup.proofs.table.SlotTable.find.Goals as goal

pub returns : goal.returns
returns g c =
    let xs = c.args.self.now.slots.now in
    let i = c.in_ok-at.at in
    let m = g.K.Key.meaning c.args.key.now in
    let end = c.in_ok-at.ensures in
    let value : c.map.result ≡ option_map (λ e. e.1) (get_or xs i c.index-self-at.result) = search (rules, tests) in
    let exact = value ∙ ap (option_map (λ e. e.1)) (get_or_default xs i c.index-self-at.result None end.within) ∙ value_there g.K.Key.meaning g.K.HashedKey.slot xs m i (sym end.exact) in
    record { exact = exact; holds = λ entries h. exact ∙ h.gives m }
