use Rattle.std.proofs.Common.{rules, tests, ◌≡◌, take, drop, sym, ◌∙◌}
use Rattle.std.specs.List.{position}
use Rattle.std.proofs.lemmas.Iterator.{YieldsList-from_slice}
use Rattle.std.proofs.lemmas.Iterator.Search.{position_from_yields_List}
use Rattle.lookup.specs.Slots.{ends}
use Rattle.lookup.proofs.Ends.{ends_on, ends_before}
use Rattle.lookup.proofs.slots.probe.Goals as goal

pub returns-in-Some-clause-exact : goal.returns-in-Some-clause-exact
returns-in-Some-clause-exact g c =
    let mean = g.K.Key.meaning in
    let m = mean c.args.key.now in
    let xs = c.args.slots.now in
    let i = c.first_slot-first.result in
    let from : c.position.result ≡ position (ends mean m) (drop i xs) =
    position_from_yields_List (ends mean m) _ _ c.position.result c.position.ensures.ran (YieldsList-from_slice (drop i xs) (c.iter.ensures.rest ∙ c.split_at.ensures.back)) (λ x b q k. search (rules, tests)) in
    ends_on mean g.K.HashedKey.slot g.met.K.HashedKey.within g.met.K.HashedKey.none m xs i c.first_slot-first.ensures c.in-Some.turn (sym from ∙ c.in-Some.is)

pub returns-in-None-clause-exact : goal.returns-in-None-clause-exact
returns-in-None-clause-exact g c =
    let mean = g.K.Key.meaning in
    let m = mean c.args.key.now in
    let xs = c.args.slots.now in
    let i = c.first_slot-first.result in
    let from : c.position.result ≡ position (ends mean m) (drop i xs) =
    position_from_yields_List (ends mean m) _ _ c.position.result c.position.ensures.ran (YieldsList-from_slice (drop i xs) (c.iter.ensures.rest ∙ c.split_at.ensures.back)) (λ x b q k. search (rules, tests)) in
    let before : c.position-in-None.result ≡ position (ends mean m) (take i xs) =
    position_from_yields_List (ends mean m) _ _ c.position-in-None.result c.position-in-None.ensures.ran (YieldsList-from_slice (take i xs) (c.iter-in-None.ensures.rest ∙ c.split_at.ensures.front)) (λ x b q k. search (rules, tests)) in
    before ∙ ends_before mean g.K.HashedKey.slot g.met.K.HashedKey.within g.met.K.HashedKey.none m xs i c.first_slot-first.ensures (sym from ∙ c.in-None.is)
