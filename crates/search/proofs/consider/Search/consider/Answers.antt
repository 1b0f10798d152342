use Rattle.std.proofs.Common.{◌≡◌, ◌≤◌, map, length, take, Some, sym, ap, ◌∙◌, arith}
use Rattle.std.proofs.lemmas.Bool.{ltb-true, ltb-false}
use Rattle.std.proofs.lemmas.List.{length-take-le}
use Rattle.model.specs.Cuts.{key_list}
use Rattle.model.specs.Search.{candidates, considered}
use Rattle.model.specs.Sessions.{positions}
use Rattle.model.proofs.Keys.{added-map, room_adds}
use Rattle.cuts.specs.Meaning.{meaning}
use Rattle.cuts.specs.Outcomes.{joined_of}
use Rattle.search.specs.Finding.{look_in, listed, places_of}
use Rattle.search.proofs.Wide.{wide}
use Rattle.search.proofs.consider.Search.consider.Goals as goal
use Rattle.search.proofs.consider.Search.consider.Goals.{then-leaves-lt1, else-leaves-lt1+else-this-lt2}

pub returns-in-None-clause-is : goal.returns-in-None-clause-is
returns-in-None-clause-is c =
    let cut = meaning c.in-Cut.cut in
    let look = look_in c.args.self.now.keys.now in
    let d = c.args.self.now.found in
    let xs = take d.list.count d.list.places.now in
    let n : length c.leaves.result.now ≡ length cut.leaves = ap length c.leaves.ensures.list in
    let two : 2 ≤ length cut.leaves = elim c.if-leaves-lt1.branch [
      | then-leaves-lt1 w ↦ absurd (omega (arith, ltb-true, c.leaves.ensures.count, c.in-Cut.cut.some))
      | else-leaves-lt1+else-this-lt2 w ↦ omega (arith, ltb-false)
    ] in
    ap (λ xs. candidates (map meaning xs)) (c.add.ensures.adds ∙ room_adds (places_of d) (λ c. key_list positions (meaning c)) c.in-Cut.cut xs (omega (arith, c.requires, length-take-le d.list.count d.list.places.now d.list.within)))
    ∙ ap candidates (added-map meaning (key_list positions) c.in-Cut.cut xs)
    ∙ wide positions look cut _ (listed d) two (c.in-None.ensures.exact ∙ ap look c.key-sign.ensures.key)
    ∙ ap (λ j. considered positions look (joined_of j) (listed d)) (sym (c.in_ok-sign.was ∙ ap Some c.in-Cut.is))
