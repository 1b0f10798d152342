use Rattle.std.proofs.Common.{◌≡◌, ◌≤◌, length, get_or, sym, ap, ◌∙◌, arith, rules}
use Rattle.std.proofs.lemmas.List.{take_all}
use Rattle.model.specs.Rankings.{first_by}
use Rattle.rankings.specs.Candidates.{by_facts}
use Rattle.rankings.proofs.Chosen.{offered-none, offered_more, offered-first, offered-count, told_of}
use Rattle.buyer.proofs.picking.pick_two.Goals as goal

pub loop-candidate-init : goal.loop-candidate-init
loop-candidate-init g c = offered-none (by_facts (g.R.Ranking.before c.args.by.now)) c.new-list.result c.numbered-candidate-items.result c.new-list.ensures.empty

pub loop-candidate-preserved : goal.loop-candidate-preserved
loop-candidate-preserved g c =
    let cs = c.numbered-candidate-items.result in
    let l = c.loop-candidate in
    let did = c.offer.ensures in
    let three : length cs ≡ 3 = ap length c.numbered-candidate-items.ensures in
    offered_more (by_facts (g.R.Ranking.before c.args.by.now)) c.new-list.result cs l.candidate-index l.list l.invariant (get_or cs l.candidate-index c.candidate-item.result) c.offer.new.list
    (omega (arith, three, c.loop-candidate-test.true)) (ap (get_or cs l.candidate-index) c.candidate-item.is) did.is did.rest did.room did.lender

pub returns : goal.returns
returns g c =
    let B = by_facts (g.R.Ranking.before c.args.by.now) in
    let cs = c.numbered-candidate-items.result in
    let l = c.loop-candidate in
    let ys = l.list.places.now in
    let three : length cs ≡ 3 = ap length c.numbered-candidate-items.ensures in
    let all : length cs ≤ l.candidate-index = omega (arith, three, c.loop-candidate-test.false) in
    let made = c.new-list.ensures in
    let many = offered-count B c.new-list.result cs l.candidate-index l.list l.invariant _ all made.rest made.room in
    let first = offered-first B c.new-list.result cs l.candidate-index l.list l.invariant _ all made.rest made.room in
    let full : length ys ≡ 2 = l.invariant.places ∙ made.room in
    let chosen : ys ≡ first_by B 2 cs = sym (take_all l.list.count ys (omega (arith, many, full, three, all))) ∙ first in
    told_of (λ l. l) _ ys _ (chosen ∙ ap (first_by B 2) c.numbered-candidate-items.ensures) (search rules)
