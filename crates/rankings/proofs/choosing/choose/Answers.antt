use Rattle.std.proofs.Common.{◌≡◌, take, drop, sym, ap, ◌∙◌, arith, rules}
use Rattle.std.proofs.lemmas.List.{length-take-le}
use Rattle.rankings.specs.Candidates.{by_facts}
use Rattle.rankings.proofs.Chosen.{offered-none, offered_more, offered-first, offered-count, offered-rest, told_of}
use Rattle.rankings.proofs.choosing.choose.Goals as goal

pub loop-candidate-init : goal.loop-candidate-init
loop-candidate-init g c = offered-none (by_facts (g.R.Ranking.before c.args.by.now)) c.new-list.result c.args.candidates.now c.new-list.ensures.empty

pub loop-candidate-preserved : goal.loop-candidate-preserved
loop-candidate-preserved g c =
    let l = c.loop-candidate in
    let did = c.offer.ensures in
    offered_more (by_facts (g.R.Ranking.before c.args.by.now)) c.new-list.result c.args.candidates.now l.candidate-index l.list l.invariant
    c.candidate-item.result c.offer.new.list c.loop-candidate-test.true c.candidate-item.is did.is did.rest did.room did.lender

pub returns : goal.returns
returns g c =
    let B = by_facts (g.R.Ranking.before c.args.by.now) in
    let cs = c.args.candidates.now in
    let xs = c.args.places.now in
    let l = c.loop-candidate in
    let ys = l.list.places.now in
    let all = c.loop-candidate-test.false in
    let made = c.new-list.ensures in
    let r : c.len.result ≡ l.list.count = c.len.ensures ∙ length-take-le l.list.count ys l.list.within in
    let many = offered-count B c.new-list.result cs l.candidate-index l.list l.invariant xs all made.rest made.room in
    let first = offered-first B c.new-list.result cs l.candidate-index l.list l.invariant xs all made.rest made.room in
    let rest = offered-rest B c.new-list.result cs l.candidate-index l.list l.invariant xs all made.rest made.room in
    record {
      many = omega (arith, r, many, all, l.auto.candidate-index-end);
      is = told_of (take c.len.result) _ ys _ (ap (λ n. take n ys) r ∙ first) (search rules);
      rest = told_of (drop c.len.result) _ ys _ (ap (λ n. drop n ys) r ∙ rest ∙ ap (λ n. drop n xs) (sym r)) (search rules);
    }
