use Rattle.std.proofs.Common.{◌≡◌, min, map, length, take, sym, refl, ap, ◌∙◌, arith}
use Rattle.std.proofs.lemmas.List.{length-take, length-take-le}
use Rattle.model.specs.Rankings.{rank_in, first_by}
use Rattle.model.specs.Search.{by_leaves}
use Rattle.cuts.specs.Meaning.{meaning}
use Rattle.rankings.specs.Candidates.{by_facts}
use Rattle.lent.specs.Lists.{listed, room}
use Rattle.search.specs.Leaves.{leaf_at}
use Rattle.search.specs.Fanins.{most}
use Rattle.search.proofs.Chosen.{to_come, come_more, come_all}
use Rattle.search.proofs.keeping.keep_first.Goals as goal

pub loop-cut-init : goal.loop-cut-init
loop-cut-init g c =
    let before = g.R.Ranking.before c.args.by.now in
    (refl, ap (to_come before (leaf_at c.args.rows.now) (room c.new-list.result) c.args.cuts.now) c.new-list.ensures.empty)

pub loop-cut-preserved : goal.loop-cut-preserved
loop-cut-preserved g c =
    let before = g.R.Ranking.before c.args.by.now in
    let list = c.loop-cut.list in
    let x = c.candidate.result in
    let did = c.offer.ensures in (
      did.room ∙ c.loop-cut.invariant.0,
      sym (come_more before (leaf_at c.args.rows.now) (room c.new-list.result) c.args.cuts.now c.loop-cut.cut-index c.cut-item.result x (listed list)
          (listed c.offer.new.list) c.loop-cut-test.true c.cut-item.is c.candidate.ensures.item c.candidate.ensures.facts
          (did.is ∙ ap (λ n. take n (rank_in (by_facts before) x (listed list))) c.loop-cut.invariant.0))
          ∙ c.loop-cut.invariant.1,
    )

pub write_cuts-requires : goal.write_cuts-requires
write_cuts-requires g c =
    let list = c.loop-cut.list in
    let n : length c.items.result.now ≡ list.count = ap length c.items.ensures ∙ length-take-le list.count list.places.now list.within in
    let m : room c.new-list.result ≡ min c.min-room.result 4 = c.new-list.ensures.room ∙ length-take _ _ in
    omega (arith, n, m, list.within, c.loop-cut.invariant.0, c.min-room.ensures)

pub returns : goal.returns
returns g c =
    let list = c.loop-cut.list in
    let before = g.R.Ranking.before c.args.by.now in
    let leaf = leaf_at c.args.rows.now in
    let k = length-take-le list.count list.places.now list.within in
    let n : length c.items.result.now ≡ list.count = ap length c.items.ensures ∙ k in
    let m : room c.new-list.result ≡ min c.min-room.result 4 = c.new-list.ensures.room ∙ length-take _ _ in
    let fits : room c.new-list.result ≡ min (length c.args.kept.now) most = omega (arith, m, c.min-room.ensures) in
    record {
      many = omega (arith, n, fits, list.within, c.loop-cut.invariant.0, c.write_cuts.ensures.many);
      is = ap (map meaning) c.write_cuts.ensures.first ∙ ap (λ l. map meaning (map (λ c. c.item) l)) c.items.ensures
          ∙ come_all before leaf (room c.new-list.result) c.args.cuts.now c.loop-cut.cut-index (listed list) c.loop-cut-test.false (omega (arith, k, list.within, c.loop-cut.invariant.0)) c.loop-cut.invariant.1
          ∙ ap (λ n. first_by (by_leaves before leaf) n (map meaning c.args.cuts.now)) fits;
      rest = c.write_cuts.ensures.rest;
    }
