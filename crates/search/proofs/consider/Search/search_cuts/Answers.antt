use Rattle.std.proofs.Common.{◌≡◌, length, sym, ap, ◌∙◌, arith}
use Rattle.std.specs.Iterator.Adapters.{once_item, chain_first, chain_second, chain_first_done, chain_second_done}
use Rattle.std.specs.Slice.Iter.{iter_rest}
use Rattle.std.proofs.lemmas.Iterator.Consumers.{YieldsList-turn, YieldsList-end}
use Rattle.std.proofs.lemmas.List.{length_push}
use Rattle.model.specs.Cuts.{trivial}
use Rattle.model.specs.Edges.{sign_of}
use Rattle.model.specs.Sessions.{positions}
use Rattle.model.proofs.Along.{along_ends, along-more, along-all}
use Rattle.cuts.specs.Meaning.{meaning}
use Rattle.search.specs.Finding.{listed}
use Rattle.search.specs.Fanins.{cuts_of}
use Rattle.search.proofs.Stepping.{row_step}
use Rattle.search.proofs.Walked.{walk, few_cuts}
use Rattle.search.proofs.consider.Search.search_cuts.Goals as goal

pub search_row-requires : goal.search_row-requires
search_row-requires c =
    let x = c.args.x.now in
    let it = c.into_iter-cut-iterator.ensures.into_iter_gives in
    let chain = c.chain-cut-items.ensures in
    let kept : iter_rest (chain_second c.chain-cut-items.result) ≡ c.kept.result.now = chain.second.0 in
    let road = walk x _ {s = c.into_iter-cut-iterator.result} (ap (λ s. once_item (chain_first s)) it ∙ ap once_item chain.first ∙ c.once.ensures.item)
    (c.trivial-trivial.ensures ∙ ap (trivial positions) c.node.ensures) (ap (λ s. iter_rest (chain_second s)) it ∙ kept ∙ c.kept.ensures)
    (ap chain_first_done it ∙ chain.first_done) (ap chain_second_done it ∙ chain.second_done) in
    let t = YieldsList-turn road c.loop-cut.yielded _ c.loop-cut.yielded_by _ _ c.in-Some.cut c.in-Some.is c.next.ensures.steps in
    omega (arith, few_cuts x, t.0, c.requires, c.loop-cut.invariant.next, c.loop-cut.invariant.room)

pub returns-in-Some-search_row : goal.returns-in-Some-search_row
returns-in-Some-search_row c =
    let x = c.args.x.now in
    let it = c.into_iter-cut-iterator.ensures.into_iter_gives in
    let chain = c.chain-cut-items.ensures in
    let kept : iter_rest (chain_second c.chain-cut-items.result) ≡ c.kept.result.now = chain.second.0 in
    let road = walk x _ {s = c.into_iter-cut-iterator.result} (ap (λ s. once_item (chain_first s)) it ∙ ap once_item chain.first ∙ c.once.ensures.item)
    (c.trivial-trivial.ensures ∙ ap (trivial positions) c.node.ensures) (ap (λ s. iter_rest (chain_second s)) it ∙ kept ∙ c.kept.ensures)
    (ap chain_first_done it ∙ chain.first_done) (ap chain_second_done it ∙ chain.second_done) in
    let t = YieldsList-turn road c.loop-cut.yielded _ c.loop-cut.yielded_by _ _ c.in-Some.cut c.in-Some.is c.next.ensures.steps in
    let keys = c.args.self.now.keys.now in
    let y = c.args.y.now in
    let limit = c.args.self.now.limit in
    let a = meaning c.in-Some.cut.now in
    let found = listed c.loop-cut.self.found in
    let inv = c.loop-cut.invariant in
    let e = c.in-Some-search_row.ensures.is
    ∙ ap (λ k. row_step k.now c.sign-sign.result y c.loop-cut.self.limit a found) inv.keys
    ∙ ap (λ n. row_step keys c.sign-sign.result y n a found) inv.limit ∙ ap (λ s. row_step keys s y limit a found) c.sign-sign.ensures in
    sym (along_ends (row_step keys (sign_of x.edge.number) y limit) (cuts_of x) (length c.loop-cut.yielded) a found _ t.0 t.1 (sym e)) ∙ inv.still

pub loop-cut-preserved : goal.loop-cut-preserved
loop-cut-preserved c =
    let x = c.args.x.now in
    let it = c.into_iter-cut-iterator.ensures.into_iter_gives in
    let chain = c.chain-cut-items.ensures in
    let kept : iter_rest (chain_second c.chain-cut-items.result) ≡ c.kept.result.now = chain.second.0 in
    let road = walk x _ {s = c.into_iter-cut-iterator.result} (ap (λ s. once_item (chain_first s)) it ∙ ap once_item chain.first ∙ c.once.ensures.item)
    (c.trivial-trivial.ensures ∙ ap (trivial positions) c.node.ensures) (ap (λ s. iter_rest (chain_second s)) it ∙ kept ∙ c.kept.ensures)
    (ap chain_first_done it ∙ chain.first_done) (ap chain_second_done it ∙ chain.second_done) in
    let t = YieldsList-turn road c.loop-cut.yielded _ c.loop-cut.yielded_by _ _ c.in-Some.cut c.in-Some.is c.next.ensures.steps in
    let keys = c.args.self.now.keys.now in
    let y = c.args.y.now in
    let limit = c.args.self.now.limit in
    let a = meaning c.in-Some.cut.now in
    let found = listed c.loop-cut.self.found in
    let inv = c.loop-cut.invariant in
    let e = c.in_default.ensures.is
    ∙ ap (λ k. row_step k.now c.sign-sign.result y c.loop-cut.self.limit a found) inv.keys
    ∙ ap (λ n. row_step keys c.sign-sign.result y n a found) inv.limit ∙ ap (λ s. row_step keys s y limit a found) c.sign-sign.ensures in
    let n = length_push c.loop-cut.yielded c.in-Some.cut in
    record {
      keys = c.search_row.ensures.keys ∙ inv.keys;
      limit = c.search_row.ensures.limit ∙ inv.limit;
      room = c.search_row.ensures.room ∙ inv.room;
      next = omega (arith, n, c.search_row.ensures.next, inv.next);
      still = rw n (sym (along-more (row_step keys (sign_of x.edge.number) y limit) (cuts_of x) (length c.loop-cut.yielded) a found _ t.0 t.1 (sym e)) ∙ inv.still);
    }

pub returns : goal.returns
returns c =
    let x = c.args.x.now in
    let it = c.into_iter-cut-iterator.ensures.into_iter_gives in
    let chain = c.chain-cut-items.ensures in
    let kept : iter_rest (chain_second c.chain-cut-items.result) ≡ c.kept.result.now = chain.second.0 in
    let road = walk x _ {s = c.into_iter-cut-iterator.result} (ap (λ s. once_item (chain_first s)) it ∙ ap once_item chain.first ∙ c.once.ensures.item)
    (c.trivial-trivial.ensures ∙ ap (trivial positions) c.node.ensures) (ap (λ s. iter_rest (chain_second s)) it ∙ kept ∙ c.kept.ensures)
    (ap chain_first_done it ∙ chain.first_done) (ap chain_second_done it ∙ chain.second_done) in
    let e = YieldsList-end road c.loop-cut.yielded _ c.loop-cut.yielded_by _ _ c.in-None.is c.next.ensures.steps in
    sym (along-all (row_step c.args.self.now.keys.now (sign_of x.edge.number) c.args.y.now c.args.self.now.limit) (cuts_of x) (length c.loop-cut.yielded) (listed c.loop-cut.self.found) (omega (arith, e.1)))
    ∙ c.loop-cut.invariant.still
