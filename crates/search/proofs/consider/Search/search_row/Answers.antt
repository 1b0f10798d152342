use Rattle.std.proofs.Common.{◌≡◌, min, length, sym, ap, ◌∙◌, arith}
use Rattle.std.specs.Iterator.Adapters.{once_item, chain_first, chain_second, chain_first_done, chain_second_done}
use Rattle.std.specs.Slice.Iter.{iter_rest}
use Rattle.std.proofs.lemmas.Iterator.Consumers.{YieldsList-turn, YieldsList-end}
use Rattle.std.proofs.lemmas.List.{length_push}
use Rattle.model.specs.Cuts.{joined, trivial}
use Rattle.model.specs.Search.{considered}
use Rattle.model.specs.Sessions.{positions}
use Rattle.model.proofs.Along.{along_ends, along-more, along-all}
use Rattle.cuts.specs.Meaning.{meaning}
use Rattle.cuts.specs.Outcomes.{joined_of}
use Rattle.search.specs.Finding.{look_in, listed}
use Rattle.search.specs.Fanins.{cuts_of}
use Rattle.search.proofs.Stepping.{pair_step}
use Rattle.search.proofs.Walked.{walk, few_cuts}
use Rattle.search.proofs.consider.Search.search_row.Goals as goal

pub returns-in-Some-consider-clause-next : goal.returns-in-Some-consider-clause-next
returns-in-Some-consider-clause-next c =
    let y = c.args.y.now in
    let it = c.into_iter-cut-iterator.ensures.into_iter_gives in
    let chain = c.chain-cut-items.ensures in
    let kept : iter_rest (chain_second c.chain-cut-items.result) ≡ c.kept.result.now = chain.second.0 in
    let road = walk y _ {s = c.into_iter-cut-iterator.result} (ap (λ s. once_item (chain_first s)) it ∙ ap once_item chain.first ∙ c.once.ensures.item)
    (c.trivial-trivial.ensures ∙ ap (trivial positions) c.node.ensures) (ap (λ s. iter_rest (chain_second s)) it ∙ kept ∙ c.kept.ensures)
    (ap chain_first_done it ∙ chain.first_done) (ap chain_second_done it ∙ chain.second_done) in
    let t = YieldsList-turn road c.loop-cut.yielded _ c.loop-cut.yielded_by _ _ c.in-Some.cut c.in-Some.is c.next.ensures.steps in
    omega (arith, few_cuts y, t.0, c.loop-cut.invariant.next, c.in-Some-consider.ensures.next)

pub returns-in-Some-consider-clause-is : goal.returns-in-Some-consider-clause-is
returns-in-Some-consider-clause-is c =
    let y = c.args.y.now in
    let it = c.into_iter-cut-iterator.ensures.into_iter_gives in
    let chain = c.chain-cut-items.ensures in
    let kept : iter_rest (chain_second c.chain-cut-items.result) ≡ c.kept.result.now = chain.second.0 in
    let road = walk y _ {s = c.into_iter-cut-iterator.result} (ap (λ s. once_item (chain_first s)) it ∙ ap once_item chain.first ∙ c.once.ensures.item)
    (c.trivial-trivial.ensures ∙ ap (trivial positions) c.node.ensures) (ap (λ s. iter_rest (chain_second s)) it ∙ kept ∙ c.kept.ensures)
    (ap chain_first_done it ∙ chain.first_done) (ap chain_second_done it ∙ chain.second_done) in
    let t = YieldsList-turn road c.loop-cut.yielded _ c.loop-cut.yielded_by _ _ c.in-Some.cut c.in-Some.is c.next.ensures.steps in
    let keys = c.args.self.now.keys.now in
    let limit = c.args.self.now.limit in
    let a = meaning c.args.x.cut.now in
    let b = meaning c.in-Some.cut.now in
    let s = c.args.x.sign in
    let found = listed c.loop-cut.self.found in
    let inv = c.loop-cut.invariant in
    let e = c.in-Some-consider.ensures.is
    ∙ ap (λ k. considered positions (look_in k.now) (joined_of c.join-joined.result) found) inv.keys
    ∙ ap (λ j. considered positions (look_in keys) j found)
    (c.join-joined.ensures ∙ ap (λ n. joined positions (min n positions) s c.sign-sign.result a b) inv.limit ∙ ap (λ t. joined positions (min limit positions) s t a b) c.sign-sign.ensures) in
    sym (along_ends (pair_step keys s y limit a) (cuts_of y) (length c.loop-cut.yielded) b found _ t.0 t.1 (sym e)) ∙ inv.still

pub loop-cut-preserved : goal.loop-cut-preserved
loop-cut-preserved c =
    let y = c.args.y.now in
    let it = c.into_iter-cut-iterator.ensures.into_iter_gives in
    let chain = c.chain-cut-items.ensures in
    let kept : iter_rest (chain_second c.chain-cut-items.result) ≡ c.kept.result.now = chain.second.0 in
    let road = walk y _ {s = c.into_iter-cut-iterator.result} (ap (λ s. once_item (chain_first s)) it ∙ ap once_item chain.first ∙ c.once.ensures.item)
    (c.trivial-trivial.ensures ∙ ap (trivial positions) c.node.ensures) (ap (λ s. iter_rest (chain_second s)) it ∙ kept ∙ c.kept.ensures)
    (ap chain_first_done it ∙ chain.first_done) (ap chain_second_done it ∙ chain.second_done) in
    let t = YieldsList-turn road c.loop-cut.yielded _ c.loop-cut.yielded_by _ _ c.in-Some.cut c.in-Some.is c.next.ensures.steps in
    let keys = c.args.self.now.keys.now in
    let limit = c.args.self.now.limit in
    let a = meaning c.args.x.cut.now in
    let b = meaning c.in-Some.cut.now in
    let s = c.args.x.sign in
    let found = listed c.loop-cut.self.found in
    let inv = c.loop-cut.invariant in
    let e = c.in_default.ensures.is
    ∙ ap (λ k. considered positions (look_in k.now) (joined_of c.join-joined.result) found) inv.keys
    ∙ ap (λ j. considered positions (look_in keys) j found)
    (c.join-joined.ensures ∙ ap (λ n. joined positions (min n positions) s c.sign-sign.result a b) inv.limit ∙ ap (λ t. joined positions (min limit positions) s t a b) c.sign-sign.ensures) in
    let n = length_push c.loop-cut.yielded c.in-Some.cut in
    record {
      keys = c.consider.ensures.keys ∙ inv.keys;
      limit = c.consider.ensures.limit ∙ inv.limit;
      room = c.consider.ensures.room ∙ inv.room;
      next = omega (arith, n, c.consider.ensures.next, inv.next);
      still = rw n (sym (along-more (pair_step keys s y limit a) (cuts_of y) (length c.loop-cut.yielded) b found _ t.0 t.1 (sym e)) ∙ inv.still);
    }

pub returns-clause-is : goal.returns-clause-is
returns-clause-is c =
    let y = c.args.y.now in
    let it = c.into_iter-cut-iterator.ensures.into_iter_gives in
    let chain = c.chain-cut-items.ensures in
    let kept : iter_rest (chain_second c.chain-cut-items.result) ≡ c.kept.result.now = chain.second.0 in
    let road = walk y _ {s = c.into_iter-cut-iterator.result} (ap (λ s. once_item (chain_first s)) it ∙ ap once_item chain.first ∙ c.once.ensures.item)
    (c.trivial-trivial.ensures ∙ ap (trivial positions) c.node.ensures) (ap (λ s. iter_rest (chain_second s)) it ∙ kept ∙ c.kept.ensures)
    (ap chain_first_done it ∙ chain.first_done) (ap chain_second_done it ∙ chain.second_done) in
    let e = YieldsList-end road c.loop-cut.yielded _ c.loop-cut.yielded_by _ _ c.in-None.is c.next.ensures.steps in
    sym (along-all (pair_step c.args.self.now.keys.now c.args.x.sign y c.args.self.now.limit (meaning c.args.x.cut.now)) (cuts_of y) (length c.loop-cut.yielded) (listed c.loop-cut.self.found) (omega (arith, e.1)))
    ∙ c.loop-cut.invariant.still
