use Rattle.std.proofs.Common.{◌≡◌, ◌<◌, Option, Some, None, MatchOption, IsSome, refl, [], ◌∷◌, ◌++◌, map, length, take, sym, ap, ◌∙◌, arith, length-set}
use Rattle.std.proofs.lemmas.List.{take_more_set, map_push, map_more, length-map, length-take-le, take_all}
use Rattle.rankings.specs.Facts.{leaf_of}
use Rattle.search.specs.Leaves.{leaf_at}
use Rattle.search.proofs.leaf_facts.facts_of_cut.Goals as goal

some : {A P : Type 0} (Q : A → Type 0) (o : Option A) → MatchOption o (P → ⊥) Q → P → IsSome o
some Q (Some f) h p = refl
some Q None h p = absurd (h p)

pub loop-i-preserved : goal.loop-i-preserved
loop-i-preserved c =
    let i = c.loop-i.i in
    let facts = c.loop-i.facts in
    let leaves = c.leaves-leaves.result.now in
    let at = leaf_at c.args.rows.now in
    let x = c.facts_of_leaf.result in
    let lt : i < length facts = omega (arith, c.loop-i.invariant.0, c.leaves-leaves.ensures.count, c.args.cut.now.leaves.few) in (
      length-set facts i x ∙ c.loop-i.invariant.0,
      ap (map leaf_of) (take_more_set facts i x lt)
          ∙ map_push leaf_of (take i facts) x
          ∙ ap (λ l. l ++ (leaf_of x ∷ [])) c.loop-i.invariant.1
          ∙ ap (λ y. map at (take i leaves) ++ (y ∷ [])) c.facts_of_leaf.ensures
          ∙ sym (map_more at leaves i 0 (omega arith)),
    )

pub unwrap-requires : goal.unwrap-requires
unwrap-requires c =
    let facts = c.loop-i.facts in
    let count = c.leaves-leaves.ensures.count in
    let n = length c.leaves-leaves.result.now in
    let few = c.args.cut.now.leaves.few in
    let long = length-map (take n facts) leaf_of in
    let all = length-take-le n facts (omega (arith, c.loop-i.invariant.0)) in
    some _ c.new.result c.new.ensures (omega (arith, c.args.cut.now.some), omega arith)

pub returns : goal.returns
returns c =
    let leaves = c.leaves-leaves.result.now in
    let at = leaf_at c.args.rows.now in
    let e : c.loop-i.i ≡ length leaves = omega arith in
    (rw c.unwrap.ensures at c.new.ensures) ∙ ap (λ n. map leaf_of (take n c.loop-i.facts)) (sym e) ∙ c.loop-i.invariant.1
    ∙ ap (map at) (take_all c.loop-i.i leaves c.loop-i-test.false ∙ c.leaves-leaves.ensures.list)
