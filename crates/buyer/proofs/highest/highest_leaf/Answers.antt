use Rattle.std.proofs.Common.{rules, tests, ◌≡◌, ℕ, max, List, [], ◌∷◌, map, fold, ap, arith}
use Rattle.std.proofs.lemmas.Iterator.{YieldsList-from_slice}
use Rattle.std.proofs.lemmas.Iterator.Consumers.{fold_from_yields_List}
use Rattle.rankings.specs.declared.facts.LeafFacts.{LeafFacts}
use Rattle.rankings.specs.Facts.{leaf_of}
use Rattle.buyer.specs.Highest.{highest}
use Rattle.buyer.proofs.highest.highest_leaf.Goals as goal

-- the greater of n and the heights
over : (n : ℕ) (xs : List LeafFacts) → fold (λ a x. max a x.height) n xs ≡ max n (highest (map leaf_of xs))
over n [] = omega arith
over n (x ∷ xs) = let e = over (max n x.height) xs in omega (arith, e)

pub returns : goal.returns
returns c =
    let xs = c.leaves.result.now in
    let h = fold_from_yields_List _ (λ a x. max a x.height) 0 c.fold.result c.fold.ensures.ran (YieldsList-from_slice xs c.iter.ensures.rest) (λ a x b q k. search (rules, tests)) in
    omega (arith, h, over 0 xs, ap highest c.leaves.ensures.is)
