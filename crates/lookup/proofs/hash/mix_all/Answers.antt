use Rattle.std.proofs.Common.{◌≡◌, ℕ, List, [], ◌∷◌, fold, rules, tests, refl, ◌∙◌}
use Rattle.std.proofs.lemmas.Iterator.{YieldsList-from_slice}
use Rattle.std.proofs.lemmas.Iterator.Consumers.{fold_from_yields_List}
use Rattle.lookup.specs.Hash.{mixed, mixed_all}
use Rattle.lookup.proofs.hash.mix_all.Goals as goal

folded : (h : ℕ) (xs : List ℕ) → fold mixed h xs ≡ mixed_all h xs
folded h [] = refl
folded h (x ∷ xs) = folded (mixed h x) xs

pub returns : goal.returns
returns c =
    fold_from_yields_List _ mixed c.args.hash c.fold.result c.fold.ensures.ran (YieldsList-from_slice c.args.numbers.now c.iter.ensures.rest) (λ a x b q k. search (rules, tests))
    ∙ folded c.args.hash c.args.numbers.now
