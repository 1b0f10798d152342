use Rattle.std.proofs.Common.{rules, ◌≡◌, ◌+◌, ◌*◌, map, sum_by, sym, refl, ap, ◌∙◌, arith}
use Rattle.std.proofs.lemmas.Iterator.{YieldsList-from_slice}
use Rattle.std.proofs.lemmas.Iterator.Adapters.{fits_from_length, at_most_from_yields_List}
use Rattle.std.proofs.lemmas.List.Recursion.{is_sum_by}
use Rattle.model.specs.Rankings.{total}
use Rattle.model.specs.Sessions.{positions}
use Rattle.rankings.specs.Facts.{leaf_of}
use Rattle.rankings.proofs.sums.sum.Goals as goal

pub returns-clause-is : goal.returns-clause-is
returns-clause-is g c =
    let w = g.W.Weight.weight in
    let xs = c.leaves.result.now in
    let h : c.sum.result ≡ sum_by (λ x. w (leaf_of x)) xs = search rules in
    h ∙ sym (is_sum_by (λ l. total w (map leaf_of l)) (λ x. w (leaf_of x)) refl (λ _ _. refl) xs) ∙ ap (total w) c.leaves.ensures.is

pub returns-clause-small : goal.returns-clause-small
returns-clause-small g c =
    let run = c.sum.ensures.runs tt in
    let h =
    fits_from_length _ _ positions (65536 * positions + 1) (at_most_from_yields_List (YieldsList-from_slice c.leaves.result.now cc) c.leaves.ensures.few)
    c.map.ensures.closure (omega arith) (λ x r q k. search rules) run.0 run.0.seen run.1 in
    omega (arith, run.3, h)
