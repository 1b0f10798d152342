-- From what is looked up to a graph. Assumes nothing.
use Rattle.std.proofs.Common.{◌≡◌, ℕ, List, None, Option, sym, ◌∙◌}
use Rattle.model.specs.Cuts.{Cut}
use Rattle.model.specs.Edges.{node_of, sign_of}
use Rattle.model.specs.Graphs.{Graph, find_pair, find_key, cuts_of}
use Rattle.model.specs.Rankings.{LeafFacts, Before}
use Rattle.model.specs.Search.{Limits, fold_pair, in_order, chosen, by_leaves, leaf_in, search_in, decide_cuts, decide}

-- where neither folding nor the pair decides, tables that stand for a graph decide as the graph does
pub decides_in : (p : ℕ) (m : Limits) (before : Before) (look : List ℕ → Option ℕ) (leaf : ℕ → LeafFacts) (g : Graph) (ks : List (List Cut)) (x y : ℕ) (xs ys : List Cut)
    → ((q : List ℕ) → look q ≡ find_key p ks q) → ((l : ℕ) → leaf l ≡ leaf_in g l) → xs ≡ cuts_of p ks (node_of x) → ys ≡ cuts_of p ks (node_of y)
    → fold_pair x y ≡ None → find_pair x y g ≡ None → decide_cuts p m before look leaf (sign_of x) (sign_of y) xs ys ≡ decide p m before g ks x y
unfolding decide
decides_in p m before look leaf g ks x y xs ys keys leaves ex ey fold pair =
    let cuts = chosen m.kept (by_leaves before (leaf_in g)) (search_in p m.leaves g ks x y) in
    (λ i. decide_cuts p m before (λ q. keys q i) (λ l. leaves l i) (sign_of x) (sign_of y) (ex i) (ey i)) ∙ sym (λ i. in_order (fold i) (pair i) cuts)
