-- How a gate call decides: folding, the pair of fanins, then the joined cuts of both fanins one after another.
use Rattle.std.specs.Prelude.{ℕ, Bool, true, cond, ◌||◌, List, [], ◌∷◌, ◌++◌, map, Some, None, Option, ◌==◌}
use Rattle.model.specs.Edges.{node_of, sign_of, edge, signed}
use Rattle.model.specs.Cuts.{Cut, joined, key_sign, key_list}
use Rattle.model.specs.Keys.{added}
use Rattle.model.specs.Graphs.{Graph, height, uses, find_pair, find_key, cuts_of}
use Rattle.model.specs.Rankings.{LeafFacts, Before, first_by}

-- what a gate call comes to: an edge that is there already, or a gate that keeps these cuts
pub data Decision : Type 0 where
  folded : ℕ → Decision
  shared : ℕ → Decision
  merged : ℕ → Decision
  made : List Cut → Decision

-- a search over pairs of cuts: ended, or the candidates so far
pub data Search : Type 0 where
  ended : Decision → Search
  candidates : List Cut → Search

-- go on with the candidates, unless the search has ended
abbrev pub after : Search → (List Cut → Search) → Search
after (ended d) k = ended d
after (candidates found) k = k found

-- one step for each element of a list
unfoldable pub along : {A : Type 0} → (A → List Cut → Search) → List A → List Cut → Search
along step [] found = candidates found
along step (x ∷ xs) found = after (step x found) (along step xs)

-- two leaves or more: a known key merges, a new one makes a candidate
abbrev pub settled : ℕ → Cut → Option ℕ → List Cut → Search
settled p c (Some e) found = ended (merged (signed e (key_sign c)))
settled p c None found = candidates (added (key_list p) c found)

-- no leaf left: a constant; one leaf: its edge
abbrev pub judged : ℕ → (List ℕ → Option ℕ) → Cut → List ℕ → List Cut → Search
judged p look c [] found = ended (folded (edge 0 (key_sign c)))
judged p look c (l ∷ []) found = ended (folded (edge l (key_sign c)))
judged p look c (l ∷ (m ∷ ls)) found = settled p c (look (key_list p c)) found

-- what a pair of cuts does to the search; one that is too wide is passed over
abbrev pub considered : ℕ → (List ℕ → Option ℕ) → Option Cut → List Cut → Search
considered p look None found = candidates found
considered p look (Some c) found = judged p look c c.leaves found

-- one cut of the first fanin with each of the second's
abbrev pub search_row : ℕ → (List ℕ → Option ℕ) → (Cut → Cut → Option Cut) → List Cut → Cut → List Cut → Search
search_row p look join ys x = along (λ y. considered p look (join x y)) ys

-- the first fanin's cuts in the outer loop
abbrev pub search_all : ℕ → (List ℕ → Option ℕ) → (Cut → Cut → Option Cut) → List Cut → List Cut → List Cut → Search
search_all p look join xs ys = along (search_row p look join ys) xs

-- a ranking asked about cuts, by the facts of their leaves
abbrev pub by_leaves : Before → (ℕ → LeafFacts) → Cut → Cut → Bool
by_leaves before leaf a b = before (map leaf a.leaves) (map leaf b.leaves)

-- the search's decision, or a gate that keeps the first n of the candidates
abbrev pub chosen : ℕ → (Cut → Cut → Bool) → Search → Decision
chosen n before (ended d) = d
chosen n before (candidates cs) = made (first_by before n cs)

-- the leaf limit k and the kept number n of a session
pub record Limits : Type 0 where
  pub leaves : ℕ
  pub kept : ℕ

-- the decision over what is looked up: keys, facts of leaves, and the cuts of both fanins
abbrev pub decide_cuts : ℕ → Limits → Before → (List ℕ → Option ℕ) → (ℕ → LeafFacts) → Bool → Bool → List Cut → List Cut → Decision
decide_cuts p m before look leaf s t xs ys = chosen m.kept (by_leaves before leaf) (search_all p look (joined p m.leaves s t) xs ys [])

abbrev pub leaf_in : Graph → ℕ → LeafFacts
leaf_in g l = record { height = height g l; uses = uses g l }

-- the candidates of a gate with fanins x and y, or what ended their search
abbrev pub search_in : ℕ → ℕ → Graph → List (List Cut) → ℕ → ℕ → Search
search_in p k g ks x y = search_all p (find_key p ks) (joined p k (sign_of x) (sign_of y)) (cuts_of p ks (node_of x)) (cuts_of p ks (node_of y)) []

-- constants, and fanins of one node; x is the smaller edge
abbrev pub fold_pair : ℕ → ℕ → Option ℕ
fold_pair x y = cond (x == 0 || signed x true == y) (Some 0) (cond (x == 1) (Some y) (cond (x == y) (Some x) None))

-- folding first, then the pair, then the cuts
abbrev pub in_order : Option ℕ → Option ℕ → Decision → Decision
in_order (Some e) q d = folded e
in_order None (Some e) d = shared e
in_order None None d = d

-- the decision in a graph whose nodes keep the cuts ks
unfoldable pub decide : ℕ → Limits → Before → Graph → List (List Cut) → ℕ → ℕ → Decision
decide p m before g ks x y =
    let pair = find_pair x y g in
    let cuts = chosen m.kept (by_leaves before (leaf_in g)) (search_in p m.leaves g ks x y) in
    in_order (fold_pair x y) pair cuts

-- all pairs of two lists, the first in the outer loop
abbrev pub pairs : {A B : Type 0} → List A → List B → List (A × B)
pairs [] ys = []
pairs (x ∷ xs) ys = map (λ y. (x, y)) ys ++ pairs xs ys
