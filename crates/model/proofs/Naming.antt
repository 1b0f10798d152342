-- Every leaf of a kept cut and every edge that is decided names a node of the graph, whatever the number of positions.
use Rattle.std.proofs.Common.{◌≡◌, ℕ, suc, ◌<◌, ◌≤◌, Bool, false, eqb, List, [], ◌∷◌, length, Some, None, Option, sym, refl, subst, arith}
use Rattle.std.proofs.lemmas.Bool.{eqb-true, cond_both}
use Rattle.model.specs.Edges.{node_of, sign_of, edge}
use Rattle.model.specs.Cuts.{Cut, joined, key_sign, key_list}
use Rattle.model.specs.Graphs.{Graph, at, Ordered, cuts_of, find_pair, find_key}
use Rattle.model.specs.Rankings.{Before, Every}
use Rattle.model.specs.Search.{Decision, folded, shared, merged, made, settled, judged, considered, search_in, chosen, by_leaves, leaf_in, Limits, fold_pair, in_order, decide}
use Rattle.model.proofs.Meaning.{every-joined}
use Rattle.model.proofs.Lists.{every_weaken, every-added}
use Rattle.model.proofs.Searching.{Comes, search-comes, chosen-comes}
use Rattle.model.proofs.Signs.{node-edge, node-signed}
use Rattle.model.proofs.Deciding.{fold-known, pair_value, joined-some, key-found}

-- each leaf of the cut is the constant or one of the first n nodes
abbrev pub LeavesWithin : ℕ → Cut → Type 0
LeavesWithin n c = Every (λ l. l ≤ n) c.leaves

-- each leaf of the cut comes before node n
abbrev pub LeavesBefore : ℕ → Cut → Type 0
LeavesBefore n c = Every (λ l. l < n) c.leaves

-- each node's kept cuts have earlier leaves
abbrev pub LeavesEarlier : List (List Cut) → Type 0
LeavesEarlier [] = Unit {0}
LeavesEarlier (cs ∷ ks) = Every (LeavesWithin (length ks)) cs × LeavesEarlier ks

-- the kept cuts of one node
pub earlier-at : (ks : List (List Cut)) → LeavesEarlier ks → (n : ℕ) → Every (LeavesBefore n) (at [] ks n)
earlier-at [] e n = tt
earlier-at (cs ∷ ks) e n =
    let old = earlier-at ks e.1 n in
    cond_both (eqb n (suc (length ks))) cs (at [] ks n) (Every (LeavesBefore n))
    (λ h. let is = eqb-true n (suc (length ks)) h in
    every_weaken (LeavesWithin (length ks)) (LeavesBefore n) cs (λ c. every_weaken (λ l. l ≤ length ks) (λ l. l < n) c.leaves (λ l k. omega arith)) e.0)
    (λ _. old)

-- the cuts of a node, its trivial one among them
pub cuts-within : (p : ℕ) (ks : List (List Cut)) (n m : ℕ) → LeavesEarlier ks → n ≤ m → Every (LeavesWithin m) (cuts_of p ks n)
cuts-within p ks n m e h = (
  (h, tt),
  every_weaken (LeavesBefore n) (LeavesWithin m) (at [] ks n) (λ c. every_weaken (λ l. l < n) (λ l. l ≤ m) c.leaves (λ l k. omega arith)) (earlier-at ks e n),
)

pub key-within : (p : ℕ) (ks : List (List Cut)) → LeavesEarlier ks → (q : List ℕ) (e : ℕ) → find_key p ks q ≡ Some e → node_of e ≤ length ks
key-within p ks earlier q e h =
    let f = key-found p LeavesBefore ks (earlier-at ks earlier) q e h in
    let is = f.edge in
    omega (arith, node-signed (edge f.number false) (key_sign f.cut), node-edge f.number false, f.there)

-- the decided edge names one of the first n nodes, or the cuts to keep have only such leaves
abbrev pub DecidedWithin : ℕ → Decision → Type 0
DecidedWithin n (folded e) = node_of e ≤ n
DecidedWithin n (shared e) = node_of e ≤ n
DecidedWithin n (merged e) = node_of e ≤ n
DecidedWithin n (made cs) = Every (LeavesWithin n) cs

module _ (p k : ℕ) (g : Graph) (ks : List (List Cut)) (rows : length ks ≡ length g) (earlier : LeavesEarlier ks) where
  judged-within : (c : Cut) (ls : List ℕ) → ls ≡ c.leaves → LeavesWithin (length g) c → (found : List Cut) → Every (LeavesWithin (length g)) found
      → Comes (LeavesWithin (length g)) (DecidedWithin (length g)) (judged p (find_key p ks) c ls found)
  judged-within c [] is low found h = omega (arith, node-edge 0 (key_sign c))
  judged-within c (l ∷ []) is low found h = let here = subst (Every (λ m. m ≤ length g)) (sym is) low in omega (arith, node-edge l (key_sign c), here.0)
  judged-within c (l ∷ (m ∷ ls)) is low found h = go (find_key p ks (key_list p c)) refl
    where
      go : (r : Option ℕ) → find_key p ks (key_list p c) ≡ r → Comes (LeavesWithin (length g)) (DecidedWithin (length g)) (settled p c r found)
      go None z = every-added (LeavesWithin (length g)) (key_list p) c found low h
      go (Some e) z = omega (arith, node-signed e (key_sign c), key-within p ks earlier (key_list p c) e z)

  considered-within : (s t : Bool) (a b : Cut) → LeavesWithin (length g) a → LeavesWithin (length g) b → (found : List Cut) → Every (LeavesWithin (length g)) found
      → Comes (LeavesWithin (length g)) (DecidedWithin (length g)) (considered p (find_key p ks) (joined p k s t a b) found)
  considered-within s t a b la lb found h = go (joined p k s t a b) refl
    where
      go : (r : Option Cut) → joined p k s t a b ≡ r → Comes (LeavesWithin (length g)) (DecidedWithin (length g)) (considered p (find_key p ks) r found)
      go None z = h
      go (Some c) z =
          let is = joined-some p k s t a b c z in
          judged-within c c.leaves refl (subst (LeavesWithin (length g)) is.1 (every-joined (λ l. l ≤ length g) p a s b t la lb)) found h

  pub search-within : (x y : ℕ) → node_of x ≤ length g → node_of y ≤ length g → Comes (LeavesWithin (length g)) (DecidedWithin (length g)) (search_in p k g ks x y)
  search-within x y hx hy =
      search-comes (LeavesWithin (length g)) (DecidedWithin (length g)) p (find_key p ks) (joined p k (sign_of x) (sign_of y)) (LeavesWithin (length g)) (LeavesWithin (length g))
      (considered-within (sign_of x) (sign_of y)) (cuts_of p ks (node_of x)) (cuts_of p ks (node_of y)) (cuts-within p ks (node_of x) (length g) earlier hx) (cuts-within p ks (node_of y) (length g) earlier hy)

pub decide-within : (p : ℕ) (m : Limits) (before : Before) (g : Graph) (ks : List (List Cut)) (x y : ℕ)
    → Ordered g → length ks ≡ length g → LeavesEarlier ks → node_of x ≤ length g → node_of y ≤ length g → DecidedWithin (length g) (decide p m before g ks x y)
unfolding decide
decide-within p m before g ks x y ordered rows earlier hx hy = go (fold_pair x y) refl (find_pair x y g) refl
  where
    go : (a : Option ℕ) → fold_pair x y ≡ a → (b : Option ℕ) → find_pair x y g ≡ b
        → DecidedWithin (length g) (in_order a b (chosen m.kept (by_leaves before (leaf_in g)) (search_in p m.leaves g ks x y)))
    go (Some e) h b z = fold-known x y e (length g) h hx hy
    go None h (Some e) z = (pair_value x y g ordered e z).edge_for.known
    go None h None z =
        chosen-comes (LeavesWithin (length g)) (DecidedWithin (length g)) m.kept (by_leaves before (leaf_in g)) (search_in p m.leaves g ks x y)
        (search-within p m.leaves g ks rows earlier x y hx hy) (λ cs h. h)
