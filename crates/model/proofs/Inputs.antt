-- The inputs of a graph: nodes of height 0, counted by rank; every valuation of them comes from some assignment.
use Rattle.std.proofs.Common.{◌≡◌, ℕ, zero, suc, ◌<◌, ◌≤◌, max, Bool, true, false, cond, ◌||◌, eqb, ltb, List, [], ◌∷◌, map, length, get_or, sym, refl, ap, ◌∙◌, subst, ⊎_elim, arith}
use Rattle.std.proofs.lemmas.Bool.{eq-eqb, ne_eqb, ltb-false, le-ltb, cases_eq, both_ways}
use Rattle.model.specs.Leaves.{Rising}
use Rattle.model.specs.Cuts.{Cut, value_of, Formed}
use Rattle.model.specs.Edges.{node_of}
use Rattle.model.specs.Graphs.{Node, input, gate, Graph, at, bits, inputs, value, heights, height}
use Rattle.model.specs.Rankings.{Every, any_gate}
use Rattle.model.specs.Search.{leaf_in}
use Rattle.model.proofs.Places.{has-at}
use Rattle.model.proofs.Meaning.{value_alike, one-meaning}
use Rattle.model.proofs.Lists.{every_in}
use Rattle.model.proofs.Growing.{at_new, length-heights, height-old, value-old, signal_input}

-- an input of the graph
pub record InputNode (g : Graph) (l : ℕ) : Type 0 where
  pub some : 0 < l
  pub known : l ≤ length g
  pub low : height g l ≡ 0

pub input-height : (g : Graph) → height (input ∷ g) (suc (length g)) ≡ 0
unfolding heights
input-height g = ap (at 0 (0 ∷ heights g)) (ap suc (sym (length-heights g))) ∙ at_new 0 0 (heights g)

gate-height : (x y : ℕ) (g : Graph) → 0 < height (gate x y ∷ g) (suc (length g))
unfolding heights
gate-height x y g =
    let h = suc (max (at 0 (heights g) (node_of x)) (at 0 (heights g) (node_of y))) in
    let e : at 0 (h ∷ heights g) (suc (length g)) ≡ h = ap (at 0 (h ∷ heights g)) (ap suc (sym (length-heights g))) ∙ at_new 0 h (heights g) in
    omega arith

pub input-grows : (nd : Node) (g : Graph) (l : ℕ) → InputNode g l → InputNode (nd ∷ g) l
input-grows nd g l i = record { some = i.some; known = omega (arith, i.known); low = height-old nd g l i.known ∙ i.low }

input-earlier : (nd : Node) (g : Graph) (l : ℕ) → l ≤ length g → InputNode (nd ∷ g) l → InputNode g l
input-earlier nd g l h i = record { some = i.some; known = h; low = sym (height-old nd g l h) ∙ i.low }

-- the rank of an input, and the input of a rank
abbrev rank_of : Graph → ℕ → ℕ
rank_of [] l = 0
rank_of (input ∷ g) l = cond (eqb l (suc (length g))) (inputs g) (rank_of g l)
rank_of (gate x y ∷ g) l = rank_of g l

abbrev input_of : Graph → ℕ → ℕ
input_of [] r = 0
input_of (input ∷ g) r = cond (eqb r (inputs g)) (suc (length g)) (input_of g r)
input_of (gate x y ∷ g) r = input_of g r

-- what holds of the newest input and goes on for earlier ones holds of every input
by_age : (P : Graph → ℕ → Type 0) → ((g : Graph) → P (input ∷ g) (suc (length g)))
    → ((nd : Node) (g : Graph) (l : ℕ) → InputNode g l → P g l → P (nd ∷ g) l) → (g : Graph) (l : ℕ) → InputNode g l → P g l
by_age P new old [] l i = absurd (omega (arith, i.some, i.known))
by_age P new old (nd ∷ g) l i = ⊎_elim
    (λ (z : l ≡ suc (length g)). subst (P (nd ∷ g)) (sym z) (newest nd (subst (InputNode (nd ∷ g)) z i)))
    (λ (z : l ≡ suc (length g) → ⊥). let k : l ≤ length g = omega (arith, i.known) in let j = input-earlier nd g l k i in old nd g l j (by_age P new old g l j))
    (cases_eq l (suc (length g)))
  where
    newest : (n : Node) → InputNode (n ∷ g) (suc (length g)) → P (n ∷ g) (suc (length g))
    newest input j = new g
    newest (gate x y) j = absurd (omega (arith, gate-height x y g, j.low))

rank_below : (g : Graph) (l : ℕ) → InputNode g l → rank_of g l < inputs g
rank_below = by_age (λ g l. rank_of g l < inputs g) (λ g. new g) old
  where
    new : (g : Graph) → rank_of (input ∷ g) (suc (length g)) < suc (inputs g)
    new g = rw (eq-eqb (suc (length g)) (suc (length g)) refl) (omega arith)

    old : (nd : Node) (g : Graph) (l : ℕ) → InputNode g l → rank_of g l < inputs g → rank_of (nd ∷ g) l < inputs (nd ∷ g)
    old input g l i h = rw (ne_eqb l (suc (length g)) (λ e. omega (arith, i.known))) (omega arith)
    old (gate x y) g l i h = h

input_of_rank : (g : Graph) (l : ℕ) → InputNode g l → input_of g (rank_of g l) ≡ l
input_of_rank = by_age (λ g l. input_of g (rank_of g l) ≡ l) new old
  where
    new : (g : Graph) → input_of (input ∷ g) (rank_of (input ∷ g) (suc (length g))) ≡ suc (length g)
    new g = rw (eq-eqb (suc (length g)) (suc (length g)) refl, eq-eqb (inputs g) (inputs g) refl)

    old : (nd : Node) (g : Graph) (l : ℕ) → InputNode g l → input_of g (rank_of g l) ≡ l → input_of (nd ∷ g) (rank_of (nd ∷ g) l) ≡ l
    old input g l i h = rw (ne_eqb l (suc (length g)) (λ e. omega (arith, i.known)), ne_eqb (rank_of g l) (inputs g) (λ e. omega (arith, rank_below g l i))) h
    old (gate x y) g l i h = h

value_of_rank : (env : ℕ → Bool) (g : Graph) (l : ℕ) → InputNode g l → value g env l ≡ env (rank_of g l)
value_of_rank env = by_age (λ g l. value g env l ≡ env (rank_of g l)) new old
  where
    new : (g : Graph) → value (input ∷ g) env (suc (length g)) ≡ env (rank_of (input ∷ g) (suc (length g)))
    new g = signal_input bits env g ∙ ap env (rw (eq-eqb (suc (length g)) (suc (length g)) refl))

    old : (nd : Node) (g : Graph) (l : ℕ) → InputNode g l → value g env l ≡ env (rank_of g l) → value (nd ∷ g) env l ≡ env (rank_of (nd ∷ g) l)
    old input g l i h = value-old input g env l i.known ∙ h ∙ ap env (rw (ne_eqb l (suc (length g)) (λ e. omega (arith, i.known))))
    old (gate x y) g l i h = value-old (gate x y) g env l i.known ∙ h

-- the assignment that gives each input the value of a valuation
abbrev pub assigned : Graph → (ℕ → Bool) → ℕ → Bool
assigned g v r = v (input_of g r)

pub assigned-value : (g : Graph) (v : ℕ → Bool) (l : ℕ) → InputNode g l → value g (assigned g v) l ≡ v l
assigned-value g v l i = value_of_rank (assigned g v) g l i ∙ ap v (input_of_rank g l i)

-- ranks rise with the nodes, so a rising list of inputs is no longer than there are inputs
rank_rises : (g : Graph) (k l : ℕ) → InputNode g k → InputNode g l → k < l → rank_of g k < rank_of g l
rank_rises [] k l i j h = absurd (omega (arith, i.some, i.known))
rank_rises (nd ∷ g) k l i j h = go nd i j (rank_rises g k l)
  where
    hk : k ≤ length g
    hk = omega (arith, j.known)

    go : (n : Node) → InputNode (n ∷ g) k → InputNode (n ∷ g) l → (InputNode g k → InputNode g l → k < l → rank_of g k < rank_of g l) → rank_of (n ∷ g) k < rank_of (n ∷ g) l
    go input i j ih = ⊎_elim
        (λ (z : l ≡ suc (length g)). rw (eq-eqb l (suc (length g)) z, ne_eqb k (suc (length g)) (λ e. omega (arith, hk))) (rank_below g k (input-earlier input g k hk i)))
        (λ (z : l ≡ suc (length g) → ⊥). rw (ne_eqb l (suc (length g)) z, ne_eqb k (suc (length g)) (λ e. omega (arith, hk))) (ih (input-earlier input g k hk i) (input-earlier input g l (omega (arith, j.known)) j) h))
        (cases_eq l (suc (length g)))
    go (gate x y) i j ih = ⊎_elim
        (λ (z : l ≡ suc (length g)). absurd (omega (arith, gate-height x y g, subst (λ n. height (gate x y ∷ g) n ≡ 0) z j.low)))
        (λ (z : l ≡ suc (length g) → ⊥). ih (input-earlier (gate x y) g k hk i) (input-earlier (gate x y) g l (omega (arith, j.known)) j) h)
        (cases_eq l (suc (length g)))

rank-at-least : (g : Graph) (ls : List ℕ) → Rising ls → Every (InputNode g) ls → (j : ℕ) → j < length ls → j ≤ rank_of g (get_or ls j 0)
rank-at-least g ls r e zero h = omega arith
rank-at-least g ls r e (suc j) h =
    let node : (q : ℕ) → q < length ls → InputNode g (get_or ls q 0) = λ q k. every_in (InputNode g) ls (get_or ls q 0) e (has-at ls q k) in
    omega (arith, rank-at-least g ls r e j (omega arith), rank_rises g (get_or ls j 0) (get_or ls (suc j) 0) (node j (omega arith)) (node (suc j) h) (r j (suc j) (omega arith) h))

pub few-inputs : (g : Graph) (ls : List ℕ) → Rising ls → Every (InputNode g) ls → length ls ≤ inputs g
few-inputs g ls r e = go (length ls) refl
  where
    go : (n : ℕ) → length ls ≡ n → n ≤ inputs g
    go zero h = omega arith
    go (suc n) h = omega (arith, rank-at-least g ls r e n (omega arith), rank_below g (get_or ls n 0) (every_in (InputNode g) ls (get_or ls n 0) e (has-at ls n (omega arith))))

-- well-formed cuts over inputs that agree under every assignment are one cut
pub input-cuts-one : (p : ℕ) (g : Graph) (c d : Cut) → Formed p c → Formed p d → Every (InputNode g) c.leaves → Every (InputNode g) d.leaves
    → ((env : ℕ → Bool) → value_of c (value g env) ≡ value_of d (value g env)) → c ≡ d
input-cuts-one p g c d fc fd ic id same = one-meaning p c d fc fd (λ v.
    sym (value_alike c (value g (assigned g v)) v (λ l e. assigned-value g v l (every_in (InputNode g) c.leaves l ic e)))
    ∙ same (assigned g v)
    ∙ value_alike d (value g (assigned g v)) v (λ l e. assigned-value g v l (every_in (InputNode g) d.leaves l id e)))

-- and what holds of such a cut under every assignment holds under every valuation
pub input-cut_everywhere : (g : Graph) (c : Cut) → Every (InputNode g) c.leaves → (b : Bool) → ((env : ℕ → Bool) → value_of c (value g env) ≡ b) → (v : ℕ → Bool) → value_of c v ≡ b
input-cut_everywhere g c ic b h v = sym (value_alike c (value g (assigned g v)) v (λ l e. assigned-value g v l (every_in (InputNode g) c.leaves l ic e))) ∙ h (assigned g v)

-- a ranking is told of no gate leaf exactly where all leaves are inputs
pub no_gate_leaf : (g : Graph) (ls : List ℕ) → Every (λ l. (0 < l) × (l ≤ length g)) ls → any_gate (map (leaf_in g) ls) ≡ false → Every (InputNode g) ls
no_gate_leaf g [] k h = tt
no_gate_leaf g (l ∷ ls) k h = go (ltb 0 (height g l)) refl h (no_gate_leaf g ls k.1)
  where
    go : (b : Bool) → ltb 0 (height g l) ≡ b → (b || any_gate (map (leaf_in g) ls)) ≡ false → (any_gate (map (leaf_in g) ls) ≡ false → Every (InputNode g) ls) → Every (InputNode g) (l ∷ ls)
    go true e f ih = absurd (both_ways true f refl)
    go false e f ih = (record { some = k.0.0; known = k.0.1; low = omega (arith, ltb-false 0 (height g l) e) }, ih f)

pub inputs_no_gate : (g : Graph) (ls : List ℕ) → Every (InputNode g) ls → any_gate (map (leaf_in g) ls) ≡ false
inputs_no_gate g [] e = refl
inputs_no_gate g (l ∷ ls) e = rw (le-ltb 0 (height g l) (omega (arith, e.0.low))) (inputs_no_gate g ls e.1)
