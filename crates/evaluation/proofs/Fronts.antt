-- The first nodes of a graph, and what one node more adds.
use Rattle.std.proofs.Common.{◌≡◌, ℕ, suc, ◌+◌, ◌<◌, ◌≤◌, Bool, true, false, cond, eqb, ltb, [], ◌∷◌, length, Some, None, sym, refl, ap, ⊎_elim, add-one, arith}
use Rattle.std.proofs.lemmas.Bool.{eq-eqb, ne_eqb, lt-ltb, le-ltb, cases_lt, cond_both, ltb-false, or_parts}
use Rattle.model.specs.Tables.{number}
use Rattle.model.specs.Graphs.{Node, input, gate, Graph, at, inputs, Ordered}
use Rattle.sweeper.specs.Reports.{entry, outside}
use Rattle.evaluation.specs.Sides.{is_input}

-- the first n nodes
abbrev pub front : Graph → ℕ → Graph
front [] n = []
front (nd ∷ g) n = let f = front g n in cond (ltb n (suc (length g))) f (nd ∷ g)

pub front-all : (g : Graph) (n : ℕ) → length g ≤ n → front g n ≡ g
front-all [] n h = refl
front-all (nd ∷ g) n h = rw (le-ltb n (suc (length g)) h) refl

pub front-none : (g : Graph) → front g 0 ≡ []
front-none [] = refl
front-none (nd ∷ g) = rw (lt-ltb 0 (suc (length g)) (omega arith)) (front-none g)

pub front_length : (g : Graph) (n : ℕ) → n ≤ length g → length (front g n) ≡ n
front_length [] n h = omega arith
front_length (nd ∷ g) n h = ⊎_elim
    (λ (z : n < suc (length g)). rw (lt-ltb n (suc (length g)) z) (front_length g n (omega arith)))
    (λ (z : suc (length g) ≤ n). rw (le-ltb n (suc (length g)) z) (omega arith))
    (cases_lt n (suc (length g)))

pub front-more : (g : Graph) (n : ℕ) → n < length g → front g (suc n) ≡ at input g (suc n) ∷ front g n
front-more [] n h = absurd (omega arith)
front-more (nd ∷ g) n h = ⊎_elim
    (λ (z : n < length g). rw (lt-ltb (suc n) (suc (length g)) (omega arith), lt-ltb n (suc (length g)) h, ne_eqb (suc n) (suc (length g)) (λ e. omega arith)) (front-more g n z))
    (λ (z : length g ≤ n). rw (le-ltb (suc n) (suc (length g)) (omega arith), lt-ltb n (suc (length g)) h, eq-eqb (suc n) (suc (length g)) (omega arith)) (ap (λ f. nd ∷ f) (sym (front-all g n z))))
    (cases_lt n (length g))

earlier : (nd : Node) (g : Graph) → Ordered (nd ∷ g) → Ordered g
earlier input g o = o
earlier (gate x y) g o = o.2

pub front_ordered : (g : Graph) (n : ℕ) → Ordered g → Ordered (front g n)
front_ordered [] n o = tt
front_ordered (nd ∷ g) n o = cond_both (ltb n (suc (length g))) (front g n) (nd ∷ g) Ordered (λ _. front_ordered g n (earlier nd g o)) (λ _. o)

pub entry_in : (g : Graph) (n : ℕ) → n < length g → entry input g (suc n) ≡ Some (at input g (suc n))
entry_in g n h = rw (ne_eqb (suc n) 0 (λ e. omega arith), le-ltb (length g) (suc n) h) refl

inputs-more : (nd : Node) (g : Graph) → inputs (nd ∷ g) ≡ inputs g + number (is_input (Some nd))
inputs-more input g = omega arith
inputs-more (gate x y) g = omega arith

pub front-inputs : (g : Graph) (n : ℕ) → n < length g → inputs (front g (n + 1)) ≡ inputs (front g n) + number (is_input (entry input g (n + 1)))
front-inputs g n h = rw (add-one n, entry_in g n h, front-more g n h) (inputs-more (at input g (suc n)) (front g n))

pub front-few : (g : Graph) (n : ℕ) → inputs (front g n) ≤ inputs g
front-few [] n = omega arith
front-few (nd ∷ g) n = cond_both (ltb n (suc (length g))) (front g n) (nd ∷ g) (λ f. inputs f ≤ inputs (nd ∷ g))
    (λ _. omega (arith, front-few g n, inputs-more nd g))
    (λ _. omega arith)

-- what a look at node n + 1 tells
pub entry-some : (g : Graph) (n : ℕ) (nd : Node) → Some nd ≡ entry input g (n + 1) → (n < length g) × (at input g (n + 1) ≡ nd)
entry-some g n nd h = go (outside (length g) (n + 1)) refl h
  where
    go : (t : Bool) → outside (length g) (n + 1) ≡ t → Some nd ≡ cond t None (Some (at input g (n + 1))) → (n < length g) × (at input g (n + 1) ≡ nd)
    go true e k = absurd (let z : ◌≡◌ {A = ℕ} 0 1 = cc in omega arith)
    go false e k =
        let below = ltb-false (length g) (n + 1) (or_parts (eqb (n + 1) 0) (ltb (length g) (n + 1)) e).1 in
        (omega arith, cc)
