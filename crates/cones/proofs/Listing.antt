-- The gates of a cone, listed.
use Rattle.std.proofs.Common.{◌≡◌, ℕ, suc, ◌+◌, ◌<◌, ◌≤◌, Bool, true, false, cond, ◌&&◌, List, [], ◌∷◌, length, sym, refl, ap, ◌∙◌, ⊎_elim, arith}
use Rattle.std.proofs.lemmas.Bool.{cases_eq, eq-eqb, ne_eqb, and_parts, and_from, cond_both, true≢false, false≢true}
use Rattle.model.specs.Tables.{number}
use Rattle.model.specs.Edges.{node_of}
use Rattle.model.specs.Leaves.{has}
use Rattle.model.specs.Rankings.{Every}
use Rattle.model.specs.Graphs.{input, gate, Graph, at, Ordered, rests_on, gates_that}
use Rattle.model.proofs.Growing.{at_none}
use Rattle.model.proofs.Lists.{every_weaken}
use Rattle.cones.specs.Paths.{is_gate, Falling, Cone, ConesArePaths}
use Rattle.cones.proofs.Resting.{rests-path, path-rests}

-- the gates that pass a test of their number
gates_of : (ℕ → Bool) → Graph → List ℕ
gates_of test [] = []
gates_of test (input ∷ g) = gates_of test g
gates_of test (gate x y ∷ g) = cond (test (suc (length g))) (suc (length g) ∷ gates_of test g) (gates_of test g)

module _ (test : ℕ → Bool) where
  listed-number : (g : Graph) → length (gates_of test g) ≡ gates_that test g
  unfolding gates_of
  listed-number [] = refl
  listed-number (input ∷ g) = listed-number g
  listed-number (gate x y ∷ g) = go (test (suc (length g))) (listed-number g)
    where
      go : (b : Bool) → length (gates_of test g) ≡ gates_that test g → length (cond b (suc (length g) ∷ gates_of test g) (gates_of test g)) ≡ number b + gates_that test g
      go true e = omega arith
      go false e = omega arith

  listed-within : (g : Graph) → Every (λ k. k ≤ length g) (gates_of test g)
  unfolding gates_of
  listed-within [] = tt
  listed-within (input ∷ g) = every_weaken (λ k. k ≤ length g) (λ k. k ≤ suc (length g)) (gates_of test g) (λ k h. omega arith) (listed-within g)
  listed-within (gate x y ∷ g) =
      let old = every_weaken (λ k. k ≤ length g) (λ k. k ≤ suc (length g)) (gates_of test g) (λ k h. omega arith) (listed-within g) in
      cond_both (test (suc (length g))) (suc (length g) ∷ gates_of test g) (gates_of test g) (Every (λ k. k ≤ suc (length g))) (λ _. (omega arith, old)) (λ _. old)

  listed-once : (g : Graph) → Falling (gates_of test g)
  unfolding gates_of
  listed-once [] = tt
  listed-once (input ∷ g) = listed-once g
  listed-once (gate x y ∷ g) =
      let below = every_weaken (λ k. k ≤ length g) (λ k. k < suc (length g)) (gates_of test g) (λ k h. omega arith) (listed-within g) in
      cond_both (test (suc (length g))) (suc (length g) ∷ gates_of test g) (gates_of test g) Falling (λ _. (below, listed-once g)) (λ _. listed-once g)

  listed_has : (g : Graph) (m : ℕ) → has m (gates_of test g) ≡ (test m && is_gate (at input g m))
  unfolding gates_of
  listed_has [] m = none (test m)
    where
      none : (b : Bool) → false ≡ (b && false)
      none true = refl
      none false = refl
  listed_has (input ∷ g) m = ⊎_elim
      (λ (z : m ≡ suc (length g)). listed_has g m ∙ ap (λ nd. test m && is_gate nd) (at_none input g m (omega arith) ∙ same z))
      (λ (z : m ≡ suc (length g) → ⊥). rw (ne_eqb m (suc (length g)) z) (listed_has g m))
      (cases_eq m (suc (length g)))
    where
      same : m ≡ suc (length g) → input ≡ at input (input ∷ g) m
      same z = rw (eq-eqb m (suc (length g)) z) refl
  listed_has (gate x y ∷ g) m = ⊎_elim
      (λ (z : m ≡ suc (length g)). rw (eq-eqb m (suc (length g)) z) (newest (test (suc (length g))) (test m) (ap test (sym z)) z (listed_has g m)))
      (λ (z : m ≡ suc (length g) → ⊥). rw (ne_eqb m (suc (length g)) z) (other (test (suc (length g))) z (listed_has g m)))
      (cases_eq m (suc (length g)))
    where
      newest : (a b : Bool) → a ≡ b → m ≡ suc (length g) → has m (gates_of test g) ≡ (b && is_gate (at input g m)) → has m (cond a (suc (length g) ∷ gates_of test g) (gates_of test g)) ≡ (b && true)
      newest true true e z h = rw (eq-eqb m (suc (length g)) z) refl
      newest true false e z h = absurd (true≢false e)
      newest false true e z h = absurd (false≢true e)
      newest false false e z h = h

      other : (a : Bool) → (m ≡ suc (length g) → ⊥) → has m (gates_of test g) ≡ (test m && is_gate (at input g m)) → has m (cond a (suc (length g) ∷ gates_of test g) (gates_of test g)) ≡ (test m && is_gate (at input g m))
      other true z h = rw (ne_eqb m (suc (length g)) z) h
      other false z h = h

pub cone_of_lem : (g : Graph) → Ordered g → (n : ℕ) → Cone g n (gates_that (rests_on g n) g)
cone_of_lem g o n = record {
  gates = gates_of (rests_on g n) g;
  once = listed-once (rests_on g n) g;
  number = listed-number (rests_on g n) g;
  gate = λ m h. (and_parts (rests_on g n m) (is_gate (at input g m)) (sym (listed_has (rests_on g n) g m) ∙ h)).1;
  path = λ m h. path-rests g o n m (and_parts (rests_on g n m) (is_gate (at input g m)) (sym (listed_has (rests_on g n) g m) ∙ h)).0;
  every = λ m h r. listed_has (rests_on g n) g m ∙ and_from (rests_on g n m) (is_gate (at input g m)) (rests-path g o r) h;
}

pub cones_are_paths : ConesArePaths
cones_are_paths = record { path = λ g o n m h. path-rests g o n m h; rests = λ g o n m r. rests-path g o r; cone = λ g o e. cone_of_lem g o (node_of e) }
