-- The inputs among nodes of consecutive numbers.
use Rattle.std.proofs.Common.{◌≡◌, ℕ, zero, suc, ◌+◌, ◌≤◌, [], ◌∷◌, length, sum_by, sym, ap, ◌∙◌, add-zero, arith}
use Rattle.std.specs.List.{range_with_len}
use Rattle.std.proofs.lemmas.List.Sums.{sum_by-cons}
use Rattle.model.specs.Tables.{number}
use Rattle.model.specs.Graphs.{input, gate, Graph, inputs}
use Rattle.sweeper.specs.Reports.{entry}
use Rattle.evaluation.specs.Sides.{is_input}
use Rattle.evaluation.proofs.Fronts.{front, front-all, front-none, front-inputs}

-- no more inputs than nodes
pub inputs_few : (g : Graph) → inputs g ≤ length g
inputs_few [] = omega arith
inputs_few (input ∷ g) = omega (arith, inputs_few g)
inputs_few (gate x y ∷ g) = omega (arith, inputs_few g)

module _ (g : Graph) where
  -- 1 if node n + 1 is an input, else 0
  abbrev pub input_at : ℕ → ℕ
  input_at n = number (is_input (entry input g (n + 1)))

  inputs_from : (a n : ℕ) → a + n ≤ length g → inputs (front g a) + sum_by input_at (range_with_len a n) ≡ inputs (front g (a + n))
  inputs_from a zero h = add-zero (inputs (front g a)) ∙ ap (λ m. inputs (front g m)) (sym (add-zero a))
  inputs_from a (suc n) h =
      let here = front-inputs g a (omega arith) in
      let one = sum_by-cons input_at a (range_with_len (a + 1) n) in
      let later = inputs_from (a + 1) n (omega arith) in
      let same : inputs (front g (a + 1 + n)) ≡ inputs (front g (a + suc n)) = ap (λ m. inputs (front g m)) (let e : a + 1 + n ≡ a + suc n = omega arith in e) in
      omega (arith, here, one, later, same)

  pub inputs_counted : sum_by input_at (range_with_len 0 (length g)) ≡ inputs g
  inputs_counted =
      let all = inputs_from 0 (length g) (omega arith) in
      let none = ap inputs (front-none g) in
      let whole = ap inputs (front-all g (0 + length g) (omega arith)) in
      omega (arith, all, none, whole)
