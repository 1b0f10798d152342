-- Sums over leaves. Assumes nothing.
use Rattle.std.specs.Prelude.{◌≡◌, ℕ, ◌+◌, ◌<◌, true, false, [], ◌∷◌, ◌++◌, refl}
use Rattle.std.proofs.Common.{sym, ap, ◌∙◌, arith, add_assoc, zero-add}
use Rattle.std.proofs.lemmas.Bool.{ltb-true, ltb-false, lt-ltb, le-ltb}
use Rattle.model.specs.Rankings.{LeafFacts, Facts, any_gate, total, gate_leaf}

total_++ : (w : LeafFacts → ℕ) (a b : Facts) → total w (a ++ b) ≡ total w a + total w b
total_++ w [] b = sym (zero-add (total w b))
total_++ w (f ∷ a) b = ap (λ n. w f + n) (total_++ w a b) ∙ sym (add_assoc (w f) (total w a) (total w b))

-- one leaf more
pub total_next : (w : LeafFacts → ℕ) (a : Facts) (f : LeafFacts) → total w (a ++ (f ∷ [])) ≡ total w a + w f
total_next w a f = let e = total_++ w a (f ∷ []) in omega arith

-- no leaf is a gate: nothing counts
pub heights_none : (a : Facts) → any_gate a ≡ false → total (λ f. f.height) a ≡ 0
heights_none [] e = refl
heights_none (x ∷ xs) e = grind (arith, heights_none xs, ltb-true, ltb-false, lt-ltb, le-ltb)

pub heights_some : (a : Facts) → any_gate a ≡ true → 0 < total (λ f. f.height) a
heights_some [] e = grind arith
heights_some (x ∷ xs) e = grind (arith, heights_some xs, ltb-true, ltb-false)

pub gates_none : (a : Facts) → any_gate a ≡ false → total gate_leaf a ≡ 0
gates_none [] e = refl
gates_none (x ∷ xs) e = grind (arith, gates_none xs)

pub gates_some : (a : Facts) → any_gate a ≡ true → 0 < total gate_leaf a
gates_some [] e = grind arith
gates_some (x ∷ xs) e = grind (arith, gates_some xs)
