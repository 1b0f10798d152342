-- The signals of gates are answers of AND.
use Rattle.std.proofs.Common.{◌≡◌, ℕ, suc, ◌<◌, ◌≤◌, Bool, true, false, cond, eqb, [], ◌∷◌, length, sym, refl, ◌∙◌, subst, ap₂, ⊎_elim, arith}
use Rattle.std.proofs.lemmas.Bool.{eqb-true, cases_lt}
use Rattle.model.specs.Graphs.{Node, input, gate, Graph, Kind, at, signals}
use Rattle.model.proofs.Growing.{at_none, signal_old, signal_gate}

not-both : (x y : ℕ) → input ≡ gate x y → ⊥
not-both x y e = let z : ◌≡◌ {A = ℕ} 0 1 = cc in omega arith

-- a gate stands in the graph
pub gate-known : (g : Graph) (n x y : ℕ) → at input g n ≡ gate x y → n ≤ length g
gate-known g n x y e = ⊎_elim
    (λ (z : length g < n). absurd (not-both x y (sym (at_none input g n z) ∙ e)))
    (λ (z : n ≤ length g). z)
    (cases_lt (length g) n)

module _ {S : Type 0} (k : Kind S) (given : ℕ → S) (formed : S → Type 0) (meets : (a b : S) → formed (k.meet a b)) where
  newest : (nd : Node) (g : Graph) (n x y : ℕ) → (at input g n ≡ gate x y → formed (at k.low (signals k given g) n)) → (t : Bool) → eqb n (suc (length g)) ≡ t
      → cond t nd (at input g n) ≡ gate x y → formed (at k.low (signals k given (nd ∷ g)) n)
  newest nd g n x y older true i e =
      subst formed (sym (ap₂ (λ q m. at k.low (signals k given (q ∷ g)) m) e (eqb-true n (suc (length g)) i) ∙ signal_gate k given g x y)) (meets _ _)
  newest nd g n x y older false i e = subst formed (sym (signal_old k given nd g n (gate-known g n x y e))) (older e)

  pub gate-formed : (g : Graph) (n x y : ℕ) → at input g n ≡ gate x y → formed (at k.low (signals k given g) n)
  gate-formed [] n x y e = absurd (not-both x y e)
  gate-formed (nd ∷ g) n x y e = newest nd g n x y (gate-formed g n x y) (eqb n (suc (length g))) refl e
