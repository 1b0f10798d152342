-- What a session tells of a node is what its graph has.
use Rattle.std.proofs.Common.{◌≡◌, ℕ, Bool, true, false, cond, eqb, ltb, length, Some, None, refl, ap, ◌∙◌, ⊎_elim, arith}
use Rattle.std.proofs.lemmas.Bool.{eqb-true, ltb-true, or_cases}
use Rattle.model.specs.Graphs.{Graph, input, at}
use Rattle.model.specs.Sessions.{State}
use Rattle.model.proofs.Growing.{at_zero, at_none}
use Rattle.sweeper.specs.Reports.{Described, described_in, outside}

not_there : (g : Graph) (n : ℕ) → outside (length g) n ≡ true → at input g n ≡ input
not_there g n h = ⊎_elim
    (λ z. ap (at input g) (eqb-true n 0 z) ∙ at_zero input g)
    (λ z. at_none input g n (ltb-true (length g) n z))
    (or_cases (eqb n 0) (ltb (length g) n) h)

-- a number with no row has no gate
pub unseen : (s : State) (n : ℕ) → None ≡ described_in s n → at input s.reduced n ≡ input
unseen s n = go (outside (length s.reduced) n) refl _
  where
    go : (t : Bool) → outside (length s.reduced) n ≡ t → (d : Described) → None ≡ cond t None (Some d) → at input s.reduced n ≡ input
    go true h d e = not_there s.reduced n h
    go false h d e = absurd (let z : ◌≡◌ {A = ℕ} 0 1 = cc in omega arith)
