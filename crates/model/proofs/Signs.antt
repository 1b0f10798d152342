-- Edges, their signs, and their values in a graph.
use Rattle.std.proofs.Common.{◌≡◌, ℕ, ◌+◌, ◌-◌, ◌*◌, ◌/◌, ◌%◌, Bool, true, false, cond, not, eqb, sym, refl, ap, ◌∙◌, ap₂, arith}
use mathlib.Core.Bool.{not-not}
use Rattle.std.proofs.lemmas.Bool.{eqb-true, eqb-false}
use Rattle.model.specs.Tables.{number, flip_if}
use Rattle.model.specs.Edges.{node_of, sign_of, edge, signed}
use Rattle.model.specs.Graphs.{Graph, bits, signals, value, edge_value}
use Rattle.model.proofs.Growing.{at_zero}

pub node-edge : (n : ℕ) (s : Bool) → node_of (edge n s) ≡ n
node-edge n true = omega arith
node-edge n false = omega arith

pub sign-edge : (n : ℕ) (s : Bool) → sign_of (edge n s) ≡ s
sign-edge n true = let e : (2 * n + 1) % 2 ≡ 1 = omega arith in ap (λ m. eqb m 1) e
sign-edge n false = let e : (2 * n + 0) % 2 ≡ 0 = omega arith in ap (λ m. eqb m 1) e

-- an edge is its node and its sign
pub edge-parts : (e : ℕ) → edge (node_of e) (sign_of e) ≡ e
edge-parts e = go (sign_of e) refl
  where
    go : (s : Bool) → eqb (e % 2) 1 ≡ s → 2 * (e / 2) + number s ≡ e
    go true h = let z = eqb-true (e % 2) 1 h in omega arith
    go false h = let z = eqb-false (e % 2) 1 h in omega arith

signed_true : (e : ℕ) → signed e true ≡ edge (node_of e) (not (sign_of e))
signed_true e = go (sign_of e) refl
  where
    go : (s : Bool) → eqb (e % 2) 1 ≡ s → cond s (e - 1) (e + 1) ≡ 2 * (e / 2) + number (not s)
    go true h = let z = eqb-true (e % 2) 1 h in omega arith
    go false h = let z = eqb-false (e % 2) 1 h in omega arith

pub signed-edge : (e : ℕ) (s : Bool) → signed e s ≡ edge (node_of e) (flip_if s (sign_of e))
signed-edge e true = signed_true e
signed-edge e false = sym (edge-parts e)

pub node-signed : (e : ℕ) (s : Bool) → node_of (signed e s) ≡ node_of e
node-signed e s = ap node_of (signed-edge e s) ∙ node-edge (node_of e) (flip_if s (sign_of e))

pub sign-signed : (e : ℕ) (s : Bool) → sign_of (signed e s) ≡ flip_if s (sign_of e)
sign-signed e s = ap sign_of (signed-edge e s) ∙ sign-edge (node_of e) (flip_if s (sign_of e))

pub cond-flip : (s v : Bool) → cond s (not v) v ≡ flip_if s v
cond-flip true v = refl
cond-flip false v = refl

pub flip-flip : (s t v : Bool) → flip_if (flip_if s t) v ≡ flip_if s (flip_if t v)
flip-flip true true v = sym (not-not v)
flip-flip true false v = refl
flip-flip false t v = refl

pub flip-back : (s v : Bool) → flip_if s (flip_if s v) ≡ v
flip-back true v = not-not v
flip-back false v = refl

pub flip_false : (s : Bool) → flip_if s false ≡ s
flip_false true = refl
flip_false false = refl

module _ (g : Graph) (env : ℕ → Bool) where
  pub edge-value : (e : ℕ) → edge_value g env e ≡ flip_if (sign_of e) (value g env (node_of e))
  edge-value e = cond-flip (sign_of e) (value g env (node_of e))

  pub value-edge : (n : ℕ) (s : Bool) → edge_value g env (edge n s) ≡ flip_if s (value g env n)
  value-edge n s = edge-value (edge n s) ∙ ap₂ (λ t m. flip_if t (value g env m)) (sign-edge n s) (node-edge n s)

  pub value-signed : (e : ℕ) (s : Bool) → edge_value g env (signed e s) ≡ flip_if s (edge_value g env e)
  value-signed e s =
      edge-value (signed e s) ∙ ap₂ (λ t m. flip_if t (value g env m)) (sign-signed e s) (node-signed e s)
      ∙ flip-flip s (sign_of e) (value g env (node_of e)) ∙ ap (flip_if s) (sym (edge-value e))

  pub value-zero : value g env 0 ≡ false
  value-zero = at_zero false (signals bits env g)

  pub value_false : edge_value g env 0 ≡ false
  value_false = edge-value 0 ∙ value-zero

  pub value_true : edge_value g env 1 ≡ true
  value_true = edge-value 1 ∙ ap not value-zero

  pub value-constant : (s : Bool) → edge_value g env (edge 0 s) ≡ s
  value-constant s = value-edge 0 s ∙ ap (flip_if s) value-zero ∙ flip_false s
