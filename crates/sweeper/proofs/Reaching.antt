-- What holds of every state that a run leads to.
use Rattle.std.proofs.Common.{◌≡◌, ℕ, ◌<◌, ◌≤◌, false, eqb, [], ◌∷◌, length, refl, arith}
use mathlib.Core.Logic.{∥∥₁_elim, ∥∥₁_map}
use native.Mathlib.Bridge.{le_prop}
use native.Mathlib.Nat.{ℕ_set}
use Rattle.std.proofs.lemmas.Bool.{ne_eqb}
use Rattle.model.specs.Edges.{node_of}
use Rattle.model.specs.Graphs.{input, gate, Graph, uses, Ordered}
use Rattle.model.specs.Sessions.{State, positions, map_edge, Call, Answer}
use Rattle.model.specs.Runs.{Steps, calling}
use Rattle.model.proofs.Consistent.{run_consistent, map-within}
use Rattle.sweeper.specs.Runs.{Reached}

uses-none : (g : Graph) → Ordered g → (n : ℕ) → length g < n → uses g n ≡ 0
unfolding uses
uses-none [] o n h = refl
uses-none (input ∷ g) o n h = uses-none g o n (omega arith)
uses-none (gate x y ∷ g) o n h =
    let a : eqb (node_of x) n ≡ false = ne_eqb (node_of x) n (λ e. omega (arith, o.0)) in
    let b : eqb (node_of y) n ≡ false = ne_eqb (node_of y) n (λ e. omega (arith, o.1)) in
    let c = uses-none g o.2 n (omega arith) in
    rw (a, b, c)

pub unused : (s : State) → Reached s → (n : ℕ) → length s.reduced < n → uses s.reduced n ≡ 0
unused s r n h = ∥∥₁_elim r (ℕ_set _ _) λ l. uses-none s.reduced (run_consistent l.run).reduced-ordered n h

ordered_prop : (g : Graph) → IsProp (Ordered g)
ordered_prop [] a b = refl
ordered_prop (input ∷ g) a b = ordered_prop g a b
ordered_prop (gate x y ∷ g) a b = λ i. (le_prop a.0 b.0 i, le_prop a.1 b.1 i, ordered_prop g a.2 b.2 i)

pub ordered : (s : State) → Reached s → Ordered s.reduced
ordered s r = ∥∥₁_elim r (ordered_prop s.reduced) λ l. (run_consistent l.run).reduced-ordered

pub map_known : (s : State) → Reached s → (e : ℕ) → node_of (map_edge s e) ≤ length s.reduced
map_known s r e = ∥∥₁_elim r le_prop λ l. map-within s (run_consistent l.run) e

pub reached-more : {s u : State} {c : Call positions} {a : Answer} → Steps positions s c u a → Reached s → Reached u
reached-more h r = ∥∥₁_map r λ l. record { tables = l.tables; events = _; run = calling l.run h }
