-- A lane of a node's signal is the node's value under that lane of the inputs' signals.
use Rattle.std.proofs.Common.{◌≡◌, ℕ, suc, ◌<◌, ◌≤◌, Bool, true, false, cond, not, ◌&&◌, eqb, List, [], ◌∷◌, map, length, get_or, sym, refl, ap, ◌∙◌, ap₂}
use mathlib.Core.Bool.{Bool-set}
use mathlib.Core.Logic.{∥∥₁_elim}
use lib.ListN.{length-map}
use Rattle.signals.specs.declared.signal.Signal.{Ghosts as Signal}
use Rattle.model.specs.Edges.{node_of, sign_of}
use Rattle.model.specs.Graphs.{Graph, input, gate, Kind, bits, at, inputs, signals, edge_signal, value, edge_value}
use Rattle.model.specs.Sessions.{State, map_edge}
use Rattle.model.proofs.Consistent.{run_consistent, mapped-within, map-within}
use Rattle.model.proofs.Sound.{equal-signals-run, sessions-fit}
use Rattle.sweeper.specs.Runs.{Reached}
use Rattle.evaluation.specs.Both.{Agree}
use Rattle.evaluation.specs.Walks.{kind_of, edge_over, ranked, Walked}

at-mapped : {A B : Type 0} (f : A → B) (d : A) (xs : List A) (n : ℕ) → f (at d xs n) ≡ at (f d) (map f xs) n
at-mapped f d [] n = refl
at-mapped f d (x ∷ xs) n =
    split (eqb n (suc (length xs)))
    ∙ ap₂ (λ m r. cond (eqb n (suc m)) (f x) r) (sym (length-map xs f)) (at-mapped f d xs n)
  where
    split : (t : Bool) → f (cond t x (at d xs n)) ≡ cond t (f x) (f (at d xs n))
    split true = refl
    split false = refl

-- what FALSE, AND and complement do in one lane
pub record Acts {S : Type 0} (k : Kind S) (bit : S → Bool) : Type 0 where
  pub lows : bit k.low ≡ false
  pub meets : (a b : S) → bit (k.meet a b) ≡ (bit a && bit b)
  pub flips : (a : S) → bit (k.flip a) ≡ not (bit a)

module _ {S : Type 0} (k : Kind S) (bit : S → Bool) (acts : Acts k bit) where
  signed-bit : (t : Bool) (v : S) → bit (cond t (k.flip v) v) ≡ cond t (not (bit v)) (bit v)
  signed-bit true v = acts.flips v
  signed-bit false v = refl

  at-bit : (vs : List S) (n : ℕ) → bit (at k.low vs n) ≡ at false (map bit vs) n
  at-bit vs n = at-mapped bit k.low vs n ∙ ap (λ d. at d (map bit vs) n) acts.lows

  edge-bit : (vs : List S) (e : ℕ) → bit (edge_signal k vs e) ≡ edge_signal bits (map bit vs) e
  edge-bit vs e = signed-bit (sign_of e) (at k.low vs (node_of e)) ∙ ap (λ b. cond (sign_of e) (not b) b) (at-bit vs (node_of e))

  module _ (given : ℕ → S) where
    all-bits : (g : Graph) → map bit (signals k given g) ≡ signals bits (λ r. bit (given r)) g
    unfolding signals
    all-bits [] = refl
    all-bits (input ∷ g) = ap (λ l. bit (given (inputs g)) ∷ l) (all-bits g)
    all-bits (gate x y ∷ g) =
        let vs = signals k given g in
        ap (λ b. b ∷ map bit vs) (acts.meets (edge_signal k vs x) (edge_signal k vs y) ∙ ap₂ ◌&&◌ (edge-bit vs x) (edge-bit vs y))
        ∙ ap (λ l. (edge_signal bits l x && edge_signal bits l y) ∷ l) (all-bits g)

    signal_bit : (g : Graph) (n : ℕ) → bit (at k.low (signals k given g) n) ≡ value g (λ r. bit (given r)) n
    signal_bit g n = at-bit (signals k given g) n ∙ ap (λ l. at false l n) (all-bits g)

module _ {S : Type 0} (s : Signal S) (bit : S → Bool) (acts : Acts (kind_of s) bit) where
  -- the same of places that were walked
  module _ (g : Graph) (given before after : List S) (walked : Walked s g given before after) where
    node_lane : (n : ℕ) → n ≤ length g → bit (get_or after n s.low) ≡ value g (λ r. bit (ranked (kind_of s) given r)) n
    node_lane n h = ap bit (walked.places n h) ∙ signal_bit (kind_of s) bit acts (ranked (kind_of s) given) g n

    edge_lane : (e : ℕ) → node_of e ≤ length g → bit (edge_over (kind_of s) after e) ≡ edge_value g (λ r. bit (ranked (kind_of s) given r)) e
    edge_lane e h = signed-bit (kind_of s) bit acts (sign_of e) (get_or after (node_of e) s.low) ∙ ap (λ b. cond (sign_of e) (not b) b) (node_lane (node_of e) h)

  -- both graphs walked with the same signals
  module _ (t : State) (r : Reached t) (given xs ys source reduced : List S) (one : Walked s t.source given xs source) (two : Walked s t.reduced given ys reduced) where
    nodes-agree : (n : ℕ) → n ≤ length t.source → bit (get_or source n s.low) ≡ bit (edge_over (kind_of s) reduced (at 0 t.mapped n))
    nodes-agree n h = ∥∥₁_elim r (Bool-set _ _) λ l.
        node_lane t.source given xs source one n h
        ∙ (equal-signals-run _ _ _ _ t sessions-fit l.run).nodes (λ q. bit (ranked (kind_of s) given q)) n h
        ∙ sym (edge_lane t.reduced given ys reduced two (at 0 t.mapped n) (mapped-within t (run_consistent l.run) n))

    edges-agree : (e : ℕ) → node_of e ≤ length t.source → bit (edge_over (kind_of s) source e) ≡ bit (edge_over (kind_of s) reduced (map_edge t e))
    edges-agree e h = ∥∥₁_elim r (Bool-set _ _) λ l.
        edge_lane t.source given xs source one e h
        ∙ (equal-signals-run _ _ _ _ t sessions-fit l.run).edges (λ q. bit (ranked (kind_of s) given q)) e h
        ∙ sym (edge_lane t.reduced given ys reduced two (map_edge t e) (map-within t (run_consistent l.run) e))

-- every lane at once
pub all-agree : {S : Type 0} (s : Signal S) (acts : (i : ℕ) → i < s.lanes → Acts (kind_of s) (λ v. s.lane v i)) (t : State) → Reached t
    → (given xs ys source reduced : List S) → Walked s t.source given xs source → Walked s t.reduced given ys reduced → Agree s t source reduced
all-agree s acts t r given xs ys source reduced one two = record {
  nodes = λ n i h z. nodes-agree s (λ v. s.lane v i) (acts i z) t r given xs ys source reduced one two n h;
  edges = λ e i h z. edges-agree s (λ v. s.lane v i) (acts i z) t r given xs ys source reduced one two e h;
}
