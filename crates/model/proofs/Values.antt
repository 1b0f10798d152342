-- Every call keeps the values: source nodes have the values of their mapped edges, and cuts describe their nodes.
use Rattle.std.proofs.Common.{◌≡◌, ℕ, suc, ◌<◌, ◌≤◌, min, max, Bool, false, ◌&&◌, List, [], ◌∷◌, length, sym, refl, ap, ◌∙◌, subst, ap₂, ⊎_elim, arith}
use mathlib.Core.Bool.{and_comm}
use Rattle.std.proofs.lemmas.Bool.{cases_lt}
use Rattle.model.specs.Tables.{flip_if}
use Rattle.model.specs.Edges.{node_of, sign_of, edge}
use Rattle.model.specs.Cuts.{Cut, Formed}
use Rattle.model.specs.Graphs.{Node, input, gate, Graph, at, bits, signals, value, edge_value, cuts_of}
use Rattle.model.specs.GraphLaws.{Describes}
use Rattle.model.specs.Rankings.{Every}
use Rattle.model.specs.Search.{Decision, folded, shared, merged, made, Limits}
use Rattle.model.specs.Sessions.{State, Tables, Call, After, step, opened_with, map_edge, with_input, with_gate}
use Rattle.model.specs.Runs.{Event, Run, opening, calling}
use Rattle.model.specs.RunLaws.{low_fanin, high_fanin, EqualSignals, Fit}
use Rattle.model.proofs.Meaning.{value_alike}
use Rattle.model.proofs.Lists.{every_in, every_weaken}
use Rattle.model.proofs.Growing.{at_more, edge-old, value-old, signal_input, signal_gate}
use Rattle.model.proofs.Signs.{edge-value, value-edge, value-signed}
use Rattle.model.proofs.Deciding.{CutFor, CutOf, KeptWell, AndOf, EdgeFor, Right, decide-right, key-edge, cuts_of_lem}
use Rattle.model.proofs.Steps.{Change, same, input-added, gate-added, output_added, change}
use Rattle.model.proofs.Consistent.{Consistent, mapped-within, fanins-within, run_consistent}
use Rattle.model.proofs.History.{leaves-fit}

pub record Well (p : ℕ) (s : State) : Type 0 where
  pub equal : (env : ℕ → Bool) (n : ℕ) → n ≤ length s.source → value s.source env n ≡ edge_value s.reduced env (at 0 s.mapped n)
  pub kept : KeptWell p s.reduced s.kept

-- a cut goes on giving what it gave where one more node comes
cut-grows : (p : ℕ) (nd : Node) (g : Graph) (v w : (ℕ → Bool) → Bool) → ((env : ℕ → Bool) → v env ≡ w env) → (c : Cut) → CutFor p g v c → CutFor p (nd ∷ g) w c
cut-grows p nd g v w e c f = record {
  formed = f.formed;
  leaves = every_weaken (λ l. (0 < l) × (l ≤ length g)) (λ l. (0 < l) × (l ≤ suc (length g))) c.leaves (λ l k. (k.0, omega (arith, k.1))) f.leaves;
  describes = λ env.
      value_alike c (value (nd ∷ g) env) (value g env) (λ l k. value-old nd g env l (every_in (λ m. (0 < m) × (m ≤ length g)) c.leaves l f.leaves k).1)
      ∙ f.describes env ∙ e env;
}

kept-grows : (p : ℕ) (nd : Node) (g : Graph) (cs : List Cut) (ks : List (List Cut)) → KeptWell p g ks → Every (CutOf p (nd ∷ g) (suc (length g))) cs → KeptWell p (nd ∷ g) (cs ∷ ks)
kept-grows p nd g cs ks w h = record {
  same = ap suc w.same;
  cuts = at_more (λ n. Every (CutOf p (nd ∷ g) n)) [] cs ks
      (λ n z. every_weaken (CutOf p g n) (CutOf p (nd ∷ g) n) (at [] ks n) (cut-grows p nd g _ _ (λ env. sym (value-old nd g env n (omega (arith, w.same))))) (w.cuts n))
      (subst (λ k. Every (CutOf p (nd ∷ g) (suc k)) cs) (sym w.same) h) (λ n _. tt);
}

-- the AND of two values, the smaller edge first
in_order : (f : ℕ → Bool) (u v : ℕ) → (f (min u v) && f (max u v)) ≡ (f u && f v)
in_order f u v = ⊎_elim
    (λ (z : u < v). let a : min u v ≡ u = omega arith in let b : max u v ≡ v = omega arith in ap₂ (λ m n. f m && f n) a b)
    (λ (z : v ≤ u). let a : min u v ≡ v = omega arith in let b : max u v ≡ u = omega arith in ap₂ (λ m n. f m && f n) a b ∙ and_comm (f v) (f u))
    (cases_lt u v)

pub edges-equal : (p : ℕ) (s : State) → Well p s → (env : ℕ → Bool) (e : ℕ) → node_of e ≤ length s.source → edge_value s.source env e ≡ edge_value s.reduced env (map_edge s e)
edges-equal p s w env e h =
    edge-value s.source env e ∙ ap (flip_if (sign_of e)) (w.equal env (node_of e) h) ∙ sym (value-signed s.reduced env (at 0 s.mapped (node_of e)) (sign_of e))

module _ (p : ℕ) (s : State) (k : Consistent s) (w : Well p s) where
  -- values after one more source node, given those of the new node and what the reduced graph became
  values-go : (nd : Node) (e : ℕ) (h : Graph) → ((env : ℕ → Bool) (f : ℕ) → node_of f ≤ length s.reduced → edge_value h env f ≡ edge_value s.reduced env f)
      → ((env : ℕ → Bool) → value (nd ∷ s.source) env (suc (length s.source)) ≡ edge_value h env e)
      → (env : ℕ → Bool) (n : ℕ) → n ≤ suc (length s.source) → value (nd ∷ s.source) env n ≡ edge_value h env (at 0 (e ∷ s.mapped) n)
  values-go nd e h old new env = at_more (λ n f. n ≤ suc (length s.source) → value (nd ∷ s.source) env n ≡ edge_value h env f) 0 e s.mapped
      (λ n z _. let low : n ≤ length s.source = omega (arith, k.one_map) in
      value-old nd s.source env n low ∙ w.equal env n low ∙ sym (old env (at 0 s.mapped n) (mapped-within s k n)))
      (λ _. ap (λ m. value (nd ∷ s.source) env (suc m)) k.one_map ∙ new env)
      (λ n z i. absurd (omega (arith, k.one_map)))

  -- ---- an input
  well_input : Well p (with_input s).state
  well_input = record {
    equal = values-go input (edge (suc (length s.reduced)) false) (input ∷ s.reduced) (λ env f h. edge-old bits env input s.reduced f h)
        (λ env. signal_input bits env s.source ∙ ap env (sym k.same_inputs) ∙ sym (value-edge (input ∷ s.reduced) env (suc (length s.reduced)) false ∙ signal_input bits env s.reduced));
    kept = kept-grows p input s.reduced [] s.kept w.kept tt;
  }

  -- ---- a gate
  module _ (a b : ℕ) (ka : node_of a ≤ length s.source) (kb : node_of b ≤ length s.source) where
    abbrev x : ℕ
    x = low_fanin s a b

    abbrev y : ℕ
    y = high_fanin s a b

    gate-value : (env : ℕ → Bool) → value (gate a b ∷ s.source) env (suc (length s.source)) ≡ (edge_value s.reduced env x && edge_value s.reduced env y)
    gate-value env =
        signal_gate bits env s.source a b ∙ ap₂ ◌&&◌ (edges-equal p s w env a ka) (edges-equal p s w env b kb)
        ∙ sym (in_order (edge_value s.reduced env) (map_edge s a) (map_edge s b))

    -- mapped to an edge that is there
    to-edge : (e : ℕ) → EdgeFor s.reduced x y e → (env : ℕ → Bool) (n : ℕ) → n ≤ suc (length s.source) → value (gate a b ∷ s.source) env n ≡ edge_value s.reduced env (at 0 (e ∷ s.mapped) n)
    to-edge e f = values-go (gate a b) e s.reduced (λ env g h. refl) (λ env. gate-value env ∙ sym (f.value env))

    well_decided : (d : Decision) → Right p s.reduced x y d → Well p (with_gate s a b x y d).state
    well_decided (folded e) f = record { equal = to-edge e f; kept = w.kept }
    well_decided (shared e) f = record { equal = to-edge e f; kept = w.kept }
    well_decided (merged e) f = record { equal = to-edge e f; kept = w.kept }
    well_decided (made cs) f = record {
      equal = values-go (gate a b) (edge (suc (length s.reduced)) false) (gate x y ∷ s.reduced) (λ env g h. edge-old bits env (gate x y) s.reduced g h)
          (λ env. gate-value env ∙ sym (value-edge (gate x y ∷ s.reduced) env (suc (length s.reduced)) false ∙ signal_gate bits env s.reduced x y));
      kept = kept-grows p (gate x y) s.reduced cs s.kept w.kept (every_weaken (AndOf p s.reduced x y) (CutOf p (gate x y ∷ s.reduced) (suc (length s.reduced))) cs
          (cut-grows p (gate x y) s.reduced _ _ (λ env. sym (signal_gate bits env s.reduced x y))) f);
    }

-- ---- every call keeps it
change_well : (p : ℕ) (s : State) (c : Call p) (u : After) → Change p s c u → 0 < p → s.limits.leaves ≤ p → Consistent s → Well p s → Well p u.state
change_well p s c u (same a _ e) pos fits k w = rw e w
change_well p s c u (input-added _ _ e) pos fits k w = rw e (well_input p s k w)
change_well p s c u (gate-added r a b d _ ka kb _ is e) pos fits k w =
    let x = low_fanin s a b in
    let y = high_fanin s a b in
    let known = fanins-within s k a b in
    let right = decide-right p s.limits r.before s.reduced s.kept pos fits k.reduced-ordered w.kept x y (omega arith) known.0 known.1 in
    rw e (well_decided p s k w a b ka kb d (subst (Right p s.reduced x y) (sym is) right))
change_well p s c u (output_added o _ _ _ e) pos fits k w = rw e (record { equal = w.equal; kept = w.kept })

well_opened : (p : ℕ) (m : Limits) (t : Tables) → Well p (opened_with m t)
unfolding signals
well_opened p m t = record { equal = λ env n h. refl; kept = record { same = refl; cuts = λ n. tt } }

pub well_run : {p : ℕ} {m : Limits} {t : Tables} {es : List (Event p)} {s : State} → Fit p m → Run p m t es s → Well p s
well_run {p} {m} {t} fit (opening e) = subst (Well p) (sym e) (well_opened p m t)
well_run {p} fit (calling {s = u} {c = c} r h) =
    subst (Well p) (sym h.state) (change_well p u c (step p u c) (change p u c) fit.some (leaves-fit fit r) (run_consistent r) (well_run fit r))

pub equal_signals : (p : ℕ) (s : State) → 0 < p → Well p s → EqualSignals p s
equal_signals p s pos w = record {
  nodes = w.equal;
  edges = edges-equal p s w;
  cuts = λ n h k. every_weaken (CutOf p s.reduced n) (λ c. Formed p c × Describes s.reduced c n) (cuts_of p s.kept n) (λ c f. (f.formed, f.describes)) (cuts_of_lem p s.reduced s.kept n pos h k w.kept);
  keys = λ c e f h. (key-edge p s.reduced s.kept w.kept c e f h).1;
}
