-- The laws over whole runs. They speak of values, fanins, keys, candidates, rankings and the history of calls.
use Rattle.std.specs.Prelude.{◌≡◌, ℕ, suc, ◌+◌, ◌*◌, ◌<◌, ◌≤◌, min, max, Bool, true, false, not, ◌⊎◌, List, [], ◌∷◌, map, length, Some, None, Option}
use mathlib.Core.List.{Memᴰ}
use Rattle.model.specs.Edges.{node_of, sign_of, edge}
use Rattle.model.specs.Cuts.{Cut, value_of, Formed, joined, key_of, key_list}
use Rattle.model.specs.Keys.{added}
use Rattle.model.specs.Graphs.{input, gate, Graph, at, inputs, Ordered, value, edge_value, cuts_of, find_key}
use Rattle.model.specs.Rankings.{Ranking, Every, First}
use Rattle.model.specs.Search.{Limits, by_leaves, leaf_in, pairs}
use Rattle.model.specs.Sessions.{positions, lean, State, Tables, Tally, Outcome, was_made, raised, no_tally, map_edge, capacity_of, node_limit, output_limit, step}
use Rattle.model.specs.Sessions.{Call, input_call, gate_call, output_call, map_call, walk_call, cone_call, Answer, node, swept, mapped_edge, filled, counted, refused, Refusal}
use Rattle.model.specs.GraphLaws.{Describes}
use Rattle.model.specs.Runs.{Event, Run, Steps}

-- ---- equal signals

-- every cut describes its node, every key its edge, and every source node has the value of its mapped edge
pub record EqualSignals (p : ℕ) (s : State) : Type 0 where
  pub nodes : (env : ℕ → Bool) (n : ℕ) → n ≤ length s.source → value s.source env n ≡ edge_value s.reduced env (at 0 s.mapped n)
  pub edges : (env : ℕ → Bool) (e : ℕ) → node_of e ≤ length s.source → edge_value s.source env e ≡ edge_value s.reduced env (map_edge s e)
  pub cuts : (n : ℕ) → 0 < n → n ≤ length s.reduced → Every (λ c. Formed p c × Describes s.reduced c n) (cuts_of p s.kept n)
  pub keys : (c : Cut) (e : ℕ) → Formed p c → find_key p s.kept (key_list p c) ≡ Some e
      → (env : ℕ → Bool) → value_of (key_of p c) (value s.reduced env) ≡ edge_value s.reduced env e

-- ---- a reduced graph

abbrev pub cons_some : Option Cut → List Cut → List Cut
cons_some None cs = cs
cons_some (Some c) cs = c ∷ cs

-- the joined cuts of pairs, in their order; a pair that is too wide is passed over
abbrev pub joins : (Cut → Cut → Option Cut) → List (Cut × Cut) → List Cut
joins join [] = []
joins join (q ∷ qs) = cons_some (join q.0 q.1) (joins join qs)

-- the first of each key, behind those that are done
abbrev pub first_of_each : {A : Type 0} → (A → List ℕ) → List A → List A → List A
first_of_each mean [] done = done
first_of_each mean (x ∷ xs) done = first_of_each mean xs (added mean x done)

-- the candidates of a gate with fanins x and y: the joined cuts of the two nodes' cuts, the first of each key
abbrev pub candidates_of : ℕ → ℕ → List (List Cut) → ℕ → ℕ → List Cut
candidates_of p k ks x y =
    first_of_each (key_list p) (joins (joined p k (sign_of x) (sign_of y)) (pairs (cuts_of p ks (node_of x)) (cuts_of p ks (node_of y)))) []

-- the mapped fanins of a gate call, the smaller first
abbrev pub low_fanin : State → ℕ → ℕ → ℕ
low_fanin s a b = min (map_edge s a) (map_edge s b)

abbrev pub high_fanin : State → ℕ → ℕ → ℕ
high_fanin s a b = max (map_edge s a) (map_edge s b)

-- a made gate: the next node, with these fanins; it keeps the first of its candidates, by the call's own ranking and by
-- the heights and uses just before the call, and no candidate that it left out ranks before one that it keeps
pub record KeptBy (p : ℕ) (before : State) (r : Ranking p) (a b e : ℕ) (now : State) : Type 0 where
  pub next : e ≡ edge (suc (length before.reduced)) false
  pub fanins : at input now.reduced (node_of e) ≡ gate (low_fanin before a b) (high_fanin before a b)
  pub first : (d : Cut) → First (by_leaves r.before (leaf_in before.reduced)) before.limits.kept d
      (candidates_of p before.limits.leaves before.kept (low_fanin before a b) (high_fanin before a b)) (at [] now.kept (node_of e))
  pub none : (c k : Cut) → Memᴰ c (candidates_of p before.limits.leaves before.kept (low_fanin before a b) (high_fanin before a b))
      → Memᴰ k (at [] now.kept (node_of e)) → Memᴰ c (at [] now.kept (node_of e)) ⊎ (by_leaves r.before (leaf_in before.reduced) c k ≡ false)

-- how many gate calls were answered so
abbrev pub answered_by : Answer → Tally → Tally
answered_by (node n) t = t
answered_by (swept o e) t = raised o t
answered_by (mapped_edge e) t = t
answered_by (filled n) t = t
answered_by (counted n) t = t
answered_by (refused r) t = t

abbrev pub tally_of : {p : ℕ} → List (Event p) → Tally
tally_of [] = no_tally
tally_of (e ∷ es) = answered_by e.answer (tally_of es)

abbrev pub gates : Graph → ℕ
gates [] = 0
gates (input ∷ g) = gates g
gates (gate x y ∷ g) = suc (gates g)

-- the gate call of the run that made the node
pub record MadeBy (p : ℕ) (es : List (Event p)) (n : ℕ) : Type 0 where
  pub event : Event p
  pub ranking : Ranking p
  pub first : ℕ
  pub second : ℕ
  pub in_run : Memᴰ event es
  pub call : event.call ≡ gate_call ranking first second
  pub answer : event.answer ≡ swept was_made (edge n false)

pub record ReducedGraph (p : ℕ) (es : List (Event p)) (s : State) : Type 0 where
  pub earlier : Ordered s.reduced
  pub one_a_pair : (m n x y : ℕ) → at input s.reduced m ≡ gate x y → at input s.reduced n ≡ gate x y → m ≡ n
  pub one_a_key : (m n : ℕ) (c d : Cut) → Memᴰ c (at [] s.kept m) → Memᴰ d (at [] s.kept n) → key_list p c ≡ key_list p d → m ≡ n
  pub kept : (e : Event p) (r : Ranking p) (a b f : ℕ) → Memᴰ e es → e.call ≡ gate_call r a b → e.answer ≡ swept was_made f → KeptBy p e.before r a b f s
  pub made : (n x y : ℕ) → at input s.reduced n ≡ gate x y → MadeBy p es n
  pub tally : s.tally ≡ tally_of es
  pub sum : gates s.source ≡ s.tally.made + s.tally.folded + s.tally.shared + s.tally.merged

-- ---- complete on few inputs

-- every accepted gate came with an inputs-first ranking
abbrev pub InputsFirst : (p : ℕ) → List (Event p) → Type 0
InputsFirst p es = (e : Event p) (r : Ranking p) (a b : ℕ) (o : Outcome) (f : ℕ) → Memᴰ e es → e.call ≡ gate_call r a b → e.answer ≡ swept o f → r.mark ≡ true

-- one reduced edge exactly for edges that agree under every assignment; no two reduced nodes, the constant among them, are equal or complementary
pub record Complete (s : State) : Type 0 where
  pub agree : (e f : ℕ) → node_of e ≤ length s.source → node_of f ≤ length s.source → map_edge s e ≡ map_edge s f
      → (env : ℕ → Bool) → edge_value s.source env e ≡ edge_value s.source env f
  pub one_edge : (e f : ℕ) → node_of e ≤ length s.source → node_of f ≤ length s.source
      → ((env : ℕ → Bool) → edge_value s.source env e ≡ edge_value s.source env f) → map_edge s e ≡ map_edge s f
  pub no_equal : (m n : ℕ) → m ≤ length s.reduced → n ≤ length s.reduced → ((env : ℕ → Bool) → value s.reduced env m ≡ value s.reduced env n) → m ≡ n
  pub no_opposite : (m n : ℕ) → m ≤ length s.reduced → n ≤ length s.reduced → ((env : ℕ → Bool) → value s.reduced env m ≡ not (value s.reduced env n)) → ⊥

-- ---- nothing is lost or invented

-- the source nodes that the calls tell: one for each accepted input or gate, in order
abbrev pub told_by : {p : ℕ} → Call p → Answer → Graph → Graph
told_by input_call (node n) g = input ∷ g
told_by input_call (swept o e) g = g
told_by input_call (mapped_edge e) g = g
told_by input_call (filled n) g = g
told_by input_call (counted n) g = g
told_by input_call (refused r) g = g
told_by (gate_call r a b) (node n) g = g
told_by (gate_call r a b) (swept o e) g = gate a b ∷ g
told_by (gate_call r a b) (mapped_edge e) g = g
told_by (gate_call r a b) (filled n) g = g
told_by (gate_call r a b) (counted n) g = g
told_by (gate_call r a b) (refused f) g = g
told_by (output_call e) a g = g
told_by (map_call e) a g = g
told_by (walk_call side n m) a g = g
told_by (cone_call e m c) a g = g

abbrev pub source_of : {p : ℕ} → List (Event p) → Graph
source_of [] = []
source_of (e ∷ es) = told_by e.call e.answer (source_of es)

-- the edges that the output calls were answered
abbrev pub output_by : {p : ℕ} → Call p → Answer → List ℕ → List ℕ
output_by input_call a os = os
output_by (gate_call r x y) a os = os
output_by (output_call e) (node n) os = os
output_by (output_call e) (swept o f) os = os
output_by (output_call e) (mapped_edge f) os = f ∷ os
output_by (output_call e) (filled n) os = os
output_by (output_call e) (counted n) os = os
output_by (output_call e) (refused r) os = os
output_by (map_call e) a os = os
output_by (walk_call side n m) a os = os
output_by (cone_call e m c) a os = os

abbrev pub outputs_of : {p : ℕ} → List (Event p) → List ℕ
outputs_of [] = []
outputs_of (e ∷ es) = output_by e.call e.answer (outputs_of es)

pub record NothingLost (p : ℕ) (m : Limits) (t : Tables) (es : List (Event p)) (s : State) : Type 0 where
  pub source : s.source ≡ source_of es
  pub outputs : s.outputs ≡ outputs_of es
  pub ordered : Ordered s.source
  pub one_map : length s.mapped ≡ length s.source
  pub one_row : length s.kept ≡ length s.reduced
  pub fewer : length s.reduced ≤ length s.source
  pub same_inputs : inputs s.reduced ≡ inputs s.source
  pub map_known : (e : ℕ) → node_of (map_edge s e) ≤ length s.reduced
  pub limits : s.limits ≡ m
  pub capacity : s.capacity ≡ capacity_of node_limit m.kept t
  pub rows : s.rows_for_outputs ≡ min output_limit t.outputs
  pub few_nodes : length s.source ≤ s.capacity
  pub few_outputs : length s.outputs ≤ s.rows_for_outputs
  -- nodes up to 16,383 and edges up to 32,767
  pub nodes_fit : length s.source ≤ node_limit
  pub edges_fit : (e : ℕ) → map_edge s e ≤ 2 * node_limit + 1
  -- a refused call changes nothing
  pub unchanged : (e : Event p) (f : Refusal) → Memᴰ e es → e.answer ≡ refused f → (step p e.before e.call).state ≡ e.before

-- ---- deterministic

-- the same call, but that a gate's ranking need only have the same relation
pub data SameCall {p : ℕ} : Call p → Call p → Type 0 where
  same_input : SameCall input_call input_call
  same_gate : {r q : Ranking p} (a b : ℕ) → r.before ≡ q.before → SameCall (gate_call r a b) (gate_call q a b)
  same_output : (e : ℕ) → SameCall (output_call e) (output_call e)
  same_map : (e : ℕ) → SameCall (map_call e) (map_call e)
  same_walk : (side : Rattle.model.specs.Sessions.Side) (n m : ℕ) → SameCall (walk_call side n m) (walk_call side n m)
  same_cone : (e m c : ℕ) → SameCall (cone_call e m c) (cone_call e m c)

pub data SameCalls {p : ℕ} : List (Event p) → List (Event p) → Type 0 where
  same_none : SameCalls [] []
  same_more : {d e : Event p} {ds es : List (Event p)} → SameCall d.call e.call → SameCalls ds es → SameCalls (d ∷ ds) (e ∷ es)

abbrev pub Deterministic : Type 0
Deterministic = (p : ℕ) (m : Limits) (t : Tables) (ds es : List (Event p)) (s u : State) → Run p m t ds s → Run p m t es u → SameCalls ds es
    → (s ≡ u) × (map (λ e. e.answer) ds ≡ map (λ e. e.answer) es)

-- ---- all together

-- the leaf limit fits the positions, and some cut is kept
pub record Fit (p : ℕ) (m : Limits) : Type 0 where
  pub some : 0 < p
  pub leaves : m.leaves ≤ p
  pub kept : 0 < m.kept

pub record Sound (p : ℕ) (m : Limits) (t : Tables) (es : List (Event p)) (s : State) : Type 0 where
  pub equal_signals : EqualSignals p s
  pub reduced_graph : ReducedGraph p es s
  pub complete : inputs s.source ≤ m.leaves → InputsFirst p es → Complete s
  pub nothing_lost : NothingLost p m t es s

abbrev pub OverRuns : ((p : ℕ) → Limits → Tables → List (Event p) → State → Type 0) → Type 0
OverRuns Law = (p : ℕ) (m : Limits) (t : Tables) (es : List (Event p)) (s : State) → Fit p m → Run p m t es s → Law p m t es s

abbrev pub RunsHaveEqualSignals : Type 0
RunsHaveEqualSignals = OverRuns (λ p m t es s. EqualSignals p s)

abbrev pub RunsReduceTheGraph : Type 0
RunsReduceTheGraph = OverRuns (λ p m t es s. ReducedGraph p es s)

abbrev pub RunsOnFewInputsAreComplete : Type 0
RunsOnFewInputsAreComplete = OverRuns (λ p m t es s. inputs s.source ≤ m.leaves → InputsFirst p es → Complete s)

abbrev pub RunsLoseNothing : Type 0
RunsLoseNothing = OverRuns (λ p m t es s. NothingLost p m t es s)

abbrev pub EveryRunIsSound : Type 0
EveryRunIsSound = OverRuns Sound

-- what a call means for whole runs: whatever run led to s, with this call it leads to u, and the longer run keeps all laws
pub record Extends (p : ℕ) (s : State) (c : Call p) (u : State) (a : Answer) : Type 0 where
  pub steps : Steps p s c u a
  pub whole : (m : Limits) (t : Tables) (es : List (Event p)) → Fit p m → Run p m t es s
      → Run p m t (record { before = s; call = c; answer = a } ∷ es) u × Sound p m t (record { before = s; call = c; answer = a } ∷ es) u

abbrev pub CallsExtendRuns : Type 0
CallsExtendRuns = (p : ℕ) (s : State) (c : Call p) → Extends p s c (step p s c).state (step p s c).answer

-- the numbers of a session fit
abbrev pub SessionsFit : Type 0
SessionsFit = Fit positions lean
