-- A session: its state, its calls, and what each call does and answers, a refused one included.
use Rattle.std.specs.Prelude.{ℕ, suc, ◌/◌, min, max, Bool, false, cond, List, [], ◌∷◌, length, ◌==◌, nat_le, nat_lt}
use Rattle.model.specs.Edges.{node_of, sign_of, edge, signed}
use Rattle.model.specs.Cuts.{Cut}
use Rattle.model.specs.Graphs.{input, gate, Graph, at, inputs, cone_of}
use Rattle.model.specs.Rankings.{Before, Ranking}
use Rattle.model.specs.Search.{Decision, folded, shared, merged, made, Limits, decide}

pub data Outcome : Type 0 where
  was_made : Outcome
  was_folded : Outcome
  was_shared : Outcome
  was_merged : Outcome

-- how many gate calls had each outcome
pub record Tally : Type 0 where
  pub made : ℕ
  pub folded : ℕ
  pub shared : ℕ
  pub merged : ℕ

-- one more of an outcome
abbrev pub raised : Outcome → Tally → Tally
raised was_made t = record { made = suc t.made; folded = t.folded; shared = t.shared; merged = t.merged }
raised was_folded t = record { made = t.made; folded = suc t.folded; shared = t.shared; merged = t.merged }
raised was_shared t = record { made = t.made; folded = t.folded; shared = suc t.shared; merged = t.merged }
raised was_merged t = record { made = t.made; folded = t.folded; shared = t.shared; merged = suc t.merged }

pub record State : Type 0 where
  pub limits : Limits
  pub capacity : ℕ
  pub rows_for_outputs : ℕ
  -- the graph handed in, and for each of its nodes the reduced edge, the newest first
  pub source : Graph
  pub mapped : List ℕ
  -- the graph built, and for each of its nodes the kept cuts, the newest first
  pub reduced : Graph
  pub kept : List (List Cut)
  -- the mapped edges of the outputs, the newest first
  pub outputs : List ℕ
  pub tally : Tally

-- the lengths of the tables that a session is opened on
pub record Tables : Type 0 where
  pub source : ℕ
  pub reduced : ℕ
  pub cuts : ℕ
  pub pairs : ℕ
  pub keys : ℕ
  pub outputs : ℕ

-- a row and a pair slot for each node but the constant, and as many cut rows and cut slots as it may keep
abbrev pub capacity_of : ℕ → ℕ → Tables → ℕ
capacity_of most n t = min most (min t.source (min t.reduced (min t.pairs (min (t.cuts / n) (t.keys / n)))))

abbrev pub node_limit : ℕ
node_limit = 16383

abbrev pub output_limit : ℕ
output_limit = 16384

abbrev pub no_tally : Tally
no_tally = record { made = 0; folded = 0; shared = 0; merged = 0 }

-- a session of these limits on these tables, with no input, gate or output yet
abbrev pub opened_with : Limits → Tables → State
opened_with m t = record {
  limits = m;
  capacity = capacity_of node_limit m.kept t;
  rows_for_outputs = min output_limit t.outputs;
  source = [];
  mapped = [];
  reduced = [];
  kept = [];
  outputs = [];
  tally = no_tally;
}

-- four positions, four leaves, four kept cuts
abbrev pub positions : ℕ
positions = 4

abbrev pub lean : Limits
lean = record { leaves = 4; kept = 4 }

abbrev pub opened : Tables → State
opened t = opened_with lean t

pub data Side : Type 0 where
  source_graph : Side
  reduced_graph : Side

pub data Call (p : ℕ) : Type 0 where
  input_call : Call p
  gate_call : Ranking p → ℕ → ℕ → Call p
  output_call : ℕ → Call p
  map_call : ℕ → Call p
  -- a graph, the number of signals and the number of result places
  walk_call : Side → ℕ → ℕ → Call p
  -- a reduced edge, the number of marks and the cap
  cone_call : ℕ → ℕ → ℕ → Call p

pub data Refusal : Type 0 where
  -- no such node: by the first edge or the second
  no_node : ℕ → Refusal
  at_capacity : ℕ → Refusal
  no_output_row : ℕ → Refusal
  wrong_signals : ℕ → Refusal
  too_short : ℕ → Refusal
  above_cap : ℕ → Refusal
  no_shape : ℕ → Refusal
  out_of_place : ℕ → Refusal
  wrong_number : ℕ → Refusal

abbrev pub refusal_number : Refusal → ℕ
refusal_number (no_node v) = 1
refusal_number (at_capacity v) = 2
refusal_number (no_output_row v) = 3
refusal_number (wrong_signals v) = 4
refusal_number (too_short v) = 5
refusal_number (above_cap v) = 6
refusal_number (no_shape v) = 7
refusal_number (out_of_place v) = 8
refusal_number (wrong_number v) = 9

-- the value returned with it: which edge, the capacity, the rows used, the count or length wanted, the cap, the line
abbrev pub refusal_value : Refusal → ℕ
refusal_value (no_node v) = v
refusal_value (at_capacity v) = v
refusal_value (no_output_row v) = v
refusal_value (wrong_signals v) = v
refusal_value (too_short v) = v
refusal_value (above_cap v) = v
refusal_value (no_shape v) = v
refusal_value (out_of_place v) = v
refusal_value (wrong_number v) = v

pub data Answer : Type 0 where
  node : ℕ → Answer
  swept : Outcome → ℕ → Answer
  mapped_edge : ℕ → Answer
  filled : ℕ → Answer
  counted : ℕ → Answer
  refused : Refusal → Answer

pub record After : Type 0 where
  pub state : State
  pub answer : Answer

-- the edge's node is the constant or stands in the graph
abbrev pub knows : Graph → ℕ → Bool
knows g e = nat_le (node_of e) (length g)

abbrev pub map_edge : State → ℕ → ℕ
map_edge s e = signed (at 0 s.mapped (node_of e)) (sign_of e)

abbrev pub has_room : State → Bool
has_room s = nat_lt (length s.source) s.capacity

-- a refused call leaves the state
abbrev pub decline : State → Refusal → After
decline s r = record { state = s; answer = refused r }

abbrev pub outcome_of : Decision → Outcome
outcome_of (folded e) = was_folded
outcome_of (shared e) = was_shared
outcome_of (merged e) = was_merged
outcome_of (made cs) = was_made

-- the edge that a gate call answers; g is the reduced graph before it
abbrev pub edge_of : Graph → Decision → ℕ
edge_of g (folded e) = e
edge_of g (shared e) = e
edge_of g (merged e) = e
edge_of g (made cs) = edge (suc (length g)) false

abbrev pub reduced_after : Graph → ℕ → ℕ → Decision → Graph
reduced_after g x y (folded e) = g
reduced_after g x y (shared e) = g
reduced_after g x y (merged e) = g
reduced_after g x y (made cs) = gate x y ∷ g

abbrev pub kept_after : List (List Cut) → Decision → List (List Cut)
kept_after ks (folded e) = ks
kept_after ks (shared e) = ks
kept_after ks (merged e) = ks
kept_after ks (made cs) = cs ∷ ks

-- one more source gate with fanins a and b, mapped to x and y, as was decided
abbrev pub with_gate : State → ℕ → ℕ → ℕ → ℕ → Decision → After
with_gate s a b x y d = record {
  state = record {
    limits = s.limits;
    capacity = s.capacity;
    rows_for_outputs = s.rows_for_outputs;
    source = gate a b ∷ s.source;
    mapped = edge_of s.reduced d ∷ s.mapped;
    reduced = reduced_after s.reduced x y d;
    kept = kept_after s.kept d;
    outputs = s.outputs;
    tally = raised (outcome_of d) s.tally;
  };
  answer = swept (outcome_of d) (edge_of s.reduced d);
}

-- one more input in both graphs, mapped to its plain edge
abbrev pub with_input : State → After
with_input s = record {
  state = record {
    limits = s.limits;
    capacity = s.capacity;
    rows_for_outputs = s.rows_for_outputs;
    source = input ∷ s.source;
    mapped = edge (suc (length s.reduced)) false ∷ s.mapped;
    reduced = input ∷ s.reduced;
    kept = [] ∷ s.kept;
    outputs = s.outputs;
    tally = s.tally;
  };
  answer = node (suc (length s.source));
}

abbrev pub with_output : State → ℕ → After
with_output s e = record {
  state = record {
    limits = s.limits;
    capacity = s.capacity;
    rows_for_outputs = s.rows_for_outputs;
    source = s.source;
    mapped = s.mapped;
    reduced = s.reduced;
    kept = s.kept;
    outputs = e ∷ s.outputs;
    tally = s.tally;
  };
  answer = mapped_edge e;
}

abbrev pub graph_of : Side → State → Graph
graph_of source_graph s = s.source
graph_of reduced_graph s = s.reduced

-- the two mapped fanins, the smaller first, and what is decided of them
abbrev pub sweep_gate : ℕ → Before → State → ℕ → ℕ → After
sweep_gate p before s a b =
    let x = min (map_edge s a) (map_edge s b) in
    let y = max (map_edge s a) (map_edge s b) in
    with_gate s a b x y (decide p s.limits before s.reduced s.kept x y)

-- the checks in number order, the first edge before the second
abbrev pub input_step : State → After
input_step s = cond (has_room s) (with_input s) (decline s (at_capacity s.capacity))

abbrev pub gate_step : ℕ → Before → State → ℕ → ℕ → After
gate_step p before s a b =
    let done = sweep_gate p before s a b in
    cond (knows s.source a)
    (cond (knows s.source b) (cond (has_room s) done (decline s (at_capacity s.capacity))) (decline s (no_node 1)))
    (decline s (no_node 0))

abbrev pub output_step : State → ℕ → After
output_step s e =
    cond (knows s.source e)
    (cond (nat_lt (length s.outputs) s.rows_for_outputs) (with_output s (map_edge s e)) (decline s (no_output_row (length s.outputs))))
    (decline s (no_node 0))

abbrev pub map_answer : State → ℕ → Answer
map_answer s e = cond (knows s.source e) (mapped_edge (map_edge s e)) (refused (no_node 0))

abbrev pub walk_answer : Graph → ℕ → ℕ → Answer
walk_answer g given places =
    cond (given == inputs g)
    (cond (nat_le (suc (length g)) places) (filled (suc (length g))) (refused (too_short (suc (length g)))))
    (refused (wrong_signals (inputs g)))

abbrev pub cone_answer : Graph → ℕ → ℕ → ℕ → Answer
cone_answer g e marks cap =
    let n = cone_of g e in
    cond (knows g e)
    (cond (nat_le (suc (length g)) marks) (cond (nat_le n cap) (counted n) (refused (above_cap cap))) (refused (too_short (suc (length g)))))
    (refused (no_node 0))

-- map, walk and cone leave the state
abbrev pub looks : State → Answer → After
looks s a = record { state = s; answer = a }

unfoldable pub step : (p : ℕ) → State → Call p → After
step p s input_call = input_step s
step p s (gate_call r a b) = gate_step p r.before s a b
step p s (output_call e) = output_step s e
step p s (map_call e) = looks s (map_answer s e)
step p s (walk_call side given places) = looks s (walk_answer (graph_of side s) given places)
step p s (cone_call e marks cap) = looks s (cone_answer s.reduced e marks cap)
