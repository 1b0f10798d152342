-- What the tables stand for: the state of a session in the model.
use Rattle.std.specs.Prelude.{◌≡◌, refl, ℕ, zero, suc, ◌+◌, ◌*◌, ◌<◌, ◌≤◌, List, [], ◌∷◌, ◌++◌, map, length, get_or, take, drop, Some, None, Option, slice_index_or, slice_set}
use Rattle.model.specs.Cuts.{Cut as Meant, key_list, key_sign}
use Rattle.model.specs.Keys.{first_of}
use Rattle.model.specs.Rankings.{Every, Before}
use Rattle.model.specs.Search.{Decision, chosen, by_leaves, leaf_in, search_in}
use Rattle.model.specs.Graphs.{input, gate, Graph, height, uses, find_pair, find_key, or_else}
use Rattle.model.specs.Graphs as graph
use Rattle.model.specs.Sessions.{State, positions, lean}
use Rattle.model.specs.Sessions as model
use Rattle.cuts.specs.declared.edge.Edge.{Edge}
use Rattle.cuts.specs.declared.cut.Cut.{Cut}
use Rattle.cuts.specs.Meaning.{meaning}
use Rattle.cuts.specs.Keys.{key_meaning}
use Rattle.lookup.specs.Pairs.{pair_meaning}
use Rattle.lookup.specs.Hash.{hashed_slot}
use Rattle.lookup.specs.Slots.{Slot, found}
use Rattle.lookup.specs.Entries.{Tidy, taken, Stands}
use Rattle.search.specs.declared.rows.Node.{Node}
use Rattle.search.specs.declared.rows.Node.TheVariants.{Input, Gate}
use Rattle.sweeper.specs.declared.rows.SourceRow.{SourceRow}
use Rattle.sweeper.specs.declared.rows.TheConstants.SourceRow.{EMPTY}
use Rattle.search.specs.declared.rows.ReducedRow.{ReducedRow}
use Rattle.search.specs.Leaves.{no_row}
use Rattle.sweeper.specs.declared.core_state.Core.{Core}
use Rattle.sweeper.specs.declared.tables.Tables.{Tables}
use Rattle.cuts.specs.declared.key.CutKey.{CutKey}
use Rattle.lookup.specs.declared.fanin_pair.FaninPair.{FaninPair}
use Rattle.sweeper.specs.declared.tally.Tally.{Tally}
use Rattle.sweeper.specs.declared.tally.Outcome.{Outcome}
use Rattle.model.specs.Edges.{node_of, signed}
use Rattle.sweeper.specs.Tallies.{tallied, raised}

abbrev pub node_in : Node → graph.Node
node_in Input = input
node_in (Gate a b) = gate a.number b.number

abbrev pub no_source : SourceRow
no_source = record { node = Input; mapped = record { number = 0 } }

pub empty_lem : EMPTY ≡ no_source
empty_lem = refl

abbrev pub no_reduced : ReducedRow
no_reduced = no_row

abbrev pub no_edge : Edge
no_edge = record { number = 0 }

-- the first n rows, the newest first, each by what it tells
unfoldable pub newest : {A B : Type 0} → (A → B) → A → List A → ℕ → List B
newest f d rows zero = []
newest f d rows (suc n) = f (slice_index_or rows n d) ∷ newest f d rows n

-- the kept cuts of the first n reduced nodes, the newest first; each node has four cut rows
unfoldable pub kept_from : List Cut → List ReducedRow → ℕ → List (List Meant)
kept_from cuts rows zero = []
kept_from cuts rows (suc i) = map meaning (take (get_or rows i no_reduced).kept (drop (4 * i) cuts)) ∷ kept_from cuts rows i

abbrev pub source_of : List SourceRow → ℕ → Graph
source_of rows n = newest (λ r. node_in r.node) no_source rows n

abbrev pub mapped_of : List SourceRow → ℕ → List ℕ
mapped_of rows n = newest (λ r. r.mapped.number) no_source rows n

abbrev pub reduced_of : List ReducedRow → ℕ → Graph
reduced_of rows n = newest (λ r. node_in r.node) no_reduced rows n

abbrev pub outputs_of : List Edge → ℕ → List ℕ
outputs_of rows n = newest (λ e. e.number) no_edge rows n

-- how long the tables are that a caller lends
abbrev pub lengths_of : Tables → model.Tables
lengths_of t = record {
  source = length t.source.now;
  reduced = length t.reduced.now;
  cuts = length t.cuts.now;
  pairs = length t.pairs.now;
  keys = length t.keys.now;
  outputs = length t.outputs.now;
}

-- the tables and counts, as lists and numbers
pub record Image : Type 0 where
  pub source : List SourceRow
  pub reduced : List ReducedRow
  pub cuts : List Cut
  pub pairs : List (Slot FaninPair)
  pub keys : List (Slot CutKey)
  pub outputs : List Edge
  pub capacity : ℕ
  pub sources : ℕ
  pub nodes : ℕ
  pub outs : ℕ
  pub tally : Tally

abbrev pub image : Core → Image
image c = record {
  source = c.source.places.now;
  reduced = c.reduced.places.now;
  cuts = c.cuts.now;
  pairs = c.pairs.slots.now;
  keys = c.keys.slots.now;
  outputs = c.outputs.places.now;
  capacity = c.capacity;
  sources = c.source.count;
  nodes = c.reduced.count;
  outs = c.outputs.count;
  tally = c.tally;
}

abbrev pub graph_of : Image → Graph
graph_of c = reduced_of c.reduced c.nodes

abbrev pub kept_of : Image → List (List Meant)
kept_of c = kept_from c.cuts c.reduced c.nodes

abbrev pub state_of : Image → State
state_of c = record {
  limits = lean;
  capacity = c.capacity;
  rows_for_outputs = length c.outputs;
  source = source_of c.source c.sources;
  mapped = mapped_of c.source c.sources;
  reduced = graph_of c;
  kept = kept_of c;
  outputs = outputs_of c.outputs c.outs;
  tally = tallied c.tally;
}

-- what the graph gives for the meaning of a pair of fanins
abbrev pub pair_look : Graph → List ℕ → Option ℕ
pair_look g [] = None
pair_look g (x ∷ []) = None
pair_look g (x ∷ (y ∷ [])) = find_pair x y g
pair_look g (x ∷ (y ∷ (z ∷ zs))) = None

-- the tables are long enough, the counts are in range, and rows and slots are those of the graph
pub record Sound (c : Image) : Type 0 where
  pub few : c.capacity ≤ 16383
  pub room : c.sources ≤ c.capacity
  pub fewer : c.nodes ≤ c.sources
  pub source_rows : c.capacity ≤ length c.source
  pub reduced_rows : c.capacity ≤ length c.reduced
  pub cut_rows : 4 * c.capacity ≤ length c.cuts
  pub pair_slots : c.capacity ≤ length c.pairs
  pub key_slots : 4 * c.capacity ≤ length c.keys
  pub output_rows : c.outs ≤ length c.outputs
  pub few_outputs : length c.outputs ≤ 16384
  pub constant : uses (graph_of c) 0 ≡ 0
  pub kept : (i : ℕ) → i < c.nodes → (get_or c.reduced i no_reduced).kept ≤ 4
  pub heights : (i : ℕ) → i < c.nodes → (get_or c.reduced i no_reduced).facts.height ≡ height (graph_of c) (suc i)
  pub uses : (i : ℕ) → i < c.nodes → (get_or c.reduced i no_reduced).facts.uses ≡ uses (graph_of c) (suc i)
  pub tidy_pairs : Tidy pair_meaning hashed_slot c.pairs
  pub pairs : (q : List ℕ) → found pair_meaning hashed_slot c.pairs q ≡ pair_look (graph_of c) q
  pub few_pairs : taken c.pairs ≤ c.nodes
  pub tidy_keys : Tidy key_meaning hashed_slot c.keys
  pub keys : (q : List ℕ) → found key_meaning hashed_slot c.keys q ≡ find_key positions (kept_of c) q
  pub few_keys : taken c.keys ≤ 4 * c.nodes
  pub tally_rows : length c.tally.rows ≡ 4

-- ---- one more source gate
abbrev pub after_edge : Image → Edge → Edge → Outcome → Edge → Image
after_edge c a b o m = record {
  source = slice_set c.source c.sources (record { node = Gate a b; mapped = m });
  reduced = c.reduced;
  cuts = c.cuts;
  pairs = c.pairs;
  keys = c.keys;
  outputs = c.outputs;
  capacity = c.capacity;
  sources = c.sources + 1;
  nodes = c.nodes;
  outs = c.outs;
  tally = raised c.tally o;
}

-- ---- one more gate
abbrev pub with_cuts : Image → List Cut → Image
with_cuts c cuts = record {
  source = c.source;
  reduced = c.reduced;
  cuts = cuts;
  pairs = c.pairs;
  keys = c.keys;
  outputs = c.outputs;
  capacity = c.capacity;
  sources = c.sources;
  nodes = c.nodes;
  outs = c.outs;
  tally = c.tally;
}

abbrev pub with_keys : Image → List (Slot CutKey) → Image
with_keys c keys = record {
  source = c.source;
  reduced = c.reduced;
  cuts = c.cuts;
  pairs = c.pairs;
  keys = keys;
  outputs = c.outputs;
  capacity = c.capacity;
  sources = c.sources;
  nodes = c.nodes;
  outs = c.outs;
  tally = c.tally;
}

-- a list with another from a place on
abbrev pub stored : {A : Type 0} → ℕ → List A → List A → List A
stored at xs ys = take at ys ++ (xs ++ drop (at + length xs) ys)

-- what is found once the kept keys are entered with an edge
abbrev pub look_with : List Meant → ℕ → (List ℕ → Option ℕ) → List ℕ → Option ℕ
look_with cs e look q = or_else (first_of (key_list positions) (λ c. Some (signed e (key_sign c))) None q cs) (look q)

-- the keys of cuts that no look-up knows are entered where there is room
pub record Enters (kept : List Cut) (e : ℕ) (slots more : List (Slot CutKey)) : Type 0 where
  pub room : length more ≡ length slots
  pub entered : (look : List ℕ → Option ℕ) → Stands key_meaning hashed_slot slots look (taken slots) → taken slots + length kept ≤ length slots
      → Every (λ c. look (key_list positions (meaning c)) ≡ None) kept
      → Stands key_meaning hashed_slot more (look_with (map meaning kept) e look) (taken more) × (taken more ≤ taken slots + length kept)

abbrev pub with_reduced : Image → List ReducedRow → Image
with_reduced c rows = record {
  source = c.source;
  reduced = rows;
  cuts = c.cuts;
  pairs = c.pairs;
  keys = c.keys;
  outputs = c.outputs;
  capacity = c.capacity;
  sources = c.sources;
  nodes = c.nodes;
  outs = c.outs;
  tally = c.tally;
}

abbrev pub with_pairs : Image → List (Slot FaninPair) → Image
with_pairs c pairs = record {
  source = c.source;
  reduced = c.reduced;
  cuts = c.cuts;
  pairs = pairs;
  keys = c.keys;
  outputs = c.outputs;
  capacity = c.capacity;
  sources = c.sources;
  nodes = c.nodes;
  outs = c.outs;
  tally = c.tally;
}

-- one more reduced row
abbrev pub with_row : Image → ReducedRow → Image
with_row c r = record {
  source = c.source;
  reduced = slice_set c.reduced c.nodes r;
  cuts = c.cuts;
  pairs = c.pairs;
  keys = c.keys;
  outputs = c.outputs;
  capacity = c.capacity;
  sources = c.sources;
  nodes = c.nodes + 1;
  outs = c.outs;
  tally = c.tally;
}

-- one more use in the row of a node
abbrev pub used_once : ReducedRow → ReducedRow
used_once r = record { node = r.node; facts = record { height = r.facts.height; uses = r.facts.uses + 1 }; kept = r.kept }

abbrev pub used_at : ℕ → List ReducedRow → List ReducedRow
used_at i rows = slice_set rows i (used_once (slice_index_or rows i no_reduced))

-- a gate that the graph can take: known fanins of two nodes, a new pair, new keys
pub record Growable (c : Image) (x y : ℕ) (kept : List Cut) : Type 0 where
  pub few : length kept ≤ 4
  pub room : c.nodes < c.sources
  pub first : 0 < node_of x
  pub first_known : node_of x ≤ c.nodes
  pub second : 0 < node_of y
  pub second_known : node_of y ≤ c.nodes
  pub apart : node_of x ≡ node_of y → ⊥
  pub new_pair : find_pair x y (graph_of c) ≡ None
  pub new_keys : Every (λ k. find_key positions (kept_of c) (key_list positions (meaning k)) ≡ None) kept
  pub unused : (n : ℕ) → c.nodes < n → uses (graph_of c) n ≡ 0

-- rows past the counts are as they were
pub record Rest (c d : Image) : Type 0 where
  pub source : drop d.sources d.source ≡ drop d.sources c.source
  pub reduced : drop d.nodes d.reduced ≡ drop d.nodes c.reduced
  pub cuts : drop (4 * d.nodes) d.cuts ≡ drop (4 * d.nodes) c.cuts
  pub outputs : drop d.outs d.outputs ≡ drop d.outs c.outputs

-- the graph with the gate, its kept cuts, and nothing else
pub record Grown (c : Image) (x y : ℕ) (kept : List Cut) (d : Image) : Type 0 where
  pub sound : Sound d
  pub graph : graph_of d ≡ gate x y ∷ graph_of c
  pub cuts : kept_of d ≡ map meaning kept ∷ kept_of c
  pub source : d.source ≡ c.source
  pub outputs : d.outputs ≡ c.outputs
  pub capacity : d.capacity ≡ c.capacity
  pub sources : d.sources ≡ c.sources
  pub nodes : d.nodes ≡ c.nodes + 1
  pub outs : d.outs ≡ c.outs
  pub tally : d.tally ≡ c.tally
  pub rest : Rest c d

-- what the cuts of both fanins decide
abbrev pub by_cuts : Before → Image → ℕ → ℕ → Decision
by_cuts before c x y = chosen lean.kept (by_leaves before (leaf_in (graph_of c))) (search_in positions lean.leaves (graph_of c) (kept_of c) x y)
