-- One more input keeps what the tables stand for.
use Rattle.std.proofs.Common.{◌≡◌, ℕ, suc, ◌+◌, ◌*◌, ◌<◌, ◌≤◌, true, false, cond, List, [], ◌∷◌, length, get_or, set, sym, refl, ap, ◌∙◌, subst, ⊎_elim, arith, length-set, get_or-set_other, get_or-set_same}
use Rattle.std.proofs.lemmas.Bool.{cases_eq, lt-ltb, le-ltb}
use Rattle.model.specs.Edges.{edge}
use Rattle.model.specs.Graphs.{input, height, uses, find_pair, find_key}
use Rattle.model.specs.Keys.{first_of}
use Rattle.model.specs.Sessions.{State, positions, step, input_call, with_input, has_room, input_step}
use Rattle.model.specs.Sessions as model
use Rattle.model.specs.Runs.{Steps}
use Rattle.model.proofs.Growing.{height-old}
use Rattle.model.proofs.Inputs.{input-height}
use Rattle.cuts.specs.declared.edge.Edge.{Edge}
use Rattle.search.specs.declared.rows.Node.TheVariants.{Input}
use Rattle.search.specs.declared.rows.ReducedRow.{ReducedRow}
use Rattle.sweeper.specs.Tables.{Image, Sound, state_of, graph_of, kept_of, node_in, no_source, no_reduced, newest, pair_look}
use Rattle.sweeper.specs.Runs.{Reached}
use Rattle.sweeper.proofs.Reaching.{unused}
use Rattle.sweeper.proofs.Newest.{newest-length, newest-push, kept_push}

abbrev input_row : ReducedRow
input_row = record { node = Input; facts = record { height = 0; uses = 0 }; kept = 0 }

-- the tables after the call
abbrev pub after_input : Image → Edge → Image
after_input c e = record {
  source = set c.source c.sources (record { node = Input; mapped = e });
  reduced = set c.reduced c.nodes input_row;
  cuts = c.cuts;
  pairs = c.pairs;
  keys = c.keys;
  outputs = c.outputs;
  capacity = c.capacity;
  sources = c.sources + 1;
  nodes = c.nodes + 1;
  outs = c.outs;
  tally = c.tally;
}

module _ (c : Image) (s : Sound c) (e : Edge) (room : c.sources < c.capacity) (is : e.number ≡ 2 * (c.nodes + 1)) where
  graph-after : graph_of (after_input c e) ≡ input ∷ graph_of c
  graph-after = newest-push (λ r. node_in r.node) no_reduced c.reduced input_row c.nodes (omega (arith, s.fewer, s.reduced_rows))

  kept-after : kept_of (after_input c e) ≡ [] ∷ kept_of c
  kept-after = kept_push c.cuts c.reduced input_row c.nodes (omega (arith, s.fewer, s.reduced_rows))

  pub input-state : state_of (after_input c e) ≡ (with_input (state_of c)).state
  input-state = λ i. record {
    limits = model.lean;
    capacity = c.capacity;
    rows_for_outputs = length c.outputs;
    source = newest-push (λ r. node_in r.node) no_source c.source (record { node = Input; mapped = e }) c.sources (omega (arith, s.source_rows)) i;
    mapped = mapped i;
    reduced = graph-after i;
    kept = kept-after i;
    outputs = (state_of c).outputs;
    tally = (state_of c).tally;
  }
    where
      mapped : newest (λ r. r.mapped.number) no_source (set c.source c.sources (record { node = Input; mapped = e })) (c.sources + 1) ≡ edge (suc (length (graph_of c))) false ∷ newest (λ r. r.mapped.number) no_source c.source c.sources
      mapped =
          newest-push (λ r. r.mapped.number) no_source c.source (record { node = Input; mapped = e }) c.sources (omega (arith, s.source_rows))
          ∙ ap (λ n. n ∷ newest (λ r. r.mapped.number) no_source c.source c.sources) (omega (arith, is, newest-length (λ r. node_in r.node) no_reduced c.reduced c.nodes))

  -- what holds of each row below the count, after one more
  row-after : (P : ReducedRow → ℕ → Type 0) → ((i : ℕ) → i < c.nodes → P (get_or c.reduced i no_reduced) i) → P input_row c.nodes
      → (i : ℕ) → i < c.nodes + 1 → P (get_or (set c.reduced c.nodes input_row) i no_reduced) i
  row-after P old new i h = ⊎_elim
      (λ (z : i ≡ c.nodes). subst (λ r. P r i) (sym (ap (λ n. get_or (set c.reduced c.nodes input_row) n no_reduced) z ∙ get_or-set_same c.reduced c.nodes input_row no_reduced (omega (arith, s.fewer, s.reduced_rows)))) (subst (P input_row) (sym z) new))
      (λ (z : i ≡ c.nodes → ⊥). subst (λ r. P r i) (sym (get_or-set_other c.reduced c.nodes i input_row no_reduced z)) (old i (omega arith)))
      (cases_eq i c.nodes)

  pair_input : (q : List ℕ) → pair_look (input ∷ graph_of c) q ≡ pair_look (graph_of c) q
  unfolding find_pair
  pair_input [] = refl
  pair_input (x ∷ []) = refl
  pair_input (x ∷ (y ∷ [])) = refl
  pair_input (x ∷ (y ∷ (z ∷ zs))) = refl

  key-input : (q : List ℕ) → find_key positions ([] ∷ kept_of c) q ≡ find_key positions (kept_of c) q
  unfolding find_key first_of
  key-input q = refl

  count : length (graph_of c) ≡ c.nodes
  count = newest-length (λ r. node_in r.node) no_reduced c.reduced c.nodes

  uses-input : (n : ℕ) → uses (input ∷ graph_of c) n ≡ uses (graph_of c) n
  unfolding uses
  uses-input n = refl

  height-row : (i : ℕ) → i < c.nodes → (get_or c.reduced i no_reduced).facts.height ≡ height (graph_of (after_input c e)) (suc i)
  height-row i h = s.heights i h ∙ sym (ap (λ g. height g (suc i)) graph-after ∙ height-old input (graph_of c) (suc i) (omega (arith, count)))

  height-new : 0 ≡ height (graph_of (after_input c e)) (suc c.nodes)
  height-new = sym (ap (λ g. height g (suc c.nodes)) graph-after ∙ ap (λ n. height (input ∷ graph_of c) (suc n)) (sym count) ∙ input-height (graph_of c))

  pub input-sound : Reached (state_of c) → Sound (after_input c e)
  input-sound reached =
      let source-length = length-set c.source c.sources (record { node = Input; mapped = e }) in
      let reduced-length = length-set c.reduced c.nodes input_row in
      record {
        few = s.few;
        room = omega arith;
        fewer = omega (arith, s.fewer);
        source_rows = omega (arith, s.source_rows);
        reduced_rows = omega (arith, s.reduced_rows);
        cut_rows = s.cut_rows;
        pair_slots = s.pair_slots;
        key_slots = s.key_slots;
        output_rows = s.output_rows;
        few_outputs = s.few_outputs;
        kept = row-after (λ r i. r.kept ≤ 4) s.kept (omega arith);
        heights = row-after (λ r i. r.facts.height ≡ height (graph_of (after_input c e)) (suc i)) height-row height-new;
        uses = row-after (λ r i. r.facts.uses ≡ uses (graph_of (after_input c e)) (suc i))
            (λ i h. s.uses i h ∙ sym (ap (λ g. uses g (suc i)) graph-after ∙ uses-input (suc i)))
            (sym (ap (λ g. uses g (suc c.nodes)) graph-after ∙ uses-input (suc c.nodes) ∙ unused (state_of c) reached (suc c.nodes) (omega (arith, count))));
        tidy_pairs = s.tidy_pairs;
        pairs = λ q. s.pairs q ∙ sym (ap (λ g. pair_look g q) graph-after ∙ pair_input q);
        few_pairs = omega (arith, s.few_pairs);
        tidy_keys = s.tidy_keys;
        keys = λ q. s.keys q ∙ sym (ap (λ ks. find_key positions ks q) kept-after ∙ key-input q);
        few_keys = omega (arith, s.few_keys);
        constant = ap (λ g. uses g 0) graph-after ∙ uses-input 0 ∙ s.constant;
        tally_rows = s.tally_rows;
      }

  pub input-steps : Steps positions (state_of c) input_call (state_of (after_input c e)) (model.node (c.sources + 1))
  unfolding step
  input-steps = record {
    state = input-state ∙ sym (ap (λ b. (cond b (with_input (state_of c)) (model.decline (state_of c) (model.at_capacity c.capacity))).state) has);
    answer = ap model.node (omega (arith, sources)) ∙ sym (ap (λ b. (cond b (with_input (state_of c)) (model.decline (state_of c) (model.at_capacity c.capacity))).answer) has);
  }
    where
      sources : length (state_of c).source ≡ c.sources
      sources = newest-length (λ r. node_in r.node) no_source c.source c.sources

      has : has_room (state_of c) ≡ true
      has = lt-ltb _ _ (omega (arith, sources))

-- at the capacity
pub input-full : (c : Image) → c.capacity ≤ c.sources → Steps positions (state_of c) input_call (state_of c) (model.refused (model.at_capacity c.capacity))
unfolding step
input-full c h = record { state = sym (ap (λ b. (cond b (with_input (state_of c)) (model.decline (state_of c) (model.at_capacity c.capacity))).state) none); answer = sym (ap (λ b. (cond b (with_input (state_of c)) (model.decline (state_of c) (model.at_capacity c.capacity))).answer) none) }
  where
    none : has_room (state_of c) ≡ false
    none = le-ltb _ _ (omega (arith, newest-length (λ r. node_in r.node) no_source c.source c.sources))
