-- What a gate call does to the tables is what the model's step does to the state.
use Rattle.std.proofs.Common.{◌≡◌, ℕ, suc, ◌+◌, ◌<◌, ◌≤◌, min, max, Bool, true, false, cond, List, ◌∷◌, map, length, get_or, drop, set, Some, None, sym, refl, ap, ◌∙◌, ap₂, arith, length-set, get_or-set_other, get_or-set_same, drop-set-lt}
use Rattle.std.proofs.lemmas.Bool.{lt-ltb, le-ltb}
use Rattle.model.specs.Edges.{node_of, edge}
use Rattle.model.specs.Graphs.{gate, find_pair}
use Rattle.model.specs.Rankings.{Before, Ranking}
use Rattle.model.specs.Search.{Decision, folded, shared, made, fold_pair, decide, in_order}
use Rattle.model.specs.Sessions.{State, positions, lean, step, gate_call, gate_step, sweep_gate, with_gate, map_edge, knows, has_room, edge_of, outcome_of}
use Rattle.model.specs.Sessions as model
use Rattle.model.specs.Runs.{Steps}
use Rattle.cuts.specs.declared.cut.Cut.{Cut}
use Rattle.cuts.specs.declared.edge.Edge.{Edge}
use Rattle.cuts.specs.Meaning.{meaning}
use Rattle.search.specs.declared.rows.Node.TheVariants.{Gate}
use Rattle.sweeper.specs.declared.tally.Outcome.{Outcome}
use Rattle.sweeper.specs.declared.tally.Outcome.TheVariants.{Made, Folded, Shared, Merged}
use Rattle.sweeper.specs.declared.tally.Tally.{Tally}
use Rattle.sweeper.specs.Tallies.{count_of, raised, tallied, outcome_in, row_of, no_row}
use Rattle.sweeper.specs.Tables.{Image, Sound, state_of, graph_of, kept_of, node_in, no_source, no_edge, newest, after_edge, Grown, Rest, by_cuts}
use Rattle.sweeper.proofs.Newest.{newest-push}
use Rattle.sweeper.proofs.Mapping.{sources-are, is_known, is_unknown}

-- the tally in the model
pub tally-raised : (t : Tally) (o : Outcome) → length t.rows ≡ 4 → tallied (raised t o) ≡ model.raised (outcome_in o) (tallied t)
tally-raised t o h = go o
  where
    same : (k : ℕ) → k < 4 → (n : ℕ) → (get_or (set t.rows k (record { count = n })) k no_row).count ≡ n
    same k l n = ap (λ r. r.count) (get_or-set_same t.rows k (record { count = n }) no_row (omega arith))

    other : (k i : ℕ) → (i ≡ k → ⊥) → (n : ℕ) → (get_or (set t.rows k (record { count = n })) i no_row).count ≡ (get_or t.rows i no_row).count
    other k i ne n = ap (λ r. r.count) (get_or-set_other t.rows k i (record { count = n }) no_row ne)

    more : (n : ℕ) → n + 1 ≡ suc n
    more n = omega arith

    go : (o : Outcome) → tallied (raised t o) ≡ model.raised (outcome_in o) (tallied t)
    go Made = λ i. record {
      made = (same 0 (omega arith) (count_of t Made + 1) ∙ more (count_of t Made)) i;
      folded = other 0 1 (λ z. omega arith) (count_of t Made + 1) i;
      shared = other 0 2 (λ z. omega arith) (count_of t Made + 1) i;
      merged = other 0 3 (λ z. omega arith) (count_of t Made + 1) i;
    }
    go Folded = λ i. record {
      made = other 1 0 (λ z. omega arith) (count_of t Folded + 1) i;
      folded = (same 1 (omega arith) (count_of t Folded + 1) ∙ more (count_of t Folded)) i;
      shared = other 1 2 (λ z. omega arith) (count_of t Folded + 1) i;
      merged = other 1 3 (λ z. omega arith) (count_of t Folded + 1) i;
    }
    go Shared = λ i. record {
      made = other 2 0 (λ z. omega arith) (count_of t Shared + 1) i;
      folded = other 2 1 (λ z. omega arith) (count_of t Shared + 1) i;
      shared = (same 2 (omega arith) (count_of t Shared + 1) ∙ more (count_of t Shared)) i;
      merged = other 2 3 (λ z. omega arith) (count_of t Shared + 1) i;
    }
    go Merged = λ i. record {
      made = other 3 0 (λ z. omega arith) (count_of t Merged + 1) i;
      folded = other 3 1 (λ z. omega arith) (count_of t Merged + 1) i;
      shared = other 3 2 (λ z. omega arith) (count_of t Merged + 1) i;
      merged = (same 3 (omega arith) (count_of t Merged + 1) ∙ more (count_of t Merged)) i;
    }

-- no row changes
pub same_rest : (c : Image) → Rest c c
same_rest c = record { source = refl; reduced = refl; cuts = refl; outputs = refl }

pub edge-sound : (c : Image) → Sound c → (a b : Edge) (o : Outcome) (m : Edge) → c.sources < c.capacity → Sound (after_edge c a b o m)
edge-sound c s a b o m room =
    let source-length = length-set c.source c.sources (record { node = Gate a b; mapped = m }) in
    record {
      few = s.few;
      room = omega arith;
      fewer = omega (arith, s.fewer);
      source_rows = omega (arith, s.source_rows);
      reduced_rows = s.reduced_rows;
      cut_rows = s.cut_rows;
      pair_slots = s.pair_slots;
      key_slots = s.key_slots;
      output_rows = s.output_rows;
      few_outputs = s.few_outputs;
      kept = s.kept;
      heights = s.heights;
      uses = s.uses;
      tidy_pairs = s.tidy_pairs;
      pairs = s.pairs;
      few_pairs = s.few_pairs;
      tidy_keys = s.tidy_keys;
      keys = s.keys;
      few_keys = s.few_keys;
      constant = s.constant;
      tally_rows = length-set c.tally.rows (row_of o) (record { count = count_of c.tally o + 1 }) ∙ s.tally_rows;
    }

module _ (c : Image) (s : Sound c) (a b : Edge) (room : c.sources < c.capacity) where
  source-after : (o : Outcome) (m : Edge) → (state_of (after_edge c a b o m)).source ≡ gate a.number b.number ∷ (state_of c).source
  source-after o m = newest-push (λ r. node_in r.node) no_source c.source (record { node = Gate a b; mapped = m }) c.sources (omega (arith, s.source_rows))

  mapped-after : (o : Outcome) (m : Edge) → (state_of (after_edge c a b o m)).mapped ≡ m.number ∷ (state_of c).mapped
  mapped-after o m = newest-push (λ r. r.mapped.number) no_source c.source (record { node = Gate a b; mapped = m }) c.sources (omega (arith, s.source_rows))

  -- an edge that is there already
  pub edge-state : (o : Outcome) (m : Edge) (x y : ℕ) (d : Decision) → outcome_of d ≡ outcome_in o → edge_of (graph_of c) d ≡ m.number
      → model.reduced_after (graph_of c) x y d ≡ graph_of c → model.kept_after (kept_of c) d ≡ kept_of c
      → state_of (after_edge c a b o m) ≡ (with_gate (state_of c) a.number b.number x y d).state
  edge-state o m x y d ho he hg hk = λ i. record {
    limits = lean;
    capacity = c.capacity;
    rows_for_outputs = length c.outputs;
    source = source-after o m i;
    mapped = (mapped-after o m ∙ ap (λ n. n ∷ (state_of c).mapped) (sym he)) i;
    reduced = sym hg i;
    kept = sym hk i;
    outputs = (state_of c).outputs;
    tally = (tally-raised c.tally o s.tally_rows ∙ ap (λ q. model.raised q (tallied c.tally)) (sym ho)) i;
  }

  -- a new gate
  pub made-state : (m : Edge) (x y : ℕ) (kept : List Cut) (d : Image) → m.number ≡ edge (suc (length (graph_of c))) false → Grown (after_edge c a b Made m) x y kept d
      → state_of d ≡ (with_gate (state_of c) a.number b.number x y (made (map meaning kept))).state
  made-state m x y kept d is g = λ i. record {
    limits = lean;
    capacity = g.capacity i;
    rows_for_outputs = length (g.outputs i);
    source = (ap₂ (λ l n. newest (λ r. node_in r.node) no_source l n) g.source g.sources ∙ source-after Made m) i;
    mapped = (ap₂ (λ l n. newest (λ r. r.mapped.number) no_source l n) g.source g.sources ∙ mapped-after Made m ∙ ap (λ n. n ∷ (state_of c).mapped) is) i;
    reduced = g.graph i;
    kept = g.cuts i;
    outputs = ap₂ (λ l n. newest (λ e. e.number) no_edge l n) g.outputs g.outs i;
    tally = (ap tallied g.tally ∙ tally-raised c.tally Made s.tally_rows) i;
  }

  -- rows past the counts are as they were
  pub edge-rest : (o : Outcome) (m : Edge) → Rest c (after_edge c a b o m)
  edge-rest o m = record {
    source = drop-set-lt (c.sources + 1) c.source c.sources (record { node = Gate a b; mapped = m }) (omega arith);
    reduced = refl;
    cuts = refl;
    outputs = refl;
  }

  pub made-rest : (m : Edge) (x y : ℕ) (kept : List Cut) (d : Image) → Grown (after_edge c a b Made m) x y kept d → Rest c d
  made-rest m x y kept d g = record {
    source = ap₂ drop g.sources g.source ∙ (edge-rest Made m).source ∙ ap (λ n. drop n c.source) (sym g.sources);
    reduced = g.rest.reduced;
    cuts = g.rest.cuts;
    outputs = g.rest.outputs;
  }

-- ---- the checks
module _ (c : Image) (r : Ranking positions) (a b : ℕ) where
  abbrev choice : Bool → Bool → Bool → model.After
  choice k l h = cond k (cond l (cond h (sweep_gate positions r.before (state_of c) a b) (model.decline (state_of c) (model.at_capacity c.capacity))) (model.decline (state_of c) (model.no_node 1))) (model.decline (state_of c) (model.no_node 0))

  pub gate-first : c.sources < node_of a → Steps positions (state_of c) (gate_call r a b) (state_of c) (model.refused (model.no_node 0))
  unfolding step
  gate-first h =
      let k = is_unknown c a h in
      record { state = sym (ap (λ t. (choice t (knows (state_of c).source b) (has_room (state_of c))).state) k); answer = sym (ap (λ t. (choice t (knows (state_of c).source b) (has_room (state_of c))).answer) k) }

  pub gate-second : node_of a ≤ c.sources → c.sources < node_of b → Steps positions (state_of c) (gate_call r a b) (state_of c) (model.refused (model.no_node 1))
  unfolding step
  gate-second h l =
      let k = is_known c a h in
      let u = is_unknown c b l in
      record { state = sym (ap₂ (λ t v. (choice t v (has_room (state_of c))).state) k u); answer = sym (ap₂ (λ t v. (choice t v (has_room (state_of c))).answer) k u) }

  pub gate-full : node_of a ≤ c.sources → node_of b ≤ c.sources → c.capacity ≤ c.sources → Steps positions (state_of c) (gate_call r a b) (state_of c) (model.refused (model.at_capacity c.capacity))
  unfolding step
  gate-full h l f =
      let k = is_known c a h in
      let u = is_known c b l in
      let n : has_room (state_of c) ≡ false = le-ltb _ _ (omega (arith, sources-are c)) in
      record { state = sym (λ i. (choice (k i) (u i) (n i)).state); answer = sym (λ i. (choice (k i) (u i) (n i)).answer) }

  pub gate-done : node_of a ≤ c.sources → node_of b ≤ c.sources → c.sources < c.capacity → (x y : ℕ) → x ≡ min (map_edge (state_of c) a) (map_edge (state_of c) b) → y ≡ max (map_edge (state_of c) a) (map_edge (state_of c) b)
      → (d : Decision) → decide positions lean r.before (graph_of c) (kept_of c) x y ≡ d → (t : State) → t ≡ (with_gate (state_of c) a b x y d).state
      → Steps positions (state_of c) (gate_call r a b) t (model.swept (outcome_of d) (edge_of (graph_of c) d))
  unfolding step
  gate-done h l f x y ex ey d e t is =
      let k = is_known c a h in
      let u = is_known c b l in
      let n : has_room (state_of c) ≡ true = lt-ltb _ _ (omega (arith, sources-are c)) in
      let whole : with_gate (state_of c) a b x y d ≡ sweep_gate positions r.before (state_of c) a b =
      ap (with_gate (state_of c) a b x y) (sym e) ∙ ap₂ (λ p q. with_gate (state_of c) a b p q (decide positions lean r.before (graph_of c) (kept_of c) p q)) ex ey in
      record {
        state = is ∙ ap (λ w. w.state) whole ∙ sym (λ i. (choice (k i) (u i) (n i)).state);
        answer = ap (λ w. w.answer) whole ∙ sym (λ i. (choice (k i) (u i) (n i)).answer);
      }

-- ---- what is decided, and when
module _ (before : Before) (c : Image) (x y : ℕ) where
  pub decide-folded : (e : ℕ) → fold_pair x y ≡ Some e → decide positions lean before (graph_of c) (kept_of c) x y ≡ folded e
  unfolding decide
  decide-folded e h = ap (λ f. in_order f (find_pair x y (graph_of c)) (by_cuts before c x y)) h

  pub decide-shared : (e : ℕ) → fold_pair x y ≡ None → find_pair x y (graph_of c) ≡ Some e → decide positions lean before (graph_of c) (kept_of c) x y ≡ shared e
  unfolding decide
  decide-shared e h k = ap₂ (λ f g. in_order f g (by_cuts before c x y)) h k

  pub decide-cuts : (d : Decision) → fold_pair x y ≡ None → find_pair x y (graph_of c) ≡ None → d ≡ by_cuts before c x y → decide positions lean before (graph_of c) (kept_of c) x y ≡ d
  unfolding decide
  decide-cuts d h k e = ap₂ (λ f g. in_order f g (by_cuts before c x y)) h k ∙ sym e
