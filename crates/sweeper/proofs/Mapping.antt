-- Mapped edges and outputs, as the tables hold them.
use Rattle.std.proofs.Common.{◌≡◌, ℕ, ◌+◌, ◌<◌, ◌≤◌, Bool, true, false, cond, ltb, ◌∷◌, length, set, Some, None, Ok, Err, Result, ⊎_elim, sym, refl, ap, ◌∙◌, ap₂, arith, length-set}
use Rattle.std.proofs.lemmas.Bool.{le-leb, lt-leb, lt-ltb, le-ltb, cases_lt}
use Rattle.model.specs.Edges.{node_of, sign_of, signed}
use Rattle.model.specs.Graphs.{at}
use Rattle.model.specs.Sessions.{State, positions, step, map_call, output_call, map_edge, knows, map_answer, looks, with_output}
use Rattle.model.specs.Sessions as model
use Rattle.model.specs.Runs.{Steps}
use Rattle.model.proofs.Growing.{at_zero}
use Rattle.cuts.specs.declared.edge.Edge.{Edge}
use Rattle.sweeper.specs.Tables.{Image, Sound, state_of, node_in, no_source, no_edge}
use Rattle.std.specs.Result.{MatchResult}
use Rattle.sweeper.specs.Answers.{mapped_by, told_edge}
use Rattle.sweeper.specs.Reports.{entry}
use Rattle.sweeper.specs.declared.refusal.Refusal.{Refusal}
use Rattle.sweeper.specs.declared.refusal.Refusal.TheVariants.{NoNode}
use Rattle.sweeper.proofs.Telling.{entry_some, entry_none}
use Rattle.sweeper.proofs.Newest.{newest-length, newest-push}

module _ (c : Image) where
  pub sources-are : length (state_of c).source ≡ c.sources
  sources-are = newest-length (λ r. node_in r.node) no_source c.source c.sources

  pub is_known : (e : ℕ) → node_of e ≤ c.sources → knows (state_of c).source e ≡ true
  is_known e h = le-leb _ _ (omega (arith, sources-are))

  pub is_unknown : (e : ℕ) → c.sources < node_of e → knows (state_of c).source e ≡ false
  is_unknown e h = lt-leb _ _ (omega (arith, sources-are))

  mapped-are : length (state_of c).mapped ≡ c.sources
  mapped-are = newest-length (λ r. r.mapped.number) no_source c.source c.sources

  mapped_at : (e r : Edge) (which m : ℕ) → node_of e.number ≤ c.sources → m ≡ at 0 (state_of c).mapped (node_of e.number) → r.number ≡ signed m (sign_of e.number) → Ok r ≡ mapped_by (state_of c) e which
  mapped_at e r which m h is signs = rw (is_known e.number h) (ap (λ n. Ok (record { number = n })) (signs ∙ ap (λ k. signed k (sign_of e.number)) is))

  -- the edge of the constant, of a row, and of no node
  pub mapped-constant : (e r : Edge) (which : ℕ) → node_of e.number ≡ 0 → r.number ≡ signed 0 (sign_of e.number) → Ok r ≡ mapped_by (state_of c) e which
  mapped-constant e r which h = mapped_at e r which 0 (omega arith) (sym (ap (at 0 (state_of c).mapped) h ∙ at_zero 0 (state_of c).mapped))

  pub mapped-row : (e p r : Edge) (which : ℕ) → Some p.number ≡ entry 0 (state_of c).mapped (node_of e.number) → r.number ≡ signed p.number (sign_of e.number) → Ok r ≡ mapped_by (state_of c) e which
  mapped-row e p r which is = let t = entry_some 0 (state_of c).mapped (node_of e.number) p.number is in mapped_at e r which p.number (omega (arith, t.0, mapped-are)) t.1

  pub mapped-none : (e : Edge) (which : ℕ) → (node_of e.number ≡ 0 → ⊥) → None ≡ entry 0 (state_of c).mapped (node_of e.number) → Err (NoNode which) ≡ mapped_by (state_of c) e which
  mapped-none e which some is = rw (is_unknown e.number (omega (arith, entry_none 0 (state_of c).mapped (node_of e.number) some is, mapped-are))) refl

  -- a refusal, or a known edge and where it maps to
  pub mapped_parts : (e : Edge) (which : ℕ) (x : Result Edge Refusal) → x ≡ mapped_by (state_of c) e which
      → MatchResult x (λ m. (node_of e.number ≤ c.sources) × (m.number ≡ map_edge (state_of c) e.number)) (λ r. (c.sources < node_of e.number) × (r ≡ NoNode which))
  mapped_parts e which x is = ⊎_elim
      (λ (h : c.sources < node_of e.number). rw (is, is_unknown e.number h) (h, refl))
      (λ (h : node_of e.number ≤ c.sources). rw (is, is_known e.number h) (h, refl)) (cases_lt c.sources (node_of e.number))

  pub map_steps : (e : Edge) (x : Result Edge Refusal) → x ≡ mapped_by (state_of c) e 0 → Steps positions (state_of c) (map_call e.number) (state_of c) (told_edge x)
  unfolding step
  map_steps e x is = record { state = refl; answer = ap told_edge is ∙ go (knows (state_of c).source e.number) }
    where
      go : (b : Bool) → told_edge (cond b (Ok (record { number = map_edge (state_of c) e.number })) (Err (NoNode 0))) ≡ cond b (model.mapped_edge (map_edge (state_of c) e.number)) (model.refused (model.no_node 0))
      go true = refl
      go false = refl

-- the tables after an output
abbrev pub after_output : Image → Edge → Image
after_output c e = record {
  source = c.source;
  reduced = c.reduced;
  cuts = c.cuts;
  pairs = c.pairs;
  keys = c.keys;
  outputs = set c.outputs c.outs e;
  capacity = c.capacity;
  sources = c.sources;
  nodes = c.nodes;
  outs = c.outs + 1;
  tally = c.tally;
}

pub output_sound : (c : Image) → Sound c → (e : Edge) → c.outs < length c.outputs → Sound (after_output c e)
output_sound c s e h =
    let z = length-set c.outputs c.outs e in
    record {
      few = s.few;
      room = s.room;
      fewer = s.fewer;
      source_rows = s.source_rows;
      reduced_rows = s.reduced_rows;
      cut_rows = s.cut_rows;
      pair_slots = s.pair_slots;
      key_slots = s.key_slots;
      output_rows = omega arith;
      few_outputs = omega (arith, s.few_outputs);
      kept = s.kept;
      heights = s.heights;
      uses = s.uses;
      tidy_pairs = s.tidy_pairs;
      pairs = s.pairs;
      few_pairs = s.few_pairs;
      tidy_keys = s.tidy_keys;
      keys = s.keys;
      few_keys = s.few_keys;
      constant = s.constant;
      tally_rows = s.tally_rows;
    }

module _ (c : Image) (e : ℕ) where
  abbrev choice : Bool → Bool → model.After
  choice k r = cond k (cond r (with_output (state_of c) (map_edge (state_of c) e)) (model.decline (state_of c) (model.no_output_row (length (state_of c).outputs)))) (model.decline (state_of c) (model.no_node 0))

  outs-are : length (state_of c).outputs ≡ c.outs
  outs-are = newest-length (λ r. r.number) no_edge c.outputs c.outs

  pub output_unknown : c.sources < node_of e → Steps positions (state_of c) (output_call e) (state_of c) (model.refused (model.no_node 0))
  unfolding step
  output_unknown h =
      let k = is_unknown c e h in
      record { state = sym (ap (λ b. (choice b (ltb (length (state_of c).outputs) (state_of c).rows_for_outputs)).state) k); answer = sym (ap (λ b. (choice b (ltb (length (state_of c).outputs) (state_of c).rows_for_outputs)).answer) k) }

  pub output_full : node_of e ≤ c.sources → length c.outputs ≤ c.outs → Steps positions (state_of c) (output_call e) (state_of c) (model.refused (model.no_output_row c.outs))
  unfolding step
  output_full h k =
      let a = is_known c e h in
      let b : ltb (length (state_of c).outputs) (state_of c).rows_for_outputs ≡ false = le-ltb _ _ (omega (arith, outs-are)) in
      record { state = sym (ap₂ (λ x y. (choice x y).state) a b); answer = ap (λ n. model.refused (model.no_output_row n)) (sym outs-are) ∙ sym (ap₂ (λ x y. (choice x y).answer) a b) }

  pub output_steps : (m : Edge) → m.number ≡ map_edge (state_of c) e → node_of e ≤ c.sources → c.outs < length c.outputs
      → Steps positions (state_of c) (output_call e) (state_of (after_output c m)) (model.mapped_edge m.number)
  unfolding step
  output_steps m is h k =
      let a = is_known c e h in
      let b : ltb (length (state_of c).outputs) (state_of c).rows_for_outputs ≡ true = lt-ltb _ _ (omega (arith, outs-are)) in
      record { state = after ∙ sym (ap₂ (λ x y. (choice x y).state) a b); answer = ap model.mapped_edge is ∙ sym (ap₂ (λ x y. (choice x y).answer) a b) }
    where
      after : state_of (after_output c m) ≡ (with_output (state_of c) (map_edge (state_of c) e)).state
      after = λ i. record {
        limits = model.lean;
        capacity = c.capacity;
        rows_for_outputs = length-set c.outputs c.outs m i;
        source = (state_of c).source;
        mapped = (state_of c).mapped;
        reduced = (state_of c).reduced;
        kept = (state_of c).kept;
        outputs = (newest-push (λ r. r.number) no_edge c.outputs m c.outs k ∙ ap (λ n. n ∷ (state_of c).outputs) is) i;
        tally = (state_of c).tally;
      }
