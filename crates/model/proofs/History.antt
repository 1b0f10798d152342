-- What a run's calls and answers tell of its session: nothing is lost or invented, and a run is determined by its calls.
use Rattle.std.proofs.Common.{◌≡◌, ℕ, ◌+◌, ◌≤◌, min, List, ◌∷◌, length, sym, refl, ap, ◌∙◌, ap₂, ⊎_elim, arith}
use mathlib.Core.List.Memᴰ
use mathlib.Core.List.{Memᴰ}
use Rattle.model.specs.Search.{Decision, folded, shared, merged, made, Limits}
use Rattle.model.specs.Sessions.{State, Tables, Answer}
use Rattle.model.specs.Sessions.{Call, After, with_gate, gate_step, step, capacity_of, node_limit, output_limit}
use Rattle.model.specs.Runs.{Event, Run, opening, calling, Steps}
use Rattle.model.specs.RunLaws.{low_fanin, high_fanin, answered_by, tally_of, gates, told_by, source_of, output_by, outputs_of, NothingLost, SameCall, same_input, same_gate, same_output, same_map, same_walk, same_cone, SameCalls, same_more, Deterministic, Fit}
use Rattle.model.proofs.Consistent.{map-within, run_consistent}
use Rattle.model.proofs.Steps.{Change, same, input-added, gate-added, output_added, change}
pub use Rattle.model.proofs.Steps.{refused_changes_nothing}

-- what the call and its answer tell of the state after it
pub record Told (p : ℕ) (s : State) (c : Call p) (a : Answer) (u : State) : Type 0 where
  pub source : u.source ≡ told_by c a s.source
  pub outputs : u.outputs ≡ output_by c a s.outputs
  pub tally : u.tally ≡ answered_by a s.tally
  pub limits : u.limits ≡ s.limits
  pub capacity : u.capacity ≡ s.capacity
  pub rows : u.rows_for_outputs ≡ s.rows_for_outputs

pub change-told : (p : ℕ) (s : State) (c : Call p) (u : After) → Change p s c u → Told p s c u.answer u.state
change-told p s c u (same a none e) = rw e (record { source = sym (none.source s.source); outputs = sym (none.outputs s.outputs); tally = sym (none.tally s.tally); limits = refl; capacity = refl; rows = refl })
change-told p s c u (input-added is _ e) = rw (e, is) (record { source = refl; outputs = refl; tally = refl; limits = refl; capacity = refl; rows = refl })
change-told p s c u (gate-added r a b d is _ _ _ _ e) = rw (e, is) (record { source = refl; outputs = refl; tally = refl; limits = refl; capacity = refl; rows = refl })
change-told p s c u (output_added o is _ _ e) = rw (e, is) (record { source = refl; outputs = refl; tally = refl; limits = refl; capacity = refl; rows = refl })

pub step-told : {p : ℕ} {s u : State} {c : Call p} {a : Answer} → Steps p s c u a → Told p s c a u
step-told {p} {s} {u} {c} {a} h = rw (h.state, h.answer) (change-told p s c (step p s c) (change p s c))

-- every swept gate is counted once
abbrev Summed : State → Type 0
Summed s = gates s.source ≡ s.tally.made + s.tally.folded + s.tally.shared + s.tally.merged

gate_summed : (s : State) (a b x y : ℕ) (d : Decision) → Summed s → Summed (with_gate s a b x y d).state
gate_summed s a b x y (folded e) h = omega arith
gate_summed s a b x y (shared e) h = omega arith
gate_summed s a b x y (merged e) h = omega arith
gate_summed s a b x y (made cs) h = omega arith

change_summed : (p : ℕ) (s : State) (c : Call p) (u : After) → Change p s c u → Summed s → Summed u.state
change_summed p s c u (same a _ e) h = rw e h
change_summed p s c u (input-added _ _ e) h = rw e h
change_summed p s c u (gate-added r a b d _ _ _ _ _ e) h = rw e (gate_summed s a b (low_fanin s a b) (high_fanin s a b) d h)
change_summed p s c u (output_added o _ _ _ e) h = rw e h

module _ {p : ℕ} {m : Limits} {t : Tables} where
  pub source_told : {es : List (Event p)} {s : State} → Run p m t es s → s.source ≡ source_of es
  source_told (opening e) = ap (λ (s : State). s.source) e
  source_told (calling {c = c} {a = a} r h) = (step-told h).source ∙ ap (told_by c a) (source_told r)

  pub outputs-told : {es : List (Event p)} {s : State} → Run p m t es s → s.outputs ≡ outputs_of es
  outputs-told (opening e) = ap (λ (s : State). s.outputs) e
  outputs-told (calling {c = c} {a = a} r h) = (step-told h).outputs ∙ ap (output_by c a) (outputs-told r)

  pub tally-told : {es : List (Event p)} {s : State} → Run p m t es s → s.tally ≡ tally_of es
  tally-told (opening e) = ap (λ (s : State). s.tally) e
  tally-told (calling {a = a} r h) = (step-told h).tally ∙ ap (answered_by a) (tally-told r)

  pub gates-told : {es : List (Event p)} {s : State} → Run p m t es s → gates s.source ≡ s.tally.made + s.tally.folded + s.tally.shared + s.tally.merged
  gates-told (opening e) = rw e refl
  gates-told (calling {s = s} {c = c} r h) = rw h.state (change_summed p s c (step p s c) (change p s c) (gates-told r))

  pub limits-stay : {es : List (Event p)} {s : State} → Run p m t es s → s.limits ≡ m
  limits-stay (opening e) = ap (λ (s : State). s.limits) e
  limits-stay (calling r h) = (step-told h).limits ∙ limits-stay r

  pub leaves-fit : {es : List (Event p)} {s : State} → Fit p m → Run p m t es s → s.limits.leaves ≤ p
  leaves-fit fit r = omega (arith, ap (λ (k : Limits). k.leaves) (limits-stay r), fit.leaves)

  pub capacity-stays : {es : List (Event p)} {s : State} → Run p m t es s → s.capacity ≡ capacity_of node_limit m.kept t
  capacity-stays (opening e) = ap (λ (s : State). s.capacity) e
  capacity-stays (calling r h) = (step-told h).capacity ∙ capacity-stays r

  pub rows_stay : {es : List (Event p)} {s : State} → Run p m t es s → s.rows_for_outputs ≡ min output_limit t.outputs
  rows_stay (opening e) = ap (λ (s : State). s.rows_for_outputs) e
  rows_stay (calling r h) = (step-told h).rows ∙ rows_stay r

  -- each event of a run is a step from the session before it
  pub event-steps : {es : List (Event p)} {s : State} → Run p m t es s → (e : Event p) → Memᴰ e es → e.answer ≡ (step p e.before e.call).answer
  event-steps (opening _) e i = absurd (Memᴰ.not-nil i)
  event-steps (calling r h) e i = ⊎_elim (λ q. rw q h.answer) (event-steps r e) (Memᴰ.cases_cons i)

pub nothing_lost : (p : ℕ) (m : Limits) (t : Tables) (es : List (Event p)) (s : State) → Run p m t es s → NothingLost p m t es s
nothing_lost p m t es s r =
    let k = run_consistent r in
    let few : length s.source ≤ node_limit = omega (arith, k.few_nodes, capacity-stays r) in
    record {
      source = source_told r;
      outputs = outputs-told r;
      ordered = k.ordered;
      one_map = k.one_map;
      one_row = k.one_row;
      fewer = k.fewer;
      same_inputs = k.same_inputs;
      map_known = map-within s k;
      limits = limits-stay r;
      capacity = capacity-stays r;
      rows = rows_stay r;
      few_nodes = k.few_nodes;
      few_outputs = k.few_outputs;
      nodes_fit = few;
      edges_fit = λ e. omega (arith, map-within s k e, k.fewer);
      unchanged = λ e f i h. refused_changes_nothing p e.before e.call f (sym (event-steps r e i) ∙ h);
    }

-- ---- deterministic

-- a step looks at a ranking's relation only
pub same_step : {p : ℕ} (s : State) {c d : Call p} → SameCall c d → step p s c ≡ step p s d
unfolding step
same_step s same_input = refl
same_step {p} s (same_gate a b e) = ap (λ before. gate_step p before s a b) e
same_step s (same_output e) = refl
same_step s (same_map e) = refl
same_step s (same_walk side n m) = refl
same_step s (same_cone e n m) = refl

first-same : {p : ℕ} {d e : Event p} {ds es : List (Event p)} → SameCalls (d ∷ ds) (e ∷ es) → SameCall d.call e.call
first-same (same_more h _) = h

rest-same : {p : ℕ} {d e : Event p} {ds es : List (Event p)} → SameCalls (d ∷ ds) (e ∷ es) → SameCalls ds es
rest-same (same_more _ h) = h

pub deterministic : Deterministic
deterministic p m t ds es s u (opening d) (opening e) h = (d ∙ sym e, refl)
deterministic p m t ds es s u (opening d) (calling q j) h = elim h [ ]
deterministic p m t ds es s u (calling r i) (opening e) h = elim h [ ]
deterministic p m t ds es s u (calling {es = ds'} {s = s'} {c = c} {a = a} r i) (calling {es = es'} {s = u'} {c = d} {a = b} q j) h =
    let before = deterministic p m t ds' es' s' u' r q (rest-same h) in
    let one : step p s' c ≡ step p u' d = same_step s' (first-same h) ∙ ap (λ (v : State). step p v d) before.0 in (
      i.state ∙ ap (λ (v : After). v.state) one ∙ sym j.state,
      ap₂ (λ (x : Answer) (xs : List Answer). x ∷ xs) (i.answer ∙ ap (λ (v : After). v.answer) one ∙ sym j.answer) before.1,
    )
