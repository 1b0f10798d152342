-- What one call can do to a session and answer, said once.
use Rattle.std.proofs.Common.{◌≡◌, ℕ, suc, ◌<◌, ◌≤◌, eqb, ltb, leb, List, [], length, refl, ap, arith}
use Rattle.std.proofs.lemmas.Bool.{cond_both, ltb-true, leb-true}
use Rattle.model.specs.Edges.{node_of}
use Rattle.model.specs.Graphs.{Graph, inputs, cone_of}
use Rattle.model.specs.Rankings.{Ranking}
use Rattle.model.specs.Search.{Decision, decide}
use Rattle.model.specs.Sessions.{State, Tally, Outcome, After, Answer, swept, mapped_edge, filled, counted, refused, Refusal, no_node, at_capacity, no_output_row, wrong_signals, too_short, above_cap}
use Rattle.model.specs.Sessions.{Call, input_call, gate_call, output_call, map_call, walk_call, cone_call, Side, step, knows, has_room, map_edge, decline, looks, with_input, with_gate, with_output, graph_of}
use Rattle.model.specs.RunLaws.{low_fanin, high_fanin, told_by, output_by, answered_by}

-- the call and its answer tell of no new node, no new output and no swept gate
pub record AddsNothing (p : ℕ) (c : Call p) (a : Answer) : Type 0 where
  pub source : (g : Graph) → told_by c a g ≡ g
  pub outputs : (os : List ℕ) → output_by c a os ≡ os
  pub tally : (t : Tally) → answered_by a t ≡ t
  pub unswept : (o : Outcome) (e : ℕ) → a ≡ swept o e → ⊥

pub data Change (p : ℕ) (s : State) (c : Call p) (u : After) : Type 0 where
  same : (a : Answer) → AddsNothing p c a → u ≡ looks s a → Change p s c u
  input-added : c ≡ input_call → length s.source < s.capacity → u ≡ with_input s → Change p s c u
  gate-added : (r : Ranking p) (a b : ℕ) (d : Decision) → c ≡ gate_call r a b
      → node_of a ≤ length s.source → node_of b ≤ length s.source → length s.source < s.capacity
      → d ≡ decide p s.limits r.before s.reduced s.kept (low_fanin s a b) (high_fanin s a b)
      → u ≡ with_gate s a b (low_fanin s a b) (high_fanin s a b) d → Change p s c u
  output_added : (e : ℕ) → c ≡ output_call e → node_of e ≤ length s.source → length s.outputs < s.rows_for_outputs
      → u ≡ with_output s (map_edge s e) → Change p s c u

-- a refusal tells nothing, whatever the call
refused-tells : {p : ℕ} (c : Call p) (f : Refusal) (g : Graph) (os : List ℕ) → (told_by c (refused f) g ≡ g) × (output_by c (refused f) os ≡ os)
refused-tells input_call f g os = (refl, refl)
refused-tells (gate_call r a b) f g os = (refl, refl)
refused-tells (output_call e) f g os = (refl, refl)
refused-tells (map_call e) f g os = (refl, refl)
refused-tells (walk_call side n m) f g os = (refl, refl)
refused-tells (cone_call e n m) f g os = (refl, refl)

module _ {p : ℕ} (s : State) where
  looked : (c : Call p) (a : Answer) → ((g : Graph) → told_by c a g ≡ g) → ((os : List ℕ) → output_by c a os ≡ os) → ((t : Tally) → answered_by a t ≡ t)
      → ((o : Outcome) (e : ℕ) → a ≡ swept o e → ⊥) → Change p s c (looks s a)
  looked c a source outputs tally unswept = same a (record { source = source; outputs = outputs; tally = tally; unswept = unswept }) refl

  declined : (c : Call p) (f : Refusal) → Change p s c (decline s f)
  declined c f = looked c (refused f) (λ g. (refused-tells c f g []).0) (λ os. (refused-tells c f [] os).1) (λ t. refl) (λ o e h. let z : ◌≡◌ {A = ℕ} 0 1 = cc in omega arith)

  mapped_by : (e f : ℕ) → Change p s (map_call e) (looks s (mapped_edge f))
  mapped_by e f = looked (map_call e) (mapped_edge f) (λ g. refl) (λ os. refl) (λ t. refl) (λ o e h. let z : ◌≡◌ {A = ℕ} 0 1 = cc in omega arith)

  walked_by : (side : Side) (n m k : ℕ) → Change p s (walk_call side n m) (looks s (filled k))
  walked_by side n m k = looked (walk_call side n m) (filled k) (λ g. refl) (λ os. refl) (λ t. refl) (λ o e h. let z : ◌≡◌ {A = ℕ} 0 1 = cc in omega arith)

  counted_by : (e n m k : ℕ) → Change p s (cone_call e n m) (looks s (counted k))
  counted_by e n m k = looked (cone_call e n m) (counted k) (λ g. refl) (λ os. refl) (λ t. refl) (λ o e h. let z : ◌≡◌ {A = ℕ} 0 1 = cc in omega arith)

pub change : (p : ℕ) (s : State) (c : Call p) → Change p s c (step p s c)
unfolding step
change p s input_call =
    cond_both (has_room s) _ _ (Change p s input_call) (λ h. input-added refl (ltb-true (length s.source) s.capacity h) refl) (λ _. declined s input_call (at_capacity s.capacity))
change p s (gate_call r a b) =
    let C : After → Type 0 = Change p s (gate_call r a b) in
    cond_both (knows s.source a) _ _ C
    (λ ha. cond_both (knows s.source b) _ _ C
    (λ hb. cond_both (has_room s) _ _ C
    (λ h. gate-added r a b _ refl (leb-true (node_of a) (length s.source) ha) (leb-true (node_of b) (length s.source) hb) (ltb-true (length s.source) s.capacity h) refl refl)
    (λ _. declined s (gate_call r a b) (at_capacity s.capacity)))
    (λ _. declined s (gate_call r a b) (no_node 1)))
    (λ _. declined s (gate_call r a b) (no_node 0))
change p s (output_call e) =
    let C : After → Type 0 = Change p s (output_call e) in
    cond_both (knows s.source e) _ _ C
    (λ he. cond_both (ltb (length s.outputs) s.rows_for_outputs) _ _ C
    (λ h. output_added e refl (leb-true (node_of e) (length s.source) he) (ltb-true (length s.outputs) s.rows_for_outputs h) refl)
    (λ _. declined s (output_call e) (no_output_row (length s.outputs))))
    (λ _. declined s (output_call e) (no_node 0))
change p s (map_call e) =
    cond_both (knows s.source e) _ _ (λ a. Change p s (map_call e) (looks s a)) (λ _. mapped_by s e (map_edge s e)) (λ _. declined s (map_call e) (no_node 0))
change p s (walk_call side given places) =
    let g = graph_of side s in
    let C : Answer → Type 0 = λ a. Change p s (walk_call side given places) (looks s a) in
    cond_both (eqb given (inputs g)) _ _ C
    (λ _. cond_both (leb (suc (length g)) places) _ _ C (λ _. walked_by s side given places (suc (length g))) (λ _. declined s (walk_call side given places) (too_short (suc (length g)))))
    (λ _. declined s (walk_call side given places) (wrong_signals (inputs g)))
change p s (cone_call e marks cap) =
    let g = s.reduced in
    let n = cone_of g e in
    let C : Answer → Type 0 = λ a. Change p s (cone_call e marks cap) (looks s a) in
    cond_both (knows g e) _ _ C
    (λ _. cond_both (leb (suc (length g)) marks) _ _ C
    (λ _. cond_both (leb n cap) _ _ C (λ _. counted_by s e marks cap n) (λ _. declined s (cone_call e marks cap) (above_cap cap)))
    (λ _. declined s (cone_call e marks cap) (too_short (suc (length g)))))
    (λ _. declined s (cone_call e marks cap) (no_node 0))

unchanged : (p : ℕ) (s : State) (c : Call p) (f : Refusal) (u : After) → Change p s c u → u.answer ≡ refused f → u.state ≡ s
unchanged p s c f u (same a _ e) h = ap (λ (v : After). v.state) e
unchanged p s c f u (input-added _ _ e) h = absurd (let k = ap (λ (v : After). v.answer) e in let z : ◌≡◌ {A = ℕ} 0 1 = cc in omega arith)
unchanged p s c f u (gate-added r a b d _ _ _ _ _ e) h = absurd (let k = ap (λ (v : After). v.answer) e in let z : ◌≡◌ {A = ℕ} 0 1 = cc in omega arith)
unchanged p s c f u (output_added o _ _ _ e) h = absurd (let k = ap (λ (v : After). v.answer) e in let z : ◌≡◌ {A = ℕ} 0 1 = cc in omega arith)

pub refused_changes_nothing : (p : ℕ) (s : State) (c : Call p) (f : Refusal) → (step p s c).answer ≡ refused f → (step p s c).state ≡ s
refused_changes_nothing p s c f = unchanged p s c f (step p s c) (change p s c)
