-- The lines of a graph, read into a new session with space, make it the source graph.
use Rattle.std.proofs.Common.{◌≡◌, ℕ, suc, ◌+◌, ◌<◌, ◌≤◌, true, ltb, List, [], ◌∷◌, ◌++◌, map, length, Ok, sym, refl, ap, ◌∙◌, subst, ap₂, arith}
use lib.ListN.{length-map}
use Rattle.std.specs.List.{flat_map, AllByRecursion}
use Rattle.std.proofs.lemmas.List.Folds.{flat_map-map}
use Rattle.std.proofs.lemmas.List.{append_assoc, length_push, map-append, map_push}
use Rattle.std.proofs.ByRecursion.{All-push, All-append, All-weaker}
use Rattle.std.proofs.lemmas.Bool.{le-leb, lt-ltb}
use Rattle.model.specs.Edges.{node_of}
use Rattle.model.specs.Graphs.{Node, input, gate, Graph, Ordered}
use Rattle.model.specs.Rankings.{Before}
use Rattle.model.specs.Sessions.{State, positions, node_limit, map_edge, has_room, knows, with_input, with_output, sweep_gate}
use Rattle.model.specs.Reports as report
use Rattle.model.specs.Texts as text
use Rattle.model.specs.Runs.{Event, Run, opening, calling}
use Rattle.model.specs.Search.{Limits, Decision, folded, shared, merged, made}
use Rattle.model.specs.Sessions.{Tables, Call, After, step, reduced_after}
use Rattle.model.proofs.Steps.{Change, same, input-added, gate-added, output_added, change}
use Rattle.model.proofs.Consistent.{map-within, run_consistent}
use Rattle.lines.specs.declared.lines.Line.{Line}
use Rattle.lines.specs.declared.lines.Line.TheVariants.{Net, Input, Gate, Out, End}
use Rattle.lines.specs.Written.{line_in, written, Fit}
use Rattle.lines.specs.Net as net
use Rattle.lines.specs.Net.{node_lines, net_lines}
use Rattle.lines.proofs.Ordering.{node-push}
use Rattle.lines.proofs.Telling.{accepted_push}
use Rattle.reading.specs.Net.{Accepted}
use Rattle.reading.specs.Reading.{called, caller}

-- a list whose newest stands first, from its oldest on
abbrev pub oldest : {A : Type 0} → List A → List A
oldest [] = []
oldest (x ∷ xs) = oldest xs ++ x ∷ []

-- the net of a graph and its outputs
abbrev pub net_of : Graph → List ℕ → net.Graph
net_of g os = record { nodes = oldest g; outs = oldest os }

-- ---- calls that are accepted
module _ (f : Before) where
  called-input : (s : State) (n : ℕ) → has_room s ≡ true → called f s (Input n) ≡ Ok (with_input s).state
  unfolding called
  called-input s n room = rw room refl

  called-gate : (s : State) (a b : ℕ) → knows s.source a ≡ true → knows s.source b ≡ true → has_room s ≡ true → called f s (Gate a b) ≡ Ok (sweep_gate positions f s a b).state
  unfolding called
  called-gate s a b first second room = rw (first, second, room) refl

  called-out : (s : State) (e : ℕ) → knows s.source e ≡ true → ltb (length s.outputs) s.rows_for_outputs ≡ true → called f s (Out e) ≡ Ok (with_output s (map_edge s e)).state
  unfolding called
  called-out s e known room = rw (known, room) refl

  called-net : (s : State) (n : ℕ) → called f s (Net n) ≡ Ok s
  unfolding called
  called-net s n = refl

  called-end : (s : State) (n : ℕ) → called f s (End n) ≡ Ok s
  unfolding called
  called-end s n = refl

  accepted_append : (ls ms : List Line) (s t u : State) → Accepted f s ls t → Accepted f t ms u → Accepted f s (ls ++ ms) u
  accepted_append [] ms s t u e h = subst (λ x. Accepted f x ms u) (sym e) h
  accepted_append (l ∷ ls) ms s t u p h = (p.0, p.1, accepted_append ls ms p.0 t u p.2 h)

  -- ---- nodes
  -- a new session after the lines of a graph
  pub record Rebuilt (g : Graph) (s : State) : Type 0 where
    pub after : State
    pub calls : Accepted f s (node_lines 1 (oldest g)) after
    pub source : after.source ≡ g
    pub capacity : after.capacity ≡ s.capacity
    pub outputs : after.outputs ≡ s.outputs
    pub rows : after.rows_for_outputs ≡ s.rows_for_outputs

  module _ (s : State) (new : s.source ≡ []) where
    room_for : (g : Graph) (r : Rebuilt g s) → length g < s.capacity → has_room r.after ≡ true
    room_for g r h = lt-ltb (length r.after.source) r.after.capacity (let a = ap length r.source in omega (arith, a, r.capacity))

    known_in : (g : Graph) (r : Rebuilt g s) (e : ℕ) → node_of e ≤ length g → knows r.after.source e ≡ true
    known_in g r e h = le-leb (node_of e) (length r.after.source) (let a = ap length r.source in omega (arith, a))

    pub rebuild_nodes : (g : Graph) → Ordered g → length g ≤ s.capacity → Rebuilt g s
    rebuild_nodes [] o room = record { after = s; calls = refl; source = new; capacity = refl; outputs = refl; rows = refl }
    rebuild_nodes (input ∷ g) o room =
        let r = rebuild_nodes g o (omega arith) in
        record {
          after = (with_input r.after).state;
          calls = subst (λ ls. Accepted f s ls (with_input r.after).state) (sym (node-push 1 (oldest g) input))
              (accepted_push (caller f) (node_lines 1 (oldest g)) (Input (1 + length (oldest g))) s r.after (with_input r.after).state r.calls (called-input r.after (1 + length (oldest g)) (room_for g r (omega arith))));
          source = ap (λ x. input ∷ x) r.source;
          capacity = r.capacity;
          outputs = r.outputs;
          rows = r.rows;
        }
    rebuild_nodes (gate x y ∷ g) o room =
        let r = rebuild_nodes g o.2 (omega arith) in
        let u = (sweep_gate positions f r.after x y).state in
        record {
          after = u;
          calls = subst (λ ls. Accepted f s ls u) (sym (node-push 1 (oldest g) (gate x y)))
              (accepted_push (caller f) (node_lines 1 (oldest g)) (Gate x y) s r.after u r.calls (called-gate r.after x y (known_in g r x o.0) (known_in g r y o.1) (room_for g r (omega arith))));
          source = ap (λ z. gate x y ∷ z) r.source;
          capacity = r.capacity;
          outputs = r.outputs;
          rows = r.rows;
        }

  -- ---- outputs
  pub record Named (os : List ℕ) (s : State) : Type 0 where
    pub after : State
    pub calls : Accepted f s (map (λ e. Out e) (oldest os)) after
    pub source : after.source ≡ s.source
    pub maps : after.mapped ≡ s.mapped
    pub outputs : after.outputs ≡ map (map_edge s) os
    pub rows : after.rows_for_outputs ≡ s.rows_for_outputs

  pub name_outputs : (s : State) → s.outputs ≡ [] → (os : List ℕ) → AllByRecursion (λ e. node_of e ≤ length s.source) os → length os ≤ s.rows_for_outputs → Named os s
  name_outputs s new [] known room = record { after = s; calls = refl; source = refl; maps = refl; outputs = new; rows = refl }
  name_outputs s new (e ∷ os) known room =
      let r = name_outputs s new os known.1 (omega arith) in
      let u = (with_output r.after (map_edge r.after e)).state in
      let same : map_edge r.after e ≡ map_edge s e = ap (λ ms. Rattle.model.specs.Edges.signed (Rattle.model.specs.Graphs.at 0 ms (node_of e)) (Rattle.model.specs.Edges.sign_of e)) r.maps in
      let in_graph : knows r.after.source e ≡ true = le-leb (node_of e) (length r.after.source) (let a = ap length r.source in omega (arith, a, known.0)) in
      let free : ltb (length r.after.outputs) r.after.rows_for_outputs ≡ true = lt-ltb _ _ (let a = ap length r.outputs in let b = length-map os (map_edge s) in omega (arith, a, b, r.rows)) in
      record {
        after = u;
        calls = subst (λ ls. Accepted f s ls u) (sym (map_push (λ x. Out x) (oldest os) e)) (accepted_push (caller f) (map (λ x. Out x) (oldest os)) (Out e) s r.after u r.calls (called-out r.after e in_graph free));
        source = r.source;
        maps = r.maps;
        outputs = ap₂ (λ x xs. x ∷ xs) same r.outputs;
        rows = r.rows;
      }

  -- ---- the whole net
  pub record NetRebuilt (g : Graph) (os : List ℕ) (s : State) : Type 0 where
    pub after : State
    pub calls : Accepted f s (net_lines 0 (net_of g os)) after
    pub source : after.source ≡ g
    pub outputs : after.outputs ≡ map (map_edge after) os

  map_same : (s t : State) (os : List ℕ) → t.mapped ≡ s.mapped → map (map_edge s) os ≡ map (map_edge t) os
  map_same s t os e = ap (λ ms. map (λ (x : ℕ). Rattle.model.specs.Edges.signed (Rattle.model.specs.Graphs.at 0 ms (node_of x)) (Rattle.model.specs.Edges.sign_of x)) os) (sym e)

  pub rebuild_net : (g : Graph) (os : List ℕ) (s : State) → s.source ≡ [] → s.outputs ≡ [] → Ordered g → AllByRecursion (λ e. node_of e ≤ length g) os → length g ≤ s.capacity → length os ≤ s.rows_for_outputs → NetRebuilt g os s
  rebuild_net g os s new none ordered known nodes rows =
      let r = rebuild_nodes s new g ordered nodes in
      let q = name_outputs r.after (r.outputs ∙ none) os (subst (λ n. AllByRecursion (λ e. node_of e ≤ n) os) (sym (ap length r.source)) known) (let z = r.rows in omega (arith, z)) in
      record {
        after = q.after;
        calls = (
          s,
          called-net s 1,
          accepted_append (node_lines 1 (oldest g)) (map (λ e. Out e) (oldest os) ++ End (0 + length (oldest g)) ∷ []) s r.after q.after r.calls
              (accepted_push (caller f) (map (λ e. Out e) (oldest os)) (End (0 + length (oldest g))) r.after q.after q.after q.calls (called-end q.after (0 + length (oldest g)))),
        );
        source = q.source ∙ r.source;
        outputs = q.outputs ∙ map_same r.after q.after os q.maps;
      }

-- ---- the text
oldest-length : {A : Type 0} (xs : List A) → length (oldest xs) ≡ length xs
oldest-length [] = refl
oldest-length (x ∷ xs) = length_push (oldest xs) x ∙ (let e = oldest-length xs in omega arith)

nodes_in : (g : Graph) → map line_in (node_lines 1 (oldest g)) ≡ report.node_lines g
nodes_in [] = refl
nodes_in (input ∷ g) =
    ap (map line_in) (node-push 1 (oldest g) input)
    ∙ map_push line_in (node_lines 1 (oldest g)) (Input (1 + length (oldest g)))
    ∙ ap₂ (λ ls n. ls ++ report.«in» n ∷ []) (nodes_in g) (let e = oldest-length g in let z : 1 + length (oldest g) ≡ suc (length g) = omega arith in z)
nodes_in (gate x y ∷ g) =
    ap (map line_in) (node-push 1 (oldest g) (gate x y))
    ∙ map_push line_in (node_lines 1 (oldest g)) (Gate x y)
    ∙ ap (λ ls. ls ++ report.and x y ∷ []) (nodes_in g)

outs_in : (os : List ℕ) → map line_in (map (λ e. Out e) (oldest os)) ≡ report.lines_of report.out os
outs_in [] = refl
outs_in (e ∷ os) =
    ap (map line_in) (map_push (λ x. Out x) (oldest os) e)
    ∙ map_push line_in (map (λ x. Out x) (oldest os)) (Out e)
    ∙ ap (λ ls. ls ++ report.out e ∷ []) (outs_in os)

lines_in : (g : Graph) (os : List ℕ) → map line_in (net_lines 0 (net_of g os)) ≡ report.net_lines g os
lines_in g os =
    ap (λ l. report.net 1 ∷ l)
    (map-append line_in (node_lines 1 (oldest g)) (map (λ e. Out e) (oldest os) ++ End (0 + length (oldest g)) ∷ [])
    ∙ ap₂ (λ x y. x ++ y) (nodes_in g) (map_push line_in (map (λ e. Out e) (oldest os)) (End (0 + length (oldest g))) ∙ ap₂ (λ ls n. ls ++ report.end n ∷ []) (outs_in os) (let e = oldest-length g in let z : 0 + length (oldest g) ≡ length g = omega arith in z))
    ∙ sym (append_assoc (report.node_lines g) (report.lines_of report.out os) (report.end (length g) ∷ [])))

-- the bytes of a graph's net are those of its lines
pub net_text_lem : (g : Graph) (os : List ℕ) → text.text_of (report.net_lines g os) ≡ flat_map written (net_lines 0 (net_of g os))
net_text_lem g os = sym (ap text.text_of (lines_in g os)) ∙ flat_map-map text.written line_in (net_lines 0 (net_of g os))

-- ---- the numbers
small-edge : (e n : ℕ) → node_of e ≤ n → n ≤ node_limit → e < 32768
small-edge e n h k = omega arith

nodes_fit : (g : Graph) → Ordered g → length g ≤ node_limit → AllByRecursion Fit (node_lines 1 (oldest g))
nodes_fit [] o few = tt
nodes_fit (input ∷ g) o few =
    subst (AllByRecursion Fit) (sym (node-push 1 (oldest g) input))
    (All-push Fit (node_lines 1 (oldest g)) (Input (1 + length (oldest g))) (nodes_fit g o (omega arith)) (let e = oldest-length g in omega arith))
nodes_fit (gate x y ∷ g) o few =
    subst (AllByRecursion Fit) (sym (node-push 1 (oldest g) (gate x y)))
    (All-push Fit (node_lines 1 (oldest g)) (Gate x y) (nodes_fit g o.2 (omega arith)) (small-edge x (length g) o.0 (omega arith), small-edge y (length g) o.1 (omega arith)))

outs-fit : (n : ℕ) → n ≤ node_limit → (os : List ℕ) → AllByRecursion (λ e. node_of e ≤ n) os → AllByRecursion Fit (map (λ e. Out e) (oldest os))
outs-fit n few [] h = tt
outs-fit n few (e ∷ os) h =
    subst (AllByRecursion Fit) (sym (map_push (λ x. Out x) (oldest os) e)) (All-push Fit (map (λ x. Out x) (oldest os)) (Out e) (outs-fit n few os h.1) (small-edge e n h.0 few))

pub net-fit : (g : Graph) (os : List ℕ) → Ordered g → length g ≤ node_limit → AllByRecursion (λ e. node_of e ≤ length g) os → AllByRecursion Fit (net_lines 0 (net_of g os))
net-fit g os o few known = (
  omega arith,
  All-append Fit (node_lines 1 (oldest g)) (map (λ e. Out e) (oldest os) ++ End (0 + length (oldest g)) ∷ []) (nodes_fit g o few)
      (All-push Fit (map (λ e. Out e) (oldest os)) (End (0 + length (oldest g))) (outs-fit (length g) few os known) (let e = oldest-length g in omega arith)),
)

-- ---- the outputs of a run name nodes of the reduced graph
abbrev pub Known : State → Type 0
Known s = AllByRecursion (λ e. node_of e ≤ length s.reduced) s.outputs

grows : (g : Graph) (x y : ℕ) (d : Decision) → length g ≤ length (reduced_after g x y d)
grows g x y (folded e) = omega arith
grows g x y (shared e) = omega arith
grows g x y (merged e) = omega arith
grows g x y (made cs) = omega arith

known_more : (n m : ℕ) → n ≤ m → (os : List ℕ) → AllByRecursion (λ e. node_of e ≤ n) os → AllByRecursion (λ e. node_of e ≤ m) os
known_more n m h os k = All-weaker (λ e. node_of e ≤ n) (λ e. node_of e ≤ m) (λ e l. omega arith) os k

change-knows : (p : ℕ) (s : State) (c : Call p) (u : After) → Change p s c u → ((e : ℕ) → node_of (map_edge s e) ≤ length s.reduced) → Known s → Known u.state
change-knows p s c u (same a _ e) within k = rw e k
change-knows p s c u (input-added _ room e) within k = rw e (known_more (length s.reduced) (suc (length s.reduced)) (omega arith) s.outputs k)
change-knows p s c u (gate-added r a b d _ ha hb room is e) within k = rw e (known_more (length s.reduced) (length (reduced_after s.reduced _ _ d)) (grows s.reduced _ _ d) s.outputs k)
change-knows p s c u (output_added o _ _ room e) within k = rw e (within o, k)

pub run-knows : {p : ℕ} {m : Limits} {t : Tables} {es : List (Event p)} {s : State} → Run p m t es s → Known s
run-knows {m = m} {t = t} (opening e) = rw e tt
run-knows {p = p} (calling {s = s} {c = c} r h) = rw h.state (change-knows p s c (step p s c) (change p s c) (map-within s (run_consistent r)) (run-knows r))
