-- The facts of a session's own tables that every call keeps: orders, lengths, and that every mapped edge names a reduced node.
use Rattle.std.proofs.Common.{◌≡◌, ℕ, suc, ◌<◌, ◌≤◌, false, List, length, sym, refl, ap, ◌∙◌, subst, arith}
use Rattle.model.specs.Edges.{node_of, sign_of}
use Rattle.model.specs.Cuts.{Cut}
use Rattle.model.specs.Graphs.{Graph, at, inputs, Ordered}
use Rattle.model.specs.Rankings.{Before, Every}
use Rattle.model.specs.Search.{Decision, folded, shared, merged, made, Limits, decide}
use Rattle.model.specs.Sessions.{State, Tables, Call, After, map_edge, edge_of, reduced_after, kept_after, opened_with, with_input, with_gate, with_output, step}
use Rattle.model.specs.RunLaws.{low_fanin, high_fanin}
use Rattle.model.specs.Runs.{Event, Run, opening, calling}
use Rattle.model.proofs.Lists.{every-number, every_weaken}
use Rattle.model.proofs.Signs.{node-edge, node-signed}
use Rattle.model.proofs.Naming.{LeavesWithin, LeavesEarlier, DecidedWithin, decide-within}
use Rattle.model.proofs.Steps.{Change, same, input-added, gate-added, output_added, change}

pub record Consistent (s : State) : Type 0 where
  pub ordered : Ordered s.source
  pub reduced-ordered : Ordered s.reduced
  pub one_map : length s.mapped ≡ length s.source
  pub one_row : length s.kept ≡ length s.reduced
  pub fewer : length s.reduced ≤ length s.source
  pub same_inputs : inputs s.reduced ≡ inputs s.source
  pub maps : Every (λ e. node_of e ≤ length s.reduced) s.mapped
  pub leaves : LeavesEarlier s.kept
  pub few_nodes : length s.source ≤ s.capacity
  pub few_outputs : length s.outputs ≤ s.rows_for_outputs

-- every node and every edge is mapped to an edge of a reduced node
pub mapped-within : (s : State) → Consistent s → (n : ℕ) → node_of (at 0 s.mapped n) ≤ length s.reduced
mapped-within s k n = every-number (λ f. node_of f ≤ length s.reduced) 0 s.mapped n (omega arith) k.maps

pub map-within : (s : State) → Consistent s → (e : ℕ) → node_of (map_edge s e) ≤ length s.reduced
map-within s k e = omega (arith, mapped-within s k (node_of e), node-signed (at 0 s.mapped (node_of e)) (sign_of e))

pub fanins-within : (s : State) → Consistent s → (a b : ℕ) → (node_of (low_fanin s a b) ≤ length s.reduced) × (node_of (high_fanin s a b) ≤ length s.reduced)
fanins-within s k a b = let x = map-within s k a in let y = map-within s k b in (omega arith, omega arith)

-- what is decided of the mapped fanins names reduced nodes only
pub decided-within : (p : ℕ) (before : Before) (s : State) → Consistent s → (a b : ℕ)
    → DecidedWithin (length s.reduced) (decide p s.limits before s.reduced s.kept (low_fanin s a b) (high_fanin s a b))
decided-within p before s k a b =
    let f = fanins-within s k a b in
    decide-within p s.limits before s.reduced s.kept (low_fanin s a b) (high_fanin s a b) k.reduced-ordered k.one_row k.leaves f.0 f.1

-- the reduced graph, its cuts and the answered edge behind a decision
record Grown (g h : Graph) (ks : List (List Cut)) (e : ℕ) : Type 0 where
  known : node_of e ≤ length h
  least : length g ≤ length h
  most : length h ≤ suc (length g)
  same_inputs : inputs h ≡ inputs g
  ordered : Ordered h
  one_row : length ks ≡ length h
  leaves : LeavesEarlier ks

module _ (g : Graph) (ks : List (List Cut)) (ordered : Ordered g) (rows : length ks ≡ length g) (leaves : LeavesEarlier ks) where
  grown-not : (e : ℕ) → node_of e ≤ length g → Grown g g ks e
  grown-not e h = record { known = h; least = omega arith; most = omega arith; same_inputs = refl; ordered = ordered; one_row = rows; leaves = leaves }

  grown : (x y : ℕ) (d : Decision) → node_of x ≤ length g → node_of y ≤ length g → DecidedWithin (length g) d → Grown g (reduced_after g x y d) (kept_after ks d) (edge_of g d)
  grown x y (folded e) hx hy h = grown-not e h
  grown x y (shared e) hx hy h = grown-not e h
  grown x y (merged e) hx hy h = grown-not e h
  grown x y (made cs) hx hy h = record {
    known = omega (arith, node-edge (suc (length g)) false);
    least = omega arith;
    most = omega arith;
    same_inputs = refl;
    ordered = (hx, hy, ordered);
    one_row = ap suc rows;
    leaves = (subst (λ n. Every (LeavesWithin n) cs) (sym rows) h, leaves);
  }

input_keeps : (s : State) → Consistent s → length s.source < s.capacity → Consistent (with_input s).state
input_keeps s k room = record {
  ordered = k.ordered;
  reduced-ordered = k.reduced-ordered;
  one_map = ap suc k.one_map;
  one_row = ap suc k.one_row;
  fewer = omega (arith, k.fewer);
  same_inputs = ap suc k.same_inputs;
  maps = (
    omega (arith, node-edge (suc (length s.reduced)) false),
    every_weaken (λ e. node_of e ≤ length s.reduced) (λ e. node_of e ≤ suc (length s.reduced)) s.mapped (λ e h. omega arith) k.maps,
  );
  leaves = (tt, k.leaves);
  few_nodes = room;
  few_outputs = k.few_outputs;
}

gate_keeps : (s : State) (a b x y : ℕ) (d : Decision) → Consistent s → node_of a ≤ length s.source → node_of b ≤ length s.source → length s.source < s.capacity
    → Grown s.reduced (reduced_after s.reduced x y d) (kept_after s.kept d) (edge_of s.reduced d) → Consistent (with_gate s a b x y d).state
gate_keeps s a b x y d k ha hb room h = record {
  ordered = (ha, hb, k.ordered);
  reduced-ordered = h.ordered;
  one_map = ap suc k.one_map;
  one_row = h.one_row;
  fewer = omega (arith, k.fewer, h.most);
  same_inputs = h.same_inputs ∙ k.same_inputs;
  maps = (
    h.known,
    every_weaken (λ e. node_of e ≤ length s.reduced) (λ e. node_of e ≤ length (reduced_after s.reduced x y d)) s.mapped (λ e z. omega (arith, h.least)) k.maps,
  );
  leaves = h.leaves;
  few_nodes = room;
  few_outputs = k.few_outputs;
}

output_keeps : (s : State) (e : ℕ) → Consistent s → length s.outputs < s.rows_for_outputs → Consistent (with_output s e).state
output_keeps s e k room = record {
  ordered = k.ordered;
  reduced-ordered = k.reduced-ordered;
  one_map = k.one_map;
  one_row = k.one_row;
  fewer = k.fewer;
  same_inputs = k.same_inputs;
  maps = k.maps;
  leaves = k.leaves;
  few_nodes = k.few_nodes;
  few_outputs = room;
}

pub change_keeps : (p : ℕ) (s : State) (c : Call p) (u : After) → Change p s c u → Consistent s → Consistent u.state
change_keeps p s c u (same a _ e) k = rw e k
change_keeps p s c u (input-added _ room e) k = rw e (input_keeps s k room)
change_keeps p s c u (gate-added r a b d _ ha hb room is e) k =
    let f = fanins-within s k a b in
    let low = subst (DecidedWithin (length s.reduced)) (sym is) (decided-within p r.before s k a b) in
    rw e (gate_keeps s a b (low_fanin s a b) (high_fanin s a b) d k ha hb room (grown s.reduced s.kept k.reduced-ordered k.one_row k.leaves (low_fanin s a b) (high_fanin s a b) d f.0 f.1 low))
change_keeps p s c u (output_added o _ _ room e) k = rw e (output_keeps s (map_edge s o) k room)

pub step_keeps : (p : ℕ) (s : State) (c : Call p) → Consistent s → Consistent (step p s c).state
step_keeps p s c = change_keeps p s c (step p s c) (change p s c)

pub opened_consistent : (m : Limits) (t : Tables) → Consistent (opened_with m t)
opened_consistent m t = record {
  ordered = tt;
  reduced-ordered = tt;
  one_map = refl;
  one_row = refl;
  fewer = omega arith;
  same_inputs = refl;
  maps = tt;
  leaves = tt;
  few_nodes = omega arith;
  few_outputs = omega arith;
}

pub run_consistent : {p : ℕ} {m : Limits} {t : Tables} {es : List (Event p)} {s : State} → Run p m t es s → Consistent s
run_consistent {m = m} {t = t} (opening e) = rw e (opened_consistent m t)
run_consistent {p = p} (calling {s = s} {c = c} r h) = rw h.state (step_keeps p s c (run_consistent r))
