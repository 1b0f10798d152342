-- a line's call adds to a session, and takes nothing away
use Rattle.std.proofs.Common.{◌≡◌, ℕ, ◌+◌, ◌-◌, ◌≤◌, min, max, Bool, true, false, cond, ltb, List, length, drop, Ok, sym, refl, ap, ◌∙◌, subst, arith}
use Rattle.std.proofs.lemmas.List.{drop-drop}
use Rattle.model.specs.Rankings.{Before}
use Rattle.model.specs.Search.{Decision, folded, shared, merged, made, decide}
use Rattle.model.specs.Sessions.{State, After, Answer, node, swept, mapped_edge, filled, counted, refused, Refusal, no_node, at_capacity, no_output_row, positions, has_room, knows, decline, with_input, with_gate, with_output, map_edge}
use Rattle.lines.specs.declared.lines.Line.{Line}
use Rattle.lines.specs.declared.lines.Line.TheVariants.{Net, Input, Gate, Out, End}
use Rattle.lines.specs.Order.{counts}
use Rattle.sweeper.specs.Tables.{Image, state_of, node_in, no_source, no_reduced, no_edge, Rest}
use Rattle.sweeper.proofs.Newest.{newest-length}
use Rattle.reading.specs.Reading.{unless_refused, after_call, called}

counts_up : (l : Line) (n : ℕ) → n ≤ counts l n
counts_up (Net k) n = omega arith
counts_up (Input k) n = omega arith
counts_up (Gate a b) n = omega arith
counts_up (Out e) n = omega arith
counts_up (End k) n = omega arith

pub record Adds (l : Line) (s u : State) : Type 0 where
  pub nodes : length u.source ≡ counts l (length s.source)
  pub reduced : length s.reduced ≤ length u.reduced
  pub outputs : length s.outputs ≤ length u.outputs

adds_input : (n : ℕ) (s : State) → Adds (Input n) s (with_input s).state
adds_input n s = record { nodes = omega arith; reduced = omega arith; outputs = omega arith }

adds_gate : (a b x y : ℕ) (s : State) (d : Decision) → Adds (Gate a b) s (with_gate s a b x y d).state
adds_gate a b x y s (folded e) = record { nodes = omega arith; reduced = omega arith; outputs = omega arith }
adds_gate a b x y s (shared e) = record { nodes = omega arith; reduced = omega arith; outputs = omega arith }
adds_gate a b x y s (merged e) = record { nodes = omega arith; reduced = omega arith; outputs = omega arith }
adds_gate a b x y s (made cs) = record { nodes = omega arith; reduced = omega arith; outputs = omega arith }

adds_output : (e m : ℕ) (s : State) → Adds (Out e) s (with_output s m).state
adds_output e m s = record { nodes = refl; reduced = omega arith; outputs = omega arith }

adds_nothing : (l : Line) (s u : State) → ((n : ℕ) → counts l n ≡ n) → s ≡ u → Adds l s u
adds_nothing l s u none e = subst (Adds l s) e (record { nodes = sym (none (length s.source)); reduced = omega arith; outputs = omega arith })

module _ (s u : State) where
  -- an accepted call leads to its state
  pub told : (a : Answer) (t : State) → unless_refused a t ≡ Ok u → t ≡ u
  told (node n) t e = cc
  told (swept o x) t e = cc
  told (mapped_edge x) t e = cc
  told (filled n) t e = cc
  told (counted n) t e = cc
  told (refused r) t e = let z : ◌≡◌ {A = ℕ} 0 1 = cc in absurd (omega arith)

  leads : (w : After) → after_call w ≡ Ok u → w.state ≡ u
  leads w e = told w.answer w.state e

  unless : (b : Bool) (w : After) (f : Refusal) → after_call (cond b w (decline s f)) ≡ Ok u → after_call w ≡ Ok u
  unless true w f e = e
  unless false w f e = let z : ◌≡◌ {A = ℕ} 0 1 = cc in absurd (omega arith)

  pub called_adds : (before : Before) (l : Line) → called before s l ≡ Ok u → Adds l s u
  unfolding called
  called_adds before (Net n) h = adds_nothing (Net n) s u (λ k. refl) cc
  called_adds before (Input n) h = subst (Adds (Input n) s) (leads (with_input s) (unless (has_room s) (with_input s) (at_capacity s.capacity) h)) (adds_input n s)
  called_adds before (Gate a b) h =
      let x = min (map_edge s a) (map_edge s b) in
      let y = max (map_edge s a) (map_edge s b) in
      let d = decide positions s.limits before s.reduced s.kept x y in
      let done = with_gate s a b x y d in
      let room = cond (has_room s) done (decline s (at_capacity s.capacity)) in
      let second = cond (knows s.source b) room (decline s (no_node 1)) in
      let went = unless (has_room s) done (at_capacity s.capacity) (unless (knows s.source b) room (no_node 1) (unless (knows s.source a) second (no_node 0) h)) in
      subst (Adds (Gate a b) s) (leads done went) (adds_gate a b x y s d)
  called_adds before (Out e) h =
      let done = with_output s (map_edge s e) in
      let full = no_output_row (length s.outputs) in
      let room = ltb (length s.outputs) s.rows_for_outputs in
      subst (Adds (Out e) s) (leads done (unless room done full (unless (knows s.source e) (cond room done (decline s full)) (no_node 0) h))) (adds_output e (map_edge s e) s)
  called_adds before (End n) h = adds_nothing (End n) s u (λ k. refl) cc

-- no count falls
pub record Longer (s u : State) : Type 0 where
  pub source : length s.source ≤ length u.source
  pub reduced : length s.reduced ≤ length u.reduced
  pub outputs : length s.outputs ≤ length u.outputs

pub longer-same : (s u : State) → u ≡ s → Longer s u
longer-same s u e = subst (Longer s) (sym e) (record { source = omega arith; reduced = omega arith; outputs = omega arith })

pub longer_by : (l : Line) (s u : State) → Adds l s u → Longer s u
longer_by l s u h = record { source = (let up = counts_up l (length s.source) in omega (arith, h.nodes)); reduced = h.reduced; outputs = h.outputs }

drop_far : {A : Type 0} (m n : ℕ) (xs ys : List A) → m ≤ n → drop m xs ≡ drop m ys → drop n xs ≡ drop n ys
drop_far m n xs ys h e =
    let k : m + (n - m) ≡ n = omega arith in
    ap (λ j. drop j xs) (sym k) ∙ sym (drop-drop (n - m) m xs) ∙ ap (drop (n - m)) e ∙ drop-drop (n - m) m ys ∙ ap (λ j. drop j ys) k

-- rows past the counts stay over two calls, since the counts only grow
pub rest-joined : (c d e : Image) → Rest c d → Rest d e → Longer (state_of d) (state_of e) → Rest c e
rest-joined c d e r t h =
    let sources : d.sources ≤ e.sources = omega (arith, h.source, newest-length (λ r. node_in r.node) no_source d.source d.sources, newest-length (λ r. node_in r.node) no_source e.source e.sources) in
    let nodes : d.nodes ≤ e.nodes = omega (arith, h.reduced, newest-length (λ r. node_in r.node) no_reduced d.reduced d.nodes, newest-length (λ r. node_in r.node) no_reduced e.reduced e.nodes) in
    let outs : d.outs ≤ e.outs = omega (arith, h.outputs, newest-length (λ r. r.number) no_edge d.outputs d.outs, newest-length (λ r. r.number) no_edge e.outputs e.outs) in
    record {
      source = t.source ∙ drop_far d.sources e.sources d.source c.source sources r.source;
      reduced = t.reduced ∙ drop_far d.nodes e.nodes d.reduced c.reduced nodes r.reduced;
      cuts = t.cuts ∙ drop_far _ _ d.cuts c.cuts (omega arith) r.cuts;
      outputs = t.outputs ∙ drop_far d.outs e.outs d.outputs c.outputs outs r.outputs;
    }
