-- reading answers a graph's outline just for its text, and otherwise the first line that breaks a rule
use Rattle.std.proofs.Common.{◌≡◌, ℕ, suc, ◌+◌, ◌≤◌, List, [], ◌∷◌, ◌++◌, map, length, Ok, Err, Result, sym, refl, ap, ◌∙◌, subst, arith}
use Rattle.model.specs.Graphs.{Node, input, gate}
use Rattle.lines.specs.declared.faults.LineFault.{LineFault}
use Rattle.lines.specs.declared.faults.TextFault.{TextFault}
use Rattle.lines.specs.declared.lines.Line.{Line}
use Rattle.lines.specs.declared.lines.Line.TheVariants.{Net, Input, Gate, Out, End}
use Rattle.lines.specs.Net.{Graph, node_lines, net_lines}
use Rattle.lines.specs.Order.{counts}
use Rattle.lines.specs.Reading.{Fault, broken, declined}
use Rattle.lines.specs.Texts as texts
use Rattle.lines.specs.Texts.{Accepted}
use Rattle.lines.proofs.Exact as exact
use Rattle.lines.proofs.Telling as telling
use Rattle.lines.proofs.Telling.{Counting}
use Rattle.netlist.specs.declared.reader.Outline.{Outline}
use Rattle.netlist.specs.Net.{inputs_in, gates_in, outline_of, Follows, Refused, Told}
use Rattle.netlist.specs.Reading.{nodes_of, counted, counter, begun, answered, answer_of, read_text}

counted_nodes : (o : Outline) (l : Line) → nodes_of (counted o l) ≡ counts l (nodes_of o)
counted_nodes o (Net n) = refl
counted_nodes o (Input n) = omega arith
counted_nodes o (Gate a b) = omega arith
counted_nodes o (Out e) = refl
counted_nodes o (End n) = refl

counting : Counting counter
counting s u l h = let z : counted s l ≡ u = cc in ap nodes_of (sym z) ∙ counted_nodes s l

-- a line adds at most one to the counts
pub counted-more : (o : Outline) (l : Line) → nodes_of (counted o l) + (counted o l).outs ≤ nodes_of o + o.outs + 1
counted-more o (Net n) = omega arith
counted-more o (Input n) = omega arith
counted-more o (Gate a b) = omega arith
counted-more o (Out e) = omega arith
counted-more o (End n) = omega arith

-- all lines counted
abbrev all_counted : Outline → List Line → Outline
all_counted o [] = o
all_counted o (l ∷ ls) = all_counted (counted o l) ls

counted_all : (o : Outline) (ls : List Line) → Accepted counter o ls (all_counted o ls)
counted_all o [] = refl
counted_all o (l ∷ ls) = (counted o l, refl, counted_all (counted o l) ls)

counts_all : (o u : Outline) (ls : List Line) → Accepted counter o ls u → all_counted o ls ≡ u
counts_all o u [] h = h
counts_all o u (l ∷ ls) h = let z : counted o l ≡ h.0 = cc in ap (λ x. all_counted x ls) z ∙ counts_all h.0 u ls h.2

abbrev outline : ℕ → ℕ → ℕ → ℕ → Outline
outline i g o e = record { inputs = i; gates = g; outs = o; end = e }

counted_nodes_of : (ns : List Node) (k i g : ℕ) (ls : List Line) → all_counted (outline i g 0 0) (node_lines k ns ++ ls) ≡ all_counted (outline (i + inputs_in ns) (g + gates_in ns) 0 0) ls
counted_nodes_of [] k i g ls = (λ j. all_counted (outline ((let z : i ≡ i + 0 = omega arith in z) j) ((let z : g ≡ g + 0 = omega arith in z) j) 0 0) ls)
counted_nodes_of (input ∷ ns) k i g ls = counted_nodes_of ns (k + 1) (i + 1) g ls ∙ ap (λ m. all_counted (outline m (g + gates_in ns) 0 0) ls) (omega arith)
counted_nodes_of (gate a b ∷ ns) k i g ls = counted_nodes_of ns (k + 1) i (g + 1) ls ∙ ap (λ m. all_counted (outline (i + inputs_in ns) m 0 0) ls) (omega arith)

counted_outs : (os : List ℕ) (i g o k : ℕ) → all_counted (outline i g o 0) (map (λ e. Out e) os ++ End k ∷ []) ≡ outline i g (o + length os) k
counted_outs [] i g o k = ap (λ m. outline i g m k) (let z : o ≡ o + 0 = omega arith in z)
counted_outs (x ∷ os) i g o k = counted_outs os i g (o + 1) k ∙ ap (λ m. outline i g m k) (let z : o + 1 + length os ≡ o + suc (length os) = omega arith in z)

counted_net : (g : Graph) → all_counted begun (net_lines 0 g) ≡ outline_of g
counted_net g =
    counted_nodes_of g.nodes 1 0 0 (map (λ e. Out e) g.outs ++ End (0 + length g.nodes) ∷ [])
    ∙ counted_outs g.outs (0 + inputs_in g.nodes) (0 + gates_in g.nodes) 0 (0 + length g.nodes)
    ∙ (λ j. outline ((let z : 0 + inputs_in g.nodes ≡ inputs_in g.nodes = omega arith in z) j) ((let z : 0 + gates_in g.nodes ≡ gates_in g.nodes = omega arith in z) j) ((let z : 0 + length g.outs ≡ length g.outs = omega arith in z) j) ((let z : 0 + length g.nodes ≡ length g.nodes = omega arith in z) j))

follows : (text : List ℕ) (o : Outline) → texts.Follows counter begun text o → Follows text o
follows text o h = record { graph = h.graph; whole = h.whole; fit = h.fit; told = sym (counts_all begun o (net_lines 0 h.graph) h.calls) ∙ counted_net h.graph }

refused : (text : List ℕ) (k : ℕ) (f : Fault ⊥) (u o : Outline) → texts.Refused counter begun text (record { line = k; fault = f }) u → Told text (answered o (Err (record { line = k; fault = f })))
refused text k (broken f) u o h = record { before = h.lines; rest = h.rest; whole = h.whole; place = h.place; begins = h.begins; fit = h.fit; breaks = h.breaks }
refused text k (declined x) u o h = absurd x

told_by : (text : List ℕ) (r : Result (Unit {0}) (TextFault (Fault ⊥))) (o : Outline) → texts.Told counter begun text r o → Told text (answered o r)
told_by text (Ok x) o h = follows text o h
told_by text (Err e) o h = refused text e.line e.fault o o h

pub text_told : (text : List ℕ) → Told text (read_text text)
text_told text = told_by text _ _ (telling.text_told counter counting begun text)

pub text_read : (text : List ℕ) (o : Outline) → Follows text o → read_text text ≡ Ok o
text_read text o h =
    let calls : Accepted counter begun (net_lines 0 h.graph) o = subst (Accepted counter begun (net_lines 0 h.graph)) (counted_net h.graph ∙ sym h.told) (counted_all begun (net_lines 0 h.graph)) in
    ap answer_of (exact.text_read counter counting begun text o (record { graph = h.graph; whole = h.whole; fit = h.fit; calls = calls }))

pub text_stopped : (text : List ℕ) (e : TextFault LineFault) → Refused text e → read_text text ≡ Err e
text_stopped text e h =
    ap answer_of
    (exact.text_stopped counter counting begun text (record { line = e.line; fault = broken e.fault }) (all_counted begun h.before)
    (record { lines = h.before; rest = h.rest; whole = h.whole; place = h.place; begins = h.begins; fit = h.fit; calls = counted_all begun h.before; breaks = h.breaks }))
