-- which texts are nets, and where another text goes wrong
use Rattle.std.specs.Prelude.{◌≡◌, ℕ, ◌+◌, List, [], ◌∷◌, ◌++◌, length, Result, MatchResult}
use Rattle.std.specs.List.{flat_map, AllByRecursion}
use Rattle.model.specs.Graphs.{Node, input, gate}
use Rattle.lines.specs.declared.faults.LineFault.{LineFault}
use Rattle.lines.specs.declared.faults.TextFault.{TextFault}
use Rattle.lines.specs.declared.lines.Line.{Line}
use Rattle.lines.specs.Net.{Graph, net_lines, Begins, Breaks}
use Rattle.lines.specs.Written.{written, Fit}
use Rattle.netlist.specs.declared.reader.Outline.{Outline}

abbrev pub inputs_in : List Node → ℕ
inputs_in [] = 0
inputs_in (input ∷ ns) = inputs_in ns + 1
inputs_in (gate a b ∷ ns) = inputs_in ns

abbrev pub gates_in : List Node → ℕ
gates_in [] = 0
gates_in (input ∷ ns) = gates_in ns
gates_in (gate a b ∷ ns) = gates_in ns + 1

abbrev pub outline_of : Graph → Outline
outline_of g = record { inputs = inputs_in g.nodes; gates = gates_in g.nodes; outs = length g.outs; end = length g.nodes }

-- the text is that of a graph with this outline, and no number in it is above 32,767
pub record Follows (text : List ℕ) (outline : Outline) : Type 0 where
  pub graph : Graph
  pub whole : text ≡ flat_map written (net_lines 0 graph)
  pub fit : AllByRecursion Fit (net_lines 0 graph)
  pub told : outline ≡ outline_of graph

-- the line that is refused, counted from 1, and the rule that it breaks
abbrev pub Stop : Type 0
Stop = TextFault LineFault

-- the lines before the refused line are those of a net so far, and the rest of the text breaks a rule
pub record Refused (text : List ℕ) (e : Stop) : Type 0 where
  pub before : List Line
  pub rest : List ℕ
  pub whole : text ≡ flat_map written before ++ rest
  pub place : e.line ≡ length before + 1
  pub begins : Begins 0 before
  pub fit : AllByRecursion Fit before
  pub breaks : Breaks 0 before rest e.fault

abbrev pub Told : List ℕ → Result Outline Stop → Type 0
Told text r = MatchResult r (Follows text) (Refused text)
