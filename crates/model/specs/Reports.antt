-- The lines of a net and of a report, and which of them a session's listing has.
use Rattle.std.specs.Prelude.{ℕ, suc, List, [], ◌∷◌, ◌++◌, length}
use Rattle.model.specs.Graphs.{input, gate, Graph}
use Rattle.model.specs.Rankings.{Ranking}
use Rattle.model.specs.Sessions.{State, Tally, Call, input_call, gate_call, output_call}

-- a key and its numbers
pub data Line : Type 0 where
  net : ℕ → Line
  «in» : ℕ → Line
  and : ℕ → ℕ → Line
  out : ℕ → Line
  end : ℕ → Line
  made : ℕ → Line
  folded : ℕ → Line
  shared : ℕ → Line
  merged : ℕ → Line
  mapped : ℕ → Line
  done : ℕ → Line

-- a line for each node, the oldest first: an input with the number that it takes, a gate with its fanin edges
abbrev pub node_lines : Graph → List Line
node_lines [] = []
node_lines (input ∷ g) = node_lines g ++ («in» (suc (length g)) ∷ [])
node_lines (gate x y ∷ g) = node_lines g ++ (and x y ∷ [])

-- a line for each number of a list whose newest stands first, the oldest first
abbrev pub lines_of : (ℕ → Line) → List ℕ → List Line
lines_of line [] = []
lines_of line (n ∷ ns) = lines_of line ns ++ (line n ∷ [])

-- a net: a graph with its outputs
abbrev pub net_lines : Graph → List ℕ → List Line
net_lines g outputs = net 1 ∷ (node_lines g ++ lines_of out outputs ++ (end (length g) ∷ []))

abbrev pub tally_lines : Tally → List Line
tally_lines t = made t.made ∷ folded t.folded ∷ shared t.shared ∷ merged t.merged ∷ []

-- the reduced net with the mapped outputs, the tally, and the map of each source node
abbrev pub report : State → List Line
report s = net_lines s.reduced s.outputs ++ tally_lines s.tally ++ lines_of mapped s.mapped ++ (done (length s.source) ∷ [])

-- the calls that a net's lines ask for, by one ranking; the other lines ask for none
abbrev pub calls_of : {p : ℕ} → Ranking p → List Line → List (Call p)
calls_of r [] = []
calls_of r (net n ∷ ls) = calls_of r ls
calls_of r («in» n ∷ ls) = input_call ∷ calls_of r ls
calls_of r (and x y ∷ ls) = gate_call r x y ∷ calls_of r ls
calls_of r (out e ∷ ls) = output_call e ∷ calls_of r ls
calls_of r (end n ∷ ls) = calls_of r ls
calls_of r (made n ∷ ls) = calls_of r ls
calls_of r (folded n ∷ ls) = calls_of r ls
calls_of r (shared n ∷ ls) = calls_of r ls
calls_of r (merged n ∷ ls) = calls_of r ls
calls_of r (mapped e ∷ ls) = calls_of r ls
calls_of r (done n ∷ ls) = calls_of r ls
