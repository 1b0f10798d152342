-- which lines are those of a net, on top of so many nodes, and how lines go wrong
use Rattle.std.specs.Prelude.{◌≡◌, ℕ, ◌+◌, ◌⊎◌, List, [], ◌∷◌, ◌++◌, map, length, ◌≢◌}
use Rattle.model.specs.Graphs.{Node, input, gate}
use Rattle.lines.specs.declared.faults.LineFault.{LineFault}
use Rattle.lines.specs.declared.faults.LineFault.TheVariants.{Shape, Place, Number}
use Rattle.lines.specs.declared.lines.Line.{Line}
use Rattle.lines.specs.declared.lines.Line.TheVariants.{Net, Input, Gate, Out, End}
use Rattle.lines.specs.Shape.{kind_of}
use Rattle.lines.specs.Written.{written, Fit, Short}

-- the nodes that a net adds, the oldest first, and its outputs
pub record Graph : Type 0 where
  pub nodes : List Node
  pub outs : List ℕ

-- the lines of nodes, of which the first has the number k
abbrev pub node_lines : ℕ → List Node → List Line
node_lines k [] = []
node_lines k (input ∷ ns) = Input k ∷ node_lines (k + 1) ns
node_lines k (gate a b ∷ ns) = Gate a b ∷ node_lines (k + 1) ns

-- a net's lines on top of so many nodes: the net line, its nodes, its outputs, and the end line with the number of all nodes
abbrev pub net_lines : ℕ → Graph → List Line
net_lines base g = Net 1 ∷ (node_lines (base + 1) g.nodes ++ (map (λ e. Out e) g.outs ++ End (base + length g.nodes) ∷ []))

-- some net's lines begin with these
pub record Begins (base : ℕ) (ls : List Line) : Type 0 where
  pub graph : Graph
  pub more : List Line
  pub whole : net_lines base graph ≡ ls ++ more

-- what is left of a text begins with this line
pub record Next (rest : List ℕ) (l : Line) : Type 0 where
  pub after : List ℕ
  pub short : Short l
  pub whole : rest ≡ written l ++ after

-- no bytes that begin with a line
abbrev pub NoShape : List ℕ → Type 0
NoShape rest = (rest ≢ []) × ((l : Line) → Next rest l → ⊥)

-- the end line is missing
abbrev pub NoEnd : ℕ → List Line → List ℕ → Type 0
NoEnd base lines rest = (rest ≡ []) × ((g : Graph) → net_lines base g ≢ lines)

-- no line of this kind goes on from the lines before
abbrev pub OutOfPlace : ℕ → List Line → Line → Type 0
OutOfPlace base lines l = (m : Line) → kind_of m ≡ kind_of l → Begins base (lines ++ m ∷ []) → ⊥

-- a line of this kind goes on from the lines before, and not with these numbers
abbrev pub WrongNumber : ℕ → List Line → Line → Type 0
WrongNumber base lines l = ((m : Line) × (kind_of m ≡ kind_of l) × Begins base (lines ++ m ∷ [])) × (Fit l → Begins base (lines ++ l ∷ []) → ⊥)

-- why the lines before do not go on with the rest of the text
abbrev pub Breaks : ℕ → List Line → List ℕ → LineFault → Type 0
Breaks base lines rest Shape = NoShape rest
Breaks base lines rest Place = NoEnd base lines rest ⊎ ((l : Line) × Next rest l × OutOfPlace base lines l)
Breaks base lines rest Number = (l : Line) × Next rest l × WrongNumber base lines l
