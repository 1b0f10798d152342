-- The lines of a session, one after another.
use Rattle.std.specs.Prelude.{ℕ, List, [], ◌∷◌, ◌++◌, drop, Some, None, Option}
use Rattle.std.specs.Option.{option_map}
use Rattle.model.specs.Graphs.{Node, input, gate}
use Rattle.model.specs.Reports.{Line, «in», and, net_lines}
use Rattle.model.specs.Sessions.{State}
use Rattle.model.specs.Texts.{text_of}
use Rattle.pages.specs.declared.line.Line.{Line as Told}
use Rattle.pages.specs.Lines.{line_in}

-- the line of a node with this number
abbrev pub node_line : ℕ → Node → Line
node_line n input = «in» n
node_line n (gate x y) = and x y

abbrev pub told : Option Told → Option Line
told = option_map line_in

-- the first line of those that are left
abbrev pub next_of : List Line → Option Line
next_of [] = None
next_of (l ∷ ls) = Some l

-- a line that may be there, as a list
abbrev pub closed : Option Told → List Line
closed (Some l) = line_in l ∷ []
closed None = []

-- the text of the lines after the first ones, with the closing line
abbrev pub rest_text : List Line → List Line → ℕ → List ℕ
rest_text lines closing next = text_of (drop next lines ++ closing)

-- the text of a session's reduced net, from the net line to the end line
abbrev pub net_text : State → List ℕ
net_text s = text_of (net_lines s.reduced s.outputs)
