-- the order of the lines, and the numbers due
use Rattle.std.specs.Prelude.{ℕ, ◌+◌, Bool, cond, ◌&&◌, List, [], ◌∷◌, Some, None, Ok, Err, Option, Result, ◌==◌, nat_le}
use Rattle.lines.specs.declared.faults.LineFault.{LineFault}
use Rattle.lines.specs.declared.faults.LineFault.TheVariants as fault
use Rattle.lines.specs.declared.lines.Key.{Key}
use Rattle.lines.specs.declared.lines.Key.TheVariants as key
use Rattle.lines.specs.declared.lines.Line.{Line}
use Rattle.lines.specs.declared.lines.Line.TheVariants.{Net, Input, Gate, Out, End}
use Rattle.lines.specs.declared.reader.Place.{Place}
use Rattle.lines.specs.declared.reader.Place.TheVariants.{Start, Nodes, Outs, Ended}
use Rattle.lines.specs.Shape.{kind_of}

-- where a line with this key is in place: the place that it leads to
abbrev pub leads_to : Place → Key → Option Place
leads_to Start key.Net = Some Nodes
leads_to Start key.Input = None
leads_to Start key.Gate = None
leads_to Start key.Out = None
leads_to Start key.End = None
leads_to Nodes key.Net = None
leads_to Nodes key.Input = Some Nodes
leads_to Nodes key.Gate = Some Nodes
leads_to Nodes key.Out = Some Outs
leads_to Nodes key.End = Some Ended
leads_to Outs key.Net = None
leads_to Outs key.Input = None
leads_to Outs key.Gate = None
leads_to Outs key.Out = Some Outs
leads_to Outs key.End = Some Ended
leads_to Ended k = None

abbrev pub in_range : ℕ → Bool
in_range n = nat_le n 32767

abbrev pub is_due : ℕ → ℕ → Bool
is_due n due = in_range n && n == due

-- after so many nodes, the line's numbers are at most 32,767 and the ones due
abbrev pub numbers_due : ℕ → Line → Bool
numbers_due nodes (Net n) = is_due n 1
numbers_due nodes (Input n) = is_due n (nodes + 1)
numbers_due nodes (Gate a b) = in_range a && in_range b
numbers_due nodes (Out e) = in_range e
numbers_due nodes (End n) = is_due n nodes

-- so many nodes with the line's own
abbrev pub counts : Line → ℕ → ℕ
counts (Net n) nodes = nodes
counts (Input n) nodes = nodes + 1
counts (Gate a b) nodes = nodes + 1
counts (Out e) nodes = nodes
counts (End n) nodes = nodes

abbrev pub placed : Option Place → Bool → Result Place LineFault
placed None due = Err fault.Place
placed (Some p) due = cond due (Ok p) (Err fault.Number)

-- the place after a line of known shape: its own place is looked at first, then its numbers
abbrev pub arrives : Place → ℕ → Line → Result Place LineFault
arrives p nodes l = placed (leads_to p (kind_of l)) (numbers_due nodes l)

-- after the last line: the end line must have been read
abbrev pub ended_at : Place → Result (Unit {0}) LineFault
ended_at Start = Err fault.Place
ended_at Nodes = Err fault.Place
ended_at Outs = Err fault.Place
ended_at Ended = Ok tt

-- bytes after the last byte 10 are a line of no known shape
abbrev pub finished : Place → List ℕ → Result (Unit {0}) LineFault
finished p [] = ended_at p
finished p (c ∷ cs) = Err fault.Shape
