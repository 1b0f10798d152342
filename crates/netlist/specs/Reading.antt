-- counting the lines of a text
use Rattle.std.specs.Prelude.{ℕ, ◌+◌, List, Ok, Err, Result}
use Rattle.lines.specs.declared.faults.LineFault.{LineFault}
use Rattle.lines.specs.declared.faults.TextFault.{TextFault}
use Rattle.lines.specs.declared.lines.Line.{Line}
use Rattle.lines.specs.declared.lines.Line.TheVariants.{Net, Input, Gate, Out, End}
use Rattle.lines.specs.Reading as lines
use Rattle.lines.specs.Reading.{Taker, Fault, broken, declined, Read}
use Rattle.netlist.specs.declared.reader.Outline.{Outline}

-- inputs and gates so far
abbrev pub nodes_of : Outline → ℕ
nodes_of o = o.inputs + o.gates

abbrev pub counted : Outline → Line → Outline
counted o (Net n) = o
counted o (Input n) = record { inputs = o.inputs + 1; gates = o.gates; outs = o.outs; end = o.end }
counted o (Gate a b) = record { inputs = o.inputs; gates = o.gates + 1; outs = o.outs; end = o.end }
counted o (Out e) = record { inputs = o.inputs; gates = o.gates; outs = o.outs + 1; end = o.end }
counted o (End n) = record { inputs = o.inputs; gates = o.gates; outs = o.outs; end = n }

-- counting declines no line
abbrev pub counter : Taker Outline ⊥
counter = record { nodes = nodes_of; taken = λ o l. Ok (counted o l) }

abbrev pub begun : Outline
begun = record { inputs = 0; gates = 0; outs = 0; end = 0 }

abbrev pub reason : Fault ⊥ → LineFault
reason (broken f) = f
reason (declined x) = absurd x

abbrev pub answered : Outline → Result (Unit {0}) (TextFault (Fault ⊥)) → Result Outline (TextFault LineFault)
answered o (Ok x) = Ok o
answered o (Err e) = Err (record { line = e.line; fault = reason e.fault })

abbrev pub answer_of : Read Outline ⊥ → Result Outline (TextFault LineFault)
answer_of r = answered r.state r.answer

-- the outline of a text's lines, or the first line that is refused
abbrev pub read_text : List ℕ → Result Outline (TextFault LineFault)
read_text bs = answer_of (lines.read_text counter begun bs)
