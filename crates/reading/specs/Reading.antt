-- the calls of a session that lines ask for
use Rattle.std.specs.Prelude.{◌≡◌, ℕ, Bool, true, false, List, length, Some, None, Ok, Err, Option, Result, MatchResult}
use Rattle.model.specs.Rankings.{Before}
use Rattle.model.specs.Sessions.{State, After, Answer, node, swept, mapped_edge, filled, counted, refused, Refusal, positions, input_step, gate_step, output_step}
use Rattle.lines.specs.declared.faults.LineFault.{LineFault}
use Rattle.lines.specs.declared.lines.Line.{Line}
use Rattle.lines.specs.declared.lines.Line.TheVariants.{Net, Input, Gate, Out, End}
use Rattle.lines.specs.Position.{Position, next_line}
use Rattle.lines.specs.Reading as lines
use Rattle.lines.specs.Reading.{Taker, broken, declined}
use Rattle.sweeper.specs.declared.refusal.Refusal as session
use Rattle.sweeper.specs.Answers.{refusal_in}
use Rattle.reading.specs.declared.faults.ReadFault.{ReadFault}
use Rattle.reading.specs.Faults.{Fault, fault_in}

-- the state after a call that was answered so
abbrev pub unless_refused : Answer → State → Result State Refusal
unless_refused (node n) t = Ok t
unless_refused (swept o e) t = Ok t
unless_refused (mapped_edge e) t = Ok t
unless_refused (filled n) t = Ok t
unless_refused (counted n) t = Ok t
unless_refused (refused r) t = Err r

abbrev pub after_call : After → Result State Refusal
after_call r = unless_refused r.answer r.state

-- the line's call; a net or end line has none
unfoldable pub called : Before → State → Line → Result State Refusal
called before s (Net n) = Ok s
called before s (Input n) = after_call (input_step s)
called before s (Gate a b) = after_call (gate_step positions before s a b)
called before s (Out e) = after_call (output_step s e)
called before s (End n) = Ok s

-- a call that may be refused: the state becomes what was due, or is as it was
abbrev pub Becomes : Result State Refusal → State → Result (Unit {0}) session.Refusal → State → Type 0
Becomes due s r u = MatchResult r (λ _. due ≡ Ok u) (λ e. (due ≡ Err (refusal_in e)) × (u ≡ s))

-- the session that takes lines
abbrev pub caller : Before → Taker State Refusal
caller before = record { nodes = λ s. length s.source; taken = called before }

abbrev pub after_called : Position → Result State Refusal → Result (Option (Position × State)) Fault
after_called t (Ok u) = Ok (Some (t, u))
after_called t (Err r) = Err (declined r)

abbrev pub after_next : Before → State → Result (Option (Line × Position)) LineFault → Result (Option (Position × State)) Fault
after_next before s (Ok None) = Ok None
after_next before s (Ok (Some (l, t))) = after_called t (called before s l)
after_next before s (Err e) = Err (broken e)

-- the position and the state after the next line, or none after the end line
abbrev pub step : Before → Position → State → Result (Option (Position × State)) Fault
step before p s = after_next before s (next_line (length s.source) p)

abbrev pub Stays : Position → State → Position → State → Type 0
Stays p s q u = (q ≡ p) × (u ≡ s)

-- the next line and its call move on, or all is as it was
abbrev pub Steps : Before → Position → State → Result Bool ReadFault → Position → State → Type 0
Steps before p s (Ok true) q u = step before p s ≡ Ok (Some (q, u))
Steps before p s (Ok false) q u = (step before p s ≡ Ok None) × Stays p s q u
Steps before p s (Err e) q u = (step before p s ≡ Err (fault_in e)) × Stays p s q u

-- what is answered, and the state that is left
abbrev pub Read : Type 0
Read = lines.Read State Refusal

abbrev pub read_text : Before → State → List ℕ → Read
read_text before s bs = lines.read_text (caller before) s bs
