-- What the answers of a session's calls are in the model.
use Rattle.std.specs.Prelude.{ℕ, ◌<◌, Bool, cond, Some, None, Ok, Err, Option, Result}
use Rattle.model.specs.Sessions.{Answer, node, mapped_edge, refused, no_node, at_capacity, no_output_row, wrong_signals, too_short, above_cap}
use Rattle.model.specs.Sessions as model
use Rattle.cuts.specs.declared.edge.Edge.{Edge}
use Rattle.model.specs.Rankings.{Before, Lawful}
use Rattle.model.specs.Sessions.{State, positions, gate_call, swept, knows, map_edge}
use Rattle.model.specs.Runs.{Steps}
use Rattle.model.specs.RunLaws.{Extends}
use Rattle.search.specs.declared.decision.Existing.{Existing}
use Rattle.search.specs.declared.decision.Existing.TheVariants.{Folded, Merged}
use Rattle.sweeper.specs.declared.accepting.Swept.{Swept}
use Rattle.sweeper.specs.Tallies.{outcome_in}
use Rattle.sweeper.specs.declared.refusal.Refusal.{Refusal}
use Rattle.sweeper.specs.declared.refusal.Refusal.TheVariants.{NoNode, AtCapacity, NoOutputRow, WrongSignals, TooShort, AboveCap}

abbrev pub refusal_in : Refusal → model.Refusal
refusal_in (NoNode which) = no_node which
refusal_in (AtCapacity most) = at_capacity most
refusal_in (NoOutputRow rows) = no_output_row rows
refusal_in (WrongSignals inputs) = wrong_signals inputs
refusal_in (TooShort wanted) = too_short wanted
refusal_in (AboveCap cap) = above_cap cap

abbrev pub told_node : Result ℕ Refusal → Answer
told_node (Ok n) = node n
told_node (Err r) = refused (refusal_in r)

abbrev pub told_edge : Result Edge Refusal → Answer
told_edge (Ok e) = mapped_edge e.number
told_edge (Err r) = refused (refusal_in r)

-- the mapped edge of a known source edge, or the refusal of the first or second edge of a call
abbrev pub mapped_by : State → Edge → ℕ → Result Edge Refusal
mapped_by s e which = cond (knows s.source e.number) (Ok (record { number = map_edge s e.number })) (Err (NoNode which))

abbrev pub swept_in : Swept → Answer
swept_in w = swept (outcome_in w.outcome) w.edge.number

abbrev pub told_swept : Result Swept Refusal → Answer
told_swept (Ok w) = swept_in w
told_swept (Err r) = refused (refusal_in r)

-- what holds of a call that was refused
abbrev pub Refused : {A : Type 0} → Result A Refusal → Type 0 → Type 0
Refused (Ok x) holds = Unit {0}
Refused (Err r) holds = holds

abbrev pub numbered : Option Edge → Option ℕ
numbered (Some e) = Some e.number
numbered None = None

-- a gate call by a ranking that is given by its relation and its mark
pub record Gates (before : Before) (mark : Bool) (s : State) (a b : ℕ) (t : State) (r : Answer) : Type 0 where
  pub lawful : Lawful positions before mark
  pub steps : Steps positions s (gate_call (record { before = before; mark = mark; lawful = lawful }) a b) t r

-- a gate call by such a ranking, with what it means for whole runs
pub record GateExtends (before : Before) (mark : Bool) (s : State) (a b : ℕ) (t : State) (r : Answer) : Type 0 where
  pub lawful : Lawful positions before mark
  pub extends : Extends positions s (gate_call (record { before = before; mark = mark; lawful = lawful }) a b) t r

-- the edge of a leaf that is folded to has a number
abbrev pub NodeFits : Existing → Type 0
NodeFits (Folded leaf sign) = leaf < 32768
NodeFits (Merged e) = Unit {0}
