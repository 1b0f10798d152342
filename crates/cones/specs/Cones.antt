-- What a cone call answers, and what it leaves of the marks.
use Rattle.std.specs.Prelude.{◌≡◌, ℕ, ◌<◌, cond, List, Some, None, Ok, Err, Option, Result, nat_le}
use Rattle.model.specs.Edges.{node_of}
use Rattle.model.specs.Graphs.{Node, Graph, input, gate}
use Rattle.model.specs.Sessions.{Answer, counted, refused}
use Rattle.sweeper.specs.Answers.{refusal_in}
use Rattle.sweeper.specs.declared.refusal.Refusal.{Refusal}
use Rattle.sweeper.specs.declared.refusal.Refusal.TheVariants.{NoNode, AtCapacity, NoOutputRow, WrongSignals, TooShort, AboveCap}
use Rattle.cones.specs.Marks.{Wiped}
use Rattle.cones.specs.Paths.{Cone}

abbrev pub told_count : Result ℕ Refusal → Answer
told_count (Ok n) = counted n
told_count (Err r) = refused (refusal_in r)

-- a number, or the cap if it is above it
abbrev pub capped : ℕ → ℕ → Result ℕ Refusal
capped n cap = cond (nat_le n cap) (Ok n) (Err (AboveCap cap))

-- the nodes of a gate's fanins
abbrev pub fanin_nodes : Node → Option (ℕ × ℕ)
fanin_nodes input = None
fanin_nodes (gate x y) = Some (node_of x, node_of y)

-- what holds of a refusal: of one for the cap, and of one before the count
abbrev pub by_refusal : Refusal → Type 0 → Type 0 → Type 0
by_refusal (AboveCap cap) above unbegun = above
by_refusal (NoNode which) above unbegun = unbegun
by_refusal (TooShort wanted) above unbegun = unbegun
by_refusal (AtCapacity most) above unbegun = unbegun
by_refusal (NoOutputRow rows) above unbegun = unbegun
by_refusal (WrongSignals inputs) above unbegun = unbegun

-- the marks are wiped once a count began, and left by a refusal before it
abbrev pub MarksAfter : List ℕ → List ℕ → Result ℕ Refusal → Type 0
MarksAfter before after (Ok n) = Wiped before after
MarksAfter before after (Err r) = by_refusal r (Wiped before after) (after ≡ before)

-- more gates than the cap have a path from the node
pub record Above (g : Graph) (n cap : ℕ) : Type 0 where
  pub number : ℕ
  pub cone : Cone g n number
  pub above : cap < number

-- an answered number is that of the cone's gates, and a cap that is answered is below it
abbrev pub ConeTold : Graph → ℕ → ℕ → Result ℕ Refusal → Type 0
ConeTold g n cap (Ok number) = Cone g n number
ConeTold g n cap (Err r) = by_refusal r (Above g n cap) (Unit {0})
