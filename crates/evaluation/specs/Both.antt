-- Both graphs walked with the same signals.
use Rattle.std.specs.Prelude.{◌≡◌, ℕ, suc, ◌<◌, ◌≤◌, cond, List, length, Ok, Err, Result, ◌==◌, nat_le, slice_index_or}
use Rattle.model.specs.Edges.{node_of}
use Rattle.signals.specs.declared.signal.Signal.{Ghosts as Signal}
use Rattle.model.specs.Graphs.{at, inputs}
use Rattle.model.specs.Sessions.{State, Answer, filled, refused, wrong_signals, too_short, map_edge}
use Rattle.sweeper.specs.declared.refusal.Refusal.{Refusal}
use Rattle.evaluation.specs.Walks.{kind_of, edge_over}

-- the checks of the source walk, then those of the reduced walk that can still fail; the answer is that of the source walk
abbrev pub both_answer : State → ℕ → ℕ → ℕ → Answer
both_answer s given source reduced =
    cond (given == inputs s.source)
    (cond (nat_le (suc (length s.source)) source)
    (cond (nat_le (suc (length s.reduced)) reduced) (filled (suc (length s.source))) (refused (too_short (suc (length s.reduced)))))
    (refused (too_short (suc (length s.source)))))
    (refused (wrong_signals (inputs s.source)))

-- in every lane a source node has the signal of its mapped edge, and so has a source edge
pub record Agree {S : Type 0} (s : Signal S) (t : State) (source reduced : List S) : Type 0 where
  pub nodes : (n i : ℕ) → n ≤ length t.source → i < s.lanes → s.lane (slice_index_or source n s.low) i ≡ s.lane (edge_over (kind_of s) reduced (at 0 t.mapped n)) i
  pub edges : (e i : ℕ) → node_of e ≤ length t.source → i < s.lanes → s.lane (edge_over (kind_of s) source e) i ≡ s.lane (edge_over (kind_of s) reduced (map_edge t e)) i

abbrev pub AgreeBy : {S : Type 0} → Signal S → Result ℕ Refusal → State → List S → List S → Type 0
AgreeBy s (Ok n) t source reduced = Agree s t source reduced
AgreeBy s (Err r) t source reduced = Unit {0}
