-- What a walk leaves in its places.
use Rattle.std.specs.Prelude.{◌≡◌, ℕ, suc, ◌<◌, ◌≤◌, cond, List, length, get_or, drop, Ok, Err, Result, nat_le, slice_index_or}
use Rattle.signals.specs.declared.signal.Signal.{Ghosts as Signal}
use Rattle.model.specs.Edges.{node_of, sign_of}
use Rattle.model.specs.Graphs.{input, gate, Graph, Kind, at, signals}
use Rattle.model.specs.Sessions.{Answer, filled, refused, too_short}
use Rattle.sweeper.specs.declared.refusal.Refusal.{Refusal}
use Rattle.sweeper.specs.Answers.{refusal_in}

-- FALSE, AND and complement of signals
abbrev pub kind_of : {S : Type 0} → Signal S → Kind S
kind_of s = record { low = s.low; meet = s.meet; flip = s.flip }

-- an edge's signal, from places that hold the nodes' signals: complemented for sign 1
abbrev pub edge_over : {S : Type 0} → Kind S → List S → ℕ → S
edge_over k xs e = let v = get_or xs (node_of e) k.low in cond (sign_of e) (k.flip v) v

-- the input of rank r has the signal at r
abbrev pub ranked : {S : Type 0} → Kind S → List S → ℕ → S
ranked k xs r = slice_index_or xs r k.low

-- place n holds node n's signal, place 0 FALSE, and later places stay as they were;
-- FALSE and the signals of gates are formed, whatever the inputs' signals are
pub record Walked {S : Type 0} (s : Signal S) (g : Graph) (given before after : List S) : Type 0 where
  pub fits : length g < length before
  pub room : length after ≡ length before
  pub places : (n : ℕ) → n ≤ length g → slice_index_or after n s.low ≡ at s.low (signals (kind_of s) (ranked (kind_of s) given) g) n
  pub rest : drop (suc (length g)) after ≡ drop (suc (length g)) before
  pub formed_low : s.formed (slice_index_or after 0 s.low)
  pub formed_gates : (n x y : ℕ) → at input g n ≡ gate x y → s.formed (slice_index_or after n s.low)

-- places enough for the nodes and the constant
abbrev pub room_answer : Graph → ℕ → Answer
room_answer g places = cond (nat_le (suc (length g)) places) (filled (suc (length g))) (refused (too_short (suc (length g))))

abbrev pub told_places : Result ℕ Refusal → Answer
told_places (Ok n) = filled n
told_places (Err r) = refused (refusal_in r)

-- a refused walk leaves the places
abbrev pub WalkedBy : {S : Type 0} → Signal S → Result ℕ Refusal → Graph → List S → List S → List S → Type 0
WalkedBy s (Ok n) g given before after = Walked s g given before after
WalkedBy s (Err r) g given before after = after ≡ before
