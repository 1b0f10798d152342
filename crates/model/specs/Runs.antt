-- Runs: a session is opened, then any calls are made of it, refused ones among them, each on what the one before left.
use Rattle.std.specs.Prelude.{◌≡◌, ℕ, List, [], ◌∷◌}
use Rattle.model.specs.Search.{Limits}
use Rattle.model.specs.Sessions.{State, Tables, Call, Answer, step, opened_with}

-- the call takes s to t and answers a
pub record Steps (p : ℕ) (s : State) (c : Call p) (t : State) (a : Answer) : Type 0 where
  pub state : t ≡ (step p s c).state
  pub answer : a ≡ (step p s c).answer

-- a call that was made, with its answer and the session just before it
pub record Event (p : ℕ) : Type 0 where
  pub before : State
  pub call : Call p
  pub answer : Answer

-- the calls of a run, the newest first, and the session that they lead to
pub data Run (p : ℕ) (m : Limits) (t : Tables) : List (Event p) → State → Type 0 where
  opening : {s : State} → s ≡ opened_with m t → Run p m t [] s
  calling : {es : List (Event p)} {s u : State} {c : Call p} {a : Answer} → Run p m t es s → Steps p s c u a
      → Run p m t (record { before = s; call = c; answer = a } ∷ es) u
