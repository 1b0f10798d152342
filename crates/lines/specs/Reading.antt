-- reading the lines of a text in their order into what takes them, up to the first line that is refused
use Rattle.std.specs.Prelude.{ℕ, ◌+◌, cond, List, [], ◌∷◌, Ok, Err, Result, ◌==◌}
use Rattle.lines.specs.declared.faults.LineFault.{LineFault}
use Rattle.lines.specs.declared.faults.TextFault.{TextFault}
use Rattle.lines.specs.declared.lines.Line.{Line}
use Rattle.lines.specs.declared.reader.Place.{Place}
use Rattle.lines.specs.declared.reader.Place.TheVariants.{Start}
use Rattle.lines.specs.Faults.{at_line}
use Rattle.lines.specs.Order.{arrives, finished}
use Rattle.lines.specs.Shape.{read_line}

-- a text cut at each byte 10: the lines that it ends, and the bytes after the last one
pub record Lines : Type 0 where
  pub ended : List (List ℕ)
  pub rest : List ℕ

abbrev pub longer : ℕ → List (List ℕ) → List ℕ → Lines
longer c [] rest = record { ended = []; rest = c ∷ rest }
longer c (l ∷ ls) rest = record { ended = (c ∷ l) ∷ ls; rest = rest }

unfoldable pub lines_of : List ℕ → Lines
lines_of [] = record { ended = []; rest = [] }
lines_of (c ∷ cs) =
    cond (c == 10)
    (record { ended = [] ∷ (lines_of cs).ended; rest = (lines_of cs).rest })
    (longer c (lines_of cs).ended (lines_of cs).rest)

-- what takes lines: how many nodes it has, and what it is after a line, or why it declines the line
pub record Taker (S F : Type 0) : Type 0 where
  pub nodes : S → ℕ
  pub taken : S → Line → Result S F

-- why a line is refused: it breaks a rule for lines, or it is declined
pub data Fault (F : Type 0) : Type 0 where
  broken : LineFault → Fault F
  declined : F → Fault F

-- a place among the lines, and the taker's state there
pub record Point (S : Type 0) : Type 0 where
  pub place : Place
  pub state : S

-- what is answered, and the state that is left
pub record Read (S F : Type 0) : Type 0 where
  pub answer : Result (Unit {0}) (TextFault (Fault F))
  pub state : S

abbrev pub breaking : {X F : Type 0} → Result X LineFault → Result X (Fault F)
breaking (Ok x) = Ok x
breaking (Err e) = Err (broken e)

abbrev pub arrived : {S F : Type 0} → Place → Result S F → Result (Point S) (Fault F)
arrived p (Ok t) = Ok (record { place = p; state = t })
arrived p (Err e) = Err (declined e)

abbrev pub going : {S F : Type 0} → Taker S F → S → Line → Result Place LineFault → Result (Point S) (Fault F)
going by s l (Ok p) = arrived p (by.taken s l)
going by s l (Err e) = Err (broken e)

-- a point after a line of known shape: its place and its numbers are looked at first, then it is taken
abbrev pub after_line : {S F : Type 0} → Taker S F → Point S → Line → Result (Point S) (Fault F)
after_line by p l = going by p.state l (arrives p.place (by.nodes p.state) l)

abbrev pub step_with : {S F : Type 0} → Taker S F → Point S → Result Line LineFault → Result (Point S) (Fault F)
step_with by p (Ok l) = after_line by p l
step_with by p (Err e) = Err (broken e)

-- a point after a line's bytes
abbrev pub step_line : {S F : Type 0} → Taker S F → Point S → List ℕ → Result (Point S) (Fault F)
step_line by p bs = step_with by p (read_line bs)

abbrev pub go_on : {S F : Type 0} → ℕ → S → Result (Point S) (Fault F) → (Point S → Read S F) → Read S F
go_on k s (Ok p) f = f p
go_on k s (Err e) f = record { answer = Err (record { line = k; fault = e }); state = s }

-- reading the lines from line k on, at a point: the first that is refused ends it and leaves the state before it
unfoldable pub read_lines : {S F : Type 0} → Taker S F → ℕ → Point S → List (List ℕ) → List ℕ → Read S F
read_lines by k p [] rest = record { answer = at_line k (breaking (finished p.place rest)); state = p.state }
read_lines by k p (l ∷ ls) rest = go_on k p.state (step_line by p l) (λ q. read_lines by (k + 1) q ls rest)

-- reading what is left of a text
abbrev pub read_rest : {S F : Type 0} → Taker S F → ℕ → Point S → List ℕ → Read S F
read_rest by k p bs = read_lines by k p (lines_of bs).ended (lines_of bs).rest

abbrev pub read_text : {S F : Type 0} → Taker S F → S → List ℕ → Read S F
read_text by s bs = read_rest by 1 (record { place = Start; state = s }) bs
