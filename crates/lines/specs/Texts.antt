-- which texts are nets that are taken whole, and where another text goes wrong
use Rattle.std.specs.Prelude.{◌≡◌, ℕ, ◌+◌, List, [], ◌∷◌, ◌++◌, length, Ok, Err, Result, MatchResult}
use Rattle.std.specs.List.{flat_map, AllByRecursion}
use Rattle.lines.specs.declared.faults.TextFault.{TextFault}
use Rattle.lines.specs.declared.lines.Line.{Line}
use Rattle.lines.specs.Net as net
use Rattle.lines.specs.Net.{Graph, net_lines, Begins, Next}
use Rattle.lines.specs.Reading.{Taker, Fault, broken, declined}
use Rattle.lines.specs.Written.{written, Fit}

-- the lines, in their order, are all taken and lead from s to u
abbrev pub Accepted : {S F : Type 0} → Taker S F → S → List Line → S → Type 0
Accepted by s [] u = s ≡ u
Accepted {S = S} by s (l ∷ ls) u = (t : S) × (by.taken s l ≡ Ok t) × Accepted by t ls u

-- the text is that of a net, no number in it is above 32,767, and its lines lead to u
pub record Follows {S F : Type 0} (by : Taker S F) (s : S) (text : List ℕ) (u : S) : Type 0 where
  pub graph : Graph
  pub whole : text ≡ flat_map written (net_lines (by.nodes s) graph)
  pub fit : AllByRecursion Fit (net_lines (by.nodes s) graph)
  pub calls : Accepted by s (net_lines (by.nodes s) graph) u

-- why the lines before, which led to u, do not go on with the rest of the text
abbrev pub Breaks : {S F : Type 0} → Taker S F → ℕ → S → List Line → List ℕ → Fault F → Type 0
Breaks by base u lines rest (broken f) = net.Breaks base lines rest f
Breaks by base u lines rest (declined r) = (l : Line) × Next rest l × Fit l × Begins base (lines ++ l ∷ []) × (by.taken u l ≡ Err r)

-- the lines before the refused line are those of a net so far and lead to u, and the rest of the text breaks a rule or is declined
pub record Refused {S F : Type 0} (by : Taker S F) (s : S) (text : List ℕ) (e : TextFault (Fault F)) (u : S) : Type 0 where
  pub lines : List Line
  pub rest : List ℕ
  pub whole : text ≡ flat_map written lines ++ rest
  pub place : e.line ≡ length lines + 1
  pub begins : Begins (by.nodes s) lines
  pub fit : AllByRecursion Fit lines
  pub calls : Accepted by s lines u
  pub breaks : Breaks by (by.nodes s) u lines rest e.fault

abbrev pub Told : {S F : Type 0} → Taker S F → S → List ℕ → Result (Unit {0}) (TextFault (Fault F)) → S → Type 0
Told by s text r u = MatchResult r (λ _. Follows by s text u) (λ e. Refused by s text e u)
