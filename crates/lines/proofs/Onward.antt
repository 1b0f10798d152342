-- the steps of reading on
use Rattle.std.proofs.Common.{◌≡◌, ℕ, ◌+◌, cond, List, [], ◌∷◌, ◌++◌, refl, ap, ◌∙◌, ne_eqb}
use Rattle.lines.specs.Faults.{at_line}
use Rattle.lines.specs.Order.{finished}
use Rattle.lines.specs.Reading.{Taker, Point, Lines, lines_of, longer, breaking, go_on, step_line, read_lines, read_rest}
use Rattle.lines.proofs.Cuts.{Lacks}

pub lines-first : (b a : List ℕ) → Lacks 10 b → lines_of (b ++ 10 ∷ a) ≡ record { ended = b ∷ (lines_of a).ended; rest = (lines_of a).rest }
unfolding lines_of
lines-first [] a lacks = refl
lines-first (c ∷ b) a lacks =
    ap (λ t. cond t (record { ended = [] ∷ (lines_of (b ++ 10 ∷ a)).ended; rest = (lines_of (b ++ 10 ∷ a)).rest }) (longer c (lines_of (b ++ 10 ∷ a)).ended (lines_of (b ++ 10 ∷ a)).rest)) (ne_eqb c 10 lacks.0)
    ∙ ap (λ (x : Lines). longer c x.ended x.rest) (lines-first b a lacks.1)

pub lines_none : (bs : List ℕ) → Lacks 10 bs → lines_of bs ≡ record { ended = []; rest = bs }
unfolding lines_of
lines_none [] lacks = refl
lines_none (c ∷ b) lacks =
    ap (λ t. cond t (record { ended = [] ∷ (lines_of b).ended; rest = (lines_of b).rest }) (longer c (lines_of b).ended (lines_of b).rest)) (ne_eqb c 10 lacks.0)
    ∙ ap (λ (x : Lines). longer c x.ended x.rest) (lines_none b lacks.1)

module _ {S F : Type 0} (by : Taker S F) where
  pub rest-step : (k : ℕ) (p : Point S) (b a : List ℕ) → Lacks 10 b → read_rest by k p (b ++ 10 ∷ a) ≡ go_on k p.state (step_line by p b) (λ q. read_rest by (k + 1) q a)
  unfolding read_lines
  rest-step k p b a lacks = ap (λ (x : Lines). read_lines by k p x.ended x.rest) (lines-first b a lacks)

  pub rest-done : (k : ℕ) (p : Point S) (bs : List ℕ) → Lacks 10 bs → read_rest by k p bs ≡ record { answer = at_line k (breaking (finished p.place bs)); state = p.state }
  unfolding read_lines
  rest-done k p bs lacks = ap (λ (x : Lines). read_lines by k p x.ended x.rest) (lines_none bs lacks)
