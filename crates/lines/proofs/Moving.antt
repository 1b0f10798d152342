-- how a line moves a reader on, and reading with it
use Rattle.std.proofs.Common.{◌≡◌, ℕ, ◌+◌, ◌<◌, Bool, true, false, List, length, Some, None, Ok, Err, Option, Result, sym, refl, ap, ◌∙◌, subst, arith}
use Rattle.lines.specs.declared.faults.LineFault.{LineFault}
use Rattle.lines.specs.declared.faults.TextFault.{TextFault}
use Rattle.lines.specs.declared.lines.Line.{Line}
use Rattle.lines.specs.declared.reader.Place.{Place}
use Rattle.lines.specs.Faults.{at_line}
use Rattle.lines.specs.Order.{leads_to, numbers_due, placed, arrives, finished}
use Rattle.lines.specs.Position.{Position, placed_at, past, past_read, past_cut, none_left, next_line}
use Rattle.lines.specs.Reading.{Taker, broken, declined, Point, Read, breaking, arrived, going, step_with, go_on, read_rest}
use Rattle.lines.specs.Shape.{kind_of, cut_at, read_line}
use Rattle.lines.specs.Written.{Fit}
use Rattle.lines.proofs.Cuts.{Parts, cut_parts, cut-length}
use Rattle.lines.proofs.Onward.{rest-step, rest-done}
use Rattle.lines.proofs.Ordering.{due-parts}

-- a place that is come to leaves the number of the line
pub landed-line : (s t : Position) (r : Result Place LineFault) → placed_at s r ≡ Ok t → t.line ≡ s.line
landed-line s t (Ok p) h = let z : record { place = p; line = s.line; rest = s.rest } ≡ t = cc in ap (λ (x : Position). x.line) (sym z)
landed-line s t (Err e) h = let z : ◌≡◌ {A = ℕ} 0 1 = cc in absurd (omega arith)

-- a line that is answered is past, and its numbers are at most 32,767
pub record IsPast (s : Position) (l : Line) (t : Position) : Type 0 where
  pub shorter : length t.rest < length s.rest
  pub line : t.line ≡ s.line + 1
  pub fit : Fit l

placed_due : (o : Option Place) (b : Bool) (p : Place) → placed o b ≡ Ok p → b ≡ true
placed_due None b p h = let z : ◌≡◌ {A = ℕ} 0 1 = cc in absurd (omega arith)
placed_due (Some q) true p h = refl
placed_due (Some q) false p h = let z : ◌≡◌ {A = ℕ} 0 1 = cc in absurd (omega arith)

module _ (n : ℕ) (s : Position) (l : Line) (t : Position) where
  past_place : (m : Line) (b a : List ℕ) (r : Result Place LineFault) → cut_at 10 s.rest ≡ Some (b, a) → arrives s.place n m ≡ r → past s m a r ≡ Ok (Some (l, t)) → IsPast s l t
  past_place m b a (Ok p) cut came h =
      let both : ◌≡◌ {A = Line × Position} (m, record { place = p; line = s.line + 1; rest = a }) (l, t) = cc in
      let due = placed_due (leads_to s.place (kind_of m)) (numbers_due n m) p came in
      subst (λ (x : Line × Position). IsPast s x.0 x.1) both
      (record { shorter = omega (arith, cut-length 10 s.rest b a cut); line = refl; fit = (due-parts n m due).0 })
  past_place m b a (Err e) cut came h = let z : ◌≡◌ {A = ℕ} 0 1 = cc in absurd (omega arith)

  past_line : (b a : List ℕ) (r : Result Line LineFault) → cut_at 10 s.rest ≡ Some (b, a) → past_read n s a r ≡ Ok (Some (l, t)) → IsPast s l t
  past_line b a (Ok m) cut h = past_place m b a (arrives s.place n m) cut refl h
  past_line b a (Err e) cut h = let z : ◌≡◌ {A = ℕ} 0 1 = cc in absurd (omega arith)

  past_none : (r : Result (Unit {0}) LineFault) → none_left r ≡ Ok (Some (l, t)) → IsPast s l t
  past_none (Ok x) h = let z : ◌≡◌ {A = ℕ} 0 1 = cc in absurd (omega arith)
  past_none (Err e) h = let z : ◌≡◌ {A = ℕ} 0 1 = cc in absurd (omega arith)

  past_by : (o : Option (List ℕ × List ℕ)) → cut_at 10 s.rest ≡ o → past_cut n s o ≡ Ok (Some (l, t)) → IsPast s l t
  past_by None cut h = past_none (finished s.place s.rest) h
  past_by (Some (b, a)) cut h = past_line b a (read_line b) cut h

  pub is_past : next_line n s ≡ Ok (Some (l, t)) → IsPast s l t
  is_past h = past_by (cut_at 10 s.rest) refl h

-- an answer with a line's number beside its fault
module _ {X F : Type 0} (k : ℕ) where
  numbered_ok : (r : Result X F) (x : X) → at_line k r ≡ Ok x → r ≡ Ok x
  numbered_ok (Ok y) x h = cc
  numbered_ok (Err f) x h = let z : ◌≡◌ {A = ℕ} 0 1 = cc in absurd (omega arith)

  numbered_err : (r : Result X F) (e : TextFault F) → at_line k r ≡ Err e → (r ≡ Err e.fault) × (e ≡ record { line = k; fault = e.fault })
  numbered_err (Ok y) e h = let z : ◌≡◌ {A = ℕ} 0 1 = cc in absurd (omega arith)
  numbered_err (Err f) e h =
      let z : record { line = k; fault = f } ≡ e = cc in
      (ap (λ (x : TextFault F). Err x.fault) z, sym z ∙ ap (λ (x : TextFault F). record { line = k; fault = x.fault }) z)

  pub answered-ok : (r : Result X F) (a : Result X (TextFault F)) (x : X) → a ≡ at_line k r → a ≡ Ok x → r ≡ Ok x
  answered-ok r a x is was = numbered_ok r x (sym is ∙ was)

  pub answered-err : (r : Result X F) (a : Result X (TextFault F)) (e : TextFault F) → a ≡ at_line k r → a ≡ Err e → (r ≡ Err e.fault) × (e ≡ record { line = k; fault = e.fault })
  answered-err r a e is was = numbered_err r e (sym is ∙ was)

module _ {S F : Type 0} (by : Taker S F) where
  -- reading on from a reader's position
  abbrev pub read_from : Position → S → Read S F
  read_from s x = read_rest by s.line (record { place = s.place; state = x }) s.rest

  abbrev pub stopped : ℕ → S → F → Read S F
  stopped k x e = record { answer = Err (record { line = k; fault = declined e }); state = x }

  abbrev pub read_taken : ℕ → S → Position → Result S F → Read S F
  read_taken k x t (Ok y) = read_from t y
  read_taken k x t (Err e) = stopped k x e

  -- reading on, by what the reader answers
  abbrev pub read_next : Position → S → Result (Option (Line × Position)) LineFault → Read S F
  read_next s x (Ok None) = record { answer = Ok tt; state = x }
  read_next s x (Ok (Some (l, t))) = read_taken s.line x t (by.taken x l)
  read_next s x (Err e) = record { answer = Err (record { line = s.line; fault = broken e }); state = x }

  module _ (s : Position) (x : S) where
    abbrev here : Point S
    here = record { place = s.place; state = x }

    abbrev goes_on : List ℕ → Point S → Read S F
    goes_on after q = read_rest by (s.line + 1) q after

    next_taken : (p : Place) (after : List ℕ) (r : Result S F) → go_on s.line x (arrived p r) (goes_on after) ≡ read_taken s.line x (record { place = p; line = s.line + 1; rest = after }) r
    next_taken p after (Ok t) = refl
    next_taken p after (Err e) = refl

    next_place : (l : Line) (after : List ℕ) (r : Result Place LineFault) → go_on s.line x (going by x l r) (goes_on after) ≡ read_next s x (past s l after r)
    next_place l after (Ok p) = next_taken p after (by.taken x l)
    next_place l after (Err e) = refl

    next_read : (after : List ℕ) (r : Result Line LineFault) → go_on s.line x (step_with by here r) (goes_on after) ≡ read_next s x (past_read (by.nodes x) s after r)
    next_read after (Ok l) = next_place l after (arrives s.place (by.nodes x) l)
    next_read after (Err e) = refl

    next_none : (r : Result (Unit {0}) LineFault) → ◌≡◌ {A = Read S F} (record { answer = at_line s.line (breaking r); state = x }) (read_next s x (none_left r))
    next_none (Ok u) = refl
    next_none (Err e) = refl

    next_cut : (o : Option (List ℕ × List ℕ)) → Parts 10 s.rest o → read_from s x ≡ read_next s x (past_cut (by.nodes x) s o)
    next_cut None parts = rest-done by s.line here s.rest parts ∙ next_none (finished s.place s.rest)
    next_cut (Some (b, a)) parts = ap (read_rest by s.line here) parts.0 ∙ rest-step by s.line here b a parts.1 ∙ next_read a (read_line b)

    pub read_from-next : read_from s x ≡ read_next s x (next_line (by.nodes x) s)
    read_from-next = next_cut (cut_at 10 s.rest) (cut_parts 10 s.rest)
