-- a line and its call, and reading on after them
use Rattle.std.proofs.Common.{◌≡◌, ℕ, ◌<◌, Bool, true, false, length, Some, None, Ok, Err, Option, Result, refl, ap, ◌∙◌, arith}
use Rattle.model.specs.Rankings.{Before}
use Rattle.model.specs.Sessions.{State, Refusal}
use Rattle.lines.specs.declared.faults.LineFault.{LineFault}
use Rattle.lines.specs.declared.lines.Line.{Line}
use Rattle.lines.specs.Position.{Position, next_line}
use Rattle.lines.proofs.Moving.{is_past, read_from, read_taken, read_next, read_from-next}
use Rattle.reading.specs.declared.faults.ReadFault.{ReadFault}
use Rattle.reading.specs.Faults.{Fault}
use Rattle.reading.specs.Reading.{called, caller, after_called, after_next, step, Steps, Read}
use Rattle.reading.proofs.Growth.{Longer, longer-same, longer_by, called_adds}

module _ (before : Before) (p : Position) (s : State) where
  -- reading on, by what the step leads to
  abbrev pub read_step : Result (Option (Position × State)) Fault → Read
  read_step (Ok None) = record { answer = Ok tt; state = s }
  read_step (Ok (Some (q, u))) = read_from (caller before) q u
  read_step (Err f) = record { answer = Err (record { line = p.line; fault = f }); state = s }

  step_called : (q : Position) (r : Result State Refusal) → read_taken (caller before) p.line s q r ≡ read_step (after_called q r)
  step_called q (Ok u) = refl
  step_called q (Err f) = refl

  step_next : (x : Result (Option (Line × Position)) LineFault) → read_next (caller before) p s x ≡ read_step (after_next before s x)
  step_next (Ok None) = refl
  step_next (Ok (Some (l, q))) = step_called q (called before s l)
  step_next (Err f) = refl

  pub read_from-step : read_from (caller before) p s ≡ read_step (step before p s)
  read_from-step = read_from-next (caller before) p s ∙ step_next (next_line (length s.source) p)

  -- a line that was taken and its call
  pub record Taken (q : Position) (u : State) : Type 0 where
    pub line : Line
    pub past : next_line (length s.source) p ≡ Ok (Some (line, q))
    pub calls : called before s line ≡ Ok u

  module _ (q : Position) (u : State) where
    taken_called : (l : Line) (t : Position) (r : Result State Refusal) → next_line (length s.source) p ≡ Ok (Some (l, t)) → called before s l ≡ r → after_called t r ≡ Ok (Some (q, u)) → Taken q u
    taken_called l t (Ok v) past calls h =
        let both : ◌≡◌ {A = Position × State} (t, v) (q, u) = cc in
        record { line = l; past = past ∙ ap (λ (x : Position × State). Ok (Some (l, x.0))) both; calls = calls ∙ ap (λ (x : Position × State). Ok x.1) both }
    taken_called l t (Err f) past calls h = let z : ◌≡◌ {A = ℕ} 0 1 = cc in absurd (omega arith)

    taken_next : (x : Result (Option (Line × Position)) LineFault) → next_line (length s.source) p ≡ x → after_next before s x ≡ Ok (Some (q, u)) → Taken q u
    taken_next (Ok None) is h = let z : ◌≡◌ {A = ℕ} 0 1 = cc in absurd (omega arith)
    taken_next (Ok (Some (l, t))) is h = taken_called l t (called before s l) is refl h
    taken_next (Err f) is h = let z : ◌≡◌ {A = ℕ} 0 1 = cc in absurd (omega arith)

    pub step-taken : step before p s ≡ Ok (Some (q, u)) → Taken q u
    step-taken h = taken_next (next_line (length s.source) p) refl h

    pub step-shorter : step before p s ≡ Ok (Some (q, u)) → length q.rest < length p.rest
    step-shorter h = let t = step-taken h in (is_past (length s.source) p t.line q t.past).shorter

    -- a line's call takes nothing away
    pub steps-longer : (r : Result Bool ReadFault) → Steps before p s r q u → Longer s u
    steps-longer (Ok true) h = let t = step-taken h in longer_by t.line s u (called_adds s u before t.line t.calls)
    steps-longer (Ok false) h = longer-same s u h.1.1
    steps-longer (Err e) h = longer-same s u h.1.1
