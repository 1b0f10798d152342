-- what a line's call does, by the answer of the session
use Rattle.std.proofs.Common.{◌≡◌, ℕ, IsErrAnd, Ok, Err, Result, sym, refl, ap, ◌∙◌, subst}
use Rattle.std.proofs.lemmas.Result.{err_from_is_err_and}
use Rattle.model.specs.Rankings.{Before, Ranking}
use Rattle.model.specs.Runs.{Steps}
use Rattle.model.specs.Sessions.{State, Answer, positions, input_call, gate_call, output_call, step}
use Rattle.lines.specs.declared.lines.Line.{Line}
use Rattle.lines.specs.declared.lines.Line.TheVariants.{Net, Input, Gate, Out, End}
use Rattle.sweeper.specs.Answers.{refusal_in}
use Rattle.sweeper.specs.declared.refusal.Refusal.{Refusal}
use Rattle.reading.specs.Reading.{unless_refused, called, Becomes}

module _ {s u : State} {a : Answer} where
  pub input-called : (before : Before) (n : ℕ) → Steps positions s input_call u a → called before s (Input n) ≡ unless_refused a u
  unfolding called step
  input-called before n h = sym (λ i. unless_refused (h.answer i) (h.state i))

  gate_same : (r : Ranking positions) (x y : ℕ) → Steps positions s (gate_call r x y) u a → called r.before s (Gate x y) ≡ unless_refused a u
  unfolding called step
  gate_same r x y h = sym (λ i. unless_refused (h.answer i) (h.state i))

  output_same : (before : Before) (e : ℕ) → Steps positions s (output_call e) u a → called before s (Out e) ≡ unless_refused a u
  unfolding called step
  output_same before e h = sym (λ i. unless_refused (h.answer i) (h.state i))

  -- a call with edges of the line's own numbers
  pub gate-called : (r : Ranking positions) {x y m n : ℕ} → x ≡ m → y ≡ n → Steps positions s (gate_call r x y) u a → called r.before s (Gate m n) ≡ unless_refused a u
  gate-called r {x = x} {y = y} p q h = (λ i. called r.before s (Gate (sym p i) (sym q i))) ∙ gate_same r x y h

  pub output_called : (before : Before) {e n : ℕ} → e ≡ n → Steps positions s (output_call e) u a → called before s (Out n) ≡ unless_refused a u
  output_called before {e = e} p h = ap (λ m. called before s (Out m)) (sym p) ∙ output_same before e h

-- a net or end line has no call
pub net-called : (before : Before) (s : State) (n : ℕ) → called before s (Net n) ≡ Ok s
unfolding called
net-called before s n = refl

pub end-called : (before : Before) (s : State) (n : ℕ) → called before s (End n) ≡ Ok s
unfolding called
end-called before s n = refl

-- a call that was refused leaves the state
pub refused-called : (before : Before) (s u : State) (l : Line) (r : Result (Unit {0}) Refusal) (f : Refusal) → IsErrAnd r (λ e. e ≡ f) → called before s l ≡ Err (refusal_in f) → u ≡ s → Becomes (called before s l) s r u
refused-called before s u l r f why is same =
    let p = err_from_is_err_and r why in
    subst (λ x. Becomes (called before s l) s x u) (ap Err (sym p.2) ∙ sym p.1) (is, same)
