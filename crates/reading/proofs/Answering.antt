-- what follows from reading as the rules say
use Rattle.std.proofs.Common.{◌≡◌, ℕ, List, Ok, Err, Result, sym, refl, ap, ◌∙◌, subst, arith}
use Rattle.model.specs.Rankings.{Before}
use Rattle.model.specs.Sessions.{State}
use Rattle.lines.specs.declared.faults.TextFault.{TextFault}
use Rattle.lines.proofs.Exact as exact
use Rattle.lines.proofs.Telling as telling
use Rattle.lines.proofs.Telling.{Counting}
use Rattle.reading.specs.declared.faults.ReadFault.{ReadFault}
use Rattle.reading.specs.Faults.{Stop, answer_in}
use Rattle.reading.specs.Net.{Follows, Refused, Told}
use Rattle.reading.specs.Reading.{caller, Read, read_text}
use Rattle.reading.proofs.Growth.{called_adds}

-- a call adds the nodes of its line
counting : (before : Before) → Counting (caller before)
counting before s u l h = (called_adds s u before l h).nodes

answered-ok : (r : Result (Unit {0}) (TextFault ReadFault)) → answer_in r ≡ Ok tt → r ≡ Ok tt
answered-ok (Ok x) h = refl
answered-ok (Err e) h = let z : ◌≡◌ {A = ℕ} 0 1 = cc in absurd (omega arith)

module _ (before : Before) (s : State) (text : List ℕ) (r : Result (Unit {0}) (TextFault ReadFault)) (u : State) (is : read_text before s text ≡ record { answer = answer_in r; state = u }) where
  pub told : Told before s text (answer_in r) u
  told = subst (λ (x : Read). Told before s text x.answer x.state) is (telling.text_told (caller before) (counting before) s text)

  same_read : (x : Read) → read_text before s text ≡ x → (answer_in r ≡ x.answer) × (u ≡ x.state)
  same_read x h = let e = sym is ∙ h in (ap (λ (y : Read). y.answer) e, ap (λ (y : Read). y.state) e)

  pub accepts : (t : State) → Follows before s text t → (r ≡ Ok tt) × (u ≡ t)
  accepts t h = let p = same_read (record { answer = Ok tt; state = t }) (exact.text_read (caller before) (counting before) s text t h) in (answered-ok r p.0, p.1)

  pub refuses : (e : Stop) (t : State) → Refused before s text e t → (answer_in r ≡ Err e) × (u ≡ t)
  refuses e t h = same_read (record { answer = Err e; state = t }) (exact.text_stopped (caller before) (counting before) s text e t h)
