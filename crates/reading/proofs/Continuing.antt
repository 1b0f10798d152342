-- the calls of lines that are accepted continue every run
use Rattle.std.proofs.Common.{◌≡◌, ℕ, List, [], ◌∷◌, ◌++◌, map, reverse, Ok, sym, refl, ap, ◌∙◌, subst}
use mathlib.Core.List.{reverse-cons}
use Rattle.std.proofs.lemmas.List.{append_assoc, map_push}
use Rattle.model.specs.Rankings.{Before, Ranking}
use Rattle.model.specs.Reports.{calls_of}
use Rattle.model.specs.RunLaws.{Sound}
use Rattle.model.specs.Runs.{Event, Run, calling}
use Rattle.model.specs.Sessions.{State, Call, positions, input_call, gate_call, output_call, input_step, gate_step, output_step, step}
use Rattle.model.proofs.Sound.{every-run-is-sound}
use Rattle.lines.specs.declared.lines.Line.{Line}
use Rattle.lines.specs.declared.lines.Line.TheVariants.{Net, Input, Gate, Out, End}
use Rattle.lines.specs.Written.{line_in}
use Rattle.reading.specs.Calls.{Continues}
use Rattle.reading.specs.Net.{Accepted}
use Rattle.reading.specs.Reading.{called}
use Rattle.reading.proofs.Calling.{net-called, end-called}
use Rattle.reading.proofs.Growth.{told}

module _ (before : Before) (s t : State) where
  input-leads : (n : ℕ) → called before s (Input n) ≡ Ok t → t ≡ (step positions s input_call).state
  unfolding called step
  input-leads n h = sym (told s t (input_step s).answer (input_step s).state h)

  output_leads : (e : ℕ) → called before s (Out e) ≡ Ok t → t ≡ (step positions s (output_call e)).state
  unfolding called step
  output_leads e h = sym (told s t (output_step s e).answer (output_step s e).state h)

  same-state : (l : Line) → called before s l ≡ Ok s → called before s l ≡ Ok t → t ≡ s
  same-state l stays h = cc

module _ (r : Ranking positions) where
  gate-leads : (s t : State) (a b : ℕ) → called r.before s (Gate a b) ≡ Ok t → t ≡ (step positions s (gate_call r a b)).state
  unfolding called step
  gate-leads s t a b h = sym (told s t (gate_step positions r.before s a b).answer (gate_step positions r.before s a b).state h)

  abbrev asked : List Line → List (Call positions)
  asked ls = calls_of r (map line_in ls)

  -- one call in front of the rest
  call-first : (s t u : State) (l : Line) (ls : List Line) (c : Call positions) → asked (l ∷ ls) ≡ c ∷ asked ls → t ≡ (step positions s c).state → Continues r t ls u → Continues r s (l ∷ ls) u
  call-first s t u l ls c is leads h =
      let e : Event positions = record { before = s; call = c; answer = (step positions s c).answer } in
      record {
        events = h.events ++ e ∷ [];
        calls = map_push (λ (x : Event positions). x.call) h.events e ∙ ap (λ x. x ++ c ∷ []) h.calls ∙ sym (reverse-cons c (asked ls)) ∙ ap reverse (sym is);
        whole = λ m tables es fit run.
            subst (λ xs. Run positions m tables xs u × Sound positions m tables xs u) (sym (append_assoc h.events (e ∷ []) es))
            (h.whole m tables (e ∷ es) fit (calling run (record { state = leads; answer = refl })));
      }

  -- a line without a call
  no_call : (s t u : State) (l : Line) (ls : List Line) → asked (l ∷ ls) ≡ asked ls → t ≡ s → Continues r t ls u → Continues r s (l ∷ ls) u
  no_call s t u l ls is stays h =
      record {
        events = h.events;
        calls = h.calls ∙ ap reverse (sym is);
        whole = λ m tables es fit run. h.whole m tables es fit (subst (Run positions m tables es) (sym stays) run);
      }

  pub continues : (ls : List Line) (s u : State) → Accepted r.before s ls u → Continues r s ls u
  continues [] s u h =
      record {
        events = [];
        calls = refl;
        whole = λ m tables es fit run. let same = subst (Run positions m tables es) h run in (same, every-run-is-sound positions m tables es u fit same);
      }
  continues (Net n ∷ ls) s u h = no_call s h.0 u (Net n) ls refl (same-state r.before s h.0 (Net n) (net-called r.before s n) h.1) (continues ls h.0 u h.2)
  continues (Input n ∷ ls) s u h = call-first s h.0 u (Input n) ls input_call refl (input-leads r.before s h.0 n h.1) (continues ls h.0 u h.2)
  continues (Gate a b ∷ ls) s u h = call-first s h.0 u (Gate a b) ls (gate_call r a b) refl (gate-leads s h.0 a b h.1) (continues ls h.0 u h.2)
  continues (Out e ∷ ls) s u h = call-first s h.0 u (Out e) ls (output_call e) refl (output_leads r.before s h.0 e h.1) (continues ls h.0 u h.2)
  continues (End n ∷ ls) s u h = no_call s h.0 u (End n) ls refl (same-state r.before s h.0 (End n) (end-called r.before s n) h.1) (continues ls h.0 u h.2)
