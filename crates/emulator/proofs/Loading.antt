-- The calls one after another as a run, and what a run's calls alone tell.
use mathlib.Core.Path.{◌≡◌, refl, ap, subst, ◌∙◌}
use mathlib.Core.Bool.{Bool, true, false}
use mathlib.Core.List.{List, [], ◌∷◌, map}
use Prim.Native.Nat.{ℕ}
use Rattle.model.specs.Tables.{masked}
use Rattle.model.specs.Cuts.{tabulate, squeeze, join}
use Rattle.model.specs.Keys.{first_of}
use Rattle.model.specs.Graphs.{heights, uses, rests_on, find_pair, find_key}
use Rattle.model.specs.Rankings.{Before, Lawful, by_nothing, rank_in, ranked}
use Rattle.model.specs.Search.{Limits, along, decide}
use Rattle.model.specs.Sessions.{State, Tables, Call, Answer, input_call, gate_call, output_call, walk_call, reduced_graph, positions, lean, opened_with, step}
use Rattle.model.specs.Runs.{Event, Run, opening, calling}
use Rattle.model.specs.RunLaws.{Extends}
use Rattle.model.proofs.Sound.{extends, sessions-fit}
use Rattle.sweeper.specs.Answers.{GateExtends}
use Rattle.buyer.specs.Highest.{by_highest}
use Rattle.evaluation.specs.declared.auditing.Findings.{Findings}
use Rattle.evaluation.specs.Audits.{Tells}
use Rattle.emulator.specs.Loading.{tables, Loads, Loaded}

-- a gate call is the same under any proof of its ranking's laws
same_gate : {before : Before} {mark : Bool} {s u : State} {a b : ℕ} {r : Answer} (l : Lawful positions before mark) → GateExtends before mark s a b u r
    → Extends positions s (gate_call (record { before = before; mark = mark; lawful = l }) a b) u r
unfolding step
same_gate l h = extends (record { state = h.extends.steps.state; answer = h.extends.steps.answer })

-- and under other names of its fanins
pub with_fanins : {before : Before} {mark : Bool} {s u : State} {x y : ℕ} {r : Answer} (a b : ℕ) → x ≡ a → y ≡ b → GateExtends before mark s x y u r → GateExtends before mark s a b u r
with_fanins a b first second h = rw (first, second) at h

pub loads : (t : Tables) (r : Findings) {s₀ s₁ s₂ s₃ s₄ s₅ s₆ : State} {a₁ a₂ a₃ a₄ a₅ a₆ a₇ : Answer}
    → Run positions lean t [] s₀
    → Extends positions s₀ input_call s₁ a₁
    → Extends positions s₁ input_call s₂ a₂
    → GateExtends by_highest true s₂ 2 5 s₃ a₃
    → GateExtends by_nothing false s₃ 3 4 s₄ a₄
    → GateExtends by_highest true s₄ 7 9 s₅ a₅
    → Extends positions s₅ (output_call 10) s₆ a₆
    → Extends positions s₆ (walk_call reduced_graph 2 6) s₆ a₇
    → Tells s₆ r
    → Loads t r
loads t r run one two first second third out walked told =
    let highest = first.lawful in
    let flat = second.lawful in
    let inputs = calling (calling run one.steps) two.steps in
    let gates = calling (calling (calling inputs first.extends.steps) second.extends.steps) (same_gate highest third).steps in
    let whole = walked.whole lean t _ sessions-fit (calling gates out.steps) in
    record {
      highest = highest;
      flat = flat;
      state = _;
      events = _;
      calls = refl;
      run = whole.0;
      sound = whole.1;
      told = told;
    }

-- where calls lead, and what each is answered, the newest first
abbrev state_by : (p : ℕ) → State → List (Call p) → State
state_by p s [] = s
state_by p s (c ∷ cs) = (step p (state_by p s cs) c).state

abbrev answers_by : (p : ℕ) → State → List (Call p) → List Answer
answers_by p s [] = []
answers_by p s (c ∷ cs) = (step p (state_by p s cs) c).answer ∷ answers_by p s cs

record Replays (p : ℕ) (m : Limits) (t : Tables) (es : List (Event p)) (s : State) : Type 0 where
  state : s ≡ state_by p (opened_with m t) (map (λ e. e.call) es)
  answers : map (λ e. e.answer) es ≡ answers_by p (opened_with m t) (map (λ e. e.call) es)

-- the calls alone tell where a run leads and what it answers
replays : {p : ℕ} {m : Limits} {t : Tables} {es : List (Event p)} {s : State} → Run p m t es s → Replays p m t es s
replays (opening e) = record { state = e; answers = refl }
replays (calling {c = c} run h) =
    let k = replays run in
    record {
      state = h.state ∙ ap (λ x. (step _ x c).state) k.state;
      answers = rw (h.answer, k.answers, ← k.state) refl;
    }

-- on the tables of the design its calls compute
pub loaded : (r : Findings) → Loads tables r → Loaded r
unfolding masked tabulate squeeze join first_of heights uses rests_on find_pair find_key rank_in ranked along decide step
loaded r l =
    let k = replays l.run in
    let told = subst (λ s. Tells s r) (k.state ∙ ap (state_by positions (opened_with lean tables)) l.calls) l.told in
    record {
      loads = l;
      answers = k.answers ∙ ap (answers_by positions (opened_with lean tables)) l.calls;
      inputs = told.given;
      source = told.source;
      reduced = told.reduced;
      outputs = told.outputs;
      tally = told.tally;
      few = told.few;
    }
