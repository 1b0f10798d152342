-- a text that follows the rules, or is refused by them, is answered so
use Rattle.std.proofs.Common.{◌≡◌, ℕ, ◌+◌, Bool, true, false, List, [], ◌∷◌, ◌++◌, length, Some, None, Ok, Err, Option, Result, sym, refl, ap, ◌∙◌, subst, inl, inr, arith}
use Rattle.std.specs.List.{flat_map, AllByRecursion}
use Rattle.std.proofs.lemmas.List.{append_assoc, append-nil}
use Rattle.lines.specs.declared.faults.LineFault.{LineFault}
use Rattle.lines.specs.declared.faults.LineFault.TheVariants as fault
use Rattle.lines.specs.declared.faults.TextFault.{TextFault}
use Rattle.lines.specs.declared.lines.Line.{Line}
use Rattle.lines.specs.declared.lines.Line.TheVariants.{Net, Input, Gate, Out, End}
use Rattle.lines.specs.declared.reader.Place.{Place}
use Rattle.lines.specs.declared.reader.Place.TheVariants.{Start, Nodes, Outs, Ended}
use Rattle.lines.specs.Faults.{at_line}
use Rattle.lines.specs.Net.{net_lines, Next, NoShape, NoEnd, OutOfPlace, WrongNumber}
use Rattle.lines.specs.Order.{leads_to, numbers_due, placed, ended_at}
use Rattle.lines.specs.Reading.{Taker, Fault, broken, declined, Point, Read, breaking, arrived, going, after_line, step_with, go_on, read_rest, read_text}
use Rattle.lines.specs.Shape.{kind_of, read_line, cut_at}
use Rattle.lines.specs.Texts.{Accepted, Follows, Breaks, Refused}
use Rattle.lines.specs.Written.{line_text, written, Fit, Short}
use Rattle.lines.proofs.Cuts.{Lacks, Parts, cut_parts}
use Rattle.lines.proofs.Onward.{rest-step, rest-done}
use Rattle.lines.proofs.Ordering.{Spot, at, InOrder, due-parts, due-from, due_in_order, Passes, passes-front, begun, end_of, pass_net, begins-order, Partial, start, step_partial, partial-begins, ended-graph, passes-partial}
use Rattle.lines.proofs.Telling.{Counting, spot_of, taken_moves}
use Rattle.lines.proofs.Writing.{reads_line, line-written, line_lacks, line-fault}

fit-short : (l : Line) → Fit l → Short l
fit-short (Net n) h = omega arith
fit-short (Input n) h = omega arith
fit-short (Gate a b) h = (omega arith, omega arith)
fit-short (Out e) h = omega arith
fit-short (End n) h = omega arith

module _ {S F : Type 0} (by : Taker S F) (counting : Counting by) where
  -- a line that is written in front of what is left
  next_read : (l : Line) (after : List ℕ) (p : Point S) (k : ℕ) → Short l → read_rest by k p (written l ++ after) ≡ go_on k p.state (after_line by p l) (λ q. read_rest by (k + 1) q after)
  next_read l after p k short =
      ap (read_rest by k p) (append_assoc (line_text l) (10 ∷ []) after) ∙ rest-step by k p (line_text l) after (line_lacks l short)
      ∙ ap (λ r. go_on k p.state (step_with by p r) (λ q. read_rest by (k + 1) q after)) (reads_line l short)

  -- a line in order, whose numbers are small enough, comes to its call
  order_read : (l : Line) (after : List ℕ) (p : Point S) (t : Spot) (k : ℕ) (o : InOrder (spot_of by p) l t) → Fit l
      → read_rest by k p (written l ++ after) ≡ go_on k p.state (arrived o.place (by.taken p.state l)) (λ q. read_rest by (k + 1) q after)
  order_read l after p t k o fit =
      next_read l after p k (fit-short l fit)
      ∙ ap (λ q. go_on k p.state (going by p.state l (placed q (numbers_due (by.nodes p.state) l))) (λ q. read_rest by (k + 1) q after)) o.leads
      ∙ ap (λ b. go_on k p.state (going by p.state l (placed (Some o.place) b)) (λ q. read_rest by (k + 1) q after)) (due-from (by.nodes p.state) l fit o.due)

  -- lines in order, whose numbers are small enough and whose calls are accepted, are read
  pub read_on : (ls : List Line) (after : List ℕ) (p : Point S) (t : Spot) (u : S) (k : ℕ) → Passes (spot_of by p) ls t → Accepted by p.state ls u → AllByRecursion Fit ls
      → read_rest by k p (flat_map written ls ++ after) ≡ read_rest by (k + length ls) (record { place = t.place; state = u }) after
  read_on [] after p t u k passes calls fit = (λ i. read_rest by ((let z : k ≡ k + 0 = omega arith in z) i) (record { place = (passes i).place; state = calls i }) after)
  read_on (l ∷ ls) after p t u k passes calls fit =
      let o = passes.1 in
      let q : Point S = record { place = o.place; state = calls.0 } in
      let here : passes.0 ≡ spot_of by q = o.goes ∙ sym (taken_moves by counting p l o.place calls.0 calls.1) in
      ap (read_rest by k p) (append_assoc (written l) (flat_map written ls) after)
      ∙ order_read l (flat_map written ls ++ after) p passes.0 k o fit.0
      ∙ ap (λ r. go_on k p.state (arrived o.place r) (λ q. read_rest by (k + 1) q (flat_map written ls ++ after))) calls.1
      ∙ read_on ls after q t u (k + 1) (subst (λ x. Passes x ls t) here passes.2) calls.2 fit.1
      ∙ ap (λ n. read_rest by n (record { place = t.place; state = u }) after) (omega arith)

  -- the nodes that were passed are those of the state
  spot-reached : (ls : List Line) (p : Point S) (t : Spot) (u : S) → Passes (spot_of by p) ls t → Accepted by p.state ls u → t ≡ spot_of by (record { place = t.place; state = u })
  spot-reached [] p t u passes calls = ap (at t.place) (sym (ap (λ (x : Spot). x.nodes) passes) ∙ ap (λ (x : S). by.nodes x) calls)
  spot-reached (l ∷ ls) p t u passes calls =
      let o = passes.1 in
      let here : passes.0 ≡ spot_of by (record { place = o.place; state = calls.0 }) = o.goes ∙ sym (taken_moves by counting p l o.place calls.0 calls.1) in
      spot-reached ls (record { place = o.place; state = calls.0 }) t u (subst (λ x. Passes x ls t) here passes.2) calls.2

  pub text_read : (s : S) (text : List ℕ) (u : S) → Follows by s text u → read_text by s text ≡ record { answer = Ok tt; state = u }
  text_read s text u h =
      let base = by.nodes s in
      let ls = net_lines base h.graph in
      ap (λ x. read_text by s x) (h.whole ∙ sym (append-nil (flat_map written ls)))
      ∙ read_on ls [] (record { place = Start; state = s }) (end_of base h.graph) u 1 (pass_net base h.graph) h.calls h.fit
      ∙ rest-done by (1 + length ls) (record { place = Ended; state = u }) [] tt

  module _ (base : ℕ) (lines : List Line) (p : Point S) (k : ℕ) (passed : Passes (begun base) lines (spot_of by p)) where
    abbrev stopped : Fault F → Read S F
    stopped f = record { answer = Err (record { line = k; fault = f }); state = p.state }

    -- where the reader stops
    abbrev Stops : List ℕ → Fault F → Type 0
    Stops rest f = read_rest by k p rest ≡ stopped f

    abbrev goes_on : List ℕ → Point S → Read S F
    goes_on after q = read_rest by (k + 1) q after

    here : Partial base lines (spot_of by p)
    here = passes-partial base [] lines (begun base) (spot_of by p) (start refl refl) passed

    stop_line : (bs after : List ℕ) → Lacks 10 bs → (r : Result Line LineFault) → read_line bs ≡ r → ((l : Line) → Next (bs ++ 10 ∷ after) l → ⊥) → Stops (bs ++ 10 ∷ after) (broken fault.Shape)
    stop_line bs after lacks (Ok l) is none =
        let w = line-written bs l is in
        absurd (none l (record { after = after; short = w.1; whole = ap (λ x. x ++ 10 ∷ after) w.0 ∙ sym (append_assoc (line_text l) (10 ∷ []) after) }))
    stop_line bs after lacks (Err e) is none =
        rest-step by k p bs after lacks ∙ ap (λ r. go_on k p.state (step_with by p r) (goes_on after)) (is ∙ ap (λ x. Err x) (line-fault bs e is))

    stop_rest : (rest : List ℕ) → Lacks 10 rest → (rest ≡ [] → ⊥) → Stops rest (broken fault.Shape)
    stop_rest [] lacks some = absurd (some refl)
    stop_rest (c ∷ cs) lacks some = rest-done by k p (c ∷ cs) lacks

    stop_cut : (rest : List ℕ) (o : Option (List ℕ × List ℕ)) → Parts 10 rest o → NoShape rest → Stops rest (broken fault.Shape)
    stop_cut rest None parts no_shape = stop_rest rest parts no_shape.0
    stop_cut rest (Some (bs, after)) parts no_shape =
        subst (λ x. Stops x (broken fault.Shape)) (sym parts.0)
        (stop_line bs after parts.1 (read_line bs) refl (λ l n. no_shape.1 l (subst (λ x. Next x l) (sym parts.0) n)))

    stop_ended : (q : Place) → p.place ≡ q → (p.place ≡ Ended → ⊥) → at_line k (breaking {F = F} (ended_at q)) ≡ Err (record { line = k; fault = broken fault.Place })
    stop_ended Start at-q ne = refl
    stop_ended Nodes at-q ne = refl
    stop_ended Outs at-q ne = refl
    stop_ended Ended at-q ne = absurd (ne at-q)

    stop_missing : (rest : List ℕ) → NoEnd base lines rest → Stops rest (broken fault.Place)
    stop_missing rest h =
        ap (read_rest by k p) h.0 ∙ rest-done by k p [] tt
        ∙ ap (λ a. record { answer = a; state = p.state }) (stop_ended p.place refl (λ e. let g = ended-graph base lines (spot_of by p) here e in h.1 g.0 (sym g.1)))

    stop_place : (l : Line) (after : List ℕ) (o : Option Place) → leads_to p.place (kind_of l) ≡ o → OutOfPlace base lines l → go_on k p.state (going by p.state l (placed o (numbers_due (by.nodes p.state) l))) (goes_on after) ≡ stopped (broken fault.Place)
    stop_place l after None leads out = refl
    stop_place l after (Some q) leads out =
        let d = due_in_order (spot_of by p) l q leads in
        absurd (out d.0 d.1 (partial-begins base _ _ (step_partial base lines (spot_of by p) d.0 _ here d.2)))

    stop_number : (l : Line) (after : List ℕ) (q : Place) (t : Bool) → leads_to p.place (kind_of l) ≡ Some q → numbers_due (by.nodes p.state) l ≡ t → WrongNumber base lines l
        → go_on k p.state (going by p.state l (placed (Some q) t)) (goes_on after) ≡ stopped (broken fault.Number)
    stop_number l after q false leads due wrong = refl
    stop_number l after q true leads due wrong =
        let d = due-parts (by.nodes p.state) l due in
        absurd (wrong.1 d.0 (partial-begins base _ _ (step_partial base lines (spot_of by p) l _ here (record { place = q; leads = leads; due = d.1; goes = refl }))))

    stop_wrong : (l : Line) (after : List ℕ) → WrongNumber base lines l → go_on k p.state (after_line by p l) (goes_on after) ≡ stopped (broken fault.Number)
    stop_wrong l after wrong =
        let m = wrong.0 in
        let o = (begins-order base lines m.0 (spot_of by p) passed m.2).1 in
        let leads : leads_to p.place (kind_of l) ≡ Some o.place = ap (leads_to p.place) (sym m.1) ∙ o.leads in
        ap (λ q. go_on k p.state (going by p.state l (placed q (numbers_due (by.nodes p.state) l))) (goes_on after)) leads ∙ stop_number l after o.place (numbers_due (by.nodes p.state) l) leads refl wrong

    stops : (rest : List ℕ) (f : Fault F) → Breaks by base p.state lines rest f → Stops rest f
    stops rest (broken fault.Shape) b = stop_cut rest (cut_at 10 rest) (cut_parts 10 rest) b
    stops rest (broken fault.Place) (inl b) = stop_missing rest b
    stops rest (broken fault.Place) (inr b) =
        ap (read_rest by k p) b.1.whole ∙ next_read b.0 b.1.after p k b.1.short ∙ stop_place b.0 b.1.after (leads_to p.place (kind_of b.0)) refl b.2
    stops rest (broken fault.Number) b =
        ap (read_rest by k p) b.1.whole ∙ next_read b.0 b.1.after p k b.1.short ∙ stop_wrong b.0 b.1.after b.2
    stops rest (declined r) b =
        let o = begins-order base lines b.0 (spot_of by p) passed b.3 in
        ap (read_rest by k p) b.1.whole ∙ order_read b.0 b.1.after p o.0 k o.1 b.2
        ∙ ap (λ x. go_on k p.state (arrived o.1.place x) (goes_on b.1.after)) b.4

  pub text_stopped : (s : S) (text : List ℕ) (e : TextFault (Fault F)) (u : S) → Refused by s text e u → read_text by s text ≡ record { answer = Err e; state = u }
  text_stopped s text e u h =
      let base = by.nodes s in
      let front = h.begins in
      let passes = passes-front h.lines front.more (begun base) (end_of base front.graph) (subst (λ x. Passes (begun base) x (end_of base front.graph)) front.whole (pass_net base front.graph)) in
      let p : Point S = record { place = passes.0.place; state = u } in
      let n : 1 + length h.lines ≡ e.line = omega (arith, h.place) in
      let here : passes.0 ≡ spot_of by p = spot-reached h.lines (record { place = Start; state = s }) passes.0 u passes.1 h.calls in
      ap (λ x. read_text by s x) h.whole
      ∙ read_on h.lines h.rest (record { place = Start; state = s }) passes.0 u 1 passes.1 h.calls h.fit
      ∙ ap (λ m. read_rest by m p h.rest) n
      ∙ stops base h.lines p e.line (subst (Passes (begun base) h.lines) here passes.1) h.rest e.fault h.breaks
