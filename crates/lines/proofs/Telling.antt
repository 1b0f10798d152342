-- reading takes just the text of a net whose lines are all taken, and otherwise tells the first line that is refused
use Rattle.std.proofs.Common.{◌≡◌, ℕ, ◌+◌, Bool, true, false, cond, eqb, List, [], ◌∷◌, ◌++◌, length, Some, None, Ok, Err, Option, Result, sym, refl, ap, ◌∙◌, subst, inl, inr, arith}
use Rattle.std.specs.List.{flat_map, AllByRecursion}
use Rattle.std.proofs.ByRecursion.{All-push}
use Rattle.std.proofs.lemmas.List.{append_assoc, append-nil, length_push, flat_map_more}
use Rattle.std.proofs.lemmas.Bool.{eqb-true, eqb-false}
use Rattle.lines.specs.declared.faults.LineFault.{LineFault}
use Rattle.lines.specs.declared.faults.LineFault.TheVariants as fault
use Rattle.lines.specs.declared.lines.Line.{Line}
use Rattle.lines.specs.declared.reader.Place.{Place}
use Rattle.lines.specs.declared.reader.Place.TheVariants.{Start, Nodes, Outs, Ended}
use Rattle.lines.specs.Faults.{at_line}
use Rattle.lines.specs.Net.{Next}
use Rattle.lines.specs.Order.{leads_to, numbers_due, counts, placed, ended_at, finished}
use Rattle.lines.specs.Reading.{Taker, Fault, broken, declined, Point, Lines, longer, lines_of, Read, breaking, arrived, going, step_with, go_on, read_lines, read_text}
use Rattle.lines.specs.Shape.{kind_of, read_line, cut_at}
use Rattle.lines.specs.Texts.{Accepted, Follows, Breaks, Refused, Told}
use Rattle.lines.specs.Written.{line_text, written, Fit}
use Rattle.lines.proofs.Cuts.{Lacks, cut-found}
use Rattle.lines.proofs.Ordering.{Spot, at, moved, InOrder, due-parts, due-from, due_in_order, Passes, passes-push, begun, begins-order, whole_ends, Partial, start, step_partial, partial-begins, ended-graph}
use Rattle.lines.proofs.Writing.{reads_line, line-written, line_lacks, line-fault}

abbrev ended10 : List ℕ → List ℕ
ended10 l = l ++ 10 ∷ []

-- the lines of a text put together again
pub record Cutting (text : List ℕ) (c : Lines) : Type 0 where
  pub whole : text ≡ flat_map ended10 c.ended ++ c.rest
  pub each : AllByRecursion (Lacks 10) c.ended
  pub last : Lacks 10 c.rest

cutting-longer : (c : ℕ) (cs : List ℕ) (ls : List (List ℕ)) (rest : List ℕ) → (c ≡ 10 → ⊥) → Cutting cs (record { ended = ls; rest = rest }) → Cutting (c ∷ cs) (longer c ls rest)
cutting-longer c cs [] rest ne h = record { whole = ap (λ x. c ∷ x) h.whole; each = tt; last = (ne, h.last) }
cutting-longer c cs (l ∷ ls) rest ne h = record { whole = ap (λ x. c ∷ x) h.whole; each = ((ne, h.each.0), h.each.1); last = h.last }

cutting_by : (c : ℕ) (cs : List ℕ) (t : Bool) (x : Lines) → eqb c 10 ≡ t → Cutting cs x → Cutting (c ∷ cs) (cond t (record { ended = [] ∷ x.ended; rest = x.rest }) (longer c x.ended x.rest))
cutting_by c cs true x e h = record { whole = (λ i. eqb-true c 10 e i ∷ h.whole i); each = (tt, h.each); last = h.last }
cutting_by c cs false x e h = cutting-longer c cs x.ended x.rest (eqb-false c 10 e) h

pub cutting : (text : List ℕ) → Cutting text (lines_of text)
unfolding lines_of
cutting [] = record { whole = refl; each = tt; last = tt }
cutting (c ∷ cs) = cutting_by c cs (eqb c 10) (lines_of cs) refl (cutting cs)

-- the bytes before the first byte 10 of two equal texts
same-front : (x y a b : List ℕ) → Lacks 10 x → Lacks 10 y → x ++ 10 ∷ a ≡ y ++ 10 ∷ b → x ≡ y
same-front x y a b hx hy e =
    let p : ◌≡◌ {A = Option (List ℕ × List ℕ)} (Some (x, a)) (Some (y, b)) = sym (cut-found 10 x a hx) ∙ ap (cut_at 10) e ∙ cut-found 10 y b hy in
    let q : ◌≡◌ {A = List ℕ × List ℕ} (x, a) (y, b) = cc in
    ap (λ (z : List ℕ × List ℕ). z.0) q

no_end : (rest x a : List ℕ) → Lacks 10 rest → rest ≡ x ++ 10 ∷ a → ⊥
no_end [] [] a h e = let z : ◌≡◌ {A = ℕ} 0 1 = cc in omega arith
no_end [] (y ∷ x) a h e = let z : ◌≡◌ {A = ℕ} 0 1 = cc in omega arith
no_end (c ∷ rest) [] a h e = h.0 cc
no_end (c ∷ rest) (y ∷ x) a h e = no_end rest x a h.1 cc

next-line : (rest : List ℕ) (l : Line) (n : Next rest l) → rest ≡ line_text l ++ 10 ∷ n.after
next-line rest l n = n.whole ∙ append_assoc (line_text l) (10 ∷ []) n.after

-- each line that is taken adds the nodes of its kind
abbrev pub Counting : {S F : Type 0} → Taker S F → Type 0
Counting {S = S} by = (s u : S) (l : Line) → by.taken s l ≡ Ok u → by.nodes u ≡ counts l (by.nodes s)

module _ {S F : Type 0} (by : Taker S F) where
  -- the place of a point, and how many nodes its state has
  abbrev pub spot_of : Point S → Spot
  spot_of p = at p.place (by.nodes p.state)

  pub accepted_push : (ls : List Line) (l : Line) (s t u : S) → Accepted by s ls t → by.taken t l ≡ Ok u → Accepted by s (ls ++ l ∷ []) u
  accepted_push [] l s t u e h = (u, subst (λ x. by.taken x l ≡ Ok u) (sym e) h, refl)
  accepted_push (x ∷ ls) l s t u p h = (p.0, p.1, accepted_push ls l p.0 t u p.2 h)

  -- a line that is taken goes on to the place that it leads to
  pub taken_moves : Counting by → (p : Point S) (l : Line) (q : Place) (t : S) → by.taken p.state l ≡ Ok t → spot_of (record { place = q; state = t }) ≡ moved q (spot_of p) l
  taken_moves counting p l q t is = ap (at q) (counting p.state t l is)

module _ {S F : Type 0} (by : Taker S F) (counting : Counting by) (s : S) (text : List ℕ) where
  abbrev base : ℕ
  base = by.nodes s

  -- what was read so far, and what is left
  pub record Sofar (lines : List Line) (p : Point S) (left : List ℕ) : Type 0 where
    pub whole : text ≡ flat_map written lines ++ left
    pub partial : Partial base lines (spot_of by p)
    pub passed : Passes (begun base) lines (spot_of by p)
    pub fit : AllByRecursion Fit lines
    pub calls : Accepted by s lines p.state

  abbrev Tells : Read S F → Type 0
  Tells x = Told by s text x.answer x.state

  refused : (lines : List Line) (p : Point S) (left : List ℕ) (k : ℕ) (f : Fault F) → Sofar lines p left → k ≡ length lines + 1 → Breaks by base p.state lines left f → Refused by s text (record { line = k; fault = f }) p.state
  refused lines p left k f h e b = record { lines = lines; rest = left; whole = h.whole; place = e; begins = partial-begins base lines (spot_of by p) h.partial; fit = h.fit; calls = h.calls; breaks = b }

  -- after the last line
  module _ (lines : List Line) (p : Point S) (k : ℕ) (e : k ≡ length lines + 1) where
    tell_missing : (q : Place) → p.place ≡ q → (q ≡ Ended → ⊥) → Sofar lines p [] → Refused by s text (record { line = k; fault = broken fault.Place }) p.state
    tell_missing q at-q ne h =
        refused lines p [] k _ h e (inl (refl, λ g is. ne (sym at-q ∙ ap (λ (x : Spot). x.place) (whole_ends base lines (spot_of by p) g h.passed is))))

    tell-ended : p.place ≡ Ended → Sofar lines p [] → Follows by s text p.state
    tell-ended at-end h =
        let g = ended-graph base lines (spot_of by p) h.partial at-end in
        record {
          graph = g.0;
          whole = h.whole ∙ append-nil (flat_map written lines) ∙ ap (flat_map written) g.1;
          fit = subst (AllByRecursion Fit) g.1 h.fit;
          calls = subst (λ ls. Accepted by s ls p.state) g.1 h.calls;
        }

    tell-place : (q : Place) → p.place ≡ q → Sofar lines p [] → Told by s text (at_line k (breaking (ended_at q))) p.state
    tell-place Start at-q h = tell_missing Start at-q (λ q. let z : ◌≡◌ {A = ℕ} 0 1 = cc in omega arith) h
    tell-place Nodes at-q h = tell_missing Nodes at-q (λ q. let z : ◌≡◌ {A = ℕ} 0 1 = cc in omega arith) h
    tell-place Outs at-q h = tell_missing Outs at-q (λ q. let z : ◌≡◌ {A = ℕ} 0 1 = cc in omega arith) h
    tell-place Ended at-q h = tell-ended at-q h

    tell-rest : (rest : List ℕ) → Lacks 10 rest → Sofar lines p rest → Told by s text (at_line k (breaking (finished p.place rest))) p.state
    tell-rest [] lacks h = tell-place p.place refl h
    tell-rest (c ∷ cs) lacks h =
        refused lines p (c ∷ cs) k _ h e ((λ q. let z : ◌≡◌ {A = ℕ} 0 1 = cc in omega arith), λ l n. no_end (c ∷ cs) (line_text l) n.after lacks (next-line (c ∷ cs) l n))

  -- a line that is read from bytes before byte 10
  module _ (lines : List Line) (p : Point S) (k : ℕ) (bs after : List ℕ) (e : k ≡ length lines + 1) (lacks : Lacks 10 bs) (h : Sofar lines p (bs ++ 10 ∷ after)) (f : Point S → Read S F) where
    tell_shape : (d : LineFault) → read_line bs ≡ Err d → Refused by s text (record { line = k; fault = broken d }) p.state
    tell_shape d no_line =
        subst (λ x. Refused by s text (record { line = k; fault = broken x }) p.state) (sym (line-fault bs d no_line))
        (refused lines p (bs ++ 10 ∷ after) k (broken fault.Shape) h e (
          (λ q. no_end [] bs after tt (sym q)),
          λ l n.
              let same = same-front bs (line_text l) after n.after lacks (line_lacks l n.short) (next-line _ l n) in
              let both : Err d ≡ Ok l = sym no_line ∙ ap read_line same ∙ reads_line l n.short in
              let z : ◌≡◌ {A = ℕ} 0 1 = cc in omega arith,
        ))

    module _ (l : Line) (is : read_line bs ≡ Ok l) (next : (q : Point S) → Sofar (lines ++ l ∷ []) q after → Tells (f q)) where
      abbrev this_line : Next (bs ++ 10 ∷ after) l
      this_line =
          let w = line-written bs l is in
          record { after = after; short = w.1; whole = ap (λ x. x ++ 10 ∷ after) w.0 ∙ sym (append_assoc (line_text l) (10 ∷ []) after) }

      tell-out : leads_to p.place (kind_of l) ≡ None → Refused by s text (record { line = k; fault = broken fault.Place }) p.state
      tell-out none =
          refused lines p (bs ++ 10 ∷ after) k _ h e
          (inr (
            l,
            this_line,
            λ m kind b.
                let o = (begins-order base lines m (spot_of by p) h.passed b).1 in
                let both : None ≡ Some o.place = sym none ∙ ap (leads_to p.place) (sym kind) ∙ o.leads in
                let z : ◌≡◌ {A = ℕ} 0 1 = cc in omega arith,
          ))

      tell_wrong : (q : Place) → leads_to p.place (kind_of l) ≡ Some q → numbers_due (by.nodes p.state) l ≡ false → Refused by s text (record { line = k; fault = broken fault.Number }) p.state
      tell_wrong q leads wrong =
          let d = due_in_order (spot_of by p) l q leads in
          refused lines p (bs ++ 10 ∷ after) k _ h e (
            l,
            this_line,
            (
              (d.0, d.1, partial-begins base _ _ (step_partial base lines (spot_of by p) d.0 _ h.partial d.2)),
              λ fit b.
                  let o = (begins-order base lines l (spot_of by p) h.passed b).1 in
                  let both : true ≡ false = sym (due-from (by.nodes p.state) l fit o.due) ∙ wrong in
                  let z : ◌≡◌ {A = ℕ} 0 1 = cc in omega arith,
            ),
          )

      module _ (q : Place) (leads : leads_to p.place (kind_of l) ≡ Some q) (right : numbers_due (by.nodes p.state) l ≡ true) where
        order : InOrder (spot_of by p) l (moved q (spot_of by p) l)
        order = record { place = q; leads = leads; due = (due-parts (by.nodes p.state) l right).1; goes = refl }

        tell-declined : (r : F) → by.taken p.state l ≡ Err r → Refused by s text (record { line = k; fault = declined r }) p.state
        tell-declined r why =
            refused lines p (bs ++ 10 ∷ after) k _ h e
            (l, this_line, (due-parts (by.nodes p.state) l right).0, partial-begins base _ _ (step_partial base lines (spot_of by p) l _ h.partial order), why)

        tell-next : (t : S) → by.taken p.state l ≡ Ok t → Tells (f (record { place = q; state = t }))
        tell-next t went =
            let there : Point S = record { place = q; state = t } in
            let o : InOrder (spot_of by p) l (spot_of by there) = subst (InOrder (spot_of by p) l) (sym (taken_moves by counting p l q t went)) order in
            next there
            (record {
              whole = h.whole ∙ ap (λ x. flat_map written lines ++ x) this_line.whole ∙ sym (append_assoc (flat_map written lines) (written l) after) ∙ ap (λ x. x ++ after) (flat_map_more written [] lines l);
              partial = step_partial base lines (spot_of by p) l (spot_of by there) h.partial o;
              passed = passes-push lines l (begun base) (spot_of by p) (spot_of by there) h.passed o;
              fit = All-push Fit lines l h.fit (due-parts (by.nodes p.state) l right).0;
              calls = accepted_push by lines l s p.state t h.calls went;
            })

        tell-call : (r : Result S F) → by.taken p.state l ≡ r → Tells (go_on k p.state (arrived q r) f)
        tell-call (Ok t) went = tell-next t went
        tell-call (Err r) why = tell-declined r why

      tell-line : (o : Option Place) (t : Bool) → leads_to p.place (kind_of l) ≡ o → numbers_due (by.nodes p.state) l ≡ t → Tells (go_on k p.state (going by p.state l (placed o t)) f)
      tell-line None t leads due = tell-out leads
      tell-line (Some q) true leads due = tell-call q leads due (by.taken p.state l) refl
      tell-line (Some q) false leads due = tell_wrong q leads due

    tell_read : (r : Result Line LineFault) → read_line bs ≡ r → ((l : Line) (q : Point S) → Sofar (lines ++ l ∷ []) q after → Tells (f q)) → Tells (go_on k p.state (step_with by p r) f)
    tell_read (Ok l) is next = tell-line l is (next l) _ _ refl refl
    tell_read (Err d) is next = tell_shape d is

  tell : (ls : List (List ℕ)) (rest : List ℕ) (lines : List Line) (p : Point S) (k : ℕ) → AllByRecursion (Lacks 10) ls → Lacks 10 rest → k ≡ length lines + 1 → Sofar lines p (flat_map ended10 ls ++ rest) → Tells (read_lines by k p ls rest)
  unfolding read_lines
  tell [] rest lines p k each last e h = tell-rest lines p k e rest last h
  tell (l ∷ ls) rest lines p k each last e h =
      let is : (ended10 l ++ flat_map ended10 ls) ++ rest ≡ l ++ 10 ∷ (flat_map ended10 ls ++ rest) = append_assoc (ended10 l) (flat_map ended10 ls) rest ∙ append_assoc l (10 ∷ []) (flat_map ended10 ls ++ rest) in
      tell_read lines p k l (flat_map ended10 ls ++ rest) e each.0 (subst (Sofar lines p) is h) (λ q. read_lines by (k + 1) q ls rest) (read_line l) refl
      (λ m q sofar. tell ls rest (lines ++ m ∷ []) q (k + 1) each.1 last (let n = length_push lines m in omega arith) sofar)

  pub text_told : Tells (read_text by s text)
  text_told =
      let c = cutting text in
      tell (lines_of text).ended (lines_of text).rest [] (record { place = Start; state = s }) 1 c.each c.last refl (record { whole = c.whole; partial = start refl refl; passed = refl; fit = tt; calls = refl })
