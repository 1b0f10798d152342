-- the lines that follow one another in a net, their numbers of any size, and the nets whose lines begin so
use Rattle.std.proofs.Common.{◌≡◌, ℕ, suc, ◌+◌, ◌<◌, true, eqb, leb, List, [], ◌∷◌, ◌++◌, map, length, Some, None, sym, refl, ap, ◌∙◌, subst, arith}
use Rattle.std.proofs.lemmas.Bool.{and_parts, and_from, leb-true, le-leb, eqb-true, eq-eqb}
use Rattle.std.proofs.lemmas.List.{append_assoc, append-nil, length_push, map_push}
use Rattle.model.specs.Graphs.{Node, input, gate}
use Rattle.lines.specs.declared.lines.Line.{Line}
use Rattle.lines.specs.declared.lines.Line.TheVariants.{Net, Input, Gate, Out, End}
use Rattle.lines.specs.Shape.{kind_of}
use Rattle.lines.specs.Written.{Fit}
use Rattle.lines.specs.declared.reader.Place.{Place}
use Rattle.lines.specs.declared.reader.Place.TheVariants.{Start, Nodes, Outs, Ended}
use Rattle.lines.specs.Net.{Graph, node_lines, net_lines, Begins}
use Rattle.lines.specs.Order.{leads_to, numbers_due, counts}

-- a place among the lines, and how many nodes there are
pub record Spot : Type 0 where
  pub place : Place
  pub nodes : ℕ

abbrev pub at : Place → ℕ → Spot
at p n = record { place = p; nodes = n }

-- the line counted, and the next place
abbrev pub moved : Place → Spot → Line → Spot
moved p s l = at p (counts l s.nodes)

-- the number is the one due, of whatever size
abbrev pub Due : ℕ → Line → Type 0
Due k (Net n) = n ≡ 1
Due k (Input n) = n ≡ k + 1
Due k (Gate a b) = Unit {0}
Due k (Out e) = Unit {0}
Due k (End n) = n ≡ k

limit : (n : ℕ) → leb n 32767 ≡ true → n < 32768
limit n e = let h = leb-true n 32767 e in omega arith

limit-from : (n : ℕ) → n < 32768 → leb n 32767 ≡ true
limit-from n h = le-leb n 32767 (omega arith)

pub due-parts : (k : ℕ) (l : Line) → numbers_due k l ≡ true → Fit l × Due k l
due-parts k (Net n) h = let p = and_parts (leb n 32767) (eqb n 1) h in (limit n p.0, eqb-true n 1 p.1)
due-parts k (Input n) h = let p = and_parts (leb n 32767) (eqb n (k + 1)) h in (limit n p.0, eqb-true n (k + 1) p.1)
due-parts k (Gate a b) h = let p = and_parts (leb a 32767) (leb b 32767) h in ((limit a p.0, limit b p.1), tt)
due-parts k (Out e) h = (limit e h, tt)
due-parts k (End n) h = let p = and_parts (leb n 32767) (eqb n k) h in (limit n p.0, eqb-true n k p.1)

pub due-from : (k : ℕ) (l : Line) → Fit l → Due k l → numbers_due k l ≡ true
due-from k (Net n) fit due = and_from _ _ (limit-from n fit) (eq-eqb n 1 due)
due-from k (Input n) fit due = and_from _ _ (limit-from n fit) (eq-eqb n (k + 1) due)
due-from k (Gate a b) fit due = and_from _ _ (limit-from a fit.0) (limit-from b fit.1)
due-from k (Out e) fit due = limit-from e fit
due-from k (End n) fit due = and_from _ _ (limit-from n fit) (eq-eqb n k due)

-- the line with the number that is due
abbrev due_line : ℕ → Line → Line
due_line k (Net n) = Net 1
due_line k (Input n) = Input (k + 1)
due_line k (Gate a b) = Gate a b
due_line k (Out e) = Out e
due_line k (End n) = End k

due_line-is : (k : ℕ) (l : Line) → (kind_of (due_line k l) ≡ kind_of l) × Due k (due_line k l)
due_line-is k (Net n) = (refl, refl)
due_line-is k (Input n) = (refl, refl)
due_line-is k (Gate a b) = (refl, tt)
due_line-is k (Out e) = (refl, tt)
due_line-is k (End n) = (refl, refl)

-- a line in place with the number due
pub record InOrder (s : Spot) (l : Line) (t : Spot) : Type 0 where
  pub place : Place
  pub leads : leads_to s.place (kind_of l) ≡ Some place
  pub due : Due s.nodes l
  pub goes : t ≡ moved place s l

pub same-order : (s : Spot) (l : Line) (t u : Spot) → InOrder s l t → InOrder s l u → t ≡ u
same-order s l t u a b =
    let e : a.place ≡ b.place = cc (a.leads, b.leads) in
    a.goes ∙ ap (λ p. moved p s l) e ∙ sym b.goes

-- some line of the kind is in order where its place is right
pub due_in_order : (s : Spot) (l : Line) (p : Place) → leads_to s.place (kind_of l) ≡ Some p → (m : Line) × (kind_of m ≡ kind_of l) × InOrder s m (moved p s m)
due_in_order s l p e =
    let d = due_line-is s.nodes l in
    (due_line s.nodes l, d.0, record { place = p; leads = ap (leads_to s.place) d.0 ∙ e; due = d.1; goes = refl })

abbrev pub Passes : Spot → List Line → Spot → Type 0
Passes s [] t = s ≡ t
Passes s (l ∷ ls) t = (m : Spot) × InOrder s l m × Passes m ls t

pub passes-push : (ls : List Line) (l : Line) (s t u : Spot) → Passes s ls t → InOrder t l u → Passes s (ls ++ l ∷ []) u
passes-push [] l s t u e h = (u, subst (λ x. InOrder x l u) (sym e) h, refl)
passes-push (x ∷ ls) l s t u p h = (p.0, p.1, passes-push ls l p.0 t u p.2 h)

-- what goes on after the lines that were passed
pub passes_on : (xs ys : List Line) (s t u : Spot) → Passes s xs t → Passes s (xs ++ ys) u → Passes t ys u
passes_on [] ys s t u e p = subst (λ x. Passes x ys u) e p
passes_on (x ∷ xs) ys s t u p q =
    passes_on xs ys q.0 t u (subst (λ m. Passes m xs t) (same-order s x p.0 q.0 p.1 q.1) p.2) q.2

-- a front of lines that were passed
pub passes-front : (xs ys : List Line) (s u : Spot) → Passes s (xs ++ ys) u → (t : Spot) × Passes s xs t
passes-front [] ys s u p = (s, refl)
passes-front (x ∷ xs) ys s u p = let q = passes-front xs ys p.0 u p.2 in (q.0, (p.0, p.1, q.1))

-- a net's lines are passed
pass_nodes : (ns : List Node) (more : List Line) (n k : ℕ) (u : Spot) → k ≡ n + 1 → Passes (at Nodes (n + length ns)) more u → Passes (at Nodes n) (node_lines k ns ++ more) u
pass_nodes [] more n k u e p = subst (λ m. Passes (at Nodes m) more u) (let z : n + 0 ≡ n = omega arith in z) p
pass_nodes (input ∷ ns) more n k u e p = (
  at Nodes (n + 1),
  record { place = Nodes; leads = refl; due = e; goes = refl },
  pass_nodes ns more (n + 1) (k + 1) u (omega arith) (subst (λ m. Passes (at Nodes m) more u) (let z : n + suc (length ns) ≡ n + 1 + length ns = omega arith in z) p),
)
pass_nodes (gate a b ∷ ns) more n k u e p = (
  at Nodes (n + 1),
  record { place = Nodes; leads = refl; due = tt; goes = refl },
  pass_nodes ns more (n + 1) (k + 1) u (omega arith) (subst (λ m. Passes (at Nodes m) more u) (let z : n + suc (length ns) ≡ n + 1 + length ns = omega arith in z) p),
)

pass_outs : (os : List ℕ) (n : ℕ) → Passes (at Outs n) (map (λ e. Out e) os ++ End n ∷ []) (at Ended n)
pass_outs [] n = (at Ended n, record { place = Ended; leads = refl; due = refl; goes = refl }, refl)
pass_outs (x ∷ os) n = (at Outs n, record { place = Outs; leads = refl; due = tt; goes = refl }, pass_outs os n)

pass_end : (os : List ℕ) (n : ℕ) → Passes (at Nodes n) (map (λ e. Out e) os ++ End n ∷ []) (at Ended n)
pass_end [] n = (at Ended n, record { place = Ended; leads = refl; due = refl; goes = refl }, refl)
pass_end (x ∷ os) n = (at Outs n, record { place = Outs; leads = refl; due = tt; goes = refl }, pass_outs os n)

abbrev pub numbered : ℕ → Node → Line
numbered k input = Input k
numbered k (gate a b) = Gate a b

pub node-push : (k : ℕ) (ns : List Node) (n : Node) → node_lines k (ns ++ n ∷ []) ≡ node_lines k ns ++ numbered (k + length ns) n ∷ []
node-push k [] input = ap (λ m. Input m ∷ []) (let z : k ≡ k + 0 = omega arith in z)
node-push k [] (gate a b) = refl
node-push k (input ∷ ns) n = ap (λ ls. Input k ∷ ls) (node-push (k + 1) ns n ∙ ap (λ m. node_lines (k + 1) ns ++ numbered m n ∷ []) (let z : k + 1 + length ns ≡ k + suc (length ns) = omega arith in z))
node-push k (gate a b ∷ ns) n = ap (λ ls. Gate a b ∷ ls) (node-push (k + 1) ns n ∙ ap (λ m. node_lines (k + 1) ns ++ numbered m n ∷ []) (let z : k + 1 + length ns ≡ k + suc (length ns) = omega arith in z))

-- a place that a key does not lead to
nowhere : {X : Type 0} (p : Place) → None ≡ Some p → X
nowhere p e = let z : ◌≡◌ {A = ℕ} 0 1 = cc in absurd (omega arith)

-- where a line in order leads
came_to : (p q : Place) (s : Spot) (l : Line) (t : Spot) → Some p ≡ Some q → t ≡ moved q s l → t ≡ moved p s l
came_to p q s l t e goes = let z : q ≡ p = cc in goes ∙ ap (λ x. moved x s l) z

-- on top of so many nodes
module _ (base : ℕ) where
  abbrev pub begun : Spot
  begun = at Start base

  abbrev pub end_of : Graph → Spot
  end_of g = at Ended (base + length g.nodes)

  pub pass_net : (g : Graph) → Passes begun (net_lines base g) (end_of g)
  pass_net g = (
    at Nodes base,
    record { place = Nodes; leads = refl; due = refl; goes = refl },
    pass_nodes g.nodes _ base (base + 1) _ refl (pass_end g.outs (base + length g.nodes)),
  )

  -- the next line of a net that begins so is in order
  pub begins-order : (ls : List Line) (l : Line) (s : Spot) → Passes begun ls s → Begins base (ls ++ l ∷ []) → (t : Spot) × InOrder s l t
  begins-order ls l s p b =
      let e : net_lines base b.graph ≡ ls ++ (l ∷ b.more) = b.whole ∙ append_assoc ls (l ∷ []) b.more in
      let q = passes_on ls (l ∷ b.more) begun s (end_of b.graph) p (subst (λ x. Passes begun x (end_of b.graph)) e (pass_net b.graph)) in
      (q.0, q.1)

  -- where the lines so far are all lines of a net, the end is reached
  pub whole_ends : (ls : List Line) (s : Spot) (g : Graph) → Passes begun ls s → net_lines base g ≡ ls → s ≡ end_of g
  whole_ends ls s g p e =
      passes_on ls [] begun s (end_of g) p (subst (λ x. Passes begun x (end_of g)) (e ∙ sym (append-nil ls)) (pass_net g))

-- the part of a net that was read so far
pub data Partial (base : ℕ) (ls : List Line) (s : Spot) : Type 0 where
  start : ls ≡ [] → s ≡ begun base → Partial base ls s
  nodes : (ns : List Node) → ls ≡ Net 1 ∷ node_lines (base + 1) ns → s ≡ at Nodes (base + length ns) → Partial base ls s
  outs : (ns : List Node) (os : List ℕ) → ls ≡ Net 1 ∷ (node_lines (base + 1) ns ++ map (λ e. Out e) os) → s ≡ at Outs (base + length ns) → Partial base ls s
  ended : (g : Graph) → ls ≡ net_lines base g → s ≡ end_of base g → Partial base ls s

module _ (base : ℕ) where
  step_start : (l : Line) (t : Spot) → InOrder (begun base) l t → Partial base (l ∷ []) t
  step_start (Net n) t h = nodes [] (ap (λ m. Net m ∷ []) h.due) (came_to Nodes h.place (begun base) (Net n) t h.leads h.goes ∙ ap (at Nodes) (let z : base ≡ base + 0 = omega arith in z))
  step_start (Input n) t h = nowhere h.place h.leads
  step_start (Gate a b) t h = nowhere h.place h.leads
  step_start (Out e) t h = nowhere h.place h.leads
  step_start (End n) t h = nowhere h.place h.leads

  module _ (ns : List Node) where
    more-nodes : (n : Node) → at Nodes (base + length ns + 1) ≡ at Nodes (base + length (ns ++ n ∷ []))
    more-nodes n = let p = length_push ns n in ap (at Nodes) (let z : base + length ns + 1 ≡ base + length (ns ++ n ∷ []) = omega arith in z)

    step-nodes : (l : Line) (t : Spot) → InOrder (at Nodes (base + length ns)) l t → Partial base (Net 1 ∷ (node_lines (base + 1) ns ++ l ∷ [])) t
    step-nodes (Net n) t h = nowhere h.place h.leads
    step-nodes (Input n) t h =
        let e : n ≡ base + 1 + length ns = omega (arith, h.due) in
        nodes (ns ++ input ∷ []) (ap (λ x. Net 1 ∷ x) (ap (λ m. node_lines (base + 1) ns ++ Input m ∷ []) e ∙ sym (node-push (base + 1) ns input)))
        (came_to Nodes h.place (at Nodes (base + length ns)) (Input n) t h.leads h.goes ∙ more-nodes input)
    step-nodes (Gate a b) t h =
        nodes (ns ++ gate a b ∷ []) (ap (λ x. Net 1 ∷ x) (sym (node-push (base + 1) ns (gate a b))))
        (came_to Nodes h.place (at Nodes (base + length ns)) (Gate a b) t h.leads h.goes ∙ more-nodes (gate a b))
    step-nodes (Out e) t h = outs ns (e ∷ []) refl (came_to Outs h.place (at Nodes (base + length ns)) (Out e) t h.leads h.goes)
    step-nodes (End n) t h =
        ended (record { nodes = ns; outs = [] }) (ap (λ m. Net 1 ∷ (node_lines (base + 1) ns ++ End m ∷ [])) h.due)
        (came_to Ended h.place (at Nodes (base + length ns)) (End n) t h.leads h.goes)

    step-outs : (os : List ℕ) (l : Line) (t : Spot) → InOrder (at Outs (base + length ns)) l t → Partial base (Net 1 ∷ (node_lines (base + 1) ns ++ (map (λ e. Out e) os ++ l ∷ []))) t
    step-outs os (Net n) t h = nowhere h.place h.leads
    step-outs os (Input n) t h = nowhere h.place h.leads
    step-outs os (Gate a b) t h = nowhere h.place h.leads
    step-outs os (Out e) t h =
        outs ns (os ++ e ∷ []) (ap (λ x. Net 1 ∷ (node_lines (base + 1) ns ++ x)) (sym (map_push (λ e. Out e) os e)))
        (came_to Outs h.place (at Outs (base + length ns)) (Out e) t h.leads h.goes)
    step-outs os (End n) t h =
        ended (record { nodes = ns; outs = os }) (ap (λ m. Net 1 ∷ (node_lines (base + 1) ns ++ (map (λ e. Out e) os ++ End m ∷ []))) h.due)
        (came_to Ended h.place (at Outs (base + length ns)) (End n) t h.leads h.goes)

  at-lines : (xs ys : List Line) (t : Spot) → xs ≡ ys → Partial base xs t → Partial base ys t
  at-lines xs ys t e h = subst (λ x. Partial base x t) e h

  pub step_partial : (ls : List Line) (s : Spot) (l : Line) (t : Spot) → Partial base ls s → InOrder s l t → Partial base (ls ++ l ∷ []) t
  step_partial ls s l t (start e f) h = at-lines _ _ t (ap (λ x. x ++ l ∷ []) (sym e)) (step_start l t (subst (λ (x : Spot). InOrder x l t) f h))
  step_partial ls s l t (nodes ns e f) h = at-lines _ _ t (ap (λ x. x ++ l ∷ []) (sym e)) (step-nodes ns l t (subst (λ (x : Spot). InOrder x l t) f h))
  step_partial ls s l t (outs ns os e f) h =
      at-lines _ _ t (ap (λ x. Net 1 ∷ x) (sym (append_assoc (node_lines (base + 1) ns) (map (λ e. Out e) os) (l ∷ []))) ∙ ap (λ x. x ++ l ∷ []) (sym e))
      (step-outs ns os l t (subst (λ (x : Spot). InOrder x l t) f h))
  step_partial ls s l t (ended g e f) h =
      let i = subst (λ (x : Spot). InOrder x l t) f h in nowhere i.place i.leads

  pub partial-begins : (ls : List Line) (s : Spot) → Partial base ls s → Begins base ls
  partial-begins ls s (start e f) = record { graph = record { nodes = []; outs = [] }; more = net_lines base (record { nodes = []; outs = [] }); whole = ap (λ x. x ++ net_lines base (record { nodes = []; outs = [] })) (sym e) }
  partial-begins ls s (nodes ns e f) =
      record { graph = record { nodes = ns; outs = [] }; more = End (base + length ns) ∷ []; whole = ap (λ x. x ++ End (base + length ns) ∷ []) (sym e) }
  partial-begins ls s (outs ns os e f) =
      record {
        graph = record { nodes = ns; outs = os };
        more = End (base + length ns) ∷ [];
        whole = ap (λ x. Net 1 ∷ x) (sym (append_assoc (node_lines (base + 1) ns) (map (λ e. Out e) os) (End (base + length ns) ∷ []))) ∙ ap (λ x. x ++ End (base + length ns) ∷ []) (sym e);
      }
  partial-begins ls s (ended g e f) = record { graph = g; more = []; whole = sym e ∙ sym (append-nil ls) }

  -- at the end the lines are those of a net
  pub ended-graph : (ls : List Line) (s : Spot) → Partial base ls s → s.place ≡ Ended → (g : Graph) × (ls ≡ net_lines base g)
  ended-graph ls s (start e f) h = let q : Start ≡ Ended = sym (ap (λ (x : Spot). x.place) f) ∙ h in let z : ◌≡◌ {A = ℕ} 0 1 = cc in absurd (omega arith)
  ended-graph ls s (nodes ns e f) h = let q : Nodes ≡ Ended = sym (ap (λ (x : Spot). x.place) f) ∙ h in let z : ◌≡◌ {A = ℕ} 0 1 = cc in absurd (omega arith)
  ended-graph ls s (outs ns os e f) h = let q : Outs ≡ Ended = sym (ap (λ (x : Spot). x.place) f) ∙ h in let z : ◌≡◌ {A = ℕ} 0 1 = cc in absurd (omega arith)
  ended-graph ls s (ended g e f) h = (g, e)

  pub passes-partial : (xs ys : List Line) (s t : Spot) → Partial base xs s → Passes s ys t → Partial base (xs ++ ys) t
  passes-partial xs [] s t h p = subst (λ (x : Spot). Partial base (xs ++ []) x) p (at-lines xs (xs ++ []) s (sym (append-nil xs)) h)
  passes-partial xs (y ∷ ys) s t h p =
      at-lines ((xs ++ y ∷ []) ++ ys) (xs ++ y ∷ ys) t (append_assoc xs (y ∷ []) ys) (passes-partial (xs ++ y ∷ []) ys p.0 t (step_partial xs s y p.0 h p.1) p.2)
