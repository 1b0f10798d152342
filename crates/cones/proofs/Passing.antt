-- The pass down the nodes counts the gates that the first one rests on.
use Rattle.std.proofs.Common.{◌≡◌, ℕ, zero, suc, ◌+◌, ◌-◌, ◌<◌, ◌≤◌, Bool, true, false, cond, ◌&&◌, eqb, ◌⊎◌, List, [], ◌∷◌, length, get_or, set, Ok, Err, sym, refl, ap, ◌∙◌, subst, ap₂, inl, inr, ⊎_elim, arith, length-set, get_or-set_other, get_or-set_same}
use Rattle.std.proofs.lemmas.Bool.{cases_eq, cases_lt, cases_Bool, eq-eqb, ne_eqb, and_parts, le-leb, lt-leb}
use Rattle.std.proofs.lemmas.List.{get_or_past}
use Rattle.model.specs.Tables.{number}
use Rattle.model.specs.Edges.{node_of}
use Rattle.model.specs.Graphs.{Node, input, gate, Graph, at, Ordered, rests_on, gates_that}
use Rattle.model.proofs.Growing.{at_old, at_new}
use Rattle.sweeper.specs.declared.refusal.Refusal.TheVariants.{AboveCap}
use Rattle.cones.specs.Marks.{Clear, is_reached, with_fanins}
use Rattle.cones.specs.Paths.{is_gate, Fanin, Rests, here}
use Rattle.cones.specs.Cones.{capped}
use Rattle.cones.proofs.Resting.{gate-at, fanin-earlier, rests-path, path-rests, path-down, path_on, Last, path-last}

-- the gates among the first nodes that pass a test of their number
pub counted_to : (ℕ → Bool) → Graph → ℕ → ℕ
counted_to test g zero = 0
counted_to test g (suc k) = number (test (suc k) && is_gate (at input g (suc k))) + counted_to test g k

number-gate : (b : Bool) (nd : Node) → nd ≡ input → number (b && is_gate nd) ≡ 0
number-gate true nd e = ap (λ v. number (is_gate v)) e
number-gate false nd e = refl

and-gate : (b : Bool) (nd : Node) (x y : ℕ) → nd ≡ gate x y → number (b && is_gate nd) ≡ number b
and-gate true nd x y e = ap (λ v. number (is_gate v)) e
and-gate false nd x y e = refl

module _ (test : ℕ → Bool) where
  counted-old : (nd : Node) (g : Graph) (k : ℕ) → k ≤ length g → counted_to test (nd ∷ g) k ≡ counted_to test g k
  unfolding counted_to
  counted-old nd g zero h = refl
  counted-old nd g (suc k) h = ap₂ (λ v w. number (test (suc k) && is_gate v) + w) (at_old input nd g (suc k) h) (counted-old nd g k (omega arith))

  counted-all : (g : Graph) → counted_to test g (length g) ≡ gates_that test g
  unfolding counted_to
  counted-all [] = refl
  counted-all (input ∷ g) =
      let none = number-gate (test (suc (length g))) (at input (input ∷ g) (suc (length g))) (at_new input input g) in
      let rest = counted-old input g (length g) (omega arith) in
      let all = counted-all g in
      omega (arith, none, rest, all)
  counted-all (gate x y ∷ g) =
      ap₂ (λ v w. v + w) (and-gate (test (suc (length g))) (at input (gate x y ∷ g) (suc (length g))) x y (at_new input (gate x y) g)) (counted-old (gate x y) g (length g) (omega arith) ∙ counted-all g)

  counted-down : (g : Graph) (j : ℕ) → 1 ≤ j → counted_to test g j ≡ number (test j && is_gate (at input g j)) + counted_to test g (j - 1)
  unfolding counted_to
  counted-down g zero h = absurd (omega arith)
  counted-down g (suc k) h = ap (λ m. number (test (suc k) && is_gate (at input g (suc k))) + counted_to test g m) (let e : k ≡ suc k - 1 = omega arith in e)

  -- nodes that do not pass count for nothing
  counted-above : (g : Graph) (n l : ℕ) → n ≤ l → ((m : ℕ) → n < m → test m ≡ false) → counted_to test g l ≡ counted_to test g n
  unfolding counted_to
  counted-above g n zero h none = ap (counted_to test g) (let z : 0 ≡ n = omega arith in z)
  counted-above g n (suc l) h none = ⊎_elim
      (λ (z : n ≡ suc l). ap (counted_to test g) (sym z))
      (λ (z : n ≡ suc l → ⊥).
      let fails = none (suc l) (omega arith) in
      let zero-here : number (test (suc l) && is_gate (at input g (suc l))) ≡ 0 = rw fails refl in
      let rest = counted-above g n l (omega arith) none in
      omega (arith, zero-here, rest))
      (cases_eq n (suc l))

-- a mark stays with one more, and a new mark is that one
mark-stays : (ms : List ℕ) (a m : ℕ) → a < length ms → get_or ms m 0 ≡ 1 → get_or (set ms a 1) m 0 ≡ 1
mark-stays ms a m h e = ⊎_elim
    (λ (z : m ≡ a). ap (λ k. get_or (set ms a 1) k 0) z ∙ get_or-set_same ms a 1 0 h)
    (λ (z : m ≡ a → ⊥). get_or-set_other ms a m 1 0 z ∙ e)
    (cases_eq m a)

mark-from : (ms : List ℕ) (a m : ℕ) → get_or (set ms a 1) m 0 ≡ 1 → (m ≡ a) ⊎ (get_or ms m 0 ≡ 1)
mark-from ms a m e = ⊎_elim
    (λ (z : m ≡ a). inl z)
    (λ (z : m ≡ a → ⊥). inr (sym (get_or-set_other ms a m 1 0 z) ∙ e))
    (cases_eq m a)

-- the nodes above k have been visited on the way down from n, and that many gates counted
pub record Going (g : Graph) (n : ℕ) (ms : List ℕ) (k count : ℕ) : Type 0 where
  pub top : get_or ms n 0 ≡ 1
  pub spread : (p m : ℕ) → k < p → Rests g n p → Fanin g p m → get_or ms m 0 ≡ 1
  pub reached : (m : ℕ) → get_or ms m 0 ≡ 1 → Rests g n m
  pub all : count + counted_to (rests_on g n) g k ≡ gates_that (rests_on g n) g

module _ (g : Graph) (ordered : Ordered g) (n : ℕ) (known : n ≤ length g) where
  below-only : (m : ℕ) → n < m → rests_on g n m ≡ false
  below-only m h = ⊎_elim
      (λ (z : rests_on g n m ≡ true). absurd (omega (arith, path-down g ordered (path-rests g ordered n m z))))
      (λ z. z)
      (cases_Bool (rests_on g n m))

  pub starts : (ms : List ℕ) → length g < length ms → Clear ms → Going g n (set ms n 1) n 0
  starts ms room clear =
      record {
        top = get_or-set_same ms n 1 0 (omega arith);
        spread = λ p m h r f. absurd (omega (arith, path-down g ordered r));
        reached = λ m e. ⊎_elim (λ (z : m ≡ n). subst (λ k. Rests g n k) (sym z) here) (λ z. absurd (unmarked m z)) (mark-from ms n m e);
        all = (let a = counted-above (rests_on g n) g n (length g) known below-only in let b = counted-all (rests_on g n) g in omega (arith, a, b));
      }
    where
      unmarked : (m : ℕ) → get_or ms m 0 ≡ 1 → ⊥
      unmarked m e = ⊎_elim (λ (z : m < length ms). omega (arith, clear m z)) (λ (z : length ms ≤ m). omega (arith, get_or_past ms m 0 z)) (cases_lt m (length ms))

  module _ (ms : List ℕ) (k count : ℕ) (going : Going g n ms k count) where
    -- a path to k ends in a gate that has been visited
    path_marks : Rests g n k → get_or ms k 0 ≡ 1
    path_marks r = ⊎_elim
        (λ (z : n ≡ k). subst (λ m. get_or ms m 0 ≡ 1) z going.top)
        (λ (l : Last g n k). going.spread l.node k (fanin-earlier g ordered l.fanin) l.path l.fanin)
        (path-last r)

    -- so k is marked exactly if the top node rests on it
    marked_is : eqb (get_or ms k 0) 1 ≡ rests_on g n k
    marked_is = ⊎_elim
        (λ (z : rests_on g n k ≡ true). eq-eqb (get_or ms k 0) 1 (path_marks (path-rests g ordered n k z)) ∙ sym z)
        (λ (z : rests_on g n k ≡ false). ne_eqb (get_or ms k 0) 1 (λ e. let t = rests-path g ordered (going.reached k e) in let f : ◌≡◌ {A = ℕ} 0 1 = cc in omega arith) ∙ sym z)
        (cases_Bool (rests_on g n k))

  module _ (ms : List ℕ) (j count : ℕ) (some : 1 ≤ j) (going : Going g n ms j count) where
    here-is : is_reached g ms j ≡ (rests_on g n j && is_gate (at input g j))
    here-is = ap (λ b. b && is_gate (at input g j)) (marked_is ms j count going)

    down : counted_to (rests_on g n) g j ≡ number (rests_on g n j && is_gate (at input g j)) + counted_to (rests_on g n) g (j - 1)
    down = counted-down (rests_on g n) g j some

    -- a gate on a path is counted, and there is more than was counted before it
    pub more : true ≡ is_reached g ms j → (count + 1) + counted_to (rests_on g n) g (j - 1) ≡ gates_that (rests_on g n) g
    more h =
        let one : number (rests_on g n j && is_gate (at input g j)) ≡ 1 = sym (ap number (h ∙ here-is)) in
        omega (arith, one, down, going.all)

    passed_over : is_reached g ms j ≡ false → Going g n ms (j - 1) count
    passed_over h =
        let none : number (rests_on g n j && is_gate (at input g j)) ≡ 0 = ap number (sym here-is ∙ h) in
        record {
          top = going.top;
          spread = λ p m l r f. ⊎_elim
              (λ (z : p ≡ j). absurd (unreached p m z r f))
              (λ (z : p ≡ j → ⊥). going.spread p m (omega arith) r f)
              (cases_eq p j);
          reached = going.reached;
          all = omega (arith, none, down, going.all);
        }
      where
        unreached : (p m : ℕ) → p ≡ j → Rests g n p → Fanin g p m → ⊥
        unreached p m z r f =
            let path = subst (λ m. rests_on g n m ≡ true) z (rests-path g ordered r) in
            let is-gate : is_gate (at input g j) ≡ true = ap (λ m. is_gate (at input g m)) (sym z) ∙ ap is_gate f.is in
            let t : is_reached g ms j ≡ true = here-is ∙ ap₂ ◌&&◌ path is-gate in
            let w : ◌≡◌ {A = ℕ} 0 1 = cc in
            omega arith

    visited : length g < length ms → (x y : ℕ) → at input g j ≡ gate x y → true ≡ is_reached g ms j → Going g n (with_fanins (gate x y) ms) (j - 1) (count + 1)
    visited room x y is h =
        let at-gate = gate-at g ordered j x y is in
        let low : node_of x < length ms = omega (arith, at-gate.first, at-gate.known) in
        let high : node_of y < length (set ms (node_of x) 1) = simp length-set (omega (arith, at-gate.second, at-gate.known)) in
        let path : Rests g n j = path-rests g ordered n j (and_parts (rests_on g n j) _ (sym (h ∙ here-is))).0 in
        let stays : (m : ℕ) → get_or ms m 0 ≡ 1 → get_or (with_fanins (gate x y) ms) m 0 ≡ 1 = λ m e. mark-stays (set ms (node_of x) 1) (node_of y) m high (mark-stays ms (node_of x) m low e) in
        let first : get_or (with_fanins (gate x y) ms) (node_of x) 0 ≡ 1 = mark-stays (set ms (node_of x) 1) (node_of y) (node_of x) high (get_or-set_same ms (node_of x) 1 0 low) in
        let second : get_or (with_fanins (gate x y) ms) (node_of y) 0 ≡ 1 = get_or-set_same (set ms (node_of x) 1) (node_of y) 1 0 high in
        record {
          top = stays n going.top;
          spread = λ p m l r f. ⊎_elim
              (λ (z : p ≡ j).
              let same : gate x y ≡ gate f.x f.y = sym is ∙ ap (at input g) (sym z) ∙ f.is in
              let ex : x ≡ f.x = cc in
              let ey : y ≡ f.y = cc in
              ⊎_elim
              (λ (v : node_of f.x ≡ m). subst (λ k. get_or (with_fanins (gate x y) ms) k 0 ≡ 1) (ap node_of ex ∙ v) first)
              (λ (v : node_of f.y ≡ m). subst (λ k. get_or (with_fanins (gate x y) ms) k 0 ≡ 1) (ap node_of ey ∙ v) second)
              f.one)
              (λ (z : p ≡ j → ⊥). stays m (going.spread p m (omega arith) r f))
              (cases_eq p j);
          reached = λ m e. ⊎_elim
              (λ (z : m ≡ node_of y). path_on path (record { x = x; y = y; is = is; one = inr (sym z) }))
              (λ e. ⊎_elim (λ (z : m ≡ node_of x). path_on path (record { x = x; y = y; is = is; one = inl (sym z) })) (going.reached m) (mark-from ms (node_of x) m e))
              (mark-from (set ms (node_of x) 1) (node_of y) m e);
          all = more h;
        }

    -- the marks and the count behind one node
    pub goes_on : length g < length ms → (r : Bool) → r ≡ is_reached g ms j → (after : List ℕ) → after ≡ cond r (with_fanins (at input g j) ms) ms → Going g n after (j - 1) (cond r (count + 1) count)
    goes_on room true h after e = subst (λ v. Going g n v (j - 1) (count + 1)) (sym e) (at-node (at input g j) refl)
      where
        at-node : (nd : Node) → at input g j ≡ nd → Going g n (with_fanins nd ms) (j - 1) (count + 1)
        at-node input is = absurd (let t : is_reached g ms j ≡ true = sym h in let u : is_gate (at input g j) ≡ true = (and_parts (eqb (get_or ms j 0) 1) _ t).1 in let v = ap is_gate is in let f : ◌≡◌ {A = ℕ} 0 1 = cc in omega arith)
        at-node (gate x y) is = visited room x y is h
    goes_on room false h after e = subst (λ v. Going g n v (j - 1) count) (sym e) (passed_over (sym h))

-- all nodes visited
pub finished : (g : Graph) (n : ℕ) (ms : List ℕ) (count cap : ℕ) → Going g n ms 0 count → count ≤ cap → Ok count ≡ capped (gates_that (rests_on g n) g) cap
unfolding counted_to
finished g n ms count cap going few =
    let e : gates_that (rests_on g n) g ≡ count = omega (arith, going.all) in
    rw (e, le-leb count cap few) refl

pub too_many : (g : Graph) (n count k cap : ℕ) → (count + 1) + counted_to (rests_on g n) g k ≡ gates_that (rests_on g n) g → cap ≤ count → Err (AboveCap cap) ≡ capped (gates_that (rests_on g n) g) cap
too_many g n count k cap e many = rw (lt-leb (gates_that (rests_on g n) g) cap (omega arith)) refl
