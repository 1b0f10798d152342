-- What one more node leaves as it was.
use Rattle.std.proofs.Common.{◌≡◌, ℕ, suc, ◌*◌, ◌/◌, ◌<◌, ◌≤◌, Bool, true, false, cond, eqb, List, [], ◌∷◌, length, sym, refl, ap, ◌∙◌, subst, ⊎_elim, le_trans, mul_comm, mul-le-mul_left, le-div_iff_mul-le, arith}
use native.Mathlib.Nat.{mul-div-le}
use Rattle.std.proofs.lemmas.Bool.{eq-eqb, ne_eqb, eqb-true, eqb-false, cases_lt, cond_both}
use Rattle.model.specs.Edges.{node_of, sign_of}
use Rattle.model.specs.Cuts.{Cut, trivial}
use Rattle.model.specs.Graphs.{Node, input, gate, Graph, Kind, bits, at, signals, edge_signal, value, heights, height, inputs}
use Rattle.model.specs.Rankings.{Every}
use Rattle.model.specs.Sessions.{capacity_of}
use Rattle.model.specs.GraphLaws.{Describes, GrowingChangesNothingEarlier, CutsStay, CapacityIsLargest}
use Rattle.model.proofs.Meaning.{value_alike}
use Rattle.model.proofs.Lists.{every_in}

module _ {A : Type 0} (d x : A) (xs : List A) where
  pub at_old : (n : ℕ) → n ≤ length xs → at d (x ∷ xs) n ≡ at d xs n
  at_old n h = rw (ne_eqb n (suc (length xs)) (λ e. omega arith))

  pub at_new : at d (x ∷ xs) (suc (length xs)) ≡ x
  at_new = rw (eq-eqb (suc (length xs)) (suc (length xs)) refl)

pub at_none : {A : Type 0} (d : A) (xs : List A) (n : ℕ) → length xs < n → at d xs n ≡ d
at_none d [] n h = refl
at_none d (x ∷ xs) n h = rw (ne_eqb n (suc (length xs)) (λ e. omega arith)) (at_none d xs n (omega arith))

-- what holds of each number of a list holds with one more, if it holds of that one, and of the default behind it
pub at_more : {A : Type 0} (P : ℕ → A → Type 0) (d x : A) (xs : List A) → ((n : ℕ) → n ≤ length xs → P n (at d xs n)) → P (suc (length xs)) x
    → ((n : ℕ) → suc (length xs) < n → P n d) → (n : ℕ) → P n (at d (x ∷ xs) n)
at_more P d x xs old new none n = cond_both (eqb n (suc (length xs))) x (at d xs n) (P n)
    (λ h. subst (λ m. P m x) (sym (eqb-true n (suc (length xs)) h)) new)
    (λ h. let other = eqb-false n (suc (length xs)) h in ⊎_elim
    (λ (z : n < suc (length xs)). old n (omega arith))
    (λ (z : suc (length xs) ≤ n). subst (P n) (sym (at_none d xs n (omega arith))) (none n (omega arith)))
    (cases_lt n (suc (length xs))))

-- one number has P and Q, also with one more, if that one has neither with an earlier one
pub one_more : {A : Type 0} (P Q : A → Type 0) (d x : A) (xs : List A) → (P x → (n : ℕ) → Q (at d xs n) → ⊥) → (Q x → (m : ℕ) → P (at d xs m) → ⊥)
    → ((m n : ℕ) → P (at d xs m) → Q (at d xs n) → m ≡ n) → (m n : ℕ) → P (at d (x ∷ xs) m) → Q (at d (x ∷ xs) n) → m ≡ n
one_more P Q d x xs first second old m n = go (eqb m (suc (length xs))) refl (eqb n (suc (length xs))) refl
  where
    go : (b : Bool) → eqb m (suc (length xs)) ≡ b → (c : Bool) → eqb n (suc (length xs)) ≡ c → P (cond b x (at d xs m)) → Q (cond c x (at d xs n)) → m ≡ n
    go true i true j h k = let v = eqb-true _ _ i in let w = eqb-true _ _ j in omega arith
    go true i false j h k = absurd (first h n k)
    go false i true j h k = absurd (second k m h)
    go false i false j h k = old m n h k

pub at_zero : {A : Type 0} (d : A) (xs : List A) → at d xs 0 ≡ d
at_zero d [] = refl
at_zero d (x ∷ xs) = at_old d x xs 0 (omega arith) ∙ at_zero d xs

pub length-signals : {S : Type 0} (a : Kind S) (given : ℕ → S) (g : Graph) → length (signals a given g) ≡ length g
unfolding signals
length-signals a given [] = refl
length-signals a given (input ∷ g) = ap suc (length-signals a given g)
length-signals a given (gate x y ∷ g) = ap suc (length-signals a given g)

pub length-heights : (g : Graph) → length (heights g) ≡ length g
unfolding heights
length-heights [] = refl
length-heights (input ∷ g) = ap suc (length-heights g)
length-heights (gate x y ∷ g) = ap suc (length-heights g)

-- the signals of a graph with one more node
pub signal_old : {S : Type 0} (a : Kind S) (given : ℕ → S) (nd : Node) (g : Graph) (n : ℕ) → n ≤ length g → at a.low (signals a given (nd ∷ g)) n ≡ at a.low (signals a given g) n
unfolding signals
signal_old a given input g n h = at_old a.low (given (inputs g)) (signals a given g) n (omega (arith, length-signals a given g))
signal_old a given (gate x y) g n h = at_old a.low (a.meet (edge_signal a (signals a given g) x) (edge_signal a (signals a given g) y)) (signals a given g) n (omega (arith, length-signals a given g))

pub signal_input : {S : Type 0} (a : Kind S) (given : ℕ → S) (g : Graph) → at a.low (signals a given (input ∷ g)) (suc (length g)) ≡ given (inputs g)
unfolding signals
signal_input a given g = ap (at a.low (given (inputs g) ∷ signals a given g)) (ap suc (sym (length-signals a given g))) ∙ at_new a.low (given (inputs g)) (signals a given g)

pub signal_gate : {S : Type 0} (a : Kind S) (given : ℕ → S) (g : Graph) (x y : ℕ)
    → at a.low (signals a given (gate x y ∷ g)) (suc (length g)) ≡ a.meet (edge_signal a (signals a given g) x) (edge_signal a (signals a given g) y)
unfolding signals
signal_gate a given g x y =
    let v = a.meet (edge_signal a (signals a given g) x) (edge_signal a (signals a given g) y) in
    ap (at a.low (v ∷ signals a given g)) (ap suc (sym (length-signals a given g))) ∙ at_new a.low v (signals a given g)

pub edge-old : {S : Type 0} (a : Kind S) (given : ℕ → S) (nd : Node) (g : Graph) (e : ℕ) → node_of e ≤ length g → edge_signal a (signals a given (nd ∷ g)) e ≡ edge_signal a (signals a given g) e
edge-old a given nd g e h = ap (λ v. cond (sign_of e) (a.flip v) v) (signal_old a given nd g (node_of e) h)

pub value-old : (nd : Node) (g : Graph) (env : ℕ → Bool) (n : ℕ) → n ≤ length g → value (nd ∷ g) env n ≡ value g env n
value-old nd g env n h = signal_old bits env nd g n h

pub height-old : (nd : Node) (g : Graph) (n : ℕ) → n ≤ length g → height (nd ∷ g) n ≡ height g n
unfolding heights
height-old input g n h = at_old 0 0 (heights g) n (omega (arith, length-heights g))
height-old (gate x y) g n h = at_old 0 _ (heights g) n (omega (arith, length-heights g))

pub describes-old : (nd : Node) (g : Graph) (c : Cut) (n : ℕ) → n ≤ length g → Every (λ l. l ≤ length g) c.leaves → Describes g c n → Describes (nd ∷ g) c n
describes-old nd g c n h low des env =
    value_alike c (value (nd ∷ g) env) (value g env) (λ l e. value-old nd g env l (every_in (λ m. m ≤ length g) c.leaves l low e))
    ∙ des env ∙ sym (value-old nd g env n h)

pub growing : GrowingChangesNothingEarlier
growing nd g = record {
  values = value-old nd g;
  edges = λ env e. edge-old bits env nd g e;
  heights = height-old nd g;
  describes = describes-old nd g;
}

pub cuts-stay : CutsStay
cuts-stay p cs ks n h = ap (λ l. trivial p n ∷ l) (at_old [] cs ks n h)

-- a number below the quotient, times the divisor
fits_in : (n c m : ℕ) → c ≤ m / n → n * c ≤ m
fits_in n c m h = le_trans (mul-le-mul_left n h) (mul-div-le m n)

goes_into : (n c m : ℕ) → 1 ≤ n → n * c ≤ m → c ≤ m / n
goes_into n c m pos h = (le-div_iff_mul-le pos).1 (subst (λ k. k ≤ m) (mul_comm n c) h)

pub capacity : CapacityIsLargest
capacity most n t h =
    let c = capacity_of most n t in
    let by-cuts : c ≤ t.cuts / n = omega arith in
    let by-keys : c ≤ t.keys / n = omega arith in
    record {
      within = omega arith;
      holds = record { source = omega arith; reduced = omega arith; pairs = omega arith; cuts = fits_in n c t.cuts by-cuts; keys = fits_in n c t.keys by-keys };
      largest = λ c k f. omega (arith, goes_into n c t.cuts h f.cuts, goes_into n c t.keys h f.keys);
    }
