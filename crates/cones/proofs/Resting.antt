-- Resting on a node is having a path to it.
use Rattle.std.proofs.Common.{◌≡◌, ℕ, zero, suc, ◌<◌, ◌≤◌, true, ◌||◌, eqb, ◌⊎◌, [], ◌∷◌, length, sym, refl, ap, ◌∙◌, subst, ap₂, inl, inr, ⊎_elim, arith}
use Rattle.std.proofs.lemmas.Bool.{cases_eq, eq-eqb, ne_eqb, eqb-true, or_cases, or_left, or_right}
use Rattle.model.specs.Edges.{node_of}
use Rattle.model.specs.Graphs.{Node, input, gate, Graph, at, Ordered, rests_on}
use Rattle.model.proofs.Growing.{at_new, at_none}
use Rattle.cones.specs.Paths.{Fanin, Rests, here, by_fanin}

-- one more node changes no earlier one
rests-old : (nd : Node) (g : Graph) (n m : ℕ) → n ≤ length g → rests_on (nd ∷ g) n m ≡ rests_on g n m
unfolding rests_on
rests-old input g n m h = refl
rests-old (gate x y) g n m h = rw (ne_eqb n (suc (length g)) (λ e. omega arith))

-- what an ordered graph says of a gate
pub record GateAt (g : Graph) (n x y : ℕ) : Type 0 where
  pub known : n ≤ length g
  pub first : node_of x < n
  pub second : node_of y < n
  pub rests : (m : ℕ) → rests_on g n m ≡ (eqb n m || (rests_on g (node_of x) m || rests_on g (node_of y) m))

never : {A : Type 0} {x y : ℕ} → input ≡ gate x y → A
never e = absurd (let z : ◌≡◌ {A = ℕ} 0 1 = cc in omega arith)

gate-later : (nd : Node) (g : Graph) (n x y : ℕ) → GateAt g n x y → GateAt (nd ∷ g) n x y
gate-later nd g n x y k = record {
  known = omega (arith, k.known);
  first = k.first;
  second = k.second;
  rests = λ m. rests-old nd g n m k.known ∙ k.rests m
      ∙ ap₂ (λ a b. eqb n m || (a || b)) (sym (rests-old nd g (node_of x) m (omega (arith, k.known, k.first)))) (sym (rests-old nd g (node_of y) m (omega (arith, k.known, k.second))));
}

gate-newest : (g : Graph) (n x y : ℕ) → node_of x ≤ length g → node_of y ≤ length g → n ≡ suc (length g) → GateAt (gate x y ∷ g) n x y
unfolding rests_on
gate-newest g n x y hx hy e = record {
  known = omega arith;
  first = omega arith;
  second = omega arith;
  rests = λ m. rw (eq-eqb n (suc (length g)) e, ne_eqb (node_of x) (suc (length g)) (λ z. omega arith), ne_eqb (node_of y) (suc (length g)) (λ z. omega arith));
}

same_first : {x y a b : ℕ} → gate a b ≡ gate x y → a ≡ x
same_first e = cc

same_second : {x y a b : ℕ} → gate a b ≡ gate x y → b ≡ y
same_second e = cc

pub gate-at : (g : Graph) → Ordered g → (n x y : ℕ) → at input g n ≡ gate x y → GateAt g n x y
gate-at [] o n x y e = never e
gate-at (input ∷ g) o n x y e = ⊎_elim
    (λ (z : n ≡ suc (length g)). never (sym (at_new input input g) ∙ ap (at input (input ∷ g)) (sym z) ∙ e))
    (λ (z : n ≡ suc (length g) → ⊥). gate-later input g n x y (gate-at g o n x y (rw (ne_eqb n (suc (length g)) z) at e)))
    (cases_eq n (suc (length g)))
gate-at (gate a b ∷ g) o n x y e = ⊎_elim
    (λ (z : n ≡ suc (length g)).
    let is : gate a b ≡ gate x y = sym (at_new input (gate a b) g) ∙ ap (at input (gate a b ∷ g)) (sym z) ∙ e in
    let G : ℕ → ℕ → Type 0 = λ v w. GateAt (gate a b ∷ g) n v w in
    subst (λ w. G x w) (same_second is) (subst (λ v. G v b) (same_first is) (gate-newest g n a b o.0 o.1 z)))
    (λ (z : n ≡ suc (length g) → ⊥). gate-later (gate a b) g n x y (gate-at g o.2 n x y (rw (ne_eqb n (suc (length g)) z) at e)))
    (cases_eq n (suc (length g)))

-- an input rests on itself alone
input-rests : (g : Graph) (n m : ℕ) → at input g n ≡ input → rests_on g n m ≡ eqb n m
unfolding rests_on
input-rests [] n m e = refl
input-rests (input ∷ g) n m e = ⊎_elim
    (λ (z : n ≡ suc (length g)). input-rests g n m (at_none input g n (omega arith)))
    (λ (z : n ≡ suc (length g) → ⊥). input-rests g n m (rw (ne_eqb n (suc (length g)) z) at e))
    (cases_eq n (suc (length g)))
input-rests (gate a b ∷ g) n m e = ⊎_elim
    (λ (z : n ≡ suc (length g)). never (sym (sym (at_new input (gate a b) g) ∙ ap (at input (gate a b ∷ g)) (sym z) ∙ e)))
    (λ (z : n ≡ suc (length g) → ⊥). rw (ne_eqb n (suc (length g)) z) (input-rests g n m (rw (ne_eqb n (suc (length g)) z) at e)))
    (cases_eq n (suc (length g)))

module _ (g : Graph) (ordered : Ordered g) where
  pub fanin-earlier : {n k : ℕ} → Fanin g n k → k < n
  fanin-earlier {n} {k} f =
      let at-gate = gate-at g ordered n f.x f.y f.is in
      ⊎_elim (λ (z : node_of f.x ≡ k). omega (arith, at-gate.first)) (λ (z : node_of f.y ≡ k). omega (arith, at-gate.second)) f.one

  rests_self : (n : ℕ) (nd : Node) → at input g n ≡ nd → rests_on g n n ≡ true
  rests_self n input e = input-rests g n n e ∙ eq-eqb n n refl
  rests_self n (gate x y) e = (gate-at g ordered n x y e).rests n ∙ or_left (eqb n n) _ (eq-eqb n n refl)

  rests-fanin : {n k : ℕ} (m : ℕ) → Fanin g n k → rests_on g k m ≡ true → rests_on g n m ≡ true
  rests-fanin {n} {k} m f h = (gate-at g ordered n f.x f.y f.is).rests m ∙ or_right (eqb n m) _ (⊎_elim
      (λ (z : node_of f.x ≡ k). or_left (rests_on g (node_of f.x) m) _ (ap (λ v. rests_on g v m) z ∙ h))
      (λ (z : node_of f.y ≡ k). or_right (rests_on g (node_of f.x) m) _ (ap (λ v. rests_on g v m) z ∙ h))
      f.one)

  pub rests-path : {n m : ℕ} → Rests g n m → rests_on g n m ≡ true
  rests-path {n} here = rests_self n (at input g n) refl
  rests-path {n} {m} (by_fanin f r) = rests-fanin m f (rests-path r)

  is-here : (n m : ℕ) → eqb n m ≡ true → Rests g n m
  is-here n m h = subst (λ k. Rests g n k) (eqb-true n m h) here

  -- a path of no fanin, or by one, which is earlier
  path_by : (n m : ℕ) → ((k : ℕ) → k < n → rests_on g k m ≡ true → Rests g k m) → rests_on g n m ≡ true → (nd : Node) → at input g n ≡ nd → Rests g n m
  path_by n m below h input e = is-here n m (sym (input-rests g n m e) ∙ h)
  path_by n m below h (gate x y) e =
      let at-gate = gate-at g ordered n x y e in
      ⊎_elim
      (is-here n m)
      (λ z. ⊎_elim
      (λ v. by_fanin (record { x = x; y = y; is = e; one = inl refl }) (below (node_of x) at-gate.first v))
      (λ v. by_fanin (record { x = x; y = y; is = e; one = inr refl }) (below (node_of y) at-gate.second v))
      (or_cases (rests_on g (node_of x) m) (rests_on g (node_of y) m) z))
      (or_cases (eqb n m) (rests_on g (node_of x) m || rests_on g (node_of y) m) (sym (at-gate.rests m) ∙ h))

  path-below : (b n m : ℕ) → n < b → rests_on g n m ≡ true → Rests g n m
  path-below zero n m l h = absurd (omega arith)
  path-below (suc b) n m l h = path_by n m (λ k z. path-below b k m (omega arith)) h (at input g n) refl

  pub path-rests : (n m : ℕ) → rests_on g n m ≡ true → Rests g n m
  path-rests n m h = path-below (suc n) n m (omega arith) h

  pub path-down : {n m : ℕ} → Rests g n m → m ≤ n
  path-down here = omega arith
  path-down (by_fanin f r) = omega (arith, fanin-earlier f, path-down r)

-- a path goes on by a fanin of its last node
pub path_on : {g : Graph} {n p k : ℕ} → Rests g n p → Fanin g p k → Rests g n k
path_on here f = by_fanin f here
path_on (by_fanin d r) f = by_fanin d (path_on r f)

-- the last step of a path
pub record Last (g : Graph) (n m : ℕ) : Type 0 where
  pub node : ℕ
  pub path : Rests g n node
  pub fanin : Fanin g node m

pub path-last : {g : Graph} {n m : ℕ} → Rests g n m → (n ≡ m) ⊎ Last g n m
path-last here = inl refl
path-last {g} {n} {m} (by_fanin {k} f r) = inr (⊎_elim
    (λ z. record { node = n; path = here; fanin = subst (λ v. Fanin g n v) z f })
    (λ l. record { node = l.node; path = by_fanin f l.path; fanin = l.fanin })
    (path-last r))
