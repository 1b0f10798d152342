-- The chosen are the first of a stable order, and only they are.
use Rattle.std.proofs.Common.{◌≡◌, ℕ, zero, suc, ◌+◌, ◌<◌, ◌≤◌, min, Bool, true, false, cond, not, ◌&&◌, ◌||◌, eqb, ltb, ◌⊎◌, List, [], ◌∷◌, map, length, get_or, take, sym, refl, ap, ◌∙◌, subst, ap₂, inl, inr, ⊎_elim, arith, length-take, get_or-take}
use mathlib.Core.Bool.{or-false, or_assoc}
use mathlib.Core.List.Memᴰ
use mathlib.Core.List.{Memᴰ}
use Rattle.std.proofs.lemmas.List.{take-map}
use Rattle.std.proofs.lemmas.Bool.{lt-ltb, ltb-true, eq-eqb, ne_eqb, eqb-true, cases_eq, cases_lt, cases_Bool, both_ways, cond_both, or_parts}
use Rattle.model.specs.Tables.{span}
use Rattle.model.specs.Leaves.{has, place}
use Rattle.model.specs.Rankings.{rank_in, ranked, first_by, First, WeakOrder, Every}
use Rattle.model.specs.Rankings.{Ranking, LeafFacts, Sized}
use Rattle.model.specs.Cuts.{Cut}
use Rattle.model.specs.Search.{by_leaves}
use Rattle.model.specs.ChoiceLaws.{ChoosingKeepsTheFirst}
use Rattle.model.proofs.Positions.{length-span}
use Rattle.model.proofs.Places.{place_in, has-at}
use Rattle.model.proofs.Lists.{or_swap, place-mem, mem-place, every-at, every-rank_in, every_weaken, every_in, every-from}
use Rattle.model.proofs.Ranks.{ranked-map}

-- by places alone: i comes before j
abbrev comes : (ℕ → ℕ → Bool) → ℕ → ℕ → Bool
comes before i j = before i j || (not (before j i) && ltb i j)

-- each stands before all that follow it
abbrev Pairwise : (ℕ → ℕ → Bool) → List ℕ → Type 0
Pairwise test [] = Unit {0}
Pairwise test (x ∷ xs) = Every (λ y. test x y ≡ true) xs × Pairwise test xs

has-rank_in : (before : ℕ → ℕ → Bool) (l x : ℕ) (ys : List ℕ) → has l (rank_in before x ys) ≡ (eqb l x || has l ys)
unfolding rank_in
has-rank_in before l x [] = refl
has-rank_in before l x (y ∷ ys) = go (before x y) (has-rank_in before l x ys)
  where
    go : (b : Bool) → has l (rank_in before x ys) ≡ (eqb l x || has l ys) → has l (cond b (x ∷ (y ∷ ys)) (y ∷ rank_in before x ys)) ≡ (eqb l x || (eqb l y || has l ys))
    go true h = refl
    go false h = ap (λ c. eqb l y || c) h ∙ or_swap (eqb l y) (eqb l x) (has l ys)

length-rank_in : {A : Type 0} (before : A → A → Bool) (x : A) (ys : List A) → length (rank_in before x ys) ≡ suc (length ys)
unfolding rank_in
length-rank_in before x [] = refl
length-rank_in {A} before x (y ∷ ys) =
    cond_both (before x y) _ _ (λ (zs : List A). length zs ≡ suc (suc (length ys))) (λ _. refl) (λ _. ap suc (length-rank_in before x ys))

has-ranked : (before : ℕ → ℕ → Bool) (l : ℕ) (xs done : List ℕ) → has l (ranked before xs done) ≡ (has l xs || has l done)
unfolding ranked
has-ranked before l [] done = refl
has-ranked before l (x ∷ xs) done =
    has-ranked before l xs (rank_in before x done) ∙ ap (λ c. has l xs || c) (has-rank_in before l x done) ∙ or_swap (has l xs) (eqb l x) (has l done) ∙ sym (or_assoc (eqb l x) (has l xs) (has l done))

length-ranked : {A : Type 0} (before : A → A → Bool) (xs done : List A) → length (ranked before xs done) ≡ length xs + length done
unfolding ranked
length-ranked before [] done = omega arith
length-ranked before (x ∷ xs) done = length-ranked before xs (rank_in before x done) ∙ omega (arith, length-rank_in before x done)

has_span : (l k n : ℕ) → k ≤ l → l < k + n → has l (span k n) ≡ true
has_span l k zero h g = absurd (omega arith)
has_span l k (suc n) h g = ⊎_elim
    (λ (z : l ≡ k). rw (eq-eqb l k z))
    (λ (z : l ≡ k → ⊥). rw (ne_eqb l k z) (has_span l (suc k) n (omega arith) (omega arith)))
    (cases_eq l k)

span_below : (l k n : ℕ) → has l (span k n) ≡ true → (k ≤ l) × (l < k + n)
span_below l k zero h = absurd (both_ways false refl h)
span_below l k (suc n) h = go (eqb l k) refl h (span_below l (suc k) n)
  where
    go : (b : Bool) → eqb l k ≡ b → (b || has l (span (suc k) n)) ≡ true → (has l (span (suc k) n) ≡ true → (suc k ≤ l) × (l < suc k + n)) → (k ≤ l) × (l < k + suc n)
    go true e _ f = let z = eqb-true l k e in (omega arith, omega arith)
    go false e g f = let z = f g in (omega arith, omega arith)

module _ (before : ℕ → ℕ → Bool) (len : ℕ)
    (irreflexive : (i : ℕ) → i < len → before i i ≡ false)
    (transitive : (i j k : ℕ) → i < len → j < len → k < len → before i j ≡ true → before j k ≡ true → before i k ≡ true)
    (ties : (i j k : ℕ) → i < len → j < len → k < len → before i j ≡ false → before j i ≡ false → before j k ≡ false → before k j ≡ false → before i k ≡ false) where
  -- the ways that i can come before j
  ways : (i j : ℕ) → comes before i j ≡ true → (before i j ≡ true) ⊎ ((before j i ≡ false) × (i < j))
  ways i j h = go (before i j) refl (before j i) refl (ltb i j) refl h
    where
      go : (a : Bool) → before i j ≡ a → (b : Bool) → before j i ≡ b → (c : Bool) → ltb i j ≡ c → (a || (not b && c)) ≡ true → (before i j ≡ true) ⊎ ((before j i ≡ false) × (i < j))
      go true e b f c g k = inl e
      go false e true f c g k = absurd (both_ways false refl k)
      go false e false f true g k = inr (f, ltb-true i j g)
      go false e false f false g k = absurd (both_ways false refl k)

  by_rank : (i j : ℕ) → before i j ≡ true → comes before i j ≡ true
  by_rank i j e = rw e

  by_age : (i j : ℕ) → before j i ≡ false → i < j → comes before i j ≡ true
  by_age i j e h = go (before i j)
    where
      go : (a : Bool) → (a || (not (before j i) && ltb i j)) ≡ true
      go true = refl
      go false = rw (e, lt-ltb i j h)

  -- what x ranks before is before all that is not before it
  onward : (x y z : ℕ) → x < len → y < len → z < len → before x y ≡ true → before z y ≡ false → before x z ≡ true
  onward x y z hx hy hz e f = ⊎_elim (λ (g : before x z ≡ true). g) (λ (g : before x z ≡ false). absurd (⊎_elim
      (λ (k : before z x ≡ true). both_ways (before z y) f (transitive z x y hz hx hy k e))
      (λ (k : before z x ≡ false). ⊎_elim
      (λ (m : before y z ≡ true). both_ways (before x z) g (transitive x y z hx hy hz e m))
      (λ (m : before y z ≡ false). both_ways (before x y) (ties x z y hx hz hy g k f m) e)
      (cases_Bool (before y z)))
      (cases_Bool (before z x)))) (cases_Bool (before x z))

  passes : (x y z : ℕ) → x < len → y < len → z < len → before x y ≡ true → comes before y z ≡ true → before x z ≡ true
  passes x y z hx hy hz e h = ⊎_elim (λ (f : before y z ≡ true). transitive x y z hx hy hz e f) (λ (f : (before z y ≡ false) × (y < z)). onward x y z hx hy hz e f.0) (ways y z h)

  asymmetric : (i j : ℕ) → i < len → j < len → comes before i j ≡ true → comes before j i ≡ true → ⊥
  asymmetric i j hi hj h k = ⊎_elim
      (λ (e : before i j ≡ true). ⊎_elim
      (λ (f : before j i ≡ true). both_ways (before i i) (irreflexive i hi) (transitive i j i hi hj hi e f))
      (λ (f : (before i j ≡ false) × (j < i)). both_ways (before i j) f.0 e) (ways j i k))
      (λ (e : (before j i ≡ false) × (i < j)). ⊎_elim
      (λ (f : before j i ≡ true). both_ways (before j i) e.0 f)
      (λ (f : (before i j ≡ false) × (j < i)). omega (arith, e.1, f.1)) (ways j i k))
      (ways i j h)

  not-before : (i j : ℕ) → i < len → j < len → comes before i j ≡ true → before j i ≡ false
  not-before i j hi hj h = ⊎_elim
      (λ (f : before j i ≡ true). absurd (asymmetric i j hi hj h (by_rank j i f)))
      (λ (f : before j i ≡ false). f) (cases_Bool (before j i))

  -- ---- insertion keeps the order
  insert_pairwise : (x : ℕ) (ys : List ℕ) → x < len → Every (λ y. y < x) ys → Pairwise (comes before) ys → Pairwise (comes before) (rank_in before x ys)
  unfolding rank_in
  insert_pairwise x [] hx low p = (tt, tt)
  insert_pairwise x (y ∷ ys) hx low p = go (before x y) refl (insert_pairwise x ys hx low.1 p.1)
    where
      hy : y < len
      hy = omega (arith, low.0)

      further : (zs : List ℕ) → before x y ≡ true → Every (λ z. z < x) zs → Every (λ z. comes before y z ≡ true) zs → Every (λ z. comes before x z ≡ true) zs
      further [] e a b = tt
      further (z ∷ zs) e a b = (by_rank x z (passes x y z hx hy (omega (arith, a.0)) e b.0), further zs e a.1 b.1)

      go : (b : Bool) → before x y ≡ b → Pairwise (comes before) (rank_in before x ys) → Pairwise (comes before) (cond b (x ∷ (y ∷ ys)) (y ∷ rank_in before x ys))
      go true e ih = ((by_rank x y e, further ys e low.1 p.0), p)
      go false e ih = (every-rank_in (λ z. comes before y z ≡ true) before x ys (by_age y x e low.0) p.0, ih)

  ranked_pairwise : (k n : ℕ) (done : List ℕ) → k + n ≤ len → Every (λ y. y < k) done → Pairwise (comes before) done → Pairwise (comes before) (ranked before (span k n) done)
  unfolding ranked
  ranked_pairwise k zero done h low p = p
  ranked_pairwise k (suc n) done h low p =
      ranked_pairwise (suc k) n (rank_in before k done) (omega arith)
      (every-rank_in (λ y. y < suc k) before k done (omega arith) (every_weaken (λ y. y < k) (λ y. y < suc k) done (λ l z. omega arith) low))
      (insert_pairwise k done (omega arith) low p)

  -- ---- only one list is in this order with all others behind it
  only : (gone ps qs : List ℕ) → length ps ≡ length qs
      → Every (λ l. (l < len) × (has l gone ≡ false)) ps → Every (λ l. (l < len) × (has l gone ≡ false)) qs
      → Pairwise (comes before) ps → Pairwise (comes before) qs
      → ((i : ℕ) → i < len → has i gone ≡ false → has i ps ≡ false → Every (λ l. comes before l i ≡ true) ps)
      → ((i : ℕ) → i < len → has i gone ≡ false → has i qs ≡ false → Every (λ l. comes before l i ≡ true) qs)
      → ps ≡ qs
  only gone [] [] e bp bq op oq rp rq = refl
  only gone [] (q ∷ qs) e bp bq op oq rp rq = absurd (omega arith)
  only gone (p ∷ ps) [] e bp bq op oq rp rq = absurd (omega arith)
  only gone (p ∷ ps) (q ∷ qs) e bp bq op oq rp rq =
      ⊎_elim
      (λ (z : p ≡ q). ap₂ (λ x xs. x ∷ xs) z
      (only (p ∷ gone) ps qs (omega arith)
      (fresh ps p bp.0.0 bp.1 op.0)
      (subst (λ x. Every (λ l. (l < len) × (has l (x ∷ gone) ≡ false)) qs) (sym z) (fresh qs q bq.0.0 bq.1 oq.0))
      op.1 oq.1
      (λ i h g k. (rp i h (ungone i p g) (hasnt i p (has i ps) (out i p g) k)).1)
      (λ i h g k. (rq i h (ungone i p g) (hasnt i q (has i qs) (λ y. out i p g (y ∙ sym z)) k)).1)))
      (λ (z : p ≡ q → ⊥). absurd (asymmetric p q bp.0.0 bq.0.0
      (heads ps p q bq.0 op rp z) (heads qs q p bp.0 oq rq (λ y. z (sym y)))))
      (cases_eq p q)
    where
      ungone : (i x : ℕ) → has i (x ∷ gone) ≡ false → has i gone ≡ false
      ungone i x h = (or_parts (eqb i x) (has i gone) h).1

      out : (i x : ℕ) → has i (x ∷ gone) ≡ false → i ≡ x → ⊥
      out i x h y = both_ways (eqb i x) (or_parts (eqb i x) (has i gone) h).0 (eq-eqb i x y)

      hasnt : (i x : ℕ) (b : Bool) → (i ≡ x → ⊥) → b ≡ false → (eqb i x || b) ≡ false
      hasnt i x b n h = rw (ne_eqb i x n) h

      fresh : (xs : List ℕ) (x : ℕ) → x < len → Every (λ l. (l < len) × (has l gone ≡ false)) xs → Every (λ l. comes before x l ≡ true) xs → Every (λ l. (l < len) × (has l (x ∷ gone) ≡ false)) xs
      fresh [] x h b o = tt
      fresh (y ∷ ys) x h b o =
          ((b.0.0, hasnt y x (has y gone) (λ w. asymmetric x y h b.0.0 o.0 (subst (λ m. comes before y m ≡ true) w (subst (λ m. comes before m y ≡ true) (sym w) o.0))) b.0.1), fresh ys x h b.1 o.1)

      -- the head of a list comes before the head of the other
      heads : (xs : List ℕ) (x y : ℕ) → (y < len) × (has y gone ≡ false) → Pairwise (comes before) (x ∷ xs)
          → ((i : ℕ) → i < len → has i gone ≡ false → has i (x ∷ xs) ≡ false → Every (λ l. comes before l i ≡ true) (x ∷ xs)) → (x ≡ y → ⊥) → comes before x y ≡ true
      heads xs x y b o r n = ⊎_elim
          (λ (h : has y xs ≡ true). every_in (λ l. comes before x l ≡ true) xs y o.0 h)
          (λ (h : has y xs ≡ false). (r y b.0 b.1 (hasnt y x (has y xs) (λ w. n (sym w)) h)).0)
          (cases_Bool (has y xs))

pairwise_at : (test : ℕ → ℕ → Bool) (xs : List ℕ) → Pairwise test xs → (q r : ℕ) → q < r → r < length xs → test (get_or xs q 0) (get_or xs r 0) ≡ true
pairwise_at test [] p q r h k = absurd (omega arith)
pairwise_at test (x ∷ xs) p q zero h k = absurd (omega arith)
pairwise_at test (x ∷ xs) p zero (suc r) h k = every_in (λ y. test x y ≡ true) xs (get_or xs r 0) p.0 (has-at xs r (omega arith))
pairwise_at test (x ∷ xs) p (suc q) (suc r) h k = pairwise_at test xs p.1 q r (omega arith) (omega arith)

pairwise_from : (test : ℕ → ℕ → Bool) (xs : List ℕ) → ((q r : ℕ) → q < r → r < length xs → test (get_or xs q 0) (get_or xs r 0) ≡ true) → Pairwise test xs
pairwise_from test [] h = tt
pairwise_from test (x ∷ xs) h = (
  every-from (λ y. test x y ≡ true) xs (λ l e. let z = place_in l xs e in subst (λ y. test x y ≡ true) z.0 (h 0 (suc (place l xs)) (omega arith) (omega (arith, z.1)))),
  pairwise_from test xs (λ q r a b. h (suc q) (suc r) (omega arith) (omega arith)),
)

-- the list by its places
by_places : {A : Type 0} (d : A) (xs : List A) → map (λ i. get_or xs i d) (span 0 (length xs)) ≡ xs
by_places d [] = refl
by_places d (x ∷ xs) = ap (λ l. x ∷ l) (shifted (length xs) 0 ∙ by_places d xs)
  where
    shifted : (n k : ℕ) → map (λ i. get_or (x ∷ xs) i d) (span (suc k) n) ≡ map (λ i. get_or xs i d) (span k n)
    shifted zero k = refl
    shifted (suc n) k = ap (λ l. get_or xs k d ∷ l) (shifted n (suc k))

module _ {A : Type 0} (P : A → Type 0) (before : A → A → Bool) (w : WeakOrder P before) (d : A) (xs : List A) (every : Every P xs) where
  at_places : ℕ → ℕ → Bool
  at_places i j = before (get_or xs i d) (get_or xs j d)

  fits : (i : ℕ) → i < length xs → P (get_or xs i d)
  fits i h = every-at P d xs i every h

  irr : (i : ℕ) → i < length xs → at_places i i ≡ false
  unfolding at_places
  irr i h = w.irreflexive (get_or xs i d) (fits i h)

  tra : (i j k : ℕ) → i < length xs → j < length xs → k < length xs → at_places i j ≡ true → at_places j k ≡ true → at_places i k ≡ true
  unfolding at_places
  tra i j k a b c = w.transitive (get_or xs i d) (get_or xs j d) (get_or xs k d) (fits i a) (fits j b) (fits k c)

  tie : (i j k : ℕ) → i < length xs → j < length xs → k < length xs → at_places i j ≡ false → at_places j i ≡ false → at_places j k ≡ false → at_places k j ≡ false → at_places i k ≡ false
  unfolding at_places
  tie i j k a b c = w.ties (get_or xs i d) (get_or xs j d) (get_or xs k d) (fits i a) (fits j b) (fits k c)

  -- all places in order
  order : List ℕ
  order = ranked at_places (span 0 (length xs)) []

  order_pairwise : Pairwise (comes at_places) order
  unfolding order
  order_pairwise = ranked_pairwise at_places (length xs) irr tra tie 0 (length xs) [] (omega arith) tt tt

  order-has : (l : ℕ) → has l order ≡ has l (span 0 (length xs))
  unfolding order
  order-has l = has-ranked at_places l (span 0 (length xs)) [] ∙ or-false (has l (span 0 (length xs)))

  order-length : length order ≡ length xs
  unfolding order
  order-length = length-ranked at_places (span 0 (length xs)) [] ∙ omega (arith, length-span 0 (length xs))

  order_below : (q : ℕ) → q < length order → get_or order q 0 < length xs
  order_below q h = let z = span_below (get_or order q 0) 0 (length xs) (sym (order-has (get_or order q 0)) ∙ has-at order q h) in omega (arith, z.1)

  are-ranked : ranked before xs [] ≡ map (λ i. get_or xs i d) order
  unfolding order at_places
  are-ranked = ap (λ l. ranked before l []) (sym (by_places d xs)) ∙ sym (ranked-map (λ i. get_or xs i d) before (span 0 (length xs)) [])

  -- the first n of them
  pub first_by_lem : (n : ℕ) → First before n d xs (first_by before n xs)
  unfolding at_places
  first_by_lem n =
      let few : length (take n order) ≡ min n (length xs) = length-take n order ∙ ap (min n) order-length in
      record {
        places = take n order;
        are = ap (take n) are-ranked ∙ take-map (λ i. get_or xs i d) n order;
        many = few;
        found = λ q h. subst (λ l. l < length xs) (sym (get_or-take n order q 0 (omega (arith, few)))) (order_below q (omega (arith, few, order-length)));
        order = λ q r h k. ap₂ (λ a b. comes at_places a b) (get_or-take n order q 0 (omega (arith, few))) (get_or-take n order r 0 (omega (arith, few))) ∙ pairwise_at (comes at_places) order order_pairwise q r h (omega (arith, few, order-length));
        rest = λ i h. stands i h few (place_in i order (order-has i ∙ has_span i 0 (length xs) (omega arith) (omega arith)));
      }
    where
      stands : (i : ℕ) → i < length xs → length (take n order) ≡ min n (length xs) → (get_or order (place i order) 0 ≡ i) × (place i order < length order)
          → ((q : ℕ) × (q < length (take n order)) × (get_or (take n order) q 0 ≡ i)) ⊎ ((q : ℕ) → q < length (take n order) → comes at_places (get_or (take n order) q 0) i ≡ true)
      stands i h few e = ⊎_elim
          (λ (z : place i order < n). inl (place i order, omega (arith, few, order-length, e.1), get_or-take n order (place i order) 0 z ∙ e.0))
          (λ (z : n ≤ place i order). inr (λ q k. ap₂ (λ a b. comes at_places a b) (get_or-take n order q 0 (omega (arith, few))) (sym e.0) ∙ pairwise_at (comes at_places) order order_pairwise q (place i order) (omega (arith, few)) e.1))
          (cases_lt (place i order) n)

  -- none left out ranks before one kept
  pub none_before : (n : ℕ) (ks : List A) (f : First before n d xs ks) (i q : ℕ) → i < length xs → q < length f.places
      → ((r : ℕ) × (r < length f.places) × (get_or f.places r 0 ≡ i)) ⊎ (before (get_or xs i d) (get_or xs (get_or f.places q 0) d) ≡ false)
  unfolding at_places
  none_before n ks f i q h k = ⊎_elim (λ z. inl z)
      (λ z. inr (not-before at_places (length xs) irr tra tie (get_or f.places q 0) i (f.found q k) h (z q k)))
      (f.rest i h)

  -- two lists that are the first n are one
  pub one-first : (n : ℕ) (ks ls : List A) → First before n d xs ks → First before n d xs ls → ks ≡ ls
  unfolding at_places
  one-first n ks ls f g = f.are ∙ ap (map (λ i. get_or xs i d)) same ∙ sym g.are
    where
      behind : (ms : List A) (p : First before n d xs ms) (i : ℕ) → i < length xs → has i [] ≡ false → has i p.places ≡ false → Every (λ l. comes at_places l i ≡ true) p.places
      behind ms p i h _ k = ⊎_elim
          (λ (z : (q : ℕ) × (q < length p.places) × (get_or p.places q 0 ≡ i)). absurd (both_ways (has i p.places) k (subst (λ l. has l p.places ≡ true) z.2 (has-at p.places z.0 z.1))))
          (λ (z : (q : ℕ) → q < length p.places → comes at_places (get_or p.places q 0) i ≡ true). every-from (λ l. comes at_places l i ≡ true) p.places (λ l e. let y = place_in l p.places e in subst (λ m. comes at_places m i ≡ true) y.0 (z (place l p.places) y.1)))
          (p.rest i h)

      inside : (ms : List A) (p : First before n d xs ms) → Every (λ l. (l < length xs) × (has l [] ≡ false)) p.places
      inside ms p = every-from (λ l. (l < length xs) × (has l [] ≡ false)) p.places (λ l e. let y = place_in l p.places e in (subst (λ m. m < length xs) y.0 (p.found (place l p.places) y.1), refl))

      same : f.places ≡ g.places
      same = only at_places (length xs) irr tra tie [] f.places g.places (f.many ∙ sym g.many) (inside ks f) (inside ls g)
          (pairwise_from (comes at_places) f.places f.order) (pairwise_from (comes at_places) g.places g.order) (behind ks f) (behind ls g)

-- a ranking of cuts by their leaves' facts keeps the order laws
ranking_orders : (p : ℕ) (r : Ranking p) (leaf : ℕ → LeafFacts) → WeakOrder (λ c. Sized p (map leaf c.leaves)) (by_leaves r.before leaf)
ranking_orders p r leaf = record {
  irreflexive = λ a. r.lawful.irreflexive (map leaf a.leaves);
  transitive = λ a b c. r.lawful.transitive (map leaf a.leaves) (map leaf b.leaves) (map leaf c.leaves);
  ties = λ a b c. r.lawful.ties (map leaf a.leaves) (map leaf b.leaves) (map leaf c.leaves);
}

pub choosing : ChoosingKeepsTheFirst
choosing p r leaf n d cs every =
    let P : Cut → Type 0 = λ c. Sized p (map leaf c.leaves) in
    let before : Cut → Cut → Bool = by_leaves r.before leaf in
    let w = ranking_orders p r leaf in
    record {
      first = first_by_lem P before w d cs every n;
      only = λ ks f. one-first P before w d cs every n ks (first_by before n cs) f (first_by_lem P before w d cs every n);
      none = none_before P before w d cs every n;
    }

-- the same by members: none left out ranks before one that is kept
pub none-left-out : (p : ℕ) (r : Ranking p) (leaf : ℕ → LeafFacts) (n : ℕ) (cs : List Cut) → Every (λ c. Sized p (map leaf c.leaves)) cs
    → (c k : Cut) → Memᴰ c cs → Memᴰ k (first_by (by_leaves r.before leaf) n cs)
    → Memᴰ c (first_by (by_leaves r.before leaf) n cs) ⊎ (by_leaves r.before leaf c k ≡ false)
none-left-out p r leaf n cs every c k i j =
    let before : Cut → Cut → Bool = by_leaves r.before leaf in
    let choice = choosing p r leaf n c cs every in
    let f = choice.first in
    let at_c = mem-place c cs c i in
    let in-k = Memᴰ.of_map (λ q. get_or cs q c) f.places (subst (Memᴰ k) f.are j) in
    let at-k = mem-place 0 f.places in-k.0 in-k.1 in
    ⊎_elim
    (λ (z : (q : ℕ) × (q < length f.places) × (get_or f.places q 0 ≡ at_c.0)).
    let there = Memᴰ.map (λ q. get_or cs q c) (place-mem 0 f.places z.0 z.1) in
    inl (subst (Memᴰ c) (sym f.are) (Memᴰ.cast (sym (ap (λ q. get_or cs q c) z.2 ∙ at_c.2)) there)))
    (λ (z : before (get_or cs at_c.0 c) (get_or cs (get_or f.places at-k.0 0) c) ≡ false).
    inr (ap₂ before (sym at_c.2) (sym (ap (λ q. get_or cs q c) at-k.2 ∙ in-k.2)) ∙ z))
    (choice.none (first_by before n cs) f at_c.0 at-k.0 at_c.1 at-k.1)

-- where one is to be chosen, one is
pub some-chosen : {A : Type 0} (before : A → A → Bool) (n : ℕ) (cs : List A) → 0 < n → 0 < length cs → (k : A) × Memᴰ k (first_by before n cs)
some-chosen {A} before n cs h k = head (first_by before n cs) (omega (arith, length-take n (ranked before cs []), length-ranked before cs []))
  where
    head : (xs : List A) → 0 < length xs → (x : A) × Memᴰ x xs
    head [] z = absurd (omega arith)
    head (x ∷ xs) z = (x, Memᴰ.head refl)
