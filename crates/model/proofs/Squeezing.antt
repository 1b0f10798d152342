-- Masked leaves dropped one by one, and the table stretched back.
use Rattle.std.proofs.Common.{◌≡◌, ℕ, zero, suc, ◌+◌, ◌^◌, ◌<◌, ◌≤◌, Bool, true, false, cond, ltb, ◌⊎◌, List, [], ◌∷◌, ◌++◌, length, get_or, take, set, sym, refl, ap, ◌∙◌, subst, ap₂, inl, inr, ⊎_elim, add-zero, zero-add, arith, length-set, length-take-le, get_or-set_other, take-suc, take-suc-set}
use lib.Seq.{take-length}
use Rattle.std.proofs.lemmas.Bool.{lt-ltb, le-ltb, eq-eqb, cases_eq, cases_lt, cases_Bool}
use Rattle.model.specs.Cuts.{value_of, tabulate, needed, squeeze}
use Rattle.model.specs.Tables.{bit_at, masked, val, put, Free, Rests, Loose}
use Rattle.model.specs.Leaves.{has, place, valuation, Rising}
use Rattle.model.proofs.Positions.{val_same, val_at, put_other}
use Rattle.model.proofs.Masked.{agree-free, masked-free, rests-loose}
use Rattle.model.proofs.Places.{place_of, has-at}
use Rattle.model.proofs.Stretching.{val_list, is-tabulated, tabulate-rests}

-- how many of the q positions from k on are not masked
abbrev pub rank : ℕ → ℕ → ℕ → ℕ → ℕ
rank p t k zero = 0
rank p t k (suc q) = let r = rank p t (suc k) q in cond (masked p t k) r (suc r)

module _ (p t : ℕ) where
  rank-more : (k q : ℕ) → rank p t k (suc q) ≡ cond (masked p t (k + q)) (rank p t k q) (suc (rank p t k q))
  rank-more k zero = ap (λ n. cond (masked p t n) 0 1) (sym (add-zero k))
  rank-more k (suc q) =
      let z : suc k + q ≡ k + suc q = omega arith in
      ap (λ n. cond (masked p t k) n (suc n)) (rank-more (suc k) q ∙ ap (λ n. cond (masked p t n) (rank p t (suc k) q) (suc (rank p t (suc k) q))) z)
      ∙ swap (masked p t k) (masked p t (k + suc q)) (rank p t (suc k) q)
    where
      swap : (a b : Bool) (r : ℕ) → cond a (cond b r (suc r)) (suc (cond b r (suc r))) ≡ cond b (cond a r (suc r)) (suc (cond a r (suc r)))
      swap true true r = refl
      swap true false r = refl
      swap false true r = refl
      swap false false r = refl

  pub rank-le : (k q : ℕ) → rank p t k q ≤ q
  rank-le k zero = omega arith
  rank-le k (suc q) = go (masked p t k) (rank p t (suc k) q) (rank-le (suc k) q)
    where
      go : (a : Bool) (r : ℕ) → r ≤ q → cond a r (suc r) ≤ suc q
      go true r h = omega arith
      go false r h = omega arith

  pub needed-more : (k : ℕ) (ls : List ℕ) (l : ℕ) → needed p t k (ls ++ (l ∷ [])) ≡ needed p t k ls ++ cond (masked p t (k + length ls)) [] (l ∷ [])
  needed-more k [] l = ap (λ n. cond (masked p t n) [] (l ∷ [])) (sym (add-zero k))
  needed-more k (m ∷ ls) l =
      let z : suc k + length ls ≡ k + suc (length ls) = omega arith in
      ap (λ r. cond (masked p t k) r (m ∷ r)) (needed-more (suc k) ls l ∙ ap (λ n. needed p t (suc k) ls ++ cond (masked p t n) [] (l ∷ [])) z)
      ∙ out (masked p t k) (needed p t (suc k) ls) (cond (masked p t (k + suc (length ls))) [] (l ∷ []))
    where
      out : (a : Bool) (r s : List ℕ) → cond a (r ++ s) (m ∷ (r ++ s)) ≡ cond a r (m ∷ r) ++ s
      out true r s = refl
      out false r s = refl

  -- a leaf that is needed stands at its rank
  pub needed-at : (k : ℕ) (ls : List ℕ) (q : ℕ) → q < length ls → masked p t (k + q) ≡ false
      → (get_or (needed p t k ls) (rank p t k q) 0 ≡ get_or ls q 0) × (rank p t k q < length (needed p t k ls))
  needed-at k [] q h e = absurd (omega arith)
  needed-at k (l ∷ ls) zero h e = let f : masked p t k ≡ false = ap (masked p t) (sym (add-zero k)) ∙ e in rw f (refl, omega arith)
  needed-at k (l ∷ ls) (suc q) h e =
      let z : suc k + q ≡ k + suc q = omega arith in
      go (masked p t k) (needed p t (suc k) ls) (rank p t (suc k) q) (needed-at (suc k) ls q (omega arith) (ap (masked p t) z ∙ e))
    where
      go : (a : Bool) (n : List ℕ) (r : ℕ) → (get_or n r 0 ≡ get_or ls q 0) × (r < length n)
          → (get_or (cond a n (l ∷ n)) (cond a r (suc r)) 0 ≡ get_or ls q 0) × (cond a r (suc r) < length (cond a n (l ∷ n)))
      go true n r h = h
      go false n r h = (h.0, omega (arith, h.1))

  pub needed-from : (k : ℕ) (ls : List ℕ) (j : ℕ) → j < length (needed p t k ls) → (q : ℕ) × (q < length ls) × (get_or (needed p t k ls) j 0 ≡ get_or ls q 0)
  needed-from k [] j h = absurd (omega arith)
  needed-from k (l ∷ ls) j h = go (masked p t k) (needed p t (suc k) ls) (needed-from (suc k) ls) j h
    where
      go : (a : Bool) (n : List ℕ) → ((i : ℕ) → i < length n → (q : ℕ) × (q < length ls) × (get_or n i 0 ≡ get_or ls q 0))
          → (j : ℕ) → j < length (cond a n (l ∷ n)) → (q : ℕ) × (q < length (l ∷ ls)) × (get_or (cond a n (l ∷ n)) j 0 ≡ get_or (l ∷ ls) q 0)
      go true n f j h = let r = f j h in (suc r.0, omega (arith, r.1), r.2)
      go false n f zero h = (0, omega arith, refl)
      go false n f (suc j) h = let r = f j (omega arith) in (suc r.0, omega (arith, r.1), r.2)

  -- the same, with the position that is not masked
  pub needed_open : (k : ℕ) (ls : List ℕ) (j : ℕ) → j < length (needed p t k ls) → (q : ℕ) × (q < length ls) × (get_or (needed p t k ls) j 0 ≡ get_or ls q 0) × (masked p t (k + q) ≡ false)
  needed_open k [] j h = absurd (omega arith)
  needed_open k (l ∷ ls) j h = go (masked p t k) refl (needed p t (suc k) ls) (needed_open (suc k) ls) j h
    where
      up : (q : ℕ) → masked p t (suc k + q) ≡ false → masked p t (k + suc q) ≡ false
      up q e = let z : suc k + q ≡ k + suc q = omega arith in subst (λ n. masked p t n ≡ false) z e

      go : (a : Bool) → masked p t k ≡ a → (n : List ℕ) → ((i : ℕ) → i < length n → (q : ℕ) × (q < length ls) × (get_or n i 0 ≡ get_or ls q 0) × (masked p t (suc k + q) ≡ false))
          → (j : ℕ) → j < length (cond a n (l ∷ n)) → (q : ℕ) × (q < length (l ∷ ls)) × (get_or (cond a n (l ∷ n)) j 0 ≡ get_or (l ∷ ls) q 0) × (masked p t (k + q) ≡ false)
      go true e n f j h = let r = f j h in (suc r.0, omega (arith, r.1), r.2, up r.0 r.3)
      go false e n f zero h = (0, omega arith, refl, ap (masked p t) (add-zero k) ∙ e)
      go false e n f (suc j) h = let r = f j (omega arith) in (suc r.0, omega (arith, r.1), r.2, up r.0 r.3)

  tail-rising : (l : ℕ) (ls : List ℕ) → Rising (l ∷ ls) → Rising ls
  tail-rising l ls r i j a b = r (suc i) (suc j) (omega arith) (omega arith)

  pub needed-rising : (k : ℕ) (ls : List ℕ) → Rising ls → Rising (needed p t k ls)
  needed-rising k [] r = r
  needed-rising k (l ∷ ls) r = go (masked p t k) (needed p t (suc k) ls) (needed-from (suc k) ls) (needed-rising (suc k) ls (tail-rising l ls r))
    where
      go : (a : Bool) (n : List ℕ) → ((i : ℕ) → i < length n → (q : ℕ) × (q < length ls) × (get_or n i 0 ≡ get_or ls q 0)) → Rising n → Rising (cond a n (l ∷ n))
      go true n f h i j a b = h i j a b
      go false n f h i zero a b = absurd (omega arith)
      go false n f h zero (suc j) a b = let g = f j (omega arith) in omega (arith, g.2, r 0 (suc g.0) (omega arith) (omega (arith, g.1)))
      go false n f h (suc i) (suc j) a b = h i j (omega arith) (omega arith)

  pub needed-few : (k : ℕ) (ls : List ℕ) → length (needed p t k ls) ≤ length ls
  needed-few k [] = omega arith
  needed-few k (l ∷ ls) = go (masked p t k) (needed p t (suc k) ls) (needed-few (suc k) ls)
    where
      go : (a : Bool) (n : List ℕ) → length n ≤ length ls → length (cond a n (l ∷ n)) ≤ length (l ∷ ls)
      go true n h = omega arith
      go false n h = omega arith

-- the leaves below position i are dealt with: those needed stand in `kept`, and the table reads each at its rank
pub record Dropped (p t : ℕ) (ls : List ℕ) (i count word : ℕ) (kept : List ℕ) : Type 0 where
  pub small : word < 2 ^ 2 ^ p
  pub few : count ≤ i
  pub ranked : count ≡ rank p t 0 i
  pub leaves : take count kept ≡ needed p t 0 (take i ls)
  pub room : length kept ≡ p
  pub zeros : (k : ℕ) → count ≤ k → get_or kept k 0 ≡ 0
  pub means : (v : ℕ → Bool) → val p word v ≡ val p t (λ q. cond (ltb q i) (cond (masked p t q) (v q) (v (rank p t 0 q))) (v q))

module _ (p t : ℕ) (ls : List ℕ) (few : length ls ≤ p) where
  pub dropped_start : (kept : List ℕ) → t < 2 ^ 2 ^ p → length kept ≡ p → ((k : ℕ) → get_or kept k 0 ≡ 0) → Dropped p t ls 0 0 t kept
  dropped_start kept h l z = record {
    small = h;
    few = omega arith;
    ranked = refl;
    leaves = refl;
    room = l;
    zeros = λ k _. z k;
    means = λ v. val_same p t v (λ q. cond (ltb q 0) (cond (masked p t q) (v q) (v (rank p t 0 q))) (v q)) (λ q h. rw (le-ltb q 0 (omega arith)));
  }

  one_more : (i : ℕ) → i < length ls → needed p t 0 (take (suc i) ls) ≡ needed p t 0 (take i ls) ++ cond (masked p t i) [] (get_or ls i 0 ∷ [])
  one_more i h =
      let e : 0 + length (take i ls) ≡ i = zero-add (length (take i ls)) ∙ length-take-le i ls (omega arith) in
      ap (needed p t 0) (take-suc ls i 0 h) ∙ needed-more p t 0 (take i ls) (get_or ls i 0)
      ∙ ap (λ n. needed p t 0 (take i ls) ++ cond (masked p t n) [] (get_or ls i 0 ∷ [])) e

  rank-next : (i : ℕ) → rank p t 0 (suc i) ≡ cond (masked p t i) (rank p t 0 i) (suc (rank p t 0 i))
  rank-next i = rank-more p t 0 i ∙ ap (λ n. cond (masked p t n) (rank p t 0 i) (suc (rank p t 0 i))) (zero-add i)

  pub dropped_skip : (i count word : ℕ) (kept : List ℕ) → i < length ls → Dropped p t ls i count word kept → masked p t i ≡ true → Dropped p t ls (suc i) count word kept
  dropped_skip i count word kept h d e = record {
    small = d.small;
    few = omega (arith, d.few);
    ranked = d.ranked ∙ sym (rank-next i ∙ rw e);
    leaves = d.leaves ∙ sym (one_more i h ∙ rw e (append-nil (needed p t 0 (take i ls))));
    room = d.room;
    zeros = d.zeros;
    means = λ v. d.means v ∙ val_same p t _ _ (λ q l. go v q);
  }
    where
      append-nil : (xs : List ℕ) → xs ++ [] ≡ xs
      append-nil [] = refl
      append-nil (x ∷ xs) = ap (λ r. x ∷ r) (append-nil xs)

      go : (v : ℕ → Bool) (q : ℕ) → cond (ltb q i) (cond (masked p t q) (v q) (v (rank p t 0 q))) (v q) ≡ cond (ltb q (suc i)) (cond (masked p t q) (v q) (v (rank p t 0 q))) (v q)
      go v q = ⊎_elim
          (λ (a : q < i). rw (lt-ltb q i a, lt-ltb q (suc i) (omega arith)))
          (λ (a : i ≤ q). ⊎_elim
          (λ (z : q ≡ i). rw (le-ltb q i a, lt-ltb q (suc i) (omega arith), ap (masked p t) z ∙ e))
          (λ (z : q ≡ i → ⊥). rw (le-ltb q i a, le-ltb q (suc i) (omega arith)))
          (cases_eq q i))
          (cases_lt q i)

  pub dropped_keep : (i count word r : ℕ) (kept : List ℕ) → i < length ls → Dropped p t ls i count word kept → masked p t i ≡ false → r < 2 ^ 2 ^ p
      → ((v : ℕ → Bool) → val p r v ≡ val p word (put v i (v count))) → Dropped p t ls (suc i) (suc count) r (set kept count (get_or ls i 0))
  dropped_keep i count word r kept h d e small m =
      let c : count < length kept = omega (arith, d.room, d.few) in
      record {
        small = small;
        few = omega (arith, d.few);
        ranked = ap suc d.ranked ∙ sym (rank-next i ∙ rw e);
        leaves = take-suc-set kept count (get_or ls i 0) c ∙ ap (λ x. x ++ (get_or ls i 0 ∷ [])) d.leaves ∙ sym (one_more i h ∙ rw e);
        room = length-set kept count (get_or ls i 0) ∙ d.room;
        zeros = λ k l. get_or-set_other kept count k (get_or ls i 0) 0 (λ z. omega arith) ∙ d.zeros k (omega arith);
        means = λ v. m v ∙ d.means (put v i (v count)) ∙ val_same p t _ _ (λ q l. go v q);
      }
    where
      go : (v : ℕ → Bool) (q : ℕ) → cond (ltb q i) (cond (masked p t q) (put v i (v count) q) (put v i (v count) (rank p t 0 q))) (put v i (v count) q)
          ≡ cond (ltb q (suc i)) (cond (masked p t q) (v q) (v (rank p t 0 q))) (v q)
      go v q = ⊎_elim
          (λ (a : q < i). rw (lt-ltb q i a, lt-ltb q (suc i) (omega arith)) (ap₂ (λ x y. cond (masked p t q) x y) (put_other v i (v count) q (λ z. omega arith)) (put_other v i (v count) (rank p t 0 q) (λ z. omega (arith, rank-le p t 0 q)))))
          (λ (a : i ≤ q). ⊎_elim
          (λ (z : q ≡ i). rw (le-ltb q i a, lt-ltb q (suc i) (omega arith), ap (masked p t) z ∙ e, eq-eqb q i z) (ap v (d.ranked ∙ ap (rank p t 0) (sym z))))
          (λ (z : q ≡ i → ⊥). rw (le-ltb q i a, le-ltb q (suc i) (omega arith)) (put_other v i (v count) q z))
          (cases_eq q i))
          (cases_lt q i)

  -- as the code has them
  pub dropped_skips : {i count word i' count' word' : ℕ} {kept kept' : List ℕ} → i < length ls → Dropped p t ls i count word kept → masked p t i ≡ true
      → i' ≡ suc i → count' ≡ count → word' ≡ word → kept' ≡ kept → Dropped p t ls i' count' word' kept'
  dropped_skips {i} {count} {word} {kept = kept} h d e e₁ e₂ e₃ e₄ = rw (e₁, e₂, e₃, e₄) (dropped_skip i count word kept h d e)

  pub dropped_keeps : {i count word r i' count' word' : ℕ} {kept kept' : List ℕ} → i < length ls → Dropped p t ls i count word kept → masked p t i ≡ false → r < 2 ^ 2 ^ p
      → ((v : ℕ → Bool) → val p r v ≡ val p word (put v i (v count)))
      → i' ≡ suc i → count' ≡ suc count → word' ≡ r → kept' ≡ set kept count (get_or ls i 0) → Dropped p t ls i' count' word' kept'
  dropped_keeps {i} {count} {word} {r} {kept = kept} h d e small m e₁ e₂ e₃ e₄ = rw (e₁, e₂, e₃, e₄) (dropped_keep i count word r kept h d e small m)

  pub dropped_leaves : (count word : ℕ) (kept : List ℕ) → Dropped p t ls (length ls) count word kept → take count kept ≡ needed p t 0 ls
  dropped_leaves count word kept d = d.leaves ∙ ap (needed p t 0) (take-length ls)

  pub dropped_table : (count word : ℕ) (kept : List ℕ) → Rising ls → Rests p t (length ls) → Dropped p t ls (length ls) count word kept
      → word ≡ tabulate p (needed p t 0 ls) (value_of (record { leaves = ls; table = t }))
  dropped_table count word kept rising rests d =
      let K = needed p t 0 ls in
      is-tabulated p word K (value_of (record { leaves = ls; table = t })) d.small (λ j l.
      sym (val_at p word j l) ∙ d.means (bit_at j)
      ∙ agree-free p t _ (λ q. valuation K j (get_or ls q 0)) (λ q k. go j q k)
      ∙ sym (val_list p t ls (valuation K j) (λ q. valuation K j (get_or ls q 0)) few rests (λ q k. refl)))
    where
      go : (j q : ℕ) → q < p → (cond (ltb q (length ls)) (cond (masked p t q) (bit_at j q) (bit_at j (rank p t 0 q))) (bit_at j q) ≡ valuation (needed p t 0 ls) j (get_or ls q 0)) ⊎ Free p t q
      go j q k = ⊎_elim
          (λ (a : q < length ls). ⊎_elim
          (λ (e : masked p t q ≡ true). inr (masked-free p t q k e))
          (λ (e : masked p t q ≡ false).
          let K = needed p t 0 ls in
          let n = needed-at p t 0 ls q a (ap (masked p t) (zero-add q) ∙ e) in
          let hs : has (get_or ls q 0) K ≡ true = subst (λ x. has x K ≡ true) n.0 (has-at K (rank p t 0 q) n.1) in
          let pl : place (get_or ls q 0) K ≡ rank p t 0 q = subst (λ x. place x K ≡ rank p t 0 q) n.0 (place_of K (needed-rising p t 0 ls rising) (rank p t 0 q) n.1) in
          inl (rw (lt-ltb q (length ls) a, e, hs) (ap (bit_at j) (sym pl))))
          (cases_Bool (masked p t q)))
          (λ (a : length ls ≤ q). inr (rests q a k))
          (cases_lt q (length ls))

  pub dropped_cut : (count word : ℕ) (kept : List ℕ) → Rising ls → Rests p t (length ls) → Dropped p t ls (length ls) count word kept
      → record { leaves = take count kept; table = word } ≡ squeeze p (record { leaves = ls; table = t })
  unfolding squeeze
  dropped_cut count word kept rising rests d = λ i. record { leaves = dropped_leaves count word kept d i; table = dropped_table count word kept rising rests d i }

  pub dropped_rising : (count word : ℕ) (kept : List ℕ) → Rising ls → Dropped p t ls (length ls) count word kept → Rising (take count kept)
  dropped_rising count word kept rising d = subst Rising (sym (dropped_leaves count word kept d)) (needed-rising p t 0 ls rising)

  pub dropped_loose : (count word : ℕ) (kept : List ℕ) → Rising ls → Rests p t (length ls) → Dropped p t ls (length ls) count word kept → Loose p word count
  dropped_loose count word kept rising rests d =
      let K = needed p t 0 ls in
      let n : length K ≡ count = ap length (sym (dropped_leaves count word kept d)) ∙ length-take-le count kept (omega (arith, d.few, d.room)) in
      subst (λ w. Loose p w count) (sym (dropped_table count word kept rising rests d))
      (subst (λ m. Loose p (tabulate p K (value_of (record { leaves = ls; table = t }))) m) n
      (rests-loose p _ (length K) (tabulate-rests p K (value_of (record { leaves = ls; table = t })))))
