-- A masked position is one that the table does not look at; tables agree where valuations agree on the others.
use Rattle.std.proofs.Common.{◌≡◌, ℕ, zero, suc, ◌+◌, ◌-◌, ◌^◌, ◌<◌, ◌≤◌, Bool, true, false, cond, not, eqb, ltb, ◌⊎◌, sym, refl, ap, ◌∙◌, subst, ap₂, inl, inr, ⊎_elim, zero-add, arith}
use Rattle.std.proofs.lemmas.Bool.{eqb-true, eq-eqb, ne_eqb, cases_eq, cases_lt, lt-ltb, le-ltb, both_ways, and_parts, and_from}
use Rattle.model.specs.Tables.{bit_at, row, same, all_rows, flipped, masked, span, val, put, Free, Rests, Loose}
use Rattle.model.proofs.Positions.{val-row-below, val_same, val-bit, row-bits, val_at, raised, lowered, put_back, put-put, same_tables}

pub all-rows-at : (f : ℕ → Bool) (j n : ℕ) → all_rows f j n ≡ true → (k : ℕ) → k < n → f (j + k) ≡ true
all-rows-at f j zero e k h = absurd (omega arith)
all-rows-at f j (suc n) e zero h = ap f (omega arith) ∙ (and_parts (f j) (all_rows f (suc j) n) e).0
all-rows-at f j (suc n) e (suc k) h = ap f (omega arith) ∙ all-rows-at f (suc j) n (and_parts (f j) (all_rows f (suc j) n) e).1 k (omega arith)

pub all-rows_make : (f : ℕ → Bool) (j n : ℕ) → ((k : ℕ) → k < n → f (j + k) ≡ true) → all_rows f j n ≡ true
all-rows_make f j zero h = refl
all-rows_make f j (suc n) h =
    and_from (f j) (all_rows f (suc j) n) (ap f (omega arith) ∙ h 0 (omega arith))
    (all-rows_make f (suc j) n (λ k l. ap f (omega arith) ∙ h (suc k) (omega arith)))

pub same-equal : (a b : Bool) → same a b ≡ true → a ≡ b
same-equal true b h = sym h
same-equal false true h = absurd (both_ways false refl h)
same-equal false false h = refl

equal-same : (a b : Bool) → a ≡ b → same a b ≡ true
equal-same true b h = sym h
equal-same false b h = ap not (sym h)

-- the row with one bit changed
flipped-row : (p j i : ℕ) → j < 2 ^ p → i < p → flipped j i ≡ row (put (bit_at j) i (not (bit_at j i))) (span 0 p)
flipped-row p j i h l = go (bit_at j i) refl
  where
    go : (b : Bool) → bit_at j i ≡ b → cond b (j - 2 ^ i) (j + 2 ^ i) ≡ row (put (bit_at j) i (not b)) (span 0 p)
    go true e =
        let a : row (bit_at j) (span 0 p) ≡ j = row-bits p j h in
        let d : row (bit_at j) (span 0 p) ≡ 2 ^ i + row (put (bit_at j) i false) (span 0 p) = lowered p i (bit_at j) l e in
        omega arith
    go false e =
        let a : row (bit_at j) (span 0 p) ≡ j = row-bits p j h in
        let d : row (put (bit_at j) i true) (span 0 p) ≡ 2 ^ i + row (bit_at j) (span 0 p) = raised p i (bit_at j) l e in
        omega arith

pub free-masked : (p t i : ℕ) → i < p → Free p t i → masked p t i ≡ true
unfolding masked
free-masked p t i l free =
    all-rows_make (λ j. same (bit_at t j) (bit_at t (flipped j i))) 0 (2 ^ p)
    (λ k h. at (0 + k) (subst (λ n. n < 2 ^ p) (sym (zero-add k)) h))
  where
    at : (j : ℕ) → j < 2 ^ p → same (bit_at t j) (bit_at t (flipped j i)) ≡ true
    at j h = equal-same (bit_at t j) (bit_at t (flipped j i))
        (sym (val_at p t j h) ∙ sym (free (bit_at j) (not (bit_at j i))) ∙ ap (bit_at t) (sym (flipped-row p j i h l)))

pub masked-free : (p t i : ℕ) → i < p → masked p t i ≡ true → Free p t i
unfolding masked
masked-free p t i l e v b = ⊎_elim (λ z. put_back p t v i b z) (λ z. other (v i) b refl z) (cases (v i) b)
  where
    cases : (a b : Bool) → (a ≡ b) ⊎ (b ≡ not a)
    cases true true = inl refl
    cases true false = inr refl
    cases false true = inr refl
    cases false false = inl refl

    other : (a b : Bool) → v i ≡ a → b ≡ not a → val p t (put v i b) ≡ val p t v
    other a b q z =
        let j = row v (span 0 p) in
        let h : j < 2 ^ p = val-row-below p v in
        let s : bit_at t (0 + j) ≡ bit_at t (flipped (0 + j) i) = same-equal (bit_at t (0 + j)) (bit_at t (flipped (0 + j) i)) (all-rows-at (λ j. same (bit_at t j) (bit_at t (flipped j i))) 0 (2 ^ p) e j h) in
        let r : bit_at t j ≡ bit_at t (flipped j i) = subst (λ n. bit_at t n ≡ bit_at t (flipped n i)) (zero-add j) s in
        sym (r ∙ ap (bit_at t) (flipped-row p j i h l)
        ∙ val_same p t (put (bit_at j) i (not (bit_at j i))) (put v i b)
        (λ k m. ap₂ (λ x y. cond (eqb k i) x y) (ap not (val-bit p v i l ∙ q) ∙ sym z) (val-bit p v k m)))

pub both : (r s : Bool) → (r ≡ true → s ≡ true) → (s ≡ true → r ≡ true) → r ≡ s
both true s f g = sym (f refl)
both false true f g = g refl
both false false f g = refl

-- the word test: the table held at 1 is the table itself
pub masked_test : (p t i h : ℕ) → i < p → t < 2 ^ 2 ^ p → h < 2 ^ 2 ^ p → ((v : ℕ → Bool) → val p h v ≡ val p t (put v i true)) → eqb h t ≡ masked p t i
masked_test p t i h l a b e = both (eqb h t) (masked p t i) to from
  where
    free : h ≡ t → (v : ℕ → Bool) (c : Bool) → val p t (put v i c) ≡ val p t v
    free z v c =
        let up : (w : ℕ → Bool) → val p t (put w i true) ≡ val p t w = λ w. sym (e w) ∙ ap (λ n. val p n w) z in
        sym (up (put v i c)) ∙ put-put p t v i c true ∙ up v

    to : eqb h t ≡ true → masked p t i ≡ true
    to z = free-masked p t i l (free (eqb-true h t z))

    from : masked p t i ≡ true → eqb h t ≡ true
    from z = eq-eqb h t (same_tables p h t b a (λ v. e v ∙ masked-free p t i l z v true))

abbrev mix : (ℕ → Bool) → (ℕ → Bool) → ℕ → ℕ → Bool
mix v w n q = cond (ltb q n) (w q) (v q)

mix-more : (v w : ℕ → Bool) (n q : ℕ) → mix v w (suc n) q ≡ put (mix v w n) n (w n) q
mix-more v w n q =
    ⊎_elim
    (λ (z : q ≡ n). subst (λ m. mix v w (suc n) m ≡ put (mix v w n) n (w n) m) (sym z) (rw (lt-ltb n (suc n) (omega arith), eq-eqb n n refl)))
    (λ (z : q ≡ n → ⊥). rw (ne_eqb q n z) (⊎_elim
    (λ (a : q < n). rw (lt-ltb q (suc n) (omega arith), lt-ltb q n a))
    (λ (a : n ≤ q). rw (le-ltb q (suc n) (omega arith), le-ltb q n a))
    (cases_lt q n)))
    (cases_eq q n)

module _ (p t : ℕ) (v w : ℕ → Bool) (h : (q : ℕ) → q < p → (v q ≡ w q) ⊎ Free p t q) where
  mix_upto : (n : ℕ) → n ≤ p → val p t (mix v w n) ≡ val p t v
  mix_upto zero l = val_same p t (mix v w 0) v (λ q k. rw (le-ltb q 0 (omega arith)))
  mix_upto (suc n) l =
      val_same p t (mix v w (suc n)) (put (mix v w n) n (w n)) (λ q k. mix-more v w n q)
      ∙ ⊎_elim
      (λ (z : v n ≡ w n). put_back p t (mix v w n) n (w n) (rw (le-ltb n n (omega arith)) z))
      (λ (f : Free p t n). f (mix v w n) (w n)) (h n (omega arith))
      ∙ mix_upto n (omega arith)

-- two valuations that agree wherever the table looks
pub agree-free : (p t : ℕ) (v w : ℕ → Bool) → ((q : ℕ) → q < p → (v q ≡ w q) ⊎ Free p t q) → val p t v ≡ val p t w
agree-free p t v w h = sym (mix_upto p t v w h p (omega arith)) ∙ val_same p t (mix v w p) w (λ q l. rw (lt-ltb q p l))

pub agree-rests : (p t n : ℕ) (v w : ℕ → Bool) → Rests p t n → ((q : ℕ) → q < n → v q ≡ w q) → val p t v ≡ val p t w
agree-rests p t n v w r h = agree-free p t v w (λ q l. ⊎_elim (λ a. inl (h q a)) (λ b. inr (r q b l)) (cases_lt q n))

pub loose-rests : (p t n : ℕ) → Loose p t n → Rests p t n
loose-rests p t n h i a b = masked-free p t i b (h i a b)

pub rests-loose : (p t n : ℕ) → Rests p t n → Loose p t n
rests-loose p t n h i a b = free-masked p t i b (h i a b)
