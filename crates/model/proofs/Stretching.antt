-- A stretched table by its positions is the tabulated one.
use Rattle.std.proofs.Common.{◌≡◌, ℕ, zero, suc, ◌+◌, ◌-◌, ◌*◌, ◌^◌, ◌<◌, ◌≤◌, Bool, true, false, cond, ltb, leb, List, [], ◌∷◌, length, get_or, sym, refl, ap, ◌∙◌, ap₂, ⊎_elim, zero-add, arith}
use Rattle.std.proofs.lemmas.Bool.{lt-ltb, le-ltb, lt-leb, le-leb, eq-eqb, ne_eqb, cases_eq, cases_lt}
use Rattle.model.specs.Cuts.{value_of, tabulate}
use Rattle.model.specs.Tables.{bit_at, row, number, span, val, put, Rests}
use Rattle.model.specs.Leaves.{has, place, valuation, Rising, Within}
use Rattle.model.proofs.Rows.{bit-rows}
use Rattle.model.proofs.Bits.{rows-below, same_bits}
use Rattle.model.proofs.Positions.{val-row-below, val-bit, val_at, put_other}
use Rattle.model.proofs.Masked.{agree-rests}
use Rattle.model.proofs.Places.{place_in, rising-one, pos_in, pos_less, pos_gap, pos-up, pos-stay}

row-none : (w : ℕ → Bool) (k p : ℕ) → ((q : ℕ) → w (k + q) ≡ false) → row w (span k p) ≡ 0
row-none w k zero h = refl
row-none w k (suc p) h =
    let a : number (w k) ≡ 0 = ap number (ap w (omega arith) ∙ h 0) in
    let b : row w (span (suc k) p) ≡ 0 = row-none w (suc k) p (λ q. ap w (omega arith) ∙ h (suc q)) in
    omega arith

-- a row over a list of leaves as a row over positions
row_list : (u w : ℕ → Bool) (ls : List ℕ) (k p : ℕ) → length ls ≤ p → ((q : ℕ) → q < length ls → w (k + q) ≡ u (get_or ls q 0))
    → ((q : ℕ) → length ls ≤ q → w (k + q) ≡ false) → row u ls ≡ row w (span k p)
row_list u w [] k p h a b = sym (row-none w k p (λ q. b q (omega arith)))
row_list u w (l ∷ ls) k zero h a b = absurd (omega arith)
row_list u w (l ∷ ls) k (suc p) h a b =
    ap₂ (λ x y. number x + 2 * y) (sym (a 0 (omega arith)) ∙ ap w (omega arith))
    (row_list u w ls (suc k) p (omega arith) (λ q l. ap w (omega arith) ∙ a (suc q) (omega arith)) (λ q l. ap w (omega arith) ∙ b (suc q) (omega arith)))

pub val_list : (p t : ℕ) (ls : List ℕ) (u w : ℕ → Bool) → length ls ≤ p → Rests p t (length ls) → ((q : ℕ) → q < length ls → w q ≡ u (get_or ls q 0)) → bit_at t (row u ls) ≡ val p t w
val_list p t ls u w h r e =
    let f : ℕ → Bool = λ q. cond (ltb q (length ls)) (u (get_or ls q 0)) false in
    ap (bit_at t) (row_list u f ls 0 p h (λ q l. ap f (zero-add q) ∙ rw (lt-ltb q (length ls) l)) (λ q l. ap f (zero-add q) ∙ rw (le-ltb q (length ls) l)))
    ∙ agree-rests p t (length ls) f w r (λ q l. rw (lt-ltb q (length ls) l) (sym (e q l)))

pub bit-tabulate : (p : ℕ) (ls : List ℕ) (f : (ℕ → Bool) → Bool) (j : ℕ) → j < 2 ^ p → bit_at (tabulate p ls f) j ≡ f (valuation ls j)
unfolding tabulate
bit-tabulate p ls f j h = bit-rows (λ j. f (valuation ls j)) 0 (2 ^ p) j h ∙ ap (λ n. f (valuation ls n)) (zero-add j)

pub tabulate-below : (p : ℕ) (ls : List ℕ) (f : (ℕ → Bool) → Bool) → tabulate p ls f < 2 ^ 2 ^ p
unfolding tabulate
tabulate-below p ls f = rows-below (λ j. f (valuation ls j)) 0 (2 ^ p)

-- a table is a tabulated one if its bits are
pub is-tabulated : (p t : ℕ) (ls : List ℕ) (f : (ℕ → Bool) → Bool) → t < 2 ^ 2 ^ p → ((j : ℕ) → j < 2 ^ p → bit_at t j ≡ f (valuation ls j)) → t ≡ tabulate p ls f
is-tabulated p t ls f h e = same_bits (2 ^ p) t (tabulate p ls f) h (tabulate-below p ls f) (λ j l. e j l ∙ sym (bit-tabulate p ls f j l))

valuation-same : (ls : List ℕ) (i j : ℕ) → ((q : ℕ) → q < length ls → bit_at i q ≡ bit_at j q) → (l : ℕ) → valuation ls i l ≡ valuation ls j l
valuation-same ls i j h l = go (has l ls) refl
  where
    go : (b : Bool) → has l ls ≡ b → cond b (bit_at i (place l ls)) false ≡ cond b (bit_at j (place l ls)) false
    go true e = h (place l ls) (place_in l ls e).1
    go false e = refl

-- a tabulated table looks at no position past its leaves
pub tabulate-rests : (p : ℕ) (ls : List ℕ) (f : (ℕ → Bool) → Bool) → Rests p (tabulate p ls f) (length ls)
tabulate-rests p ls f i a b v c =
    let x = row (put v i c) (span 0 p) in
    let y = row v (span 0 p) in
    bit-tabulate p ls f x (val-row-below p (put v i c))
    ∙ ap f (λ k l. valuation-same ls x y (λ q h. val-bit p (put v i c) q (omega arith) ∙ put_other v i c q (λ z. omega arith) ∙ sym (val-bit p v q (omega arith))) l k)
    ∙ sym (bit-tabulate p ls f y (val-row-below p v))

pub stretch_law : (p t r : ℕ) (old new : List ℕ) → r < 2 ^ 2 ^ p → length old ≤ p → Rests p t (length old) → Within old new
    → ((v : ℕ → Bool) → val p r v ≡ val p t (λ q. v (place (get_or old q 0) new)))
    → r ≡ tabulate p new (value_of (record { leaves = old; table = t }))
stretch_law p t r old new h few rests within e =
    is-tabulated p r new (value_of (record { leaves = old; table = t })) h (λ j l.
    sym (val_at p r j l) ∙ e (bit_at j)
    ∙ sym (val_list p t old (valuation new j) (λ q. bit_at j (place (get_or old q 0) new)) few rests (λ q k. rw (within q k))))

-- ---- leaf by leaf, the highest first

-- the leaves from `left` on stand at their new positions, which are from `at` on; the others are to come below it
pub record Partly (p t : ℕ) (old new : List ℕ) (left at word : ℕ) : Type 0 where
  pub small : word < 2 ^ 2 ^ p
  pub some : left ≤ length old
  pub fits : at ≤ length new
  pub above : (q : ℕ) → left ≤ q → q < length old → at ≤ place (get_or old q 0) new
  pub below : (q : ℕ) → q < left → place (get_or old q 0) new < at
  pub means : (v : ℕ → Bool) → val p word v ≡ val p t (λ q. cond (leb left q) (v (place (get_or old q 0) new)) (v q))

module _ (p t : ℕ) (old new : List ℕ) (ro : Rising old) (rn : Rising new) (within : Within old new) (rests : Rests p t (length old)) where
  abbrev at_new : ℕ → ℕ
  at_new q = place (get_or old q 0) new

  pub partly_start : t < 2 ^ 2 ^ p → Partly p t old new (length old) (length new) t
  partly_start small = record {
    small = small;
    some = omega arith;
    fits = omega arith;
    above = λ q a b. absurd (omega arith);
    below = λ q a. (pos_in old new ro rn within q a).1;
    means = λ v. agree-rests p t (length old) v (λ q. cond (leb (length old) q) (v (at_new q)) (v q)) rests (λ q l. rw (lt-leb (length old) q l));
  }

  pub partly_skip : (left at word : ℕ) → 0 < at → Partly p t old new left at word → (0 < left → get_or old (left - 1) 0 ≡ get_or new (at - 1) 0 → ⊥) → Partly p t old new left (at - 1) word
  partly_skip left at word pos h ne = record {
    small = h.small;
    some = h.some;
    fits = omega (arith, h.fits);
    above = λ q a b. omega (arith, h.above q a b);
    below = λ q a.
        let s = h.some in
        let k = pos_in old new ro rn within (left - 1) (omega arith) in
        let d : at_new (left - 1) ≡ at - 1 → ⊥ = λ z. ne (omega arith) (sym k.0 ∙ ap (λ n. get_or new n 0) z) in
        let e : at_new (q + (left - 1 - q)) ≡ at_new (left - 1) = ap at_new (omega arith) in
        let b : at_new (left - 1) < at = h.below (left - 1) (omega arith) in
        let f : at_new (left - 1) < at - 1 = ⊎_elim (λ (z : at_new (left - 1) ≡ at - 1). absurd (d z)) (λ (z : at_new (left - 1) ≡ at - 1 → ⊥). omega arith) (cases_eq (at_new (left - 1)) (at - 1)) in
        omega (arith, pos_gap old new ro rn within (left - 1 - q) q (omega arith));
    means = h.means;
  }

  pub partly_move : (left at word r : ℕ) → 0 < at → 0 < left → Partly p t old new left at word → get_or old (left - 1) 0 ≡ get_or new (at - 1) 0
      → r < 2 ^ 2 ^ p → ((v : ℕ → Bool) → val p r v ≡ val p word (put v (left - 1) (v (at - 1)))) → Partly p t old new (left - 1) (at - 1) r
  partly_move left at word r pos some h e small m =
      let s = h.some in
      let u = h.fits in
      let k = pos_in old new ro rn within (left - 1) (omega arith) in
      let here : at_new (left - 1) ≡ at - 1 = rising-one new rn (at_new (left - 1)) (at - 1) k.1 (omega arith) (k.0 ∙ e) in
      record {
        small = small;
        some = omega arith;
        fits = omega arith;
        above = λ q a b. ⊎_elim (λ (z : q ≡ left - 1). let g : at_new q ≡ at_new (left - 1) = ap at_new z in omega arith) (λ (z : q ≡ left - 1 → ⊥). omega (arith, h.above q (omega arith) b)) (cases_eq q (left - 1));
        below = λ q a. omega (arith, pos_less old new ro rn within q (left - 1) a (omega arith));
        means = λ v.
            m v ∙ h.means (put v (left - 1) (v (at - 1)))
            ∙ agree-rests p t (length old) (λ q. cond (leb left q) (put v (left - 1) (v (at - 1)) (at_new q)) (put v (left - 1) (v (at - 1)) q)) (λ q. cond (leb (left - 1) q) (v (at_new q)) (v q)) rests
            (λ q l. ⊎_elim
            (λ (z : q ≡ left - 1). rw (lt-leb left q (omega arith), le-leb (left - 1) q (omega arith), eq-eqb q (left - 1) z) (ap v (sym here ∙ ap at_new (sym z))))
            (λ (z : q ≡ left - 1 → ⊥). ⊎_elim
            (λ (a : q < left). rw (lt-leb left q a, lt-leb (left - 1) q (omega arith), ne_eqb q (left - 1) z))
            (λ (a : left ≤ q). rw (le-leb left q a, le-leb (left - 1) q (omega arith)) (put_other v (left - 1) (v (at - 1)) (at_new q) (λ y. omega (arith, pos-up old new ro rn within q l))))
            (cases_lt q left))
            (cases_eq q (left - 1)));
      }

  pub partly_done : (left at word : ℕ) → Partly p t old new left at word → at ≤ left → (v : ℕ → Bool) → val p word v ≡ val p t (λ q. v (at_new q))
  partly_done left at word h l v =
      h.means v
      ∙ agree-rests p t (length old) (λ q. cond (leb left q) (v (at_new q)) (v q)) (λ q. v (at_new q)) rests (λ q k. ⊎_elim
      (λ (a : q < left). rw (lt-leb left q a) (ap v (sym (pos-stay old new ro rn within left q h.some a (omega (arith, h.below (left - 1) (omega arith)))))))
      (λ (a : left ≤ q). rw (le-leb left q a))
      (cases_lt q left))
