-- Where leaves stand in rising lists.
use Rattle.std.proofs.Common.{◌≡◌, ℕ, zero, suc, ◌+◌, ◌-◌, ◌<◌, ◌≤◌, Bool, true, false, cond, ◌||◌, eqb, List, [], ◌∷◌, length, get_or, sym, refl, ap, ⊎_elim, arith}
use Rattle.std.proofs.lemmas.Bool.{eqb-true, eq-eqb, cases_lt, cases_order, both_ways, or_right}
use Rattle.model.specs.Leaves.{has, place, Rising, Within}

pub place_in : (l : ℕ) (ls : List ℕ) → has l ls ≡ true → (get_or ls (place l ls) 0 ≡ l) × (place l ls < length ls)
place_in l [] h = absurd (both_ways false refl h)
place_in l (m ∷ ms) h = go (eqb l m) refl (place_in l ms) h
  where
    go : (b : Bool) → eqb l m ≡ b → (has l ms ≡ true → (get_or ms (place l ms) 0 ≡ l) × (place l ms < length ms)) → (b || has l ms) ≡ true
        → (get_or (m ∷ ms) (cond b 0 (suc (place l ms))) 0 ≡ l) × (cond b 0 (suc (place l ms)) < length (m ∷ ms))
    go true e ih k = (sym (eqb-true l m e), omega arith)
    go false e ih k = ((ih k).0, omega (arith, (ih k).1))

pub has-at : (ls : List ℕ) (k : ℕ) → k < length ls → has (get_or ls k 0) ls ≡ true
has-at [] k h = absurd (omega arith)
has-at (m ∷ ms) zero h = rw (eq-eqb m m refl)
has-at (m ∷ ms) (suc k) h = or_right (eqb (get_or ms k 0) m) (has (get_or ms k 0) ms) (has-at ms k (omega arith))

-- in a rising list one number stands at one place
pub rising-one : (ls : List ℕ) → Rising ls → (i j : ℕ) → i < length ls → j < length ls → get_or ls i 0 ≡ get_or ls j 0 → i ≡ j
rising-one ls r i j a b e =
    ⊎_elim (λ z. z) (λ z. absurd (⊎_elim (λ (x : i < j). omega (arith, r i j x b)) (λ (x : j < i). omega (arith, r j i x a)) z)) (cases_order i j)

pub rising_less : (ls : List ℕ) → Rising ls → (i j : ℕ) → i < length ls → j < length ls → get_or ls i 0 < get_or ls j 0 → i < j
rising_less ls r i j a b e =
    ⊎_elim (λ (z : i < j). z) (λ (z : j ≤ i). absurd (⊎_elim (λ (x : i ≡ j). omega (arith, ap (λ n. get_or ls n 0) x)) (λ x. ⊎_elim (λ (y : i < j). omega arith) (λ (y : j < i). omega (arith, r j i y a)) x) (cases_order i j))) (cases_lt i j)

pub place_of : (ls : List ℕ) → Rising ls → (k : ℕ) → k < length ls → place (get_or ls k 0) ls ≡ k
place_of ls r k h =
    let p = place_in (get_or ls k 0) ls (has-at ls k h) in
    rising-one ls r (place (get_or ls k 0) ls) k p.1 h p.0

-- the places of the leaves of one list in another
module _ (old new : List ℕ) (ro : Rising old) (rn : Rising new) (within : Within old new) where
  abbrev pub pos : ℕ → ℕ
  pos q = place (get_or old q 0) new

  pub pos_in : (q : ℕ) → q < length old → (get_or new (pos q) 0 ≡ get_or old q 0) × (pos q < length new)
  pos_in q h = place_in (get_or old q 0) new (within q h)

  pub pos_less : (q r : ℕ) → q < r → r < length old → pos q < pos r
  pos_less q r l h =
      let a = pos_in q (omega arith) in
      let b = pos_in r h in
      rising_less new rn (pos q) (pos r) a.1 b.1 (omega (arith, a.0, b.0, ro q r l h))

  pub pos_gap : (d q : ℕ) → q + d < length old → pos q + d ≤ pos (q + d)
  pos_gap zero q h = let e : pos (q + 0) ≡ pos q = ap pos (omega arith) in omega arith
  pos_gap (suc d) q h =
      let e : pos (q + suc d) ≡ pos (suc (q + d)) = ap pos (omega arith) in
      omega (arith, pos_gap d q (omega arith), pos_less (q + d) (suc (q + d)) (omega arith) (omega arith))

  pub pos-up : (q : ℕ) → q < length old → q ≤ pos q
  pos-up q h =
      let e : pos (0 + q) ≡ pos q = ap pos (omega arith) in
      omega (arith, pos_gap q 0 (omega arith))

  -- as many left in the one as in the other: all stand where they stood
  pub pos-stay : (m q : ℕ) → m ≤ length old → q < m → pos (m - 1) < m → pos q ≡ q
  pos-stay m q h l s =
      let e : pos (q + (m - 1 - q)) ≡ pos (m - 1) = ap pos (omega arith) in
      omega (arith, pos_gap (m - 1 - q) q (omega arith), pos-up q (omega arith))

  pub within-fewer : length old ≤ length new
  within-fewer =
      ⊎_elim (λ (z : 0 < length old). omega (arith, pos-up (length old - 1) (omega arith), (pos_in (length old - 1) (omega arith)).1)) (λ (z : length old ≤ 0). omega arith) (cases_lt 0 (length old))
