-- One step of uniting, by the least of the two next leaves; where a list has none left, a number above all leaves stands for it.
use Rattle.std.proofs.Common.{◌≡◌, ℕ, ◌+◌, ◌<◌, ◌≤◌, min, Bool, true, false, cond, ltb, leb, ◌⊎◌, List, length, get_or, set, ap, ◌∙◌, inl, inr, ⊎_elim, arith}
use mir.Val.{bool_byte}
use Rattle.std.proofs.lemmas.Bool.{lt-ltb, le-ltb, le-leb, lt-leb, cases_order, cases_lt}
use Rattle.model.specs.Leaves.{Rising}
use Rattle.model.proofs.Uniting.{Merged, merged-left, merged-right, merged-both, merged_as}

-- what stands next in a list
abbrev pub front : ℕ → List ℕ → ℕ → ℕ
front none ls i = cond (ltb i (length ls)) (get_or ls i 0) none

front_in : (e : ℕ) (ls : List ℕ) (i : ℕ) → i < length ls → front e ls i ≡ get_or ls i 0
front_in e ls i h = rw (lt-ltb i (length ls) h)

front_out : (e : ℕ) (ls : List ℕ) (i : ℕ) → length ls ≤ i → front e ls i ≡ e
front_out e ls i h = rw (le-ltb i (length ls) h)

-- a front below the end is a leaf
front_less : (e : ℕ) (ls : List ℕ) (i : ℕ) → front e ls i < e → i < length ls
front_less e ls i h = ⊎_elim (λ (l : i < length ls). l) (λ (l : length ls ≤ i). absurd (omega (arith, front_out e ls i l))) (cases_lt i (length ls))

module _ (n e : ℕ) (a b : List ℕ) (ra : Rising a) (rb : Rising b) (i j count : ℕ) (out : List ℕ) (m : Merged n a b i j count out) (h : count < n)
    (x y : ℕ) (ex : x ≡ front e a i) (ey : y ≡ front e b j) (hx : i < length a → x < e) (hy : j < length b → y < e) where
  x-most : x ≤ e
  x-most = ⊎_elim (λ (l : i < length a). omega (arith, hx l)) (λ (l : length a ≤ i). omega (arith, front_out e a i l)) (cases_lt i (length a))

  y-most : y ≤ e
  y-most = ⊎_elim (λ (l : j < length b). omega (arith, hy l)) (λ (l : length b ≤ j). omega (arith, front_out e b j l)) (cases_lt j (length b))

  fronts_less : (i < length a) ⊎ (j < length b) → (x < e) ⊎ (y < e)
  fronts_less = ⊎_elim (λ l. inl (hx l)) (λ l. inr (hy l))

  x_in : x < e → i < length a
  x_in l = front_less e a i (omega arith)

  y_in : y < e → j < length b
  y_in l = front_less e b j (omega arith)

  -- the least of the two is a leaf
  pub least_less : (i < length a) ⊎ (j < length b) → min x y < e
  least_less some = ⊎_elim (λ (l : x < e). omega arith) (λ (l : y < e). omega arith) (fronts_less some)

  pub merged-step : {i' j' count' z : ℕ} {out' : List ℕ} → (i < length a) ⊎ (j < length b) → i' ≡ i + bool_byte (leb x y) → j' ≡ j + bool_byte (leb y x) → count' ≡ count + 1 → z ≡ min x y → out' ≡ set out count z
      → Merged n a b i' j' count' out'
  merged-step {i'} {j'} {count'} {z} {out'} some ei ej ec ez eo = ⊎_elim equal (⊎_elim left right) (cases_order x y)
    where
      equal : x ≡ y → Merged n a b i' j' count' out'
      equal s =
          let l : x < e = ⊎_elim (λ (l : x < e). l) (λ (l : y < e). omega arith) (fronts_less some) in
          let la = x_in l in
          let lb = y_in (omega arith) in
          let fa = front_in e a i la in
          let fb = front_in e b j lb in
          merged_as (merged-both n a b ra rb i j count out m h la lb (omega arith))
          (ei ∙ rw (le-leb x y (omega arith)) (omega arith)) (ej ∙ rw (le-leb y x (omega arith)) (omega arith)) (omega arith)
          (eo ∙ ap (set out count) (omega arith))

      left : x < y → Merged n a b i' j' count' out'
      left s =
          let la = x_in (omega (arith, y-most)) in
          let fa = front_in e a i la in
          merged_as (merged-left n a b ra rb i j count out m h la (λ lb. omega (arith, front_in e b j lb)))
          (ei ∙ rw (le-leb x y (omega arith)) (omega arith)) (ej ∙ rw (lt-leb y x s) (omega arith)) (omega arith)
          (eo ∙ ap (set out count) (omega arith))

      right : y < x → Merged n a b i' j' count' out'
      right s =
          let lb = y_in (omega (arith, x-most)) in
          let fb = front_in e b j lb in
          merged_as (merged-right n a b ra rb i j count out m h lb (λ la. omega (arith, front_in e a i la)))
          (ei ∙ rw (lt-leb x y s) (omega arith)) (ej ∙ rw (le-leb y x (omega arith)) (omega arith)) (omega arith)
          (eo ∙ ap (set out count) (omega arith))

pub byte-most : (b : Bool) → bool_byte b ≤ 1
byte-most true = omega arith
byte-most false = omega arith
