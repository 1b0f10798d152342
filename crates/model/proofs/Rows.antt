-- Rows of tables: the bits of a row are the leaves' values, and what was tabulated is read back.
use Rattle.std.proofs.Common.{◌≡◌, ℕ, zero, suc, ◌+◌, ◌*◌, ◌/◌, ◌%◌, ◌^◌, ◌<◌, Bool, true, false, cond, ◌||◌, eqb, List, [], ◌∷◌, length, sym, refl, ap, ◌∙◌, subst, add-zero, pow-suc, zero-add, arith, pow_mono}
use Rattle.std.proofs.lemmas.Bool.{eqb-true, both_ways}
use Rattle.model.specs.Cuts.{tabulate}
use Rattle.model.specs.Tables.{bit_at, number, rows_from, row}
use Rattle.model.specs.Leaves.{valuation, has, place}
use Rattle.model.specs.CutLaws.{Alike, TablesReadBack}

pub half : (b : Bool) (m : ℕ) → (number b + 2 * m) / 2 ≡ m
half true m = omega arith
half false m = omega arith

pub last : (b : Bool) (m : ℕ) → eqb ((number b + 2 * m) % 2) 1 ≡ b
last true m = let e : (1 + 2 * m) % 2 ≡ 1 = omega arith in ap (λ x. eqb x 1) e
last false m = let e : (0 + 2 * m) % 2 ≡ 0 = omega arith in ap (λ x. eqb x 1) e

pub bit-rows : (f : ℕ → Bool) (j n k : ℕ) → k < n → bit_at (rows_from f j n) k ≡ f (j + k)
bit-rows f j zero k h = absurd (omega arith)
bit-rows f j (suc n) zero h = last (f j) (rows_from f (suc j) n) ∙ ap f (sym (add-zero j))
bit-rows f j (suc n) (suc k) h =
    ap (λ m. bit_at m k) (half (f j) (rows_from f (suc j) n)) ∙ bit-rows f (suc j) n k (omega arith) ∙ ap f (omega arith)

low : (b : Bool) (m : ℕ) → number b + 2 * m < 2 + 2 * m
low true m = omega arith
low false m = omega arith

pub row_below : (v : ℕ → Bool) (ls : List ℕ) → row v ls < 2 ^ length ls
row_below v [] = omega arith
row_below v (l ∷ ls) =
    let e : 2 ^ suc (length ls) ≡ 2 ^ length ls * 2 = pow-suc 2 (length ls) in
    omega (arith, row_below v ls, low (v l) (row v ls), e)

-- the bit of a row at a leaf's place is the leaf's value
bit-at-place : (v : ℕ → Bool) (l : ℕ) (ls : List ℕ) → has l ls ≡ true → bit_at (row v ls) (place l ls) ≡ v l
bit-at-place v l [] h = absurd (both_ways false refl h)
bit-at-place v l (m ∷ ms) h = go (eqb l m) refl (bit-at-place v l ms) h
  where
    go : (b : Bool) → eqb l m ≡ b → (has l ms ≡ true → bit_at (row v ms) (place l ms) ≡ v l) → (b || has l ms) ≡ true → bit_at (row v (m ∷ ms)) (cond b 0 (suc (place l ms))) ≡ v l
    go true e ih h = last (v m) (row v ms) ∙ ap v (sym (eqb-true l m e))
    go false e ih h = ap (λ n. bit_at n (place l ms)) (half (v m) (row v ms)) ∙ ih h

valuation_of_row : (v : ℕ → Bool) (ls : List ℕ) → Alike ls (valuation ls (row v ls)) v
valuation_of_row v ls l h = rw h (bit-at-place v l ls h)

pub tabulate-value : TablesReadBack
unfolding tabulate
tabulate-value p ls f fits local v =
    bit-rows (λ j. f (valuation ls j)) 0 (2 ^ p) (row v ls) (omega (arith, row_below v ls, pow_mono fits))
    ∙ local (valuation ls (0 + row v ls)) v (subst (λ n. Alike ls (valuation ls n) v) (sym (zero-add (row v ls))) (valuation_of_row v ls))
