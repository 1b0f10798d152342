-- Rows by position, and what word operations with position masks do to a table. For any number p of positions.
use Rattle.std.proofs.Common.{◌≡◌, ℕ, zero, suc, ◌+◌, ◌-◌, ◌*◌, ◌/◌, ◌%◌, ◌^◌, ◌<◌, ◌≤◌, Bool, true, false, cond, not, ◌&&◌, ◌||◌, eqb, length, sym, refl, ap, ◌∙◌, subst, ap₂, ⊎_elim, add-zero, pow-suc, zero-add, arith}
use lib.Bits.{bit_and, bit_or}
use Rattle.std.proofs.lemmas.Bool.{eq-eqb, ne_eqb, cases_eq}
use Rattle.model.specs.Tables.{bit_at, row, number, span, val, put, Mask}
use Rattle.model.proofs.Rows.{row_below, half, last}
use Rattle.model.proofs.Bits.{bit-and, bit-or, bit_not, bit-shr, bit-shl, bit-mod, same_bits}

pub length-span : (k n : ℕ) → length (span k n) ≡ n
length-span k zero = refl
length-span k (suc n) = ap suc (length-span (suc k) n)

pub val-row-below : (p : ℕ) (v : ℕ → Bool) → row v (span 0 p) < 2 ^ p
val-row-below p v = subst (λ n. row v (span 0 p) < 2 ^ n) (length-span 0 p) (row_below v (span 0 p))

pub row-span : (v w : ℕ → Bool) (k n : ℕ) → ((q : ℕ) → k ≤ q → q < k + n → v q ≡ w q) → row v (span k n) ≡ row w (span k n)
row-span v w k zero h = refl
row-span v w k (suc n) h =
    ap₂ (λ x y. number x + 2 * y) (h k (omega arith) (omega arith)) (row-span v w (suc k) n (λ q a b. h q (omega arith) (omega arith)))

-- two valuations that agree below p
pub val_same : (p t : ℕ) (v w : ℕ → Bool) → ((q : ℕ) → q < p → v q ≡ w q) → val p t v ≡ val p t w
val_same p t v w h = ap (bit_at t) (row-span v w 0 p (λ q a b. h q (omega arith)))

pub bit-row : (v : ℕ → Bool) (k n q : ℕ) → q < n → bit_at (row v (span k n)) q ≡ v (k + q)
bit-row v k zero q h = absurd (omega arith)
bit-row v k (suc n) zero h = last (v k) (row v (span (suc k) n)) ∙ ap v (sym (add-zero k))
bit-row v k (suc n) (suc q) h =
    ap (λ m. bit_at m q) (half (v k) (row v (span (suc k) n))) ∙ bit-row v (suc k) n q (omega arith) ∙ ap v (omega arith)

pub val-bit : (p : ℕ) (v : ℕ → Bool) (q : ℕ) → q < p → bit_at (row v (span 0 p)) q ≡ v q
val-bit p v q h = bit-row v 0 p q h ∙ ap v (zero-add q)

-- the row that the bits of j pick is j
pub row-bits : (p j : ℕ) → j < 2 ^ p → row (bit_at j) (span 0 p) ≡ j
row-bits p j h = same_bits p (row (bit_at j) (span 0 p)) j (val-row-below p (bit_at j)) h (λ q l. val-bit p (bit_at j) q l)

pub val_at : (p t j : ℕ) → j < 2 ^ p → val p t (bit_at j) ≡ bit_at t j
val_at p t j h = ap (bit_at t) (row-bits p j h)

pub put_same : (v : ℕ → Bool) (i : ℕ) (b : Bool) → put v i b i ≡ b
put_same v i b = rw (eq-eqb i i refl)

pub put_other : (v : ℕ → Bool) (i : ℕ) (b : Bool) (q : ℕ) → (q ≡ i → ⊥) → put v i b q ≡ v q
put_other v i b q h = rw (ne_eqb q i h)

-- one position raised adds its power
pub row_raise : (v : ℕ → Bool) (i k n : ℕ) → k ≤ i → i < k + n → v i ≡ false → row (put v i true) (span k n) ≡ 2 ^ (i - k) + row v (span k n)
row_raise v i k zero a b e = absurd (omega arith)
row_raise v i k (suc n) a b e = ⊎_elim here (λ ne. there ne (row_raise v i (suc k) n (omega arith) (omega arith) e)) (cases_eq i k)
  where
    tail : i ≡ k → row (put v i true) (span (suc k) n) ≡ row v (span (suc k) n)
    tail q = row-span (put v i true) v (suc k) n (λ r x y. put_other v i true r (λ z. omega arith))

    here : i ≡ k → row (put v i true) (span k (suc n)) ≡ 2 ^ (i - k) + row v (span k (suc n))
    here q =
        let h : number (put v i true k) ≡ 1 = ap (λ z. number (put v i true z)) (sym q) ∙ ap number (put_same v i true) in
        let l : number (v k) ≡ 0 = ap (λ z. number (v z)) (sym q) ∙ ap number e in
        let z : i - k ≡ 0 = omega arith in
        let d : 2 ^ (i - k) ≡ 1 = ap (λ z. 2 ^ z) z in
        omega (arith, tail q)

    there : (i ≡ k → ⊥) → row (put v i true) (span (suc k) n) ≡ 2 ^ (i - suc k) + row v (span (suc k) n) → row (put v i true) (span k (suc n)) ≡ 2 ^ (i - k) + row v (span k (suc n))
    there ne ih =
        let h : number (put v i true k) ≡ number (v k) = ap number (put_other v i true k (λ z. ne (sym z))) in
        let z : i - k ≡ suc (i - suc k) = omega arith in
        let d : 2 ^ (i - k) ≡ 2 ^ (i - suc k) * 2 = ap (λ z. 2 ^ z) z ∙ pow-suc 2 (i - suc k) in
        omega arith

-- ---- the three word operations

-- a where the mask m has a 1, else b: (a & m) | (b & !m)
abbrev pub muxed : ℕ → ℕ → ℕ → ℕ → ℕ
muxed w m a b = bit_or (bit_and a m) (bit_and b (2 ^ w - 1 - m))

by_mask : (m a b : Bool) → ((a && m) || (b && not m)) ≡ cond m a b
by_mask true true true = refl
by_mask true true false = refl
by_mask true false true = refl
by_mask true false false = refl
by_mask false true true = refl
by_mask false true false = refl
by_mask false false true = refl
by_mask false false false = refl

pub bit-muxed : (w m a b j : ℕ) → m < 2 ^ w → j < w → bit_at (muxed w m a b) j ≡ cond (bit_at m j) (bit_at a j) (bit_at b j)
bit-muxed w m a b j h l =
    bit-or (bit_and a m) (bit_and b (2 ^ w - 1 - m)) j
    ∙ ap₂ ◌||◌ (bit-and a m j) (bit-and b (2 ^ w - 1 - m) j ∙ ap (◌&&◌ (bit_at b j)) (bit_not w m j h l))
    ∙ by_mask (bit_at m j) (bit_at a j) (bit_at b j)

-- a choice by position i
pub pick_law : (p i m a b : ℕ) → i < p → m < 2 ^ 2 ^ p → Mask p i m → (v : ℕ → Bool) → val p (muxed (2 ^ p) m a b) v ≡ cond (v i) (val p a v) (val p b v)
pick_law p i m a b h k mask v =
    let j = row v (span 0 p) in
    let l : j < 2 ^ p = val-row-below p v in
    bit-muxed (2 ^ p) m a b j k l ∙ ap (λ c. cond c (bit_at a j) (bit_at b j)) (mask j l ∙ val-bit p v i h)

pub raised : (p i : ℕ) (v : ℕ → Bool) → i < p → v i ≡ false → row (put v i true) (span 0 p) ≡ 2 ^ i + row v (span 0 p)
raised p i v h e = row_raise v i 0 p (omega arith) (omega arith) e ∙ ap (λ z. 2 ^ z + row v (span 0 p)) (omega arith)

-- putting what is there
pub put_back : (p t : ℕ) (v : ℕ → Bool) (i : ℕ) (b : Bool) → v i ≡ b → val p t (put v i b) ≡ val p t v
put_back p t v i b e = val_same p t (put v i b) v (λ q l. ⊎_elim (λ (z : q ≡ i). ap (put v i b) z ∙ put_same v i b ∙ sym e ∙ ap v (sym z)) (λ z. put_other v i b q z) (cases_eq q i))

pub put-put : (p t : ℕ) (v : ℕ → Bool) (i : ℕ) (b c : Bool) → val p t (put (put v i b) i c) ≡ val p t (put v i c)
put-put p t v i b c = val_same p t (put (put v i b) i c) (put v i c) (λ q l. go q (eqb q i))
  where
    go : (q : ℕ) (z : Bool) → cond z c (cond z b (v q)) ≡ cond z c (v q)
    go q true = refl
    go q false = refl

-- position i held at 1: where it is 0, the bit 2^i further up
pub high_choice : (p i t : ℕ) → i < p → (v : ℕ → Bool) → cond (v i) (val p t v) (val p (t / 2 ^ 2 ^ i) v) ≡ val p t (put v i true)
high_choice p i t h v = go (v i) refl
  where
    go : (b : Bool) → v i ≡ b → cond b (val p t v) (val p (t / 2 ^ 2 ^ i) v) ≡ val p t (put v i true)
    go true e = sym (put_back p t v i true e)
    go false e = bit-shr t (2 ^ i) (row v (span 0 p)) ∙ ap (bit_at t) (sym (raised p i v h e))

-- a position lowered
pub lowered : (p i : ℕ) (v : ℕ → Bool) → i < p → v i ≡ true → row v (span 0 p) ≡ 2 ^ i + row (put v i false) (span 0 p)
lowered p i v h e =
    let u = put v i false in
    row-span v (put u i true) 0 p (λ q a b. ⊎_elim (λ (z : q ≡ i). ap v z ∙ e ∙ sym (put_same u i true) ∙ ap (put u i true) (sym z)) (λ z. sym (put_other u i true q z ∙ put_other v i false q z)) (cases_eq q i))
    ∙ raised p i u h (put_same v i false)

-- position i held at 0: where it is 1, the bit 2^i further down
pub low-choice : (p i t : ℕ) → i < p → (v : ℕ → Bool) → cond (v i) (val p ((t * 2 ^ 2 ^ i) % 2 ^ 2 ^ p) v) (val p t v) ≡ val p t (put v i false)
low-choice p i t h v = go (v i) refl
  where
    go : (b : Bool) → v i ≡ b → cond b (val p ((t * 2 ^ 2 ^ i) % 2 ^ 2 ^ p) v) (val p t v) ≡ val p t (put v i false)
    go false e = sym (put_back p t v i false e)
    go true e =
        bit-mod (t * 2 ^ 2 ^ i) (2 ^ p) (row v (span 0 p)) (val-row-below p v)
        ∙ ap (bit_at (t * 2 ^ 2 ^ i)) (lowered p i v h e)
        ∙ bit-shl t (2 ^ i) (row (put v i false) (span 0 p))

-- two tables that are alike at every valuation are one
pub same_tables : (p t u : ℕ) → t < 2 ^ 2 ^ p → u < 2 ^ 2 ^ p → ((v : ℕ → Bool) → val p t v ≡ val p u v) → t ≡ u
same_tables p t u h k e = same_bits (2 ^ p) t u h k (λ j l. sym (val_at p t j l) ∙ e (bit_at j) ∙ val_at p u j l)
