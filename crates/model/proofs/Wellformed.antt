-- Tables of well-formed cuts: squeezed ones depend on each leaf, complements look where the table looks, and a table that looks nowhere is constant.
use Rattle.std.proofs.Common.{◌≡◌, ℕ, suc, ◌+◌, ◌^◌, ◌<◌, ◌≤◌, Bool, true, false, cond, not, List, [], ◌∷◌, length, get_or, take, sym, refl, ap, ◌∙◌, subst, inr, ⊎_elim, add-zero, zero-add, arith, length-take-le, pow_pos}
use lib.Pow.{ones_sub-lt}
use Rattle.std.proofs.lemmas.Bool.{cases_Bool, both_ways, eq-eqb}
use Rattle.model.specs.Cuts.{needed, squeeze, tabulate, value_of}
use Rattle.model.specs.Tables.{bit_at, masked, put, Free, Rests, Loose, Mask, complemented}
use Rattle.model.specs.Leaves.{Rising, place}
use Rattle.model.proofs.Bits.{bit_not, same_bits}
use Rattle.model.proofs.Positions.{val_at}
use Rattle.model.proofs.Masked.{agree-free, agree-rests, masked-free, free-masked, loose-rests}
use Rattle.model.proofs.Squeezing.{Dropped, dropped_leaves, dropped_table, dropped_cut, dropped_rising, dropped_loose}
use Rattle.model.proofs.Joining.{not-val, not-loose}
use Rattle.model.proofs.Stretching.{is-tabulated, stretch_law}
use Rattle.model.proofs.Places.{has-at, place_of}
use Rattle.model.proofs.MaskTest.{bit-zero}
use Rattle.model.proofs.Tight.{squeezed-tight}

pub dropped_tight : (p t : ℕ) (ls : List ℕ) → length ls ≤ p → (count word : ℕ) (kept : List ℕ) → Rising ls → Rests p t (length ls)
    → Dropped p t ls (length ls) count word kept → (i : ℕ) → i < count → masked p word i ≡ false
dropped_tight p t ls few count word kept rising rests d i h =
    let n : length (needed p t 0 ls) ≡ count = ap length (sym (dropped_leaves p t ls few count word kept d)) ∙ length-take-le count kept (omega (arith, d.few, d.room)) in
    subst (λ w. masked p w i ≡ false) (sym (dropped_table p t ls few count word kept rising rests d)) (squeezed-tight p t ls few rising rests i (omega arith))

-- a complement looks at a position exactly where the table does
not_free : (p t i : ℕ) → t < 2 ^ 2 ^ p → Free p t i → Free p (complemented p t) i
not_free p t i h f v b = not-val p t h (put v i b) ∙ ap not (f v b) ∙ sym (not-val p t h v)

pub not_twice : (p t : ℕ) → t < 2 ^ 2 ^ p → complemented p (complemented p t) ≡ t
not_twice p t h = omega arith

pub not-masked : (p t i : ℕ) → i < p → t < 2 ^ 2 ^ p → masked p t i ≡ false → masked p (complemented p t) i ≡ false
not-masked p t i l h e = ⊎_elim
    (λ (z : masked p (complemented p t) i ≡ true). absurd (both_ways (masked p t i) e (free-masked p t i l
    (subst (λ w. Free p w i) (not_twice p t h) (not_free p (complemented p t) i (ones_sub-lt (2 ^ p) t) (masked-free p (complemented p t) i l z))))))
    (λ z. z)
    (cases_Bool (masked p (complemented p t) i))

-- the table complemented for a sign
abbrev pub inverted : ℕ → Bool → ℕ → ℕ
inverted p s t = cond s (complemented p t) t

pub inverted-loose : (p : ℕ) (s : Bool) (t n : ℕ) → t < 2 ^ 2 ^ p → Loose p t n → Loose p (inverted p s t) n
inverted-loose p true t n h l = not-loose p t n h l
inverted-loose p false t n h l = l

pub inverted-tight : (p : ℕ) (s : Bool) (t n : ℕ) → n ≤ p → t < 2 ^ 2 ^ p → ((i : ℕ) → i < n → masked p t i ≡ false) → (i : ℕ) → i < n → masked p (inverted p s t) i ≡ false
inverted-tight p true t n few h l i k = not-masked p t i (omega arith) h (l i k)
inverted-tight p false t n few h l i k = l i k

pub inverted_twice : (p : ℕ) (s : Bool) (t : ℕ) → t < 2 ^ 2 ^ p → inverted p s (inverted p s t) ≡ t
inverted_twice p true t h = not_twice p t h
inverted_twice p false t h = refl

-- bit 0 of a table, complemented for its own bit 0
pub inverted_plain : (p t : ℕ) → t < 2 ^ 2 ^ p → bit_at (inverted p (bit_at t 0) t) 0 ≡ false
inverted_plain p t h = go (bit_at t 0) refl
  where
    go : (s : Bool) → bit_at t 0 ≡ s → bit_at (inverted p s t) 0 ≡ false
    go true e = bit_not (2 ^ p) t 0 h (pow_pos p) ∙ ap not e
    go false e = e

-- a table that looks at no position
pub constant-table : (p t : ℕ) → t < 2 ^ 2 ^ p → Loose p t 0 → t ≡ cond (bit_at t 0) (complemented p 0) 0
constant-table p t h l = same_bits (2 ^ p) t (cond (bit_at t 0) (complemented p 0) 0) h (small (bit_at t 0)) (λ j k.
    sym (val_at p t j k)
    ∙ agree-free p t (bit_at j) (bit_at 0) (λ q m. inr (loose-rests p t 0 l q (omega arith) m))
    ∙ val_at p t 0 (pow_pos p)
    ∙ sym (bits (bit_at t 0) j k))
  where
    small : (s : Bool) → cond s (complemented p 0) 0 < 2 ^ 2 ^ p
    small true = ones_sub-lt (2 ^ p) 0
    small false = pow_pos (2 ^ p)

    bits : (s : Bool) (j : ℕ) → j < 2 ^ p → bit_at (cond s (complemented p 0) 0) j ≡ s
    bits true j k = bit_not (2 ^ p) 0 j (pow_pos (2 ^ p)) k ∙ ap not (bit-zero j)
    bits false j k = bit-zero j

-- what squeezing leaves, once every position is dealt with
pub record Remains (p t : ℕ) (ls : List ℕ) (count word : ℕ) (kept : List ℕ) : Type 0 where
  pub few : count ≤ p
  pub small : word < 2 ^ 2 ^ p
  pub rising : Rising (take count kept)
  pub zeros : (k : ℕ) → count ≤ k → get_or kept k 0 ≡ 0
  pub loose : Loose p word count
  pub tight : (i : ℕ) → i < count → masked p word i ≡ false
  pub cut : record { leaves = take count kept; table = word } ≡ squeeze p (record { leaves = ls; table = t })

pub dropped_all : (p t : ℕ) (ls : List ℕ) (n count word : ℕ) (kept : List ℕ) → length ls ≤ p → Rising ls → Loose p t (length ls) → n ≡ length ls
    → Dropped p t ls n count word kept → Remains p t ls count word kept
dropped_all p t ls n count word kept few rising loose e d =
    let all : Dropped p t ls (length ls) count word kept = subst (λ m. Dropped p t ls m count word kept) e d in
    let rests = loose-rests p t (length ls) loose in
    record {
      few = omega (arith, d.few);
      small = d.small;
      rising = dropped_rising p t ls few count word kept rising all;
      zeros = d.zeros;
      loose = dropped_loose p t ls few count word kept rising rests all;
      tight = dropped_tight p t ls few count word kept rising rests all;
      cut = dropped_cut p t ls few count word kept rising rests all;
    }

-- the table of position 0 is that of a node by itself
pub trivial-table : (p n m : ℕ) → m < 2 ^ 2 ^ p → Mask p 0 m → m ≡ tabulate p (n ∷ []) (λ v. v n)
trivial-table p n m h mask = is-tabulated p m (n ∷ []) (λ v. v n) h (λ j l. mask j l ∙ rw (eq-eqb n n refl))

-- where no leaf is masked, squeezing leaves the cut as it is
needed-all : (p t k : ℕ) (ls : List ℕ) → ((q : ℕ) → q < length ls → masked p t (k + q) ≡ false) → needed p t k ls ≡ ls
needed-all p t k [] h = refl
needed-all p t k (l ∷ ls) h =
    let e : masked p t k ≡ false = ap (masked p t) (sym (add-zero k)) ∙ h 0 (omega arith) in
    rw e (ap (◌∷◌ l) (needed-all p t (suc k) ls (λ q m. ap (masked p t) (omega arith) ∙ h (suc q) (omega arith))))

pub squeeze-same : (p t : ℕ) (ls : List ℕ) → t < 2 ^ 2 ^ p → length ls ≤ p → Rising ls → Loose p t (length ls) → ((q : ℕ) → q < length ls → masked p t q ≡ false)
    → record { leaves = ls; table = t } ≡ squeeze p (record { leaves = ls; table = t })
unfolding squeeze
squeeze-same p t ls small few rising loose tight =
    let rests = loose-rests p t (length ls) loose in
    let e : needed p t 0 ls ≡ ls = needed-all p t 0 ls (λ q l. ap (masked p t) (zero-add q) ∙ tight q l) in
    let f : t ≡ tabulate p ls (value_of (record { leaves = ls; table = t })) =
    stretch_law p t t ls ls small few rests (λ q l. has-at ls q l)
    (λ v. agree-rests p t (length ls) v (λ q. v (place (get_or ls q 0) ls)) rests (λ q l. ap v (sym (place_of ls rising q l)))) in
    let g : t ≡ tabulate p (needed p t 0 ls) (value_of (record { leaves = ls; table = t })) = f ∙ ap (λ ms. tabulate p ms (value_of (record { leaves = ls; table = t }))) (sym e) in
    λ i. record { leaves = sym e i; table = g i }
