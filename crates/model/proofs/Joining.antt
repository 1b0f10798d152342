-- Words ANDed and complemented are tables of the functions ANDed and complemented.
use Rattle.std.proofs.Common.{◌≡◌, ℕ, ◌-◌, ◌^◌, ◌<◌, Bool, true, false, cond, not, ◌&&◌, List, length, sym, refl, ap, ◌∙◌, subst, ap₂}
use lib.Pow.{ones_sub-lt}
use lib.Bits.{bit_and, and_lt}
use Rattle.model.specs.Cuts.{Cut, value_of, tabulate, squeeze, join}
use Rattle.model.specs.Tables.{flip_if, val, Loose, put}
use Rattle.model.specs.Leaves.{unite}
use Rattle.model.proofs.Bits.{bit-and, bit_not}
use Rattle.model.proofs.Positions.{val-row-below}
use Rattle.model.proofs.Masked.{loose-rests, rests-loose}
use Rattle.model.proofs.Stretching.{is-tabulated, bit-tabulate, tabulate-below, tabulate-rests}

pub tabulate-and : (p : ℕ) (ls : List ℕ) (f g : (ℕ → Bool) → Bool) → bit_and (tabulate p ls f) (tabulate p ls g) ≡ tabulate p ls (λ v. (f v && g v))
tabulate-and p ls f g =
    is-tabulated p (bit_and (tabulate p ls f) (tabulate p ls g)) ls (λ v. (f v && g v))
    (and_lt (2 ^ p) (tabulate p ls f) (tabulate p ls g) (tabulate-below p ls f) (tabulate-below p ls g))
    (λ j l. bit-and (tabulate p ls f) (tabulate p ls g) j ∙ ap₂ ◌&&◌ (bit-tabulate p ls f j l) (bit-tabulate p ls g j l))

pub tabulate-not : (p : ℕ) (ls : List ℕ) (f : (ℕ → Bool) → Bool) → 2 ^ 2 ^ p - 1 - tabulate p ls f ≡ tabulate p ls (λ v. not (f v))
tabulate-not p ls f =
    is-tabulated p (2 ^ 2 ^ p - 1 - tabulate p ls f) ls (λ v. not (f v)) (ones_sub-lt (2 ^ p) (tabulate p ls f))
    (λ j l. bit_not (2 ^ p) (tabulate p ls f) j (tabulate-below p ls f) l ∙ ap not (bit-tabulate p ls f j l))

pub tabulate-signed : (p : ℕ) (s : Bool) (ls : List ℕ) (f : (ℕ → Bool) → Bool) → cond s (2 ^ 2 ^ p - 1 - tabulate p ls f) (tabulate p ls f) ≡ tabulate p ls (λ v. flip_if s (f v))
tabulate-signed p true ls f = tabulate-not p ls f
tabulate-signed p false ls f = refl

-- the joined table
pub joined-table : (p : ℕ) (a b : Cut) (s t : Bool) (ls : List ℕ) {x y u w : ℕ} → x ≡ tabulate p ls (value_of a) → y ≡ tabulate p ls (value_of b)
    → u ≡ cond s (2 ^ 2 ^ p - 1 - x) x → w ≡ cond t (2 ^ 2 ^ p - 1 - y) y → bit_and u w ≡ tabulate p ls (λ v. flip_if s (value_of a v) && flip_if t (value_of b v))
joined-table p a b s t ls e f g h =
    ap₂ bit_and g h
    ∙ ap₂ (λ x y. bit_and (cond s (2 ^ 2 ^ p - 1 - x) x) (cond t (2 ^ 2 ^ p - 1 - y) y)) e f
    ∙ ap₂ bit_and (tabulate-signed p s ls (value_of a)) (tabulate-signed p t ls (value_of b))
    ∙ tabulate-and p ls (λ v. flip_if s (value_of a v)) (λ v. flip_if t (value_of b v))

pub join_is : (p : ℕ) (a b : Cut) (s t : Bool) (ls : List ℕ) (z : ℕ) → ls ≡ unite a.leaves b.leaves → z ≡ tabulate p ls (λ v. flip_if s (value_of a v) && flip_if t (value_of b v))
    → squeeze p (record { leaves = ls; table = z }) ≡ join p a s b t
unfolding join
join_is p a b s t ls z e f =
    ap (λ n. squeeze p (record { leaves = ls; table = n })) f
    ∙ ap (λ l. squeeze p (record { leaves = l; table = tabulate p l (λ v. flip_if s (value_of a v) && flip_if t (value_of b v)) })) e

pub tabulated-loose : (p : ℕ) (ls : List ℕ) (f : (ℕ → Bool) → Bool) (z : ℕ) → z ≡ tabulate p ls f → Loose p z (length ls)
tabulated-loose p ls f z e = subst (λ w. Loose p w (length ls)) (sym e) (rests-loose p (tabulate p ls f) (length ls) (tabulate-rests p ls f))

-- a complemented table looks where the table looks
pub not-val : (p t : ℕ) → t < 2 ^ 2 ^ p → (v : ℕ → Bool) → val p (2 ^ 2 ^ p - 1 - t) v ≡ not (val p t v)
not-val p t h v = bit_not (2 ^ p) t _ h (val-row-below p v)

pub not-loose : (p t n : ℕ) → t < 2 ^ 2 ^ p → Loose p t n → Loose p (2 ^ 2 ^ p - 1 - t) n
not-loose p t n h l =
    rests-loose p (2 ^ 2 ^ p - 1 - t) n (λ i a b v c. not-val p t h (put v i c) ∙ ap not (loose-rests p t n l i a b v c) ∙ sym (not-val p t h v))
