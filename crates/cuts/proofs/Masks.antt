-- The four masks, by one computed test over all positions and rows.
use Rattle.std.proofs.Common.{◌≡◌, ℕ, ◌*◌, ◌%◌, ◌^◌, ◌<◌, Bool, true, false, ◌||◌, ltb, List, [], ◌∷◌, get_or, refl, subst, zero-add, arith}
use Rattle.std.proofs.lemmas.Nat.{one_shl}
use Rattle.std.proofs.lemmas.Bool.{ltb-true, le-ltb}
use Rattle.model.specs.Tables.{bit_at, all_rows, same, masked, Mask, Loose}
use Rattle.model.proofs.Masked.{all-rows-at, same-equal}

abbrev pub masks : List ℕ
masks = 0xAAAA ∷ 0xCCCC ∷ 0xF0F0 ∷ 0xFF00 ∷ []

abbrev pub P : ℕ
P = 4

abbrev fine : ℕ → Bool
fine i = all_rows (λ j. same (bit_at (get_or masks i 0) j) (bit_at j i)) 0 (2 ^ P)

abbrev small : ℕ → Bool
small i = ltb (get_or masks i 0) (2 ^ 2 ^ P)

pub mask_of : (i : ℕ) → i < P → Mask P i (get_or masks i 0)
mask_of i h j l =
    let e : fine i ≡ true = subst (λ n. fine n ≡ true) (zero-add i) (all-rows-at fine 0 P refl i h) in
    same-equal _ _ (subst (λ n. same (bit_at (get_or masks i 0) n) (bit_at n i) ≡ true) (zero-add j)
    (all-rows-at (λ j. same (bit_at (get_or masks i 0) j) (bit_at j i)) 0 (2 ^ P) e j l))

pub mask_small : (i : ℕ) → i < P → get_or masks i 0 < 2 ^ 2 ^ P
mask_small i h = ltb-true _ _ (subst (λ n. small n ≡ true) (zero-add i) (all-rows-at small 0 P refl i h))

-- the width of a position, as the code has it
pub step_is : (i : ℕ) → i < P → (1 * 2 ^ i) % 2 ^ 32 ≡ 2 ^ i
step_is i h = one_shl i 32 (omega arith)

pub step_fits : (i : ℕ) → i < P → 2 ^ i < 2 ^ P
step_fits i h = ltb-true _ _ (subst (λ n. ltb (2 ^ n) (2 ^ P) ≡ true) (zero-add i) (all-rows-at (λ n. ltb (2 ^ n) (2 ^ P)) 0 P refl i h))

-- the table of the first position looks at no other
loose_at : ℕ → Bool
loose_at i = ltb i 1 || masked P (get_or masks 0 0) i

pub first-loose : Loose P (get_or masks 0 0) 1
unfolding masked loose_at
first-loose i a b =
    let h : loose_at i ≡ true = subst (λ n. loose_at n ≡ true) (zero-add i) (all-rows-at loose_at 0 P refl i b) in
    subst (λ s. (s || masked P (get_or masks 0 0) i) ≡ true) (le-ltb i 1 a) h

pub first-tight : masked P (get_or masks 0 0) 0 ≡ false
unfolding masked
first-tight = refl
