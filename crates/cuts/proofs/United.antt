-- What united leaves come to, by the limit.
use Rattle.std.proofs.Common.{◌≡◌, ℕ, ◌<◌, ◌≤◌, Bool, true, false, cond, leb, List, length, take, Some, None, Option, refl, ap, arith, length-take}
use Rattle.std.proofs.lemmas.Bool.{le-leb, lt-leb, leb-true, leb-false}
use Rattle.model.specs.Leaves.{Rising, Within, unite}
use Rattle.model.proofs.Containing.{within_unites}
use Rattle.cuts.specs.Meaning.{united}

pub united-some : (k count : ℕ) (nodes a b : List ℕ) → count ≤ k → take count nodes ≡ unite a b → Some (take count nodes) ≡ united k a b
united-some k count nodes a b h e =
    let l : length (unite a b) ≤ k = omega (arith, length-take count nodes, ap length e) in
    rw (le-leb (length (unite a b)) k l) (ap Some e)

pub united-none : (k : ℕ) (a b : List ℕ) → k < length (unite a b) → None ≡ united k a b
united-none k a b h = rw (lt-leb (length (unite a b)) k h)

some_is : {ls : List ℕ} (t : Bool) (us : List ℕ) → Some ls ≡ cond t (Some us) None → (t ≡ true) × (ls ≡ us)
some_is true us e = (refl, cc)
some_is {ls} false us e = let z : ◌≡◌ {A = ℕ} 0 1 = cc in absurd (omega arith)

pub united-is : (k : ℕ) (ls a b : List ℕ) → Some ls ≡ united k a b → (ls ≡ unite a b) × (length (unite a b) ≤ k)
united-is k ls a b e =
    let r = some_is (leb (length (unite a b)) k) (unite a b) e in
    (r.1, leb-true (length (unite a b)) k r.0)

none_is : (t : Bool) (us : List ℕ) → ◌≡◌ {A = Option (List ℕ)} None (cond t (Some us) None) → t ≡ false
none_is false us e = refl
none_is true us e = let z : ◌≡◌ {A = ℕ} 0 1 = cc in absurd (omega arith)

-- too many leaves to be among those of b
pub united-out : (k : ℕ) (a b : List ℕ) → None ≡ united k a b → length b ≤ k → Rising b → Within a b → ⊥
united-out k a b e few r w = omega (arith, leb-false (length (unite a b)) k (none_is (leb (length (unite a b)) k) (unite a b) e), ap length (within_unites a b r w))
