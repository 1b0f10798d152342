-- Uniting adds nothing exactly where all leaves are there already.
use Rattle.std.proofs.Common.{◌≡◌, ℕ, true, false, List, ◌∙◌, subst, ⊎_elim}
use Rattle.std.proofs.lemmas.Bool.{cases_Bool}
use Rattle.model.specs.Leaves.{Rising, Within, has, place, unite}
use Rattle.model.proofs.Places.{place_in}
use Rattle.model.proofs.Uniting.{unite-has, unite-rising, within-left}
use Rattle.model.proofs.Unique.{same_members}

pub within_unites : (xs ys : List ℕ) → Rising ys → Within xs ys → unite xs ys ≡ ys
within_unites xs ys r w = same_members (unite xs ys) ys (unite-rising xs ys r) r (λ l. unite-has l xs ys ∙ ⊎_elim
    (λ (h : has l xs ≡ true).
    let e = place_in l xs h in
    let k : has l ys ≡ true = subst (λ n. has n ys ≡ true) e.0 (w (place l xs) e.1) in
    rw (h, k))
    (λ (h : has l xs ≡ false). rw h)
    (cases_Bool (has l xs)))

pub unites_within : (xs ys : List ℕ) → unite xs ys ≡ ys → Within xs ys
unites_within xs ys e = subst (Within xs) e (within-left xs ys)
