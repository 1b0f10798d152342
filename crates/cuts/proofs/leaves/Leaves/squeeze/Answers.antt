use Rattle.std.proofs.Common.{◌≡◌, ℕ, ◌+◌, ◌-◌, ◌<◌, ◌≤◌, Bool, true, false, length, MatchBool, refl, ◌∙◌, subst, arith, rules, tests}
use Rattle.std.specs.List.{HoldsAt, AllWithin, range_with_len}
use Rattle.std.proofs.lemmas.Bool.{false≢true}
use Rattle.std.proofs.lemmas.Iterator.{cases_from_all, YieldsList-from_range}
use Rattle.std.proofs.lemmas.List.FromFn.{length-range_with_len, get_or-range_with_len}
use Rattle.model.specs.Tables.{masked, Loose}
use Rattle.cuts.proofs.leaves.Leaves.squeeze.Goals as goal

from_cases : (t n : ℕ) (r : Bool) → n ≤ 4 → r ≡ true → (let is = range_with_len n (4 - n) in
    MatchBool r (AllWithin (λ i. masked 4 t i ≡ true) is 0 (length is)) ((k : ℕ) × (k < length is) × HoldsAt (λ i. masked 4 t i ≡ false) is k))
    → Loose 4 t n
from_cases t n true l e h = λ i a b.
    let at : n + (i - n) ≡ i = omega arith in
    subst (λ j. masked 4 t j ≡ true) (get_or-range_with_len n (4 - n) (i - n) 0 (omega arith) ∙ at) (h (i - n) 0 (omega arith) (omega (arith, length-range_with_len n (4 - n))))
from_cases t n false l e h = absurd (false≢true e)

pub squeeze-requires : goal.squeeze-requires
squeeze-requires c =
    let t = c.args.table in
    let n = c.len.result in
    subst (Loose 4 t) c.len.ensures.field
    (from_cases t n c.all-fits.result (omega arith) c.if-fits.true
    (cases_from_all _ _ _ (λ i. masked 4 t i ≡ true) (λ i. masked 4 t i ≡ false) c.all-fits.ensures.ran (YieldsList-from_range n 4 (4 - n) refl refl) (λ x q k. search (rules, tests)) (λ x q k. search (rules, tests))))
