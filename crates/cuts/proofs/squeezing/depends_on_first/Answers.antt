use Rattle.std.proofs.Common.{◌≡◌, ℕ, ◌<◌, Bool, true, false, not, min, length, Decides, MatchBool, refl, sym, ap, ◌∙◌, subst, arith, rules, tests, zero-add}
use Rattle.std.specs.List.{HoldsAt, AllWithin, range_with_len}
use Rattle.std.proofs.lemmas.Bool.{false≢true}
use Rattle.std.proofs.lemmas.Iterator.{cases_from_any, YieldsList-from_range}
use Rattle.std.proofs.lemmas.List.FromFn.{length-range_with_len, get_or-range_with_len}
use Rattle.model.specs.Tables.{masked}
use Rattle.cuts.proofs.squeezing.depends_on_first.Goals as goal

from_cases : (t n m : ℕ) (r : Bool) → n ≡ min 4 m → (let is = range_with_len 0 n in
    MatchBool r ((k : ℕ) × (k < length is) × HoldsAt (λ i. masked 4 t i ≡ true) is k) (AllWithin (λ i. masked 4 t i ≡ false) is 0 (length is)))
    → Decides (not r) ((i : ℕ) → i < m → i < 4 → masked 4 t i ≡ false)
from_cases t n m true e h =
    let l = length-range_with_len 0 n in
    let k : h.0 < n = omega (arith, h.1) in
    let at = get_or-range_with_len 0 n h.0 0 k ∙ zero-add h.0 in
    (λ z. absurd (false≢true z), λ f. absurd (false≢true (sym (f h.0 (omega arith) (omega arith)) ∙ ap (masked 4 t) (sym at) ∙ h.2 0)))
from_cases t n m false e h = (
  λ _ i a b. subst (λ j. masked 4 t j ≡ false) (get_or-range_with_len 0 n i 0 (omega arith) ∙ zero-add i) (h i 0 (omega arith) (omega (arith, length-range_with_len 0 n))),
  λ _. refl,
)

pub returns : goal.returns
returns c =
    from_cases c.args.table c.min.result c.args.count c.any.result c.min.ensures
    (cases_from_any _ _ _ (λ i. masked 4 c.args.table i ≡ true) (λ i. masked 4 c.args.table i ≡ false) c.any.ensures.ran (YieldsList-from_range 0 c.min.result c.min.result refl (omega arith)) (λ x q k. search (rules, tests)) (λ x q k. search (rules, tests)))
