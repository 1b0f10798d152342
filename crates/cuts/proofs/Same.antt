-- Leaves with unused places 0 are one value where their lists are one.
use Rattle.std.proofs.Common.{◌≡◌, ℕ, ◌<◌, ◌≤◌, List, length, get_or, take, sym, ap, ◌∙◌, ⊎_elim, arith, length-take-le, get_or-take, ext_get_or}
use Rattle.std.proofs.lemmas.Bool.{cases_lt}

pub same-places : (c d : ℕ) (xs ys : List ℕ) → length xs ≡ length ys → c ≤ length xs → d ≤ length ys → ((k : ℕ) → c ≤ k → get_or xs k 0 ≡ 0) → ((k : ℕ) → d ≤ k → get_or ys k 0 ≡ 0)
    → take c xs ≡ take d ys → (c ≡ d) × (xs ≡ ys)
same-places c d xs ys n hc hd zx zy e =
    let s : c ≡ d = sym (length-take-le c xs hc) ∙ ap length e ∙ length-take-le d ys hd in (
      s,
      ext_get_or 0 xs ys n (λ k _. ⊎_elim
          (λ (l : k < c). sym (get_or-take c xs k 0 l) ∙ ap (λ zs. get_or zs k 0) e ∙ get_or-take d ys k 0 (omega arith))
          (λ (l : c ≤ k). zx k l ∙ sym (zy k (omega arith)))
          (cases_lt k c)),
    )
