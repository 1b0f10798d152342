-- A front part of a list, one element shorter.
use Rattle.std.proofs.Common.{◌≡◌, ℕ, ◌-◌, ◌<◌, List, length, get_or, take, sym, ap, ◌∙◌, arith, length-take-le, get_or-take}
use Rattle.std.proofs.lemmas.List.{take-take}

pub shorter : (xs : List ℕ) → length (take (length xs - 1) xs) ≡ length xs - 1
shorter xs = length-take-le (length xs - 1) xs (omega arith)

pub front_of : (xs all : List ℕ) → xs ≡ take (length xs) all → let ys = take (length xs - 1) xs in ys ≡ take (length ys) all
front_of xs all e =
    ap (take (length xs - 1)) e ∙ take-take (length xs - 1) (length xs) all (omega arith) ∙ ap (λ n. take n all) (sym (shorter xs))

pub last-in : (xs all : List ℕ) → xs ≡ take (length xs) all → 0 < length xs → get_or xs (length xs - 1) 0 ≡ get_or all (length xs - 1) 0
last-in xs all e some = ap (λ l. get_or l (length xs - 1) 0) e ∙ get_or-take (length xs) all (length xs - 1) 0 (omega arith)
