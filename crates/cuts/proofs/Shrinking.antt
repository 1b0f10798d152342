-- What is left of a list, from some place on.
use Rattle.std.proofs.Common.{◌≡◌, ℕ, ◌-◌, ◌<◌, ◌≤◌, List, length, get_or, take, drop, ap, ◌∙◌, ⊎_elim, arith, length-drop, length-take-le, get_or-drop}
use Rattle.std.proofs.lemmas.Bool.{lt-ltb, le-ltb, cases_lt}
use Rattle.std.proofs.lemmas.List.{take_all, drop-drop}
use Rattle.model.proofs.Merging.{front}

pub front-drop : (e : ℕ) (ls : List ℕ) (i : ℕ) → front e (drop i ls) 0 ≡ front e ls i
front-drop e ls i = ⊎_elim
    (λ (l : i < length ls). rw (lt-ltb 0 (length (drop i ls)) (omega (arith, length-drop i ls)), lt-ltb i (length ls) l) (get_or-drop i ls 0 0 ∙ ap (λ n. get_or ls n 0) (omega arith)))
    (λ (l : length ls ≤ i). rw (le-ltb 0 (length (drop i ls)) (omega (arith, length-drop i ls)), le-ltb i (length ls) l))
    (cases_lt i (length ls))

-- the rest is no longer than the list, and k elements further it is the rest again
pub rest_fits : (xs a : List ℕ) → a ≡ drop (length xs - length a) xs → length a ≤ length xs
rest_fits xs a e = omega (arith, ap length e, length-drop (length xs - length a) xs)

pub rest_is : (xs a : List ℕ) (k : ℕ) → a ≡ drop (length xs - length a) xs → k ≤ length a
    → let r = take (length a - k) (drop k a) in (length r ≡ length a - k) × (r ≡ drop (length xs - length r) xs)
rest_is xs a k e le =
    let l = length-drop k a in
    let fits = rest_fits xs a e in
    let n : length (take (length a - k) (drop k a)) ≡ length a - k = length-take-le (length a - k) (drop k a) (omega (arith, l)) in
    (n, take_all (length a - k) (drop k a) (omega (arith, l)) ∙ ap (drop k) e ∙ drop-drop k (length xs - length a) xs ∙ ap (λ m. drop m xs) (omega arith))
