-- What the places hold after an item was put in, and those from there on moved one place up. Assumes nothing.
use Rattle.std.proofs.Common.{◌≡◌, ℕ, zero, suc, ◌+◌, ◌-◌, ◌<◌, ◌≤◌, min, List, [], ◌∷◌, ◌++◌, length, take, drop, set, sym, refl, ap, ◌∙◌, ⊎_elim, arith}
use Rattle.std.specs.List.{insert, copy_within}
use Rattle.std.proofs.lemmas.List.{take_all, take_at, drop_at, drop-drop, drop_all, length-take-le, take_min, drop_min, append_assoc}
use Rattle.std.proofs.lemmas.List.Edits.{length-insert}
use Rattle.std.proofs.lemmas.Bool.{cases_lt}

-- a write among the first n places
pub take_set : {X : Type 0} (n : ℕ) (xs : List X) (i : ℕ) (x : X) → take n (set xs i x) ≡ set (take n xs) i x
take_set zero [] i x = refl
take_set zero (y ∷ ys) zero x = refl
take_set zero (y ∷ ys) (suc i) x = refl
take_set (suc n) [] i x = refl
take_set (suc n) (y ∷ ys) zero x = refl
take_set (suc n) (y ∷ ys) (suc i) x = ap (λ l. y ∷ l) (take_set n ys i x)

-- m items from p on moved one place up, and x put in
moved : {X : Type 0} (p m k : ℕ) (xs rest : List X) (x : X) → k ≡ p + m → p < length xs
    → set (take (suc p) xs ++ (take m (drop p xs) ++ rest)) p x ≡ insert (take k xs) p x ++ rest
moved p m k [] rest x e h = absurd (omega arith)
moved zero m k (y ∷ ys) rest x e h = let s : m ≡ k = omega arith in ap (λ j. x ∷ (take j (y ∷ ys) ++ rest)) s
moved (suc p) m zero (y ∷ ys) rest x e h = absurd (omega arith)
moved (suc p) m (suc k) (y ∷ ys) rest x e h = ap (λ l. y ∷ l) (moved p m k ys rest x (omega arith) (omega arith))

-- one place more than k
cut_inserted : {X : Type 0} (p k : ℕ) (xs : List X) (x : X) → p ≤ k → take (suc k) (insert xs p x) ≡ insert (take k xs) p x
cut_inserted zero k xs x h = refl
cut_inserted (suc p) zero xs x h = absurd (omega arith)
cut_inserted (suc p) (suc k) [] x h = refl
cut_inserted (suc p) (suc k) (y ∷ ys) x h = ap (λ l. y ∷ l) (cut_inserted p k ys x (omega arith))

-- insertion among the first k, into one place more if there is one
inserted_first : {X : Type 0} (p k n : ℕ) (xs : List X) (x : X) → p ≤ k → k ≤ length xs → n ≡ min (length xs) (k + 1)
    → take n (insert xs p x) ≡ take (length xs) (insert (take k xs) p x)
inserted_first p k n xs x h w e = ⊎_elim left none (cases_lt k (length xs))
  where
    left : k < length xs → take n (insert xs p x) ≡ take (length xs) (insert (take k xs) p x)
    left lt =
        let m = length-take-le k xs w in
        let l = length-insert (take k xs) p x (omega arith) in
        let s : n ≡ suc k = omega arith in
        ap (λ j. take j (insert xs p x)) s ∙ cut_inserted p k xs x h ∙ sym (take_all (length xs) (insert (take k xs) p x) (omega arith))

    none : length xs ≤ k → take n (insert xs p x) ≡ take (length xs) (insert (take k xs) p x)
    none le =
        let s : n ≡ length xs = omega arith in
        ap (λ j. take j (insert xs p x)) s ∙ ap (λ l. take (length xs) (insert l p x)) (sym (take_all k xs le))

-- the places after those in use
next-unused : {X : Type 0} (k n : ℕ) (xs : List X) → n ≡ min (length xs) (k + 1) → drop n xs ≡ drop 1 (drop k xs)
next-unused k n xs e =
    ⊎_elim
    (λ (lt : k < length xs). let s : n ≡ k + 1 = omega arith in ap (λ j. drop j xs) s ∙ sym (drop-drop 1 k xs))
    (λ (le : length xs ≤ k). drop_all n xs (omega arith) ∙ sym (drop_all (k + 1) xs (omega arith)) ∙ sym (drop-drop 1 k xs))
    (cases_lt k (length xs))

-- a place past the end is the end
insert_min : {X : Type 0} (xs : List X) (at p : ℕ) (x : X) → p ≡ min at (length xs) → insert xs p x ≡ insert xs at x
insert_min xs at p x e =
    ap (λ j. insert xs j x) e ∙ ap (λ l. l ++ (x ∷ drop (min at (length xs)) xs)) (take_min at xs) ∙ ap (λ l. take at xs ++ (x ∷ l)) (drop_min at xs)

-- the first n places, once those from p on were copied one place up and x was written there
module _ {X : Type 0} (xs : List X) (at k p n : ℕ) (x : X) (within : k ≤ length xs) (place : p ≡ min at k) (end : n ≡ min (length xs) (k + 1)) (fits : p < n) where
  put : set (copy_within xs p (n - 1) (p + 1)) p x ≡ insert (take (n - 1) xs) p x ++ drop n xs
  put =
      let s : p + 1 ≡ suc p = omega arith in
      let r : suc p + (n - 1 - p) ≡ n = omega arith in
      ap (λ l. set l p x) (append_assoc (take (p + 1) xs) (take (n - 1 - p) (drop p xs)) (drop (p + 1 + (n - 1 - p)) xs))
      ∙ ap (λ a. set (take a xs ++ (take (n - 1 - p) (drop p xs) ++ drop (a + (n - 1 - p)) xs)) p x) s
      ∙ ap (λ a. set (take (suc p) xs ++ (take (n - 1 - p) (drop p xs) ++ drop a xs)) p x) r
      ∙ moved p (n - 1 - p) (n - 1) xs (drop n xs) x (omega arith) (omega arith)

  long : length (insert (take (n - 1) xs) p x) ≡ n
  long = let t = length-take-le (n - 1) xs (omega arith) in let l = length-insert (take (n - 1) xs) p x (omega arith) in omega arith

  pub put-items : (old ys : List X) → old ≡ xs → ys ≡ copy_within old p (n - 1) (p + 1) → take n (set ys p x) ≡ take (length xs) (insert (take k xs) at x)
  put-items old ys same after =
      let s : suc (n - 1) ≡ n = omega arith in
      let t = length-take-le k xs within in
      ap (λ l. take n (set l p x)) (after ∙ ap (λ l. copy_within l p (n - 1) (p + 1)) same)
      ∙ ap (take n) put ∙ take_at (insert (take (n - 1) xs) p x) (drop n xs) n long ∙ sym (cut_inserted p (n - 1) xs x (omega arith)) ∙ ap (λ j. take j (insert xs p x)) s
      ∙ inserted_first p k n xs x (omega arith) within end ∙ ap (take (length xs)) (insert_min (take k xs) at p x (omega arith))

  pub put-rest : (old ys : List X) → old ≡ xs → ys ≡ copy_within old p (n - 1) (p + 1) → drop n (set ys p x) ≡ drop 1 (drop k xs)
  put-rest old ys same after =
      ap (λ l. drop n (set l p x)) (after ∙ ap (λ l. copy_within l p (n - 1) (p + 1)) same)
      ∙ ap (drop n) put ∙ drop_at (insert (take (n - 1) xs) p x) (drop n xs) n long ∙ next-unused k n xs end
