-- Rows read newest first, as they are stored.
use Rattle.std.proofs.Common.{◌≡◌, ℕ, zero, suc, ◌+◌, ◌*◌, ◌<◌, ◌⊎◌, List, [], ◌∷◌, map, length, get_or, take, drop, set, sym, refl, ap, ◌∙◌, ap₂, ⊎_elim, add-one, arith, get_or-set_other, get_or-set_same}
use Rattle.std.proofs.lemmas.Bool.{cases_eq, eq-eqb, ne_eqb}
use Rattle.model.specs.Graphs.{at}
use Rattle.cuts.specs.declared.cut.Cut.{Cut}
use Rattle.cuts.specs.Meaning.{meaning}
use Rattle.search.specs.declared.rows.ReducedRow.{ReducedRow}
use Rattle.sweeper.specs.Tables.{newest, kept_from, no_reduced}

module _ {A B : Type 0} (f : A → B) (d : A) where
  pub newest-length : (rows : List A) (n : ℕ) → length (newest f d rows n) ≡ n
  unfolding newest
  newest-length rows zero = refl
  newest-length rows (suc n) = ap suc (newest-length rows n)

  -- a row that is not among the first n, or tells the same
  pub newest-set : (rows : List A) (i : ℕ) (r : A) (n : ℕ) → (i < n → f r ≡ f (get_or rows i d)) → i < length rows → newest f d (set rows i r) n ≡ newest f d rows n
  unfolding newest
  newest-set rows i r zero h k = refl
  newest-set rows i r (suc n) h k =
      ap₂ (λ x xs. x ∷ xs) (one (cases_eq n i)) (newest-set rows i r n (λ l. h (omega arith)) k)
    where
      one : (n ≡ i) ⊎ (n ≡ i → ⊥) → f (get_or (set rows i r) n d) ≡ f (get_or rows n d)
      one s = ⊎_elim
          (λ (e : n ≡ i). ap (λ m. f (get_or (set rows i r) m d)) e ∙ ap f (get_or-set_same rows i r d k) ∙ h (omega arith) ∙ ap (λ m. f (get_or rows m d)) (sym e))
          (λ (e : n ≡ i → ⊥). ap f (get_or-set_other rows i n r d e)) s

  -- one row more
  pub newest-push : (rows : List A) (r : A) (n : ℕ) → n < length rows → newest f d (set rows n r) (n + 1) ≡ f r ∷ newest f d rows n
  unfolding newest
  newest-push rows r n h =
      ap (newest f d (set rows n r)) (add-one n)
      ∙ ap₂ (λ x xs. x ∷ xs) (ap f (get_or-set_same rows n r d h)) (newest-set rows n r n (λ l. absurd (omega arith)) h)

  pub newest-at : (e : B) (rows : List A) (n k : ℕ) → k < n → at e (newest f d rows n) (suc k) ≡ f (get_or rows k d)
  unfolding newest
  newest-at e rows zero k h = absurd (omega arith)
  newest-at e rows (suc n) k h = ⊎_elim
      (λ (z : k ≡ n). rw (eq-eqb (suc k) (suc (length (newest f d rows n))) (ap suc (z ∙ sym (newest-length rows n)))) (ap (λ m. f (get_or rows m d)) (sym z)))
      (λ (z : k ≡ n → ⊥). rw (ne_eqb (suc k) (suc (length (newest f d rows n))) (λ q. z (omega (arith, q, newest-length rows n)))) (newest-at e rows n k (omega arith)))
      (cases_eq k n)

-- ---- kept cuts
pub kept-length : (cuts : List Cut) (rows : List ReducedRow) (n : ℕ) → length (kept_from cuts rows n) ≡ n
unfolding kept_from
kept-length cuts rows zero = refl
kept-length cuts rows (suc n) = ap suc (kept-length cuts rows n)

-- a row that is not among the first n, or keeps as many
pub kept_set : (cuts : List Cut) (rows : List ReducedRow) (i : ℕ) (r : ReducedRow) (n : ℕ) → (i < n → r.kept ≡ (get_or rows i no_reduced).kept) → i < length rows
    → kept_from cuts (set rows i r) n ≡ kept_from cuts rows n
unfolding kept_from
kept_set cuts rows i r zero h k = refl
kept_set cuts rows i r (suc n) h k = ap₂ (λ m xs. map meaning (take m (drop (4 * n) cuts)) ∷ xs) (one (cases_eq n i)) (kept_set cuts rows i r n (λ l. h (omega arith)) k)
  where
    one : (n ≡ i) ⊎ (n ≡ i → ⊥) → (get_or (set rows i r) n no_reduced).kept ≡ (get_or rows n no_reduced).kept
    one s = ⊎_elim
        (λ (e : n ≡ i). ap (λ m. (get_or (set rows i r) m no_reduced).kept) e ∙ ap (λ x. x.kept) (get_or-set_same rows i r no_reduced k) ∙ h (omega arith) ∙ ap (λ m. (get_or rows m no_reduced).kept) (sym e))
        (λ (e : n ≡ i → ⊥). ap (λ x. x.kept) (get_or-set_other rows i n r no_reduced e)) s

-- one row more
pub kept_push : (cuts : List Cut) (rows : List ReducedRow) (r : ReducedRow) (n : ℕ) → n < length rows
    → kept_from cuts (set rows n r) (n + 1) ≡ map meaning (take r.kept (drop (4 * n) cuts)) ∷ kept_from cuts rows n
unfolding kept_from
kept_push cuts rows r n h =
    ap (kept_from cuts (set rows n r)) (add-one n)
    ∙ ap₂ (λ m xs. map meaning (take m (drop (4 * n) cuts)) ∷ xs) (ap (λ x. x.kept) (get_or-set_same rows n r no_reduced h)) (kept_set cuts rows n r n (λ l. absurd (omega arith)) h)

pub kept_at : (cuts : List Cut) (rows : List ReducedRow) (n k : ℕ) → k < n → at [] (kept_from cuts rows n) (suc k) ≡ map meaning (take (get_or rows k no_reduced).kept (drop (4 * k) cuts))
unfolding kept_from
kept_at cuts rows zero k h = absurd (omega arith)
kept_at cuts rows (suc n) k h = ⊎_elim
    (λ (z : k ≡ n). rw (eq-eqb (suc k) (suc (length (kept_from cuts rows n))) (ap suc (z ∙ sym (kept-length cuts rows n)))) (ap (λ m. map meaning (take (get_or rows m no_reduced).kept (drop (4 * m) cuts))) (sym z)))
    (λ (z : k ≡ n → ⊥). rw (ne_eqb (suc k) (suc (length (kept_from cuts rows n))) (λ q. z (omega (arith, q, kept-length cuts rows n)))) (kept_at cuts rows n k (omega arith)))
    (cases_eq k n)
