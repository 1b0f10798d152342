-- The texts next to a text, one after another.
use Rattle.std.proofs.Common.{◌≡◌, ℕ, ◌+◌, Bool, true, false, cond, eqb, List, [], ◌∷◌, ◌++◌, slice_index, slice_set, take, refl, add-one, ap, sym, subst, ◌∙◌}
use Rattle.std.proofs.lemmas.Bool.{eq-eqb, ne_eqb}
use Rattle.std.proofs.lemmas.List.{append-nil, append_assoc}
use Rattle.std.proofs.lemmas.Fn.{FoldsTo-push}
use Rattle.std.specs.List.{FoldsTo}
use Rattle.nearby.specs.Texts.{changed, changed_at, shortened}

-- the texts before one byte of a place
abbrev pub before : List ℕ → ℕ → ℕ → List (List ℕ)
before text i b = changed text i ++ changed_at text i b

abbrev one_more : List ℕ → ℕ → ℕ → Bool → List (List ℕ)
one_more text i b same = changed_at text i b ++ cond same [] (slice_set text i b ∷ [])

before-zero : (text : List ℕ) (i : ℕ) → before text i 0 ≡ changed text i
unfolding changed_at
before-zero text i = append-nil (changed text i)

before-more : (text : List ℕ) (i b : ℕ) (same : Bool) → eqb b (slice_index text i) ≡ same → before text i (b + 1) ≡ changed text i ++ one_more text i b same
unfolding changed_at
before-more text i b same e = ap (before text i) (add-one b) ∙ ap (λ t. changed text i ++ one_more text i b t) e

module _ {P : Type 0} (R : P → List ℕ → P → Type 0) (p q : P) (text : List ℕ) (i b : ℕ) where
  pub first_byte : FoldsTo R p (changed text i) q → FoldsTo R p (before text i 0) q
  first_byte h = subst (λ xs. FoldsTo R p xs q) (sym (before-zero text i)) h

  pub same_byte : b ≡ slice_index text i → FoldsTo R p (before text i b) q → FoldsTo R p (before text i (b + 1)) q
  same_byte e h = subst (λ xs. FoldsTo R p xs q)
      (sym (before-more text i b true (eq-eqb _ _ e) ∙ ap (λ xs. changed text i ++ xs) (append-nil (changed_at text i b)))) h

  pub other_byte : (u : P) → (b ≡ slice_index text i → ⊥) → FoldsTo R p (before text i b) q → R q (slice_set text i b) u → FoldsTo R p (before text i (b + 1)) u
  other_byte u ne h r = subst (λ xs. FoldsTo R p xs u)
      (append_assoc (changed text i) (changed_at text i b) (slice_set text i b ∷ []) ∙ sym (before-more text i b false (ne_eqb _ _ ne)))
      (FoldsTo-push R p (before text i b) q (slice_set text i b) u h r)

  pub last_byte : b ≡ 255 → FoldsTo R p (before text i (b + 1)) q → FoldsTo R p (changed text (i + 1)) q
  unfolding changed
  last_byte e h = subst (λ xs. FoldsTo R p xs q) (ap (λ n. before text i (n + 1)) e ∙ sym (ap (changed text) (add-one i))) h

module _ {P : Type 0} (R : P → List ℕ → P → Type 0) (p : P) (text : List ℕ) where
  pub no_change : FoldsTo R p (changed text 0) p
  unfolding changed
  no_change = refl

  pub no_front : FoldsTo R p (shortened text 0) p
  unfolding shortened
  no_front = refl

  pub one_front : (q u : P) (n : ℕ) → FoldsTo R p (shortened text n) q → R q (take n text) u → FoldsTo R p (shortened text (n + 1)) u
  unfolding shortened
  one_front q u n h r = subst (λ xs. FoldsTo R p xs u) (sym (ap (shortened text) (add-one n))) (FoldsTo-push R p (shortened text n) q (take n text) u h r)
