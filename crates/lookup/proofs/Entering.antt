-- Entering a key in the free slot that ends the search for it: every other search goes on as before.
use Rattle.std.proofs.Common.{◌≡◌, ℕ, zero, suc, ◌<◌, Bool, true, false, cond, ◌≢◌, List, length, get_or, set, Some, sym, refl, ap, ◌∙◌, subst, inl, inr, arith, length-set, get_or-set_other, get_or-set_same, None}
use Rattle.std.proofs.lemmas.Option.{same_Some}
use Rattle.std.proofs.lemmas.Bool.{cases_eq, eq-eqb, eqb-true}
use Rattle.model.specs.Keys.{eq_list}
use Rattle.model.proofs.Keys.{same_refl, same-eq}
use Rattle.lookup.specs.Slots.{Place, Found, Open, Nowhere, Slot, probed_from, probed, found, value_at, after, judged}
use Rattle.lookup.specs.Entries.{found_at, own, Tidy, with_entry}
use Rattle.lookup.proofs.Probed.{probe_found}
use Rattle.lookup.proofs.Passed.{found-has}

at-found : (p : Place) (q : ℕ) → found_at p ≡ suc q → (w : ℕ) × (p ≡ Found q w)
at-found (Found i v) q e = let h : i ≡ q = omega arith in (v, rw h refl)
at-found (Open i) q e = absurd (omega arith)
at-found Nowhere q e = absurd (omega arith)

module _ {K : Type 0} (mean : K → List ℕ) (m : List ℕ) (j : ℕ) where
  still_found : (s : Slot K) (rest next : Place) (p w : ℕ) → (rest ≡ Found p w → next ≡ Found p w) → judged mean m j s rest ≡ Found p w → judged mean m j s next ≡ Found p w
  still_found None rest next p w f h = h
  still_found (Some (k, v)) rest next p w f h = go (eq_list (mean k) m) h
    where
      go : (b : Bool) → cond b (Found j v) rest ≡ Found p w → cond b (Found j v) next ≡ Found p w
      go true g = g
      go false g = f g

  now_found : (s : Slot K) (rest next : Place) (i v : ℕ) → j ≢ i → (rest ≡ Open i → next ≡ Found i v) → judged mean m j s rest ≡ Open i → judged mean m j s next ≡ Found i v
  now_found None rest next i v ne f h = let e : j ≡ i = cc in absurd (ne e)
  now_found (Some (k, u)) rest next i v ne f h = go (eq_list (mean k) m) h
    where
      go : (b : Bool) → cond b (Found j u) rest ≡ Open i → cond b (Found j u) next ≡ Found i v
      go true g = cc
      go false g = f g

  was_free : (slots : List (Slot K)) (s : Slot K) (rest : Place) (i : ℕ) → get_or slots j None ≡ s → (rest ≡ Open i → get_or slots i None ≡ None)
      → judged mean m j s rest ≡ Open i → get_or slots i None ≡ None
  was_free slots None rest i e f h = let q : j ≡ i = cc in subst (λ n. get_or slots n None ≡ None) q e
  was_free slots (Some (k, u)) rest i e f h = go (eq_list (mean k) m) h
    where
      go : (b : Bool) → cond b (Found j u) rest ≡ Open i → get_or slots i None ≡ None
      go true g = cc
      go false g = f g

module _ {K : Type 0} (mean : K → List ℕ) (m : List ℕ) (slots : List (Slot K)) (i : ℕ) where
  pub open_free : (f j : ℕ) → probed_from mean slots m f j ≡ Open i → get_or slots i None ≡ None
  unfolding probed_from
  open_free zero j h = cc
  open_free (suc f) j h = was_free mean m j slots (get_or slots j None) (probed_from mean slots m f (after (length slots) j)) i refl (open_free f (after (length slots) j)) h

  module _ (k : K) (v : ℕ) where
    found-stays : get_or slots i None ≡ None → (f j p w : ℕ) → probed_from mean slots m f j ≡ Found p w → probed_from mean (set slots i (Some (k, v))) m f j ≡ Found p w
    unfolding probed_from
    found-stays free zero j p w h = cc
    found-stays free (suc f) j p w h =
        elim (cases_eq j i) [
          | inl e ↦
              (let z : get_or slots j None ≡ None = rw e free in
              let y : Open j ≡ Found p w = sym (ap (λ s. judged mean m j s (probed_from mean slots m f (after (length slots) j))) z) ∙ h in
              cc)
          | inr ne ↦ rw (get_or-set_other slots i j (Some (k, v)) None ne, length-set slots i (Some (k, v)))
              (still_found mean m j (get_or slots j None) _ _ p w (found-stays free f (after (length slots) j) p w) h)
        ]

    open_found : i < length slots → eq_list (mean k) m ≡ true → (f j : ℕ) → probed_from mean slots m f j ≡ Open i → probed_from mean (set slots i (Some (k, v))) m f j ≡ Found i v
    unfolding probed_from
    open_found lt same zero j h = cc
    open_found lt same (suc f) j h =
        elim (cases_eq j i) [
          | inl e ↦
              (let z : get_or (set slots i (Some (k, v))) j None ≡ Some (k, v) = rw e (get_or-set_same slots i (Some (k, v)) None lt) in
              probe_found mean (set slots i (Some (k, v))) m f j k v z same ∙ ap (λ n. Found n v) e)
          | inr ne ↦ rw (get_or-set_other slots i j (Some (k, v)) None ne, length-set slots i (Some (k, v)))
              (now_found mean m j (get_or slots j None) _ _ i v ne (open_found lt same f (after (length slots) j)) h)
        ]

module _ {K : Type 0} (mean : K → List ℕ) (first : List ℕ → ℕ → ℕ) (slots : List (Slot K)) (i : ℕ) (k : K) (v : ℕ) where
  stays : get_or slots i None ≡ None → (q : List ℕ) (p w : ℕ) → probed mean first slots q ≡ Found p w → probed mean first (set slots i (Some (k, v))) q ≡ Found p w
  stays free q p w h = rw (length-set slots i (Some (k, v))) (found-stays mean q slots i k v free (length slots) (first q (length slots)) p w h)

  -- a taken slot is still where the search for its key ends
  own-stays : get_or slots i None ≡ None → (p : ℕ) (s : Slot K) → own mean first slots p s ≡ true → own mean first (set slots i (Some (k, v))) p s ≡ true
  own-stays free p None h = refl
  own-stays free p (Some (l, u)) h =
      let r = at-found (probed mean first slots (mean l)) p (eqb-true _ _ h) in
      eq-eqb _ _ (ap found_at (stays free (mean l) p r.0 r.1))

  module _ (lt : i < length slots) (o : probed mean first slots (mean k) ≡ Open i) where
    pub was_open : get_or slots i None ≡ None
    was_open = open_free mean (mean k) slots i (length slots) (first (mean k) (length slots)) o

    its_own : (q : List ℕ) → eq_list (mean k) q ≡ true → probed mean first (set slots i (Some (k, v))) q ≡ Found i v
    its_own q same =
        rw (length-set slots i (Some (k, v)))
        (open_found mean q slots i k v lt same (length slots) (first q (length slots)) (ap (probed mean first slots) (sym (same-eq (mean k) q same)) ∙ o))

    pub open_tidy : Tidy mean first slots → Tidy mean first (set slots i (Some (k, v)))
    open_tidy t p =
        elim (cases_eq p i) [
          | inl e ↦
              (let z : get_or (set slots i (Some (k, v))) p None ≡ Some (k, v) = rw e (get_or-set_same slots i (Some (k, v)) None lt) in
              rw z (eq-eqb _ _ (ap found_at (its_own (mean k) (same_refl (mean k))) ∙ ap suc (sym e))))
          | inr ne ↦ rw (get_or-set_other slots i p (Some (k, v)) None ne) (own-stays was_open p (get_or slots p None) (t p))
        ]

    -- of another key, what is found was found before, since a tidy table has it nowhere else
    was_found : Tidy mean first slots → (q : List ℕ) → eq_list (mean k) q ≡ false → (p w : ℕ) → probed mean first (set slots i (Some (k, v))) q ≡ Found p w
        → (u : ℕ) × (probed mean first slots q ≡ Found p u)
    was_found t q other p w h =
        let r = found-has mean q (set slots i (Some (k, v))) (length (set slots i (Some (k, v)))) (first q (length (set slots i (Some (k, v))))) p w h in
        elim (cases_eq p i) [
          | inl e ↦
              (let z : ◌≡◌ {A = Slot K} (Some (k, v)) (Some (r.0, w)) = sym (get_or-set_same slots i (Some (k, v)) None lt) ∙ ap (λ n. get_or (set slots i (Some (k, v))) n None) (sym e) ∙ r.1.0 in
              let y : k ≡ r.0 = ap (λ s. s.0) (same_Some _ _ z) in
              let x : true ≡ false = sym (ap (λ l. eq_list (mean l) q) y ∙ r.1.1) ∙ other in
              let n : ◌≡◌ {A = ℕ} 0 1 = cc in
              absurd (omega arith))
          | inr ne ↦
              (let z : get_or slots p None ≡ Some (r.0, w) = sym (get_or-set_other slots i p (Some (k, v)) None ne) ∙ r.1.0 in
              let o' : own mean first slots p (Some (r.0, w)) ≡ true = sym (ap (own mean first slots p) z) ∙ t p in
              let a = at-found (probed mean first slots (mean r.0)) p (eqb-true _ _ o') in
              (a.0, ap (probed mean first slots) (sym (same-eq (mean r.0) q r.1.1)) ∙ a.1))
        ]

    pub open_gives : Tidy mean first slots → (q : List ℕ) → found mean first (set slots i (Some (k, v))) q ≡ with_entry (mean k) v (found mean first slots) q
    open_gives t q = go (eq_list (mean k) q) refl
      where
        -- by what was found before, and what is found now
        both : eq_list (mean k) q ≡ false → (p p' : Place) → probed mean first slots q ≡ p → probed mean first (set slots i (Some (k, v))) q ≡ p' → value_at p' ≡ value_at p
        both other (Found a w) p' e e' = ap value_at (sym e' ∙ stays was_open q a w e)
        both other (Open a) (Found b w) e e' = let r = was_found t q other b w e' in let z : ◌≡◌ {A = ℕ} 0 1 = cc r.1 in absurd (omega arith)
        both other (Open a) (Open b) e e' = refl
        both other (Open a) Nowhere e e' = refl
        both other Nowhere (Found b w) e e' = let r = was_found t q other b w e' in let z : ◌≡◌ {A = ℕ} 0 1 = cc r.1 in absurd (omega arith)
        both other Nowhere (Open b) e e' = refl
        both other Nowhere Nowhere e e' = refl

        go : (b : Bool) → eq_list (mean k) q ≡ b → found mean first (set slots i (Some (k, v))) q ≡ cond b (Some v) (found mean first slots q)
        go true same = ap value_at (its_own q same)
        go false other = both other (probed mean first slots q) (probed mean first (set slots i (Some (k, v))) q) refl refl
