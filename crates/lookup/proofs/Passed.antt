-- What the end of a search says of the slots that it passed.
use Rattle.std.proofs.Common.{◌≡◌, ℕ, zero, suc, ◌+◌, ◌-◌, ◌<◌, ◌≤◌, Bool, true, false, cond, List, length, get_or, sym, refl, ap, ◌∙◌, inl, inr, arith, Some, None}
use Rattle.std.proofs.lemmas.Bool.{cases_eq, cases_lt, lt-ltb, le-ltb}
use Rattle.model.specs.Keys.{eq_list}
use Rattle.lookup.specs.Slots.{Place, Found, Nowhere, Slot, probed_from, after, judged, Inside}

pub after_in : (n i : ℕ) → i + 1 < n → after n i ≡ i + 1
after_in n i h = ap (λ t. cond t (i + 1) 0) (lt-ltb (i + 1) n h)

pub after-out : (n i : ℕ) → n ≤ i + 1 → after n i ≡ 0
after-out n i h = ap (λ t. cond t (i + 1) 0) (le-ltb (i + 1) n h)

after-within : (n i : ℕ) → i < n → after n i < n
after-within n i h = elim (cases_lt (i + 1) n) [ inl l ↦ omega (arith, after_in n i l) | inr l ↦ omega (arith, after-out n i l) ]

module _ {K : Type 0} (mean : K → List ℕ) (m : List ℕ) (slots : List (Slot K)) where
  -- slot p has the meaning sought, with the value w
  abbrev pub Has : ℕ → ℕ → Type 0
  Has p w = (k : K) × ((get_or slots p None ≡ Some (k, w)) × (eq_list (mean k) m ≡ true))

  has-step : (j : ℕ) (s : Slot K) (rest : Place) (p w : ℕ) → get_or slots j None ≡ s → (rest ≡ Found p w → Has p w) → judged mean m j s rest ≡ Found p w → Has p w
  has-step j None rest p w e f h = let z : ◌≡◌ {A = ℕ} 0 1 = cc in absurd (omega arith)
  has-step j (Some (k, v)) rest p w e f h = go (eq_list (mean k) m) refl h
    where
      go : (b : Bool) → eq_list (mean k) m ≡ b → cond b (Found j v) rest ≡ Found p w → Has p w
      go true same g = let a : get_or slots p None ≡ Some (k, w) = cc in (k, (a, same))
      go false other g = f g

  pub found-has : (f j p w : ℕ) → probed_from mean slots m f j ≡ Found p w → Has p w
  unfolding probed_from
  found-has zero j p w h = let z : ◌≡◌ {A = ℕ} 0 1 = cc in absurd (omega arith)
  found-has (suc f) j p w h = has-step j (get_or slots j None) (probed_from mean slots m f (after (length slots) j)) p w refl (found-has f (after (length slots) j) p w) h

  -- a search that came to nothing passed slot j
  passed : (j : ℕ) (s : Slot K) (rest : Place) → judged mean m j s rest ≡ Nowhere → (s ≡ None → ⊥) × (rest ≡ Nowhere)
  passed j None rest h = let z : ◌≡◌ {A = ℕ} 0 1 = cc in absurd (omega arith)
  passed j (Some (k, v)) rest h = go (eq_list (mean k) m) h
    where
      go : (b : Bool) → cond b (Found j v) rest ≡ Nowhere → (◌≡◌ {A = Slot K} (Some (k, v)) None → ⊥) × (rest ≡ Nowhere)
      go true g = let z : ◌≡◌ {A = ℕ} 0 1 = cc in absurd (omega arith)
      go false g = ((λ e. let z : ◌≡◌ {A = ℕ} 0 1 = cc in omega arith), g)

  -- no slot was free from i up to the last, and then none from slot 0
  none-up : (f i j : ℕ) → probed_from mean slots m f i ≡ Nowhere → i ≤ j → j < i + f → j < length slots → get_or slots j None ≡ None → ⊥
  unfolding probed_from
  none-up zero i j h le lt b e = omega arith
  none-up (suc f) i j h le lt b e =
      let p = passed i (get_or slots i None) (probed_from mean slots m f (after (length slots) i)) h in
      elim (cases_eq i j) [
        | inl q ↦ p.0 (ap (λ n. get_or slots n None) q ∙ e)
        | inr ne ↦
            (let up : i + 1 ≤ j = omega arith in
            none-up f (i + 1) j (ap (probed_from mean slots m f) (sym (after_in (length slots) i (omega arith))) ∙ p.1) up (omega arith) b e)
      ]

  none_round : (f i j : ℕ) → probed_from mean slots m f i ≡ Nowhere → i < length slots → j < i → (length slots - i) + j < f → get_or slots j None ≡ None → ⊥
  unfolding probed_from
  none_round zero i j h b lt far e = omega arith
  none_round (suc f) i j h b lt far e =
      let p = passed i (get_or slots i None) (probed_from mean slots m f (after (length slots) i)) h in
      elim (cases_lt (i + 1) (length slots)) [
        | inl low ↦ none_round f (i + 1) j (ap (probed_from mean slots m f) (sym (after_in (length slots) i low)) ∙ p.1) low (omega arith) (omega arith) e
        | inr out ↦ none-up f 0 j (ap (probed_from mean slots m f) (sym (after-out (length slots) i out)) ∙ p.1) (omega arith) (omega arith) (omega arith) e
      ]

  -- through all slots
  pub none_free : (i : ℕ) → i < length slots → probed_from mean slots m (length slots) i ≡ Nowhere → (j : ℕ) → j < length slots → get_or slots j None ≡ None → ⊥
  none_free i b h j lt e =
      elim (cases_lt j i) [
        | inl low ↦ none_round (length slots) i j h b low (omega arith) e
        | inr up ↦ none-up (length slots) i j h up (omega arith) lt e
      ]

  inside-step : (n j : ℕ) (s : Slot K) (rest : Place) → j < n → Inside n rest → Inside n (judged mean m j s rest)
  inside-step n j None rest l r = l
  inside-step n j (Some (k, v)) rest l r = go (eq_list (mean k) m)
    where
      go : (b : Bool) → Inside n (cond b (Found j v) rest)
      go true = l
      go false = r

  pub inside-from : (f j : ℕ) → j < length slots → Inside (length slots) (probed_from mean slots m f j)
  unfolding probed_from
  inside-from zero j l = tt
  inside-from (suc f) j l =
      inside-step (length slots) j (get_or slots j None) (probed_from mean slots m f (after (length slots) j)) l
      (inside-from f (after (length slots) j) (after-within (length slots) j l))
