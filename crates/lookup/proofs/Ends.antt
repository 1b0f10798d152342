-- A search in two parts: the slots from its first on, and then those before it. What the slot at which it ends says of it.
use Rattle.std.proofs.Common.{◌≡◌, ℕ, zero, suc, ◌+◌, ◌-◌, ◌<◌, ◌≤◌, Bool, true, false, cond, not, ltb, List, [], ◌∷◌, length, get_or, take, drop, Some, None, Option, is_some, option_map, ◌⊎◌, sym, refl, ap, ◌∙◌, inl, inr, arith}
use Rattle.std.specs.List.{position_or_len, position}
use Rattle.std.proofs.lemmas.List.{drop_more, drop_all}
use Rattle.std.proofs.lemmas.Bool.{cases_lt, lt-ltb, le-ltb, false≢true}
use Rattle.std.proofs.lemmas.Option.{same_Some}
use Rattle.model.specs.Keys.{eq_list}
use Rattle.lookup.specs.Slots.{Place, Found, Open, Nowhere, Slot, probed_from, probed, after, judged, ends, slot_at, value_at}
use Rattle.lookup.proofs.Passed.{after_in, after-out, found-has}
use Rattle.lookup.proofs.Entering.{open_free}

some_part : (b : Bool) (p i turn : ℕ) (rest : Option ℕ) → cond b (Some p) None ≡ Some turn → cond b (Some (i + p)) rest ≡ Some (i + turn)
some_part true p i turn rest e = ap (λ n. Some (i + n)) (same_Some p turn e)
some_part false p i turn rest e = cc

none_part : (b : Bool) (p i : ℕ) (rest : Option ℕ) → cond b (Some p) None ≡ None → cond b (Some (i + p)) rest ≡ rest
none_part true p i rest e = cc
none_part false p i rest e = refl

module _ {K : Type 0} (mean : K → List ℕ) (m : List ℕ) where
  -- the first of some slots, counted from i on, that ends the search, and otherwise what the rest of it comes to
  abbrev end_from : ℕ → List (Slot K) → Option ℕ → Option ℕ
  end_from i [] rest = rest
  end_from i (s ∷ ss) rest = cond (ends mean m s) (Some i) (end_from (i + 1) ss rest)

  by_position : (i : ℕ) (xs : List (Slot K)) (rest : Option ℕ)
      → end_from i xs rest ≡ cond (ltb (position_or_len (ends mean m) xs) (length xs)) (Some (i + position_or_len (ends mean m) xs)) rest
  by_position i [] rest = refl
  by_position i (x ∷ xs) rest = go (by_position (i + 1) xs rest) (ends mean m x)
    where
      p : ℕ
      p = position_or_len (ends mean m) xs

      go : end_from (i + 1) xs rest ≡ cond (ltb p (length xs)) (Some (i + 1 + p)) rest
          → (b : Bool) → cond b (Some i) (end_from (i + 1) xs rest) ≡ cond (ltb (cond (not b) (1 + p) 0) (suc (length xs))) (Some (i + cond (not b) (1 + p) 0)) rest
      go later true = let s : i ≡ i + 0 = omega arith in ap Some s ∙ ap (λ t. cond t (Some (i + 0)) rest) (sym (lt-ltb 0 (suc (length xs)) (omega arith)))
      go later false =
          let s : i + 1 + p ≡ i + (1 + p) = omega arith in
          let t : ltb p (length xs) ≡ ltb (1 + p) (suc (length xs)) =
          elim (cases_lt p (length xs)) [
            | inl l ↦ lt-ltb p (length xs) l ∙ sym (lt-ltb (1 + p) (suc (length xs)) (omega arith))
            | inr l ↦ le-ltb p (length xs) l ∙ sym (le-ltb (1 + p) (suc (length xs)) (omega arith))
          ] in
          later ∙ ap (λ b. cond b (Some (i + 1 + p)) rest) t ∙ ap (λ n. cond (ltb (1 + p) (suc (length xs))) (Some n) rest) s

  judged-ends : (i : ℕ) (s : Slot K) (rest : Place) → slot_at (judged mean m i s rest) ≡ cond (ends mean m s) (Some i) (slot_at rest)
  judged-ends i None rest = refl
  judged-ends i (Some (k, v)) rest = go (eq_list (mean k) m)
    where
      go : (b : Bool) → slot_at (cond b (Found i v) rest) ≡ cond b (Some i) (slot_at rest)
      go true = refl
      go false = refl

  module _ (slots : List (Slot K)) where
    -- the slot at which a search from i on through f slots ends
    abbrev end : ℕ → ℕ → Option ℕ
    end f i = slot_at (probed_from mean slots m f i)

    none-left : (i : ℕ) → end 0 i ≡ None
    unfolding probed_from
    none-left i = refl

    end-step : (f i : ℕ) → end (suc f) i ≡ cond (ends mean m (get_or slots i None)) (Some i) (end f (after (length slots) i))
    unfolding probed_from
    end-step f i = judged-ends i (get_or slots i None) (probed_from mean slots m f (after (length slots) i))

    -- through the last slot, and on from slot 0
    to_last : (f r i t : ℕ) → t ≡ f + r → i + suc f ≡ length slots → end (suc t) i ≡ end_from i (drop i slots) (end r 0)
    to_last zero r i t e h =
        let s = get_or slots i None in
        let q : t ≡ r = omega arith in
        end-step t i ∙ ap (λ j. cond (ends mean m s) (Some i) (end t j)) (after-out (length slots) i (omega arith)) ∙ ap (λ n. cond (ends mean m s) (Some i) (end n 0)) q
        ∙ sym (ap (λ l. end_from i l (end r 0)) (drop_more slots i None (omega arith) ∙ ap (λ l. s ∷ l) (drop_all (i + 1) slots (omega arith))))
    to_last (suc f) r i zero e h = absurd (omega arith)
    to_last (suc f) r i (suc t) e h =
        let s = get_or slots i None in
        end-step (suc t) i ∙ ap (λ j. cond (ends mean m s) (Some i) (end (suc t) j)) (after_in (length slots) i (omega arith))
        ∙ ap (cond (ends mean m s) (Some i)) (to_last f r (i + 1) t (omega arith) (omega arith)) ∙ sym (ap (λ l. end_from i l (end r 0)) (drop_more slots i None (omega arith)))

    -- through r slots before the last
    through : (r j : ℕ) → j + r ≤ length slots → end r j ≡ end_from j (take r (drop j slots)) None
    through zero j h = none-left j
    through (suc zero) j h =
        end-step 0 j ∙ ap (cond (ends mean m (get_or slots j None)) (Some j)) (none-left (after (length slots) j))
        ∙ sym (ap (λ l. end_from j (take 1 l) None) (drop_more slots j None (omega arith)))
    through (suc (suc r)) j h =
        let s = get_or slots j None in
        end-step (suc r) j ∙ ap (λ i. cond (ends mean m s) (Some j) (end (suc r) i)) (after_in (length slots) j (omega arith))
        ∙ ap (cond (ends mean m s) (Some j)) (through (suc r) (j + 1) (omega arith)) ∙ sym (ap (λ l. end_from j (take (suc (suc r)) l) None) (drop_more slots j None (omega arith)))

    in_parts : (i : ℕ) → i < length slots → end (length slots) i ≡ end_from i (drop i slots) (end_from 0 (take i slots) None)
    in_parts i h =
        let n = length slots in
        let s : n ≡ suc (n - 1) = omega arith in
        ap (λ f. end f i) s ∙ to_last (n - 1 - i) i i (n - 1) (omega arith) (omega arith) ∙ ap (end_from i (drop i slots)) (through i 0 (omega arith))

module _ {K : Type 0} (mean : K → List ℕ) (first : List ℕ → ℕ → ℕ) (law : (m : List ℕ) (n : ℕ) → 0 < n → first m n < n) (none : (m : List ℕ) → first m 0 ≡ 0) (m : List ℕ) where
  parts : (slots : List (Slot K)) → slot_at (probed mean first slots m) ≡ end_from mean m (first m (length slots)) (drop (first m (length slots)) slots) (end_from mean m 0 (take (first m (length slots)) slots) None)
  parts [] = none-left mean m [] (first m 0) ∙ ap (λ i. end_from mean m i (drop i []) (end_from mean m 0 (take i []) None)) (sym (none m))
  parts (s ∷ ss) = in_parts mean m (s ∷ ss) (first m (length (s ∷ ss))) (law m (length (s ∷ ss)) (omega arith))

  module _ (slots : List (Slot K)) (i : ℕ) (is : i ≡ first m (length slots)) where
    -- it ends among the slots from its first on
    here : slot_at (probed mean first slots m) ≡ end_from mean m i (drop i slots) (end_from mean m 0 (take i slots) None)
    here = parts slots ∙ ap (λ j. end_from mean m j (drop j slots) (end_from mean m 0 (take j slots) None)) (sym is)

    pub ends_on : (turn : ℕ) → position (ends mean m) (drop i slots) ≡ Some turn → Some (i + turn) ≡ slot_at (probed mean first slots m)
    ends_on turn e =
        let rest = end_from mean m 0 (take i slots) None in
        sym (some_part _ _ i turn rest e) ∙ sym (by_position mean m i (drop i slots) rest) ∙ sym here

    -- it does not, and then comes to what it comes to before
    pub ends_before : position (ends mean m) (drop i slots) ≡ None → position (ends mean m) (take i slots) ≡ slot_at (probed mean first slots m)
    ends_before e =
        let rest = end_from mean m 0 (take i slots) None in
        let p = position_or_len (ends mean m) (take i slots) in
        let s : p ≡ 0 + p = omega arith in
        ap (λ n. cond (ltb p (length (take i slots))) (Some n) None) s ∙ sym (by_position mean m 0 (take i slots) None) ∙ sym (none_part _ _ i rest e) ∙ sym (by_position mean m i (drop i slots) rest) ∙ sym here

module _ {K : Type 0} (mean : K → List ℕ) (first : List ℕ → ℕ → ℕ) (slots : List (Slot K)) (m : List ℕ) where
  -- by what the slot holds at which the search ended
  settled : (P : Place) (i : ℕ) → probed mean first slots m ≡ P → slot_at P ≡ Some i
      → ((k : K) × (v : ℕ) × (P ≡ Found i v) × (get_or slots i None ≡ Some (k, v))) ⊎ ((P ≡ Open i) × (get_or slots i None ≡ None))
  settled (Found j v) i e at =
      let q : j ≡ i = same_Some j i at in
      let h = found-has mean m slots (length slots) (first m (length slots)) j v e in
      inl (h.0, v, ap (λ n. Found n v) q, ap (λ n. get_or slots n None) (sym q) ∙ h.1.0)
  settled (Open j) i e at =
      let q : j ≡ i = same_Some j i at in
      inr (ap Open q, ap (λ n. get_or slots n None) (sym q) ∙ open_free mean m slots j (length slots) (first m (length slots)) e)
  settled Nowhere i e at = cc

  pub none_ends : slot_at (probed mean first slots m) ≡ None → probed mean first slots m ≡ Nowhere
  none_ends e = go (probed mean first slots m) e
    where
      go : (P : Place) → slot_at P ≡ None → P ≡ Nowhere
      go (Found j v) h = cc
      go (Open j) h = cc
      go Nowhere h = refl

  module _ (i : ℕ) (at : slot_at (probed mean first slots m) ≡ Some i) where
    pub value_there : option_map (λ e. e.1) (get_or slots i None) ≡ value_at (probed mean first slots m)
    value_there =
        elim (settled (probed mean first slots m) i refl at) [
          | inl h ↦ ap (option_map (λ e. e.1)) h.3 ∙ sym (ap value_at h.2)
          | inr h ↦ ap (option_map (λ e. e.1)) h.1 ∙ sym (ap value_at h.0)
        ]

    pub taken_there : is_some (get_or slots i None) ≡ true → (v : ℕ) × (probed mean first slots m ≡ Found i v)
    taken_there t =
        elim (settled (probed mean first slots m) i refl at) [
          | inl h ↦ (h.1, h.2)
          | inr h ↦ absurd (false≢true (sym (ap is_some h.1) ∙ t))
        ]

    pub free_there : is_some (get_or slots i None) ≡ false → probed mean first slots m ≡ Open i
    free_there t =
        elim (settled (probed mean first slots m) i refl at) [
          | inl h ↦ absurd (false≢true (sym t ∙ ap is_some h.3))
          | inr h ↦ h.0
        ]
