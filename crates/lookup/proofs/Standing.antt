-- How many slots are taken, what entering answers by that, and what the slots stand for afterwards.
use Rattle.std.proofs.Common.{◌≡◌, ℕ, zero, suc, ◌+◌, ◌<◌, ◌≤◌, cond, List, [], ◌∷◌, length, get_or, set, replicate, Some, None, Option, Ok, Err, sym, refl, ap, ◌∙◌, arith, length-set}
use Rattle.std.proofs.lemmas.Bool.{lt-ltb, le-ltb}
use Rattle.model.specs.Keys.{eq_list}
use Rattle.model.proofs.Keys.{first-none, first_one}
use Rattle.lookup.specs.declared.slot.NotEntered.TheVariants.{Full}
use Rattle.lookup.specs.Slots.{Place, Found, Open, Nowhere, Slot, probed, found, value_at, slots_after, answer_at, Inside}
use Rattle.lookup.specs.Entries.{taken_by, taken, answer_for, with_entry, Stands, Entry, entered, Holds, entries_after}
use Rattle.lookup.proofs.Probed.{probe_none, probe_free}
use Rattle.lookup.proofs.Passed.{inside-from, none_free}
use Rattle.lookup.proofs.Entering.{was_open, open_tidy, open_gives}

module _ {K : Type 0} where
  one_at_most : (s : Slot K) → taken_by s ≤ 1
  one_at_most None = omega arith
  one_at_most (Some (k, v)) = omega arith

  taken-le : (slots : List (Slot K)) → taken slots ≤ length slots
  taken-le [] = omega arith
  taken-le (s ∷ ss) = omega (arith, one_at_most s, taken-le ss)

  -- with no free slot all are taken
  all-taken : (slots : List (Slot K)) → ((j : ℕ) → j < length slots → get_or slots j None ≡ None → ⊥) → taken slots ≡ length slots
  all-taken [] h = refl
  all-taken (None ∷ ss) h = absurd (h 0 (omega arith) refl)
  all-taken (Some (k, v) ∷ ss) h = omega (arith, all-taken ss (λ j l e. h (suc j) (omega arith) e))

  taken_more : (slots : List (Slot K)) (i : ℕ) (k : K) (v : ℕ) → i < length slots → get_or slots i None ≡ None → taken (set slots i (Some (k, v))) ≡ taken slots + 1
  taken_more [] i k v l e = absurd (omega arith)
  taken_more (s ∷ ss) zero k v l e = omega (arith, ap taken_by e)
  taken_more (s ∷ ss) (suc i) k v l e = omega (arith, taken_more ss i k v (omega arith) e)

taken_none : (K : Type 0) (n : ℕ) → taken {K = K} (replicate n None) ≡ 0
taken_none K zero = refl
taken_none K (suc n) = omega (arith, taken_none K n)

free_all : (K : Type 0) (n i : ℕ) → get_or {A = Slot K} (replicate n None) i None ≡ None
free_all K zero i = refl
free_all K (suc n) zero = refl
free_all K (suc n) (suc i) = free_all K n i

module _ {K : Type 0} (mean : K → List ℕ) (first : List ℕ → ℕ → ℕ) where
  -- in free slots nothing is found
  free-gives : (n : ℕ) (q : List ℕ) → found mean first (replicate n None) q ≡ None
  free-gives zero q = ap value_at (probe_none mean [] q (first q 0))
  free-gives (suc n) q =
      let slots : List (Slot K) = replicate (suc n) None in
      let f = first q (length slots) in
      ap value_at (probe_free mean slots q (length (replicate {A = Slot K} n None)) f (free_all K (suc n) f))

  pub free-stands : (n : ℕ) → Stands mean first (replicate n None) (λ _. None) 0
  free-stands n = record { tidy = λ i. rw (free_all K n i) refl; gives = free-gives n; count = taken_none K n }

  pub free-holds : (n : ℕ) → Holds mean first (replicate n None) []
  free-holds n =
      record { tidy = λ i. rw (free_all K n i) refl; gives = λ q. free-gives n q ∙ sym (first-none (λ (e : Entry). e.key) (λ e. Some e.value) None q); count = taken_none K n }

module _ {K : Type 0} (mean : K → List ℕ) (first : List ℕ → ℕ → ℕ) (law : (m : List ℕ) (n : ℕ) → 0 < n → first m n < n) where
  inside : (slots : List (Slot K)) (m : List ℕ) → Inside (length slots) (probed mean first slots m)
  inside [] m = rw (probe_none mean [] m (first m 0)) tt
  inside (s ∷ ss) m = inside-from mean m (s ∷ ss) (length (s ∷ ss)) (first m (length (s ∷ ss))) (law m (length (s ∷ ss)) (omega arith))

  full : (slots : List (Slot K)) (m : List ℕ) → probed mean first slots m ≡ Nowhere → taken slots ≡ length slots
  full [] m h = refl
  full (s ∷ ss) m h = all-taken (s ∷ ss) (none_free mean m (s ∷ ss) (first m (length (s ∷ ss))) (law m (length (s ∷ ss)) (omega arith)) h)

  module _ (slots : List (Slot K)) (k : K) (v : ℕ) where
    within_open : (i : ℕ) → probed mean first slots (mean k) ≡ Open i → i < length slots
    within_open i o = rw o at (inside slots (mean k))

    open_count : (i : ℕ) → probed mean first slots (mean k) ≡ Open i → taken (set slots i (Some (k, v))) ≡ taken slots + 1
    open_count i o = taken_more slots i k v (within_open i o) (was_open mean first slots i k v (within_open i o) o)

    -- the answer, whatever the slots hold
    pub answers : answer_at (probed mean first slots (mean k)) ≡ answer_for (length slots) (taken slots) (found mean first slots (mean k))
    answers = go (probed mean first slots (mean k)) refl
      where
        go : (p : Place) → probed mean first slots (mean k) ≡ p → answer_at p ≡ answer_for (length slots) (taken slots) (value_at p)
        go (Found i w) e = refl
        go (Open i) e =
            let less : taken slots < length slots = omega (arith, open_count i e, taken-le (set slots i (Some (k, v))), length-set slots i (Some (k, v))) in
            ap (λ t. cond t (Ok tt) (Err Full)) (sym (lt-ltb (taken slots) (length slots) less))
        go Nowhere e = ap (λ t. cond t (Ok tt) (Err Full)) (sym (le-ltb (taken slots) (length slots) (omega (arith, full slots (mean k) e))))

    open_stands : (i : ℕ) → probed mean first slots (mean k) ≡ Open i → (look : List ℕ → Option ℕ) (n : ℕ) → Stands mean first slots look n
        → Stands mean first (set slots i (Some (k, v))) (with_entry (mean k) v look) (n + 1)
    open_stands i o look n s =
        record {
          tidy = open_tidy mean first slots i k v (within_open i o) o s.tidy;
          gives = λ q. open_gives mean first slots i k v (within_open i o) o s.tidy q ∙ ap (cond (eq_list (mean k) q) (Some v)) (s.gives q);
          count = open_count i o ∙ ap (λ c. c + 1) s.count;
        }

    -- a new key where a slot is left is entered, and nothing else changes
    pub new-stands : (look : List ℕ → Option ℕ) (n : ℕ) → Stands mean first slots look n → look (mean k) ≡ None → n < length slots
        → (answer_at (probed mean first slots (mean k)) ≡ Ok tt) × Stands mean first (slots_after (probed mean first slots (mean k)) slots k v) (with_entry (mean k) v look) (n + 1)
    new-stands look n s new room = go (probed mean first slots (mean k)) refl
      where
        go : (p : Place) → probed mean first slots (mean k) ≡ p → (answer_at p ≡ Ok tt) × Stands mean first (slots_after p slots k v) (with_entry (mean k) v look) (n + 1)
        go (Found i w) e = let z : Some w ≡ None = sym (ap value_at e) ∙ s.gives (mean k) ∙ new in let y : ◌≡◌ {A = ℕ} 0 1 = cc in absurd (omega arith)
        go (Open i) e = (refl, open_stands i e look n s)
        go Nowhere e = absurd (omega (arith, full slots (mean k) e, s.count))

    pub after_holds : (entries : List Entry) → Holds mean first slots entries
        → Holds mean first (slots_after (probed mean first slots (mean k)) slots k v) (entries_after (answer_at (probed mean first slots (mean k))) (mean k) v entries)
    after_holds entries s = go (probed mean first slots (mean k)) refl
      where
        go : (p : Place) → probed mean first slots (mean k) ≡ p → Holds mean first (slots_after p slots k v) (entries_after (answer_at p) (mean k) v entries)
        go (Found i w) e = s
        go (Open i) e =
            let t = open_stands i e (entered entries) (length entries) s in
            record {
              tidy = t.tidy;
              gives = λ q. t.gives q ∙ sym (first_one (λ (n : Entry). n.key) (λ n. Some n.value) None q (record { key = mean k; value = v }) entries);
              count = omega (arith, t.count);
            }
        go Nowhere e = s

-- a key that is found is not entered again
pub found-stays : {K : Type 0} (mean : K → List ℕ) (first : List ℕ → ℕ → ℕ) (slots : List (Slot K)) (m : List ℕ) (k : K) (v w : ℕ)
    → found mean first slots m ≡ Some w → slots_after (probed mean first slots m) slots k v ≡ slots
found-stays {K} mean first slots m k v w h = go (probed mean first slots m) h
  where
    go : (p : Place) → value_at p ≡ Some w → slots_after p slots k v ≡ slots
    go (Found i x) e = refl
    go (Open i) e = let z : ◌≡◌ {A = ℕ} 0 1 = cc in absurd (omega arith)
    go Nowhere e = refl
