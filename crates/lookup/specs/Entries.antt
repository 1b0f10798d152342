-- What the slots of a table stand for: which keys were entered, with which values.
use Rattle.std.specs.Prelude.{◌≡◌, ℕ, suc, ◌+◌, Bool, true, cond, List, [], ◌∷◌, length, Some, None, Option, Ok, Err, Result, ⊤, ◌==◌, nat_lt, slice_index_or}
use Rattle.model.specs.Keys.{eq_list, first_of}
use Rattle.lookup.specs.declared.slot.NotEntered.{NotEntered}
use Rattle.lookup.specs.declared.slot.NotEntered.TheVariants.{AlreadyThere, Full}
use Rattle.lookup.specs.Slots.{Place, Found, Open, Nowhere, Slot, probed, found}

-- 1 more than the slot that a search found, and 0 if it found none
abbrev pub found_at : Place → ℕ
found_at (Found i v) = suc i
found_at (Open i) = 0
found_at Nowhere = 0

-- whether slot i, if it is taken, is where the search for its key ends
abbrev pub own : {K : Type 0} → (K → List ℕ) → (List ℕ → ℕ → ℕ) → List (Slot K) → ℕ → Slot K → Bool
own mean first slots i None = true
own mean first slots i (Some (k, v)) = found_at (probed mean first slots (mean k)) == suc i

-- every key is where the search for it ends
abbrev pub Tidy : {K : Type 0} → (K → List ℕ) → (List ℕ → ℕ → ℕ) → List (Slot K) → Type 0
Tidy mean first slots = (i : ℕ) → own mean first slots i (slice_index_or slots i None) ≡ true

abbrev pub taken_by : {K : Type 0} → Slot K → ℕ
taken_by None = 0
taken_by (Some (k, v)) = 1

-- how many slots are taken
abbrev pub taken : {K : Type 0} → List (Slot K) → ℕ
taken [] = 0
taken (s ∷ ss) = taken_by s + taken ss

-- what entering answers, by the number of slots, how many are taken, and what is found under the key
abbrev pub answer_for : ℕ → ℕ → Option ℕ → Result ⊤ NotEntered
answer_for slots n (Some v) = Err AlreadyThere
answer_for slots n None = cond (nat_lt n slots) (Ok tt) (Err Full)

-- a look-up once v was entered under m
abbrev pub with_entry : List ℕ → ℕ → (List ℕ → Option ℕ) → List ℕ → Option ℕ
with_entry m v look q = cond (eq_list m q) (Some v) (look q)

-- the slots give exactly what `look` gives, and n of them are taken
pub record Stands {K : Type 0} (mean : K → List ℕ) (first : List ℕ → ℕ → ℕ) (slots : List (Slot K)) (look : List ℕ → Option ℕ) (n : ℕ) : Type 0 where
  pub tidy : Tidy mean first slots
  pub gives : (q : List ℕ) → found mean first slots q ≡ look q
  pub count : taken slots ≡ n

-- a key that was entered, and its value
pub record Entry : Type 0 where
  pub key : List ℕ
  pub value : ℕ

-- the value that was entered under q
abbrev pub entered : List Entry → List ℕ → Option ℕ
entered entries q = first_of (λ e. e.key) (λ e. Some e.value) None q entries

-- what was entered is found, and nothing else is
abbrev pub Holds : {K : Type 0} → (K → List ℕ) → (List ℕ → ℕ → ℕ) → List (Slot K) → List Entry → Type 0
Holds mean first slots entries = Stands mean first slots (entered entries) (length entries)

-- the entries after a call to enter v under m, by what it answered
abbrev pub entries_after : Result ⊤ NotEntered → List ℕ → ℕ → List Entry → List Entry
entries_after (Ok u) m v entries = record { key = m; value = v } ∷ entries
entries_after (Err e) m v entries = entries
