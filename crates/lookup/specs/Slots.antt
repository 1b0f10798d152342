-- Slot tables: the search for a meaning, what entering does, and which keys the slots stand for.
use Rattle.std.specs.Prelude.{ℕ, zero, suc, ◌+◌, ◌<◌, Bool, true, cond, List, length, Some, None, Option, Ok, Err, Result, ⊤, nat_lt, slice_index_or, slice_set}
use Rattle.model.specs.Keys.{eq_list}
use Rattle.lookup.specs.declared.slot.NotEntered.{NotEntered}
use Rattle.lookup.specs.declared.slot.NotEntered.TheVariants.{AlreadyThere, Full}

-- a slot: free, or taken by a key with its value
abbrev pub Slot : Type 0 → Type 0
Slot K = Option (K × ℕ)

-- what a search comes to: the slot that has the key, with its value; the free slot that ended the search; or neither
pub data Place : Type 0 where
  Found : ℕ → ℕ → Place
  Open : ℕ → Place
  Nowhere : Place

-- the slot after i, of n
abbrev pub after : ℕ → ℕ → ℕ
after n i = cond (nat_lt (i + 1) n) (i + 1) 0

-- what slot i decides of the search for m: the rest of the search, if it has another meaning
abbrev pub judged : {K : Type 0} → (K → List ℕ) → List ℕ → ℕ → Slot K → Place → Place
judged mean m i None rest = Open i
judged mean m i (Some (k, v)) rest = cond (eq_list (mean k) m) (Found i v) rest

-- the search for m from slot i on, through at most the given number of slots
unfoldable pub probed_from : {K : Type 0} → (K → List ℕ) → List (Slot K) → List ℕ → ℕ → ℕ → Place
probed_from mean slots m zero i = Nowhere
probed_from mean slots m (suc f) i = judged mean m i (slice_index_or slots i None) (probed_from mean slots m f (after (length slots) i))

-- the search for m through all slots; `first` gives its first slot
abbrev pub probed : {K : Type 0} → (K → List ℕ) → (List ℕ → ℕ → ℕ) → List (Slot K) → List ℕ → Place
probed mean first slots m = probed_from mean slots m (length slots) (first m (length slots))

-- whether the search for m ends at a slot
abbrev pub ends : {K : Type 0} → (K → List ℕ) → List ℕ → Slot K → Bool
ends mean m None = true
ends mean m (Some (k, v)) = eq_list (mean k) m

-- the slot at which a search ended
abbrev pub slot_at : Place → Option ℕ
slot_at (Found i v) = Some i
slot_at (Open i) = Some i
slot_at Nowhere = None

abbrev pub value_at : Place → Option ℕ
value_at (Found i v) = Some v
value_at (Open i) = None
value_at Nowhere = None

-- what is found under m
abbrev pub found : {K : Type 0} → (K → List ℕ) → (List ℕ → ℕ → ℕ) → List (Slot K) → List ℕ → Option ℕ
found mean first slots m = value_at (probed mean first slots m)

abbrev pub slots_after : {K : Type 0} → Place → List (Slot K) → K → ℕ → List (Slot K)
slots_after (Found i v) slots k w = slots
slots_after (Open i) slots k w = slice_set slots i (Some (k, w))
slots_after Nowhere slots k w = slots

abbrev pub answer_at : Place → Result ⊤ NotEntered
answer_at (Found i v) = Err AlreadyThere
answer_at (Open i) = Ok tt
answer_at Nowhere = Err Full

-- a slot that a search names is one of n
abbrev pub Inside : ℕ → Place → Type 0
Inside n (Found i v) = i < n
Inside n (Open i) = i < n
Inside n Nowhere = Unit {0}
