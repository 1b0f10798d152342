-- One step of a search, by what the slot holds.
use Rattle.std.proofs.Common.{◌≡◌, ℕ, suc, true, List, get_or, refl, Some, None}
use Rattle.model.specs.Keys.{eq_list}
use Rattle.lookup.specs.Slots.{Found, Open, Nowhere, Slot, probed_from}

module _ {K : Type 0} (mean : K → List ℕ) (slots : List (Slot K)) (m : List ℕ) where
  pub probe_none : (i : ℕ) → probed_from mean slots m 0 i ≡ Nowhere
  unfolding probed_from
  probe_none i = refl

  pub probe_free : (f i : ℕ) → get_or slots i None ≡ None → probed_from mean slots m (suc f) i ≡ Open i
  unfolding probed_from
  probe_free f i e = rw e refl

  pub probe_found : (f i : ℕ) (k : K) (v : ℕ) → get_or slots i None ≡ Some (k, v) → eq_list (mean k) m ≡ true → probed_from mean slots m (suc f) i ≡ Found i v
  unfolding probed_from
  probe_found f i k v e s = rw e (rw s refl)
