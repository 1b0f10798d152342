-- What a joined cut with two leaves or more does to the search. Assumes nothing.
use Rattle.std.proofs.Common.{◌≡◌, ℕ, ◌≤◌, List, length, Option, sym, ap, ◌∙◌}
use Rattle.model.specs.Cuts.{Cut, key_list}
use Rattle.model.specs.Search.{judged, settled}
use Rattle.model.proofs.Along.{judged-wide}

pub wide : (p : ℕ) (look : List ℕ → Option ℕ) (c : Cut) (m : Option ℕ) (found : List Cut) → 2 ≤ length c.leaves → m ≡ look (key_list p c)
    → settled p c m found ≡ judged p look c c.leaves found
wide p look c m found two e = ap (λ m. settled p c m found) e ∙ sym (judged-wide p look c c.leaves found two)
