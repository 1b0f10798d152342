-- What a search is told of leaves and cuts is what the graph has.
use Rattle.std.proofs.Common.{◌≡◌, ℕ, suc, ◌-◌, ◌*◌, ◌<◌, ◌≤◌, Bool, List, [], ◌∷◌, map, length, get_or, take, drop, Option, sym, refl, ap, ◌∙◌, ⊎_elim, arith, length-take, length-take-le, take_all, get_or-take}
use lib.ListN.{length-map}
use Rattle.std.proofs.lemmas.Bool.{cases_eq, cases_lt, ne_eqb}
use Rattle.std.proofs.lemmas.List.{get_or_past}
use Rattle.model.specs.Cuts.{trivial}
use Rattle.model.specs.Edges.{node_of, sign_of}
use Rattle.model.specs.Graphs.{at, height, heights, uses, find_key}
use Rattle.model.specs.Rankings.{LeafFacts, Before}
use Rattle.model.specs.Search.{leaf_in, decide_cuts}
use Rattle.model.specs.Sessions.{positions}
use Rattle.model.proofs.Growing.{at_zero, at_none, length-heights}
use Rattle.cuts.specs.declared.cut.Cut.{Cut}
use Rattle.cuts.specs.Meaning.{meaning}
use Rattle.search.specs.Leaves.{leaf_at, no_row}
use Rattle.search.specs.Fanins.{limits_of, most}
use Rattle.sweeper.specs.Runs.{Reached}
use Rattle.sweeper.specs.Tables.{Image, Sound, state_of, graph_of, kept_of, node_in, no_reduced, by_cuts}
use Rattle.sweeper.proofs.Newest.{newest-length, kept-length, kept_at}
use Rattle.sweeper.proofs.Reaching.{unused}

module _ (c : Image) (s : Sound c) where
  -- the kept cuts of a node in its rows
  pub rows_of : (n k : ℕ) → 0 < n → n ≤ c.nodes → k ≡ (get_or c.reduced (n - 1) no_reduced).kept → map meaning (take k (drop (4 * (n - 1)) c.cuts)) ≡ at [] (kept_of c) n
  rows_of n k h l e =
      let z : suc (n - 1) ≡ n = omega arith in
      ap (λ m. map meaning (take m (drop (4 * (n - 1)) c.cuts))) e ∙ sym (kept_at c.cuts c.reduced c.nodes (n - 1) (omega arith)) ∙ ap (at [] (kept_of c)) z

  pub kept_few : (n : ℕ) (xs : List Cut) → map meaning xs ≡ at [] (kept_of c) n → length xs ≤ 4
  kept_few n xs is = ⊎_elim
      (λ (z : n ≡ 0). none (is ∙ ap (at [] (kept_of c)) z ∙ at_zero [] (kept_of c)))
      (λ (z : n ≡ 0 → ⊥). ⊎_elim
      (λ (h : c.nodes < n). none (is ∙ at_none [] (kept_of c) n (omega (arith, kept-length c.cuts c.reduced c.nodes))))
      (λ (h : n ≤ c.nodes). some (omega arith) h) (cases_lt c.nodes n))
      (cases_eq n 0)
    where
      none : map meaning xs ≡ [] → length xs ≤ 4
      none e = omega (arith, length-map xs meaning, ap length e)

      some : 0 < n → n ≤ c.nodes → length xs ≤ 4
      some h l =
          let k = (get_or c.reduced (n - 1) no_reduced).kept in
          let rows = drop (4 * (n - 1)) c.cuts in
          omega (arith, length-map xs meaning, ap length (is ∙ sym (rows_of n k h l refl)), length-map (take k rows) meaning, length-take k rows, s.kept (n - 1) (omega arith))

  pub leaves-are : Reached (state_of c) → (rows : List _) → rows ≡ take c.nodes c.reduced → (l : ℕ) → leaf_at rows l ≡ leaf_in (graph_of c) l
  leaves-are reached rows is l = ap (λ r. leaf_at r l) is ∙ ⊎_elim
      (λ (z : l ≡ 0). ap (λ n. leaf_at (take c.nodes c.reduced) n) z ∙ (λ i. record { height = sym (at_zero 0 (heights (graph_of c))) i; uses = sym s.constant i }) ∙ ap (leaf_in (graph_of c)) (sym z))
      (λ (z : l ≡ 0 → ⊥). rw (ne_eqb l 0 z) (⊎_elim (known z) (past z) (cases_lt (l - 1) c.nodes)))
      (cases_eq l 0)
    where
      count : length (graph_of c) ≡ c.nodes
      count = newest-length (λ r. node_in r.node) no_reduced c.reduced c.nodes

      full : length (take c.nodes c.reduced) ≡ c.nodes
      full = length-take-le c.nodes c.reduced (omega (arith, s.fewer, s.room, s.reduced_rows))

      known : (l ≡ 0 → ⊥) → l - 1 < c.nodes → record { height = (get_or (take c.nodes c.reduced) (l - 1) no_row).facts.height; uses = (get_or (take c.nodes c.reduced) (l - 1) no_row).facts.uses } ≡ leaf_in (graph_of c) l
      known z h =
          let e : suc (l - 1) ≡ l = omega arith in
          let r = get_or-take c.nodes c.reduced (l - 1) no_row h in
          λ i. record {
            height = (ap (λ w. w.facts.height) r ∙ s.heights (l - 1) h ∙ ap (height (graph_of c)) e) i;
            uses = (ap (λ w. w.facts.uses) r ∙ s.uses (l - 1) h ∙ ap (uses (graph_of c)) e) i;
          }

      past : (l ≡ 0 → ⊥) → c.nodes ≤ l - 1 → record { height = (get_or (take c.nodes c.reduced) (l - 1) no_row).facts.height; uses = (get_or (take c.nodes c.reduced) (l - 1) no_row).facts.uses } ≡ leaf_in (graph_of c) l
      past z h =
          let r = get_or_past (take c.nodes c.reduced) (l - 1) no_row (omega (arith, full)) in
          λ i. record {
            height = (ap (λ w. w.facts.height) r ∙ sym (at_none 0 (heights (graph_of c)) l (omega (arith, length-heights (graph_of c), count)))) i;
            uses = (ap (λ w. w.facts.uses) r ∙ sym (unused (state_of c) reached l (omega (arith, count)))) i;
          }

-- the decision over the tables is that over the graph
pub decides_by : (before : Before) (c : Image) (x y : ℕ) (places : ℕ) (look : List ℕ → Option ℕ) (leaf : ℕ → LeafFacts) (s t : Bool) (n m : ℕ) (xs ys : List Cut)
    → places ≡ 4 → ((q : List ℕ) → look q ≡ find_key positions (kept_of c) q) → ((l : ℕ) → leaf l ≡ leaf_in (graph_of c) l)
    → s ≡ sign_of x → t ≡ sign_of y → n ≡ node_of x → m ≡ node_of y
    → length xs ≤ 4 → map meaning xs ≡ at [] (kept_of c) (node_of x) → length ys ≤ 4 → map meaning ys ≡ at [] (kept_of c) (node_of y)
    → decide_cuts positions (limits_of 4 places) before look leaf s t (trivial positions n ∷ map meaning (take most xs)) (trivial positions m ∷ map meaning (take most ys)) ≡ by_cuts before c x y
decides_by before c x y places look leaf s t n m xs ys ep keys leaves es et en em fx ex fy ey =
    λ i. decide_cuts positions (limits_of 4 (ep i)) before (λ q. keys q i) (λ l. leaves l i) (es i) (et i)
    (trivial positions (en i) ∷ (ap (map meaning) (take_all most xs fx) ∙ ex) i) (trivial positions (em i) ∷ (ap (map meaning) (take_all most ys fy) ∙ ey) i)
