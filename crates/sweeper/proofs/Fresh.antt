-- A session on cleared slots, before any call.
use Rattle.std.proofs.Common.{◌≡◌, ℕ, ◌*◌, ◌/◌, ◌<◌, ◌≤◌, min, List, [], ◌∷◌, length, take, None, sym, refl, ap, ◌∙◌, ⊎_elim, arith, take_all}
use Rattle.std.proofs.lemmas.Bool.{cases_lt}
use Rattle.model.specs.Graphs.{uses, find_pair, find_key}
use Rattle.model.specs.Sessions.{Tables, opened, node_limit, output_limit, capacity_of, no_tally}
use Rattle.cuts.specs.Keys.{key_meaning}
use Rattle.cuts.specs.declared.cut.Cut.{Cut}
use Rattle.cuts.specs.declared.edge.Edge.{Edge}
use Rattle.cuts.specs.declared.key.CutKey.{CutKey}
use Rattle.lookup.specs.Entries.{Stands}
use Rattle.lookup.specs.Hash.{hashed_slot}
use Rattle.lookup.specs.Pairs.{pair_meaning}
use Rattle.lookup.specs.declared.fanin_pair.FaninPair.{FaninPair}
use Rattle.lookup.specs.Slots.{Slot}
use Rattle.search.specs.declared.rows.ReducedRow.{ReducedRow}
use Rattle.sweeper.specs.declared.rows.SourceRow.{SourceRow}
use Rattle.sweeper.specs.declared.tally.Tally.{Tally}
use Rattle.sweeper.specs.Tables.{Image, Sound, state_of, pair_look, newest, kept_from}
use Rattle.sweeper.specs.Tallies.{tallied}

no_pair : (q : List ℕ) → None ≡ pair_look [] q
unfolding find_pair
no_pair [] = refl
no_pair (x ∷ []) = refl
no_pair (x ∷ (y ∷ [])) = refl
no_pair (x ∷ (y ∷ (z ∷ zs))) = refl

-- no more is taken than there is
pub take_min : {A : Type 0} (n : ℕ) (xs : List A) → take (min n (length xs)) xs ≡ take n xs
take_min n xs = ⊎_elim
    (λ (h : n < length xs). ap (λ k. take k xs) (omega arith))
    (λ (h : length xs ≤ n). ap (λ k. take k xs) (omega arith) ∙ take_all (length xs) xs (omega arith) ∙ sym (take_all n xs h)) (cases_lt n (length xs))

-- the capacity is worked out from the shortest table on
pub capacity_lem : (t : Tables) (by_cuts by_pairs by_reduced by_rows most : ℕ) → by_cuts ≡ min (t.cuts / 4) (t.keys / 4) → by_pairs ≡ min t.pairs by_cuts → by_reduced ≡ min t.reduced by_pairs
    → by_rows ≡ min t.source by_reduced → most ≡ min node_limit by_rows → most ≡ capacity_of node_limit 4 t
capacity_lem t by_cuts by_pairs by_reduced by_rows most a b c d e = e ∙ ap (min node_limit) (d ∙ ap (min t.source) (c ∙ ap (min t.reduced) (b ∙ ap (min t.pairs) a)))

quarter : (n m : ℕ) → m ≤ n / 4 → 4 * m ≤ n
quarter n m h = omega arith

module _ (source : List SourceRow) (reduced : List ReducedRow) (cuts : List Cut) (pairs : List (Slot FaninPair)) (keys : List (Slot CutKey)) (outputs : List Edge) (capacity : ℕ) (tally : Tally) where
  abbrev pub fresh : Image
  fresh = record { source = source; reduced = reduced; cuts = cuts; pairs = pairs; keys = keys; outputs = outputs; capacity = capacity; sources = 0; nodes = 0; outs = 0; tally = tally }

  pub fresh-sound : (outs most more : ℕ) → capacity ≡ capacity_of node_limit 4 (record { source = length source; reduced = length reduced; cuts = length cuts; pairs = most; keys = more; outputs = outs })
      → length pairs ≡ most → length keys ≡ more → length outputs ≤ 16384 → Stands pair_meaning hashed_slot pairs (λ _. None) 0 → Stands key_meaning hashed_slot keys (λ _. None) 0 → length tally.rows ≡ 4 → Sound fresh
  unfolding newest kept_from uses find_key
  fresh-sound outs most more is ep ek few p k four = record {
    few = omega arith;
    room = omega arith;
    fewer = omega arith;
    source_rows = omega arith;
    reduced_rows = omega arith;
    cut_rows = quarter (length cuts) capacity (omega arith);
    pair_slots = omega arith;
    key_slots = quarter (length keys) capacity (omega arith);
    output_rows = omega arith;
    few_outputs = few;
    constant = refl;
    kept = λ i h. absurd (omega arith);
    heights = λ i h. absurd (omega arith);
    uses = λ i h. absurd (omega arith);
    tidy_pairs = p.tidy;
    pairs = λ q. p.gives q ∙ no_pair q;
    few_pairs = omega (arith, p.count);
    tidy_keys = k.tidy;
    keys = k.gives;
    few_keys = omega (arith, k.count);
    tally_rows = four;
  }

  pub fresh-state : (t : Tables) → capacity ≡ capacity_of node_limit 4 t → length outputs ≡ min output_limit t.outputs → tallied tally ≡ no_tally → state_of fresh ≡ opened t
  unfolding newest kept_from
  fresh-state t is rows none = λ i. record {
    limits = (opened t).limits;
    capacity = is i;
    rows_for_outputs = rows i;
    source = [];
    mapped = [];
    reduced = [];
    kept = [];
    outputs = [];
    tally = none i;
  }
