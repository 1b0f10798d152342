-- One more gate keeps what the tables stand for.
use Rattle.std.proofs.Common.{◌≡◌, ℕ, zero, suc, ◌+◌, ◌-◌, ◌*◌, ◌<◌, ◌≤◌, max, Bool, true, false, cond, ◌&&◌, ◌||◌, eqb, List, [], ◌∷◌, ◌++◌, map, length, get_or, take, drop, set, Some, None, sym, refl, ap, ◌∙◌, subst, ap₂, ⊎_elim, append_assoc, arith, length-append, length-drop, length-set, take-append-drop, length-take-le, get_or-set_other, get_or-set_same, drop-set-lt}
use mathlib.Core.Bool.{and-true, and-false}
use lib.Seq.{take-append-le, drop-append-le, take-append_seam, drop-append_seam}
use Rattle.std.proofs.lemmas.Slice.{drop-append-drop}
use Rattle.std.proofs.lemmas.Bool.{cases_eq, cases_lt, eq-eqb, ne_eqb}
use Rattle.model.specs.Tables.{number}
use Rattle.model.specs.Cuts.{key_list, key_sign}
use Rattle.model.specs.Edges.{node_of, edge, signed}
use Rattle.model.specs.Keys.{first_of}
use Rattle.model.specs.Graphs.{Node, input, gate, Graph, at, height, heights, uses, find_pair, find_key, or_else}
use Rattle.model.specs.Sessions.{positions}
use Rattle.model.proofs.Growing.{height-old, length-heights, at_new, at_none}
use Rattle.model.proofs.Inputs.{input-height}
use Rattle.cuts.specs.declared.cut.Cut.{Cut}
use Rattle.cuts.specs.declared.edge.Edge.{Edge}
use Rattle.cuts.specs.Meaning.{meaning}
use Rattle.cuts.specs.Keys.{key_meaning}
use Rattle.cuts.specs.declared.key.CutKey.{CutKey}
use Rattle.lookup.specs.Slots.{Slot}
use Rattle.lookup.specs.declared.fanin_pair.FaninPair.{FaninPair}
use Rattle.lookup.specs.Pairs.{pair_meaning}
use Rattle.lookup.specs.Hash.{hashed_slot}
use Rattle.lookup.specs.Entries.{Stands, with_entry, taken}
use Rattle.search.specs.declared.rows.Node.TheVariants.{Gate}
use Rattle.search.specs.declared.rows.ReducedRow.{ReducedRow}
use Rattle.sweeper.specs.Tables.{Image, Sound, graph_of, kept_of, node_in, no_reduced, kept_from, pair_look, stored, look_with, Enters, used_once, used_at, Growable, Grown}
use Rattle.sweeper.proofs.Newest.{newest-length, newest-set, newest-push, kept-length, kept_set, kept_push}

-- ---- a list stored in a list
stored-before : {A : Type 0} (at : ℕ) (xs ys : List A) (a k : ℕ) → a + k ≤ at → at ≤ length ys → take k (drop a (stored at xs ys)) ≡ take k (drop a ys)
stored-before {A} at xs ys a k h l = front (xs ++ drop (at + length xs) ys) ∙ sym (front (drop at ys)) ∙ ap (λ l. take k (drop a l)) (take-append-drop at ys)
  where
    size : length (take at ys) ≡ at
    size = length-take-le at ys l

    front : (zs : List A) → take k (drop a (take at ys ++ zs)) ≡ take k (drop a (take at ys))
    front zs = ap (take k) (drop-append-le a (take at ys) zs (omega (arith, size))) ∙ take-append-le k (drop a (take at ys)) zs (omega (arith, size, length-drop a (take at ys)))

stored_there : {A : Type 0} (at : ℕ) (xs ys : List A) → at ≤ length ys → take (length xs) (drop at (stored at xs ys)) ≡ xs
stored_there at xs ys l =
    ap (take (length xs)) (ap (λ n. drop n (stored at xs ys)) (sym (length-take-le at ys l)) ∙ drop-append_seam (take at ys) (xs ++ drop (at + length xs) ys))
    ∙ take-append_seam xs (drop (at + length xs) ys)

stored-length : {A : Type 0} (at : ℕ) (xs ys : List A) → at + length xs ≤ length ys → length (stored at xs ys) ≡ length ys
stored-length at xs ys h = length-append (take at ys) (xs ++ drop (at + length xs) ys) ∙ omega (arith, length-append xs (drop (at + length xs) ys), length-take-le at ys (omega arith), length-drop (at + length xs) ys)

-- what stands past the stored list is as it was
stored-after : {A : Type 0} (at : ℕ) (xs ys : List A) (n : ℕ) → at + length xs ≤ n → at + length xs ≤ length ys → drop n (stored at xs ys) ≡ drop n ys
stored-after at xs ys n h l =
    ap (drop n) (sym (append_assoc (take at ys) xs (drop (at + length xs) ys)))
    ∙ drop-append-drop (at + length xs) ys (take at ys ++ xs) n h (length-append (take at ys) xs ∙ ap (λ k. k + length xs) (length-take-le at ys (omega arith)))

kept-stored : (at : ℕ) (xs ys : List Cut) (rows : List ReducedRow) (n : ℕ) → 4 * n ≤ at → at ≤ length ys → ((i : ℕ) → i < n → (get_or rows i no_reduced).kept ≤ 4)
    → kept_from (stored at xs ys) rows n ≡ kept_from ys rows n
unfolding kept_from
kept-stored at xs ys rows zero h l few = refl
kept-stored at xs ys rows (suc n) h l few =
    ap₂ (λ c cs. map meaning c ∷ cs) (stored-before at xs ys (4 * n) (get_or rows n no_reduced).kept (omega (arith, few n (omega arith))) l) (kept-stored at xs ys rows n (omega arith) l (λ i k. few i (omega arith)))

-- ---- one more use
module _ (rows : List ReducedRow) (j : ℕ) (h : j < length rows) where
  pub used-other : (i : ℕ) → (i ≡ j → ⊥) → get_or (used_at j rows) i no_reduced ≡ get_or rows i no_reduced
  used-other i ne = get_or-set_other rows j i (used_once (get_or rows j no_reduced)) no_reduced ne

  used-same : get_or (used_at j rows) j no_reduced ≡ used_once (get_or rows j no_reduced)
  used-same = get_or-set_same rows j (used_once (get_or rows j no_reduced)) no_reduced h

  used-height : (i : ℕ) → (get_or (used_at j rows) i no_reduced).facts.height ≡ (get_or rows i no_reduced).facts.height
  used-height i = ⊎_elim (λ (e : i ≡ j). ap (λ n. (get_or (used_at j rows) n no_reduced).facts.height) e ∙ ap (λ r. r.facts.height) used-same ∙ ap (λ n. (get_or rows n no_reduced).facts.height) (sym e)) (λ e. ap (λ r. r.facts.height) (used-other i e)) (cases_eq i j)

  used-kept : (i : ℕ) → (get_or (used_at j rows) i no_reduced).kept ≡ (get_or rows i no_reduced).kept
  used-kept i = ⊎_elim (λ (e : i ≡ j). ap (λ n. (get_or (used_at j rows) n no_reduced).kept) e ∙ ap (λ r. r.kept) used-same ∙ ap (λ n. (get_or rows n no_reduced).kept) (sym e)) (λ e. ap (λ r. r.kept) (used-other i e)) (cases_eq i j)

  pub used-uses : (i : ℕ) → (get_or (used_at j rows) i no_reduced).facts.uses ≡ (get_or rows i no_reduced).facts.uses + number (eqb j i)
  used-uses i = ⊎_elim
      (λ (e : i ≡ j). ap (λ n. (get_or (used_at j rows) n no_reduced).facts.uses) e ∙ ap (λ r. r.facts.uses) used-same ∙ ap₂ (λ n b. (get_or rows n no_reduced).facts.uses + number b) (sym e) (sym (eq-eqb j i (sym e))))
      (λ e. ap (λ r. r.facts.uses) (used-other i e) ∙ one (get_or rows i no_reduced).facts.uses ∙ ap (λ b. (get_or rows i no_reduced).facts.uses + number b) (sym (ne_eqb j i (λ z. e (sym z)))))
      (cases_eq i j)
    where
      one : (n : ℕ) → n ≡ n + 0
      one n = omega arith

-- heights and uses are no more than the nodes
height-new : (x y : ℕ) (g : Graph) → height (gate x y ∷ g) (suc (length g)) ≡ suc (max (height g (node_of x)) (height g (node_of y)))
unfolding heights
height-new x y g =
    let h = suc (max (at 0 (heights g) (node_of x)) (at 0 (heights g) (node_of y))) in
    ap (at 0 (h ∷ heights g)) (ap suc (sym (length-heights g))) ∙ at_new 0 h (heights g)

uses-gate : (x y : ℕ) (g : Graph) (n : ℕ) → uses (gate x y ∷ g) n ≡ uses g n + number (eqb (node_of x) n || eqb (node_of y) n)
unfolding uses
uses-gate x y g n = refl

pub uses-few : (g : Graph) (n : ℕ) → uses g n ≤ length g
unfolding uses
uses-few [] n = omega arith
uses-few (input ∷ g) n = omega (arith, uses-few g n)
uses-few (gate x y ∷ g) n = omega (arith, uses-few g n, bound (eqb (node_of x) n || eqb (node_of y) n))
  where
    bound : (b : Bool) → number b ≤ 1
    bound true = omega arith
    bound false = omega arith

pub height-few : (g : Graph) (n : ℕ) → height g n ≤ length g
unfolding heights
height-few [] n = omega arith
height-few (nd ∷ g) n = ⊎_elim
    (λ (e : n ≡ suc (length g)). subst (λ k. height (nd ∷ g) k ≤ suc (length g)) (sym e) (newest-height (height-few g) nd))
    (λ (e : n ≡ suc (length g) → ⊥). ⊎_elim
    (λ (k : n < suc (length g)). omega (arith, height-old nd g n (omega arith), height-few g n))
    (λ (k : suc (length g) ≤ n). omega (arith, at_none 0 (heights (nd ∷ g)) n (omega (arith, length-heights (nd ∷ g)))))
    (cases_lt n (suc (length g))))
    (cases_eq n (suc (length g)))
  where
    newest-height : ((n : ℕ) → height g n ≤ length g) → (nd : Node) → height (nd ∷ g) (suc (length g)) ≤ suc (length g)
    newest-height few input = omega (arith, input-height g)
    newest-height few (gate x y) = omega (arith, height-new x y g, few (node_of x), few (node_of y))

-- a row's height and uses are no more than the nodes
module _ (c : Image) (s : Sound c) (n : ℕ) (some : 0 < n) (known : n ≤ c.nodes) where
  pub row-height-few : (get_or c.reduced (n - 1) no_reduced).facts.height ≤ c.nodes
  row-height-few = omega (arith, s.heights (n - 1) (omega arith), height-few (graph_of c) (suc (n - 1)), newest-length (λ r. node_in r.node) no_reduced c.reduced c.nodes)

  pub row-uses-few : (get_or c.reduced (n - 1) no_reduced).facts.uses ≤ c.nodes
  row-uses-few = omega (arith, s.uses (n - 1) (omega arith), uses-few (graph_of c) (suc (n - 1)), newest-length (λ r. node_in r.node) no_reduced c.reduced c.nodes)

-- ---- the tables after one more gate
abbrev pub after_gate : Image → Edge → Edge → List Cut → ℕ → List (Slot FaninPair) → List (Slot CutKey) → Image
after_gate c x y kept h pairs keys = record {
  source = c.source;
  reduced = set (used_at (node_of y.number - 1) (used_at (node_of x.number - 1) c.reduced)) c.nodes (record { node = Gate x y; facts = record { height = h; uses = 0 }; kept = length kept });
  cuts = stored (4 * c.nodes) kept c.cuts;
  pairs = pairs;
  keys = keys;
  outputs = c.outputs;
  capacity = c.capacity;
  sources = c.sources;
  nodes = c.nodes + 1;
  outs = c.outs;
  tally = c.tally;
}

module _ (c : Image) (s : Sound c) (x y : Edge) (kept : List Cut) (can : Growable c x.number y.number kept)
    (e h : ℕ) (is : e ≡ 2 * (c.nodes + 1))
    (high : h ≡ max (get_or c.reduced (node_of x.number - 1) no_reduced).facts.height (get_or c.reduced (node_of y.number - 1) no_reduced).facts.height + 1)
    (pairs : List (Slot FaninPair)) (keys : List (Slot CutKey))
    (paired : Stands pair_meaning hashed_slot pairs (with_entry (x.number ∷ y.number ∷ []) e (pair_look (graph_of c))) (taken c.pairs + 1))
    (pair-room : length pairs ≡ length c.pairs)
    (entered : Enters kept e c.keys keys) where
  abbrev d : Image
  d = after_gate c x y kept h pairs keys

  abbrev a : ℕ
  a = node_of x.number - 1

  abbrev b : ℕ
  b = node_of y.number - 1

  abbrev once : List ReducedRow
  once = used_at a c.reduced

  abbrev rows : List ReducedRow
  rows = used_at b once

  abbrev row : ReducedRow
  row = record { node = Gate x y; facts = record { height = h; uses = 0 }; kept = length kept }

  n_fits : c.nodes < length c.reduced
  n_fits = omega (arith, can.room, s.room, s.reduced_rows)

  a-fits : a < length c.reduced
  a-fits = omega (arith, can.first, can.first_known, n_fits)

  once-length : length once ≡ length c.reduced
  once-length = length-set c.reduced a (used_once (get_or c.reduced a no_reduced))

  b-fits : b < length once
  b-fits = omega (arith, can.second, can.second_known, n_fits, once-length)

  rows-length : length rows ≡ length c.reduced
  rows-length = length-set once b (used_once (get_or once b no_reduced)) ∙ once-length

  count : length (graph_of c) ≡ c.nodes
  count = newest-length (λ r. node_in r.node) no_reduced c.reduced c.nodes

  kept-count : length (kept_of c) ≡ c.nodes
  kept-count = kept-length c.cuts c.reduced c.nodes

  graph_is : graph_of d ≡ gate x.number y.number ∷ graph_of c
  graph_is =
      newest-push (λ r. node_in r.node) no_reduced rows row c.nodes (omega (arith, n_fits, rows-length))
      ∙ ap (λ g. gate x.number y.number ∷ g)
      (newest-set (λ r. node_in r.node) no_reduced once b (used_once (get_or once b no_reduced)) c.nodes (λ _. refl) b-fits
      ∙ newest-set (λ r. node_in r.node) no_reduced c.reduced a (used_once (get_or c.reduced a no_reduced)) c.nodes (λ _. refl) a-fits)

  cuts_fit : 4 * c.nodes + 4 ≤ length c.cuts
  cuts_fit = omega (arith, can.room, s.room, s.cut_rows)

  kept-is : kept_of d ≡ map meaning kept ∷ kept_of c
  kept-is =
      kept_push d.cuts rows row c.nodes (omega (arith, n_fits, rows-length))
      ∙ ap₂ (λ cs ks. map meaning cs ∷ ks) (stored_there (4 * c.nodes) kept c.cuts (omega (arith, cuts_fit)))
      (kept_set d.cuts once b (used_once (get_or once b no_reduced)) c.nodes (λ _. refl) b-fits
      ∙ kept_set d.cuts c.reduced a (used_once (get_or c.reduced a no_reduced)) c.nodes (λ _. refl) a-fits
      ∙ kept-stored (4 * c.nodes) kept c.cuts c.reduced c.nodes (omega arith) (omega (arith, cuts_fit)) s.kept)

  -- what holds of each row below the count, after one more
  row-after : (P : ReducedRow → ℕ → Type 0) → ((i : ℕ) → i < c.nodes → P (get_or rows i no_reduced) i) → P row c.nodes
      → (i : ℕ) → i < c.nodes + 1 → P (get_or (set rows c.nodes row) i no_reduced) i
  row-after P old new i l = ⊎_elim
      (λ (z : i ≡ c.nodes). subst (λ r. P r i) (sym (ap (λ n. get_or (set rows c.nodes row) n no_reduced) z ∙ get_or-set_same rows c.nodes row no_reduced (omega (arith, n_fits, rows-length)))) (subst (P row) (sym z) new))
      (λ (z : i ≡ c.nodes → ⊥). subst (λ r. P r i) (sym (get_or-set_other rows c.nodes i row no_reduced z)) (old i (omega arith)))
      (cases_eq i c.nodes)

  height-row : (i : ℕ) → i < c.nodes → (get_or rows i no_reduced).facts.height ≡ height (graph_of d) (suc i)
  height-row i l =
      used-height once b b-fits i ∙ used-height c.reduced a a-fits i ∙ s.heights i l
      ∙ sym (ap (λ g. height g (suc i)) graph_is ∙ height-old (gate x.number y.number) (graph_of c) (suc i) (omega (arith, count)))

  -- the height of a fanin, as its row has it
  fanin-height : (n : ℕ) → 0 < n → n ≤ c.nodes → (get_or c.reduced (n - 1) no_reduced).facts.height ≡ height (graph_of c) n
  fanin-height n l k = let z : suc (n - 1) ≡ n = omega arith in s.heights (n - 1) (omega arith) ∙ ap (height (graph_of c)) z

  height-is : h ≡ height (graph_of d) (suc c.nodes)
  height-is =
      let hx = fanin-height (node_of x.number) can.first can.first_known in
      let hy = fanin-height (node_of y.number) can.second can.second_known in
      let top : height (graph_of d) (suc c.nodes) ≡ suc (max (height (graph_of c) (node_of x.number)) (height (graph_of c) (node_of y.number))) =
      ap (λ g. height g (suc c.nodes)) graph_is ∙ ap (λ n. height (gate x.number y.number ∷ graph_of c) (suc n)) (sym count) ∙ height-new x.number y.number (graph_of c) in
      high ∙ ap₂ (λ m n. max m n + 1) hx hy ∙ (let z : max (height (graph_of c) (node_of x.number)) (height (graph_of c) (node_of y.number)) + 1 ≡ suc (max (height (graph_of c) (node_of x.number)) (height (graph_of c) (node_of y.number))) = omega arith in z) ∙ sym top

  -- two nodes that are not one are used once each
  two-uses : (u p q i : ℕ) → 0 < p → 0 < q → (p ≡ q → ⊥) → u + number (eqb (p - 1) i) + number (eqb (q - 1) i) ≡ u + number (eqb p (suc i) || eqb q (suc i))
  two-uses u p q i hp hq ne = ⊎_elim
      (λ (z : p ≡ suc i).
      let first : eqb (p - 1) i ≡ true = eq-eqb (p - 1) i (omega arith) in
      let second : eqb (q - 1) i ≡ false = ne_eqb (q - 1) i (λ k. ne (omega arith)) in
      rw (first, second, eq-eqb p (suc i) z) (omega arith))
      (λ (z : p ≡ suc i → ⊥).
      let first : eqb (p - 1) i ≡ false = ne_eqb (p - 1) i (λ k. z (omega arith)) in
      ⊎_elim
      (λ (w : q ≡ suc i). let second : eqb (q - 1) i ≡ true = eq-eqb (q - 1) i (omega arith) in rw (first, second, ne_eqb p (suc i) z, eq-eqb q (suc i) w) (omega arith))
      (λ (w : q ≡ suc i → ⊥). let second : eqb (q - 1) i ≡ false = ne_eqb (q - 1) i (λ k. w (omega arith)) in rw (first, second, ne_eqb p (suc i) z, ne_eqb q (suc i) w) (omega arith))
      (cases_eq q (suc i)))
      (cases_eq p (suc i))

  uses-row : (i : ℕ) → i < c.nodes → (get_or rows i no_reduced).facts.uses ≡ uses (graph_of d) (suc i)
  uses-row i l =
      used-uses once b b-fits i ∙ ap (λ n. n + number (eqb b i)) (used-uses c.reduced a a-fits i ∙ ap (λ n. n + number (eqb a i)) (s.uses i l))
      ∙ two-uses (uses (graph_of c) (suc i)) (node_of x.number) (node_of y.number) i can.first can.second can.apart
      ∙ sym (ap (λ g. uses g (suc i)) graph_is ∙ uses-gate x.number y.number (graph_of c) (suc i))

  uses-is : 0 ≡ uses (graph_of d) (suc c.nodes)
  uses-is =
      let p : eqb (node_of x.number) (suc c.nodes) ≡ false = ne_eqb (node_of x.number) (suc c.nodes) (λ z. omega (arith, can.first_known)) in
      let q : eqb (node_of y.number) (suc c.nodes) ≡ false = ne_eqb (node_of y.number) (suc c.nodes) (λ z. omega (arith, can.second_known)) in
      let none : uses (graph_of c) (suc c.nodes) ≡ 0 = can.unused (suc c.nodes) (omega arith) in
      sym (ap (λ g. uses g (suc c.nodes)) graph_is ∙ uses-gate x.number y.number (graph_of c) (suc c.nodes) ∙ rw (p, q, none))

  edge-is : e ≡ edge (suc (length (graph_of c))) false
  edge-is = omega (arith, is, count)

  pair_look_lem : (q : List ℕ) → with_entry (x.number ∷ y.number ∷ []) e (pair_look (graph_of c)) q ≡ pair_look (gate x.number y.number ∷ graph_of c) q
  unfolding find_pair
  pair_look_lem [] = refl
  pair_look_lem (u ∷ []) = ap (λ t. cond t (Some e) None) (and-false (eqb x.number u))
  pair_look_lem (u ∷ (v ∷ [])) =
      ap₂ (λ t m. cond (eqb x.number u && t) (Some m) (find_pair u v (graph_of c))) (and-true (eqb y.number v)) edge-is
  pair_look_lem (u ∷ (v ∷ (w ∷ ws))) = ap (λ t. cond (eqb x.number u && t) (Some e) None) (and-false (eqb y.number v)) ∙ ap (λ t. cond t (Some e) None) (and-false (eqb x.number u))

  key_look : (q : List ℕ) → look_with (map meaning kept) e (find_key positions (kept_of c)) q ≡ find_key positions (map meaning kept ∷ kept_of c) q
  unfolding find_key
  key_look q =
      let z : e ≡ edge (suc (length (kept_of c))) false = omega (arith, is, kept-count) in
      ap (λ m. or_else (first_of (key_list positions) (λ k. Some (signed m (key_sign k))) None q (map meaning kept)) (find_key positions (kept_of c) q)) z

  keyed : Stands key_meaning hashed_slot keys (look_with (map meaning kept) e (find_key positions (kept_of c))) (taken keys) × (taken keys ≤ taken c.keys + length kept)
  keyed = entered.entered (find_key positions (kept_of c)) (record { tidy = s.tidy_keys; gives = s.keys; count = refl })
      (omega (arith, s.few_keys, can.few, can.room, s.room, s.key_slots)) can.new_keys

  grown-sound : Sound d
  grown-sound =
      let reduced-length = length-set rows c.nodes row in
      let cuts-length = stored-length (4 * c.nodes) kept c.cuts (omega (arith, cuts_fit, can.few)) in
      record {
        few = s.few;
        room = s.room;
        fewer = omega (arith, can.room);
        source_rows = s.source_rows;
        reduced_rows = omega (arith, s.reduced_rows, rows-length, reduced-length);
        cut_rows = omega (arith, s.cut_rows, cuts-length);
        pair_slots = omega (arith, s.pair_slots, pair-room);
        key_slots = omega (arith, s.key_slots, entered.room);
        output_rows = s.output_rows;
        few_outputs = s.few_outputs;
        kept = row-after (λ r i. r.kept ≤ 4) (λ i l. omega (arith, used-kept once b b-fits i, used-kept c.reduced a a-fits i, s.kept i l)) can.few;
        heights = row-after (λ r i. r.facts.height ≡ height (graph_of d) (suc i)) height-row height-is;
        uses = row-after (λ r i. r.facts.uses ≡ uses (graph_of d) (suc i)) uses-row uses-is;
        tidy_pairs = paired.tidy;
        pairs = λ q. paired.gives q ∙ pair_look_lem q ∙ sym (ap (λ g. pair_look g q) graph_is);
        few_pairs = omega (arith, paired.count, s.few_pairs);
        tidy_keys = keyed.0.tidy;
        keys = λ q. keyed.0.gives q ∙ key_look q ∙ sym (ap (λ ks. find_key positions ks q) kept-is);
        few_keys = omega (arith, keyed.1, s.few_keys, can.few);
        constant = ap (λ g. uses g 0) graph_is ∙ uses-gate x.number y.number (graph_of c) 0
            ∙ rw (ne_eqb (node_of x.number) 0 (λ z. omega (arith, can.first)), ne_eqb (node_of y.number) 0 (λ z. omega (arith, can.second)), s.constant);
        tally_rows = s.tally_rows;
      }

  pub grown : Grown c x.number y.number kept d
  grown = record {
    sound = grown-sound;
    graph = graph_is;
    cuts = kept-is;
    source = refl;
    outputs = refl;
    capacity = refl;
    sources = refl;
    nodes = refl;
    outs = refl;
    tally = refl;
    rest = record {
      source = refl;
      reduced = drop-set-lt (c.nodes + 1) rows c.nodes row (omega arith)
          ∙ drop-set-lt (c.nodes + 1) once b (used_once (get_or once b no_reduced)) (omega (arith, can.second_known))
          ∙ drop-set-lt (c.nodes + 1) c.reduced a (used_once (get_or c.reduced a no_reduced)) (omega (arith, can.first_known));
      cuts = stored-after (4 * c.nodes) kept c.cuts (4 * (c.nodes + 1)) (omega (arith, can.few)) (omega (arith, can.room, s.room, s.cut_rows));
      outputs = refl;
    };
  }
