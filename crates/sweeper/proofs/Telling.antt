-- What is told of a node is what the graph has.
use Rattle.std.proofs.Common.{◌≡◌, ℕ, suc, ◌-◌, ◌*◌, ◌<◌, ◌≤◌, Bool, true, false, cond, eqb, ltb, ◌⊎◌, List, [], length, get_or, take, drop, Some, None, Option, sym, refl, ap, ◌∙◌, inl, inr, ⊎_elim, arith, length-drop, length-take, length-take-le, get_or-take}
use lib.ListN.{length-map}
use Rattle.std.proofs.lemmas.Option.{none-some, same_Some}
use Rattle.std.specs.Option.{option_map}
use Rattle.std.proofs.lemmas.Bool.{cases_eq, cases_lt, both_ways, ne_eqb, le-ltb, or_parts, eqb-false, ltb-false}
use Rattle.model.specs.Graphs.{input, at, height, uses}
use Rattle.model.proofs.Growing.{at_zero, at_none}
use Rattle.cuts.specs.Meaning.{meaning}
use Rattle.search.specs.declared.rows.ReducedRow.{ReducedRow}
use Rattle.sweeper.specs.Tables.{Image, Sound, state_of, graph_of, kept_of, node_in, no_reduced, newest}
use Rattle.sweeper.specs.Reports.{Described, described, described_in, outside, entry, row_at, node_told}
use Rattle.sweeper.specs.Answers.{numbered}
use Rattle.sweeper.specs.declared.rows.SourceRow.{SourceRow}
use Rattle.sweeper.proofs.Newest.{newest-length, newest-at, kept-length, kept_at}

module _ (c : Image) where
  count : length (graph_of c) ≡ c.nodes
  count = newest-length (λ r. node_in r.node) no_reduced c.reduced c.nodes

  within : (n : ℕ) → outside c.nodes n ≡ false → (0 < n) × (n ≤ c.nodes)
  within n h =
      let some = eqb-false n 0 (or_parts (eqb n 0) (ltb c.nodes n) h).0 in
      let known = ltb-false c.nodes n (or_parts (eqb n 0) (ltb c.nodes n) h).1 in
      (omega (arith, some), omega (arith, known))

  past : (n : ℕ) → outside c.nodes n ≡ true → (n ≡ 0) ⊎ (c.nodes < n)
  past n h = ⊎_elim inl
      (λ (z : n ≡ 0 → ⊥). ⊎_elim inr (λ (l : n ≤ c.nodes). absurd (both_ways (outside c.nodes n) (rw (ne_eqb n 0 z, le-ltb c.nodes n l) refl) h)) (cases_lt c.nodes n))
      (cases_eq n 0)

  pub a-row : Sound c → (n : ℕ) → 0 < n → n ≤ c.nodes → (r : ReducedRow) → r ≡ get_or c.reduced (n - 1) no_reduced → described (Some r) ≡ described_in (state_of c) n
  a-row s n some known r is =
      let e : suc (n - 1) ≡ n = omega arith in
      let below : n - 1 < c.nodes = omega arith in
      let inside : outside (length (graph_of c)) n ≡ false = rw (ne_eqb n 0 (λ z. omega arith), le-ltb (length (graph_of c)) n (omega (arith, count))) refl in
      let few = s.kept (n - 1) below in
      let rows = length-take (get_or c.reduced (n - 1) no_reduced).kept (drop (4 * (n - 1)) c.cuts) in
      let rest = length-drop (4 * (n - 1)) c.cuts in
      let all : length (take (get_or c.reduced (n - 1) no_reduced).kept (drop (4 * (n - 1)) c.cuts)) ≡ (get_or c.reduced (n - 1) no_reduced).kept = omega (arith, s.cut_rows, s.room, s.fewer) in
      let told : described (Some r) ≡ Some (record { node = at input (graph_of c) n; height = height (graph_of c) n; uses = uses (graph_of c) n; kept = length (at [] (kept_of c) n) }) =
      λ i. Some (record {
        node = (ap (λ w. node_in w.node) is ∙ sym (newest-at (λ w. node_in w.node) no_reduced input c.reduced c.nodes (n - 1) below) ∙ ap (at input (graph_of c)) e) i;
        height = (ap (λ w. w.facts.height) is ∙ s.heights (n - 1) below ∙ ap (height (graph_of c)) e) i;
        uses = (ap (λ w. w.facts.uses) is ∙ s.uses (n - 1) below ∙ ap (uses (graph_of c)) e) i;
        kept = (ap (λ w. w.kept) is ∙ sym all ∙ sym (length-map _ meaning) ∙ ap length (sym (kept_at c.cuts c.reduced c.nodes (n - 1) below)) ∙ ap (λ m. length (at [] (kept_of c) m)) e) i;
      }) in
      rw inside told

  pub described_row : Sound c → (n : ℕ) (x : Option ReducedRow) → x ≡ row_at no_reduced c.reduced c.nodes n → described x ≡ described_in (state_of c) n
  described_row s n x is = ap described is ∙ go (outside c.nodes n) refl
    where
      go : (t : Bool) → outside c.nodes n ≡ t → described (cond t None (Some (get_or c.reduced (n - 1) no_reduced))) ≡ described_in (state_of c) n
      go true h = sym (rw (ap (λ m. outside m n) count ∙ h) refl)
      go false h = a-row s n (within n h).0 (within n h).1 _ refl

  -- where no row is told there are no cuts
  pub no_cuts : Sound c → (n : ℕ) → None ≡ described_in (state_of c) n → [] ≡ at [] (kept_of c) n
  no_cuts s n is = go (outside c.nodes n) refl
    where
      go : (t : Bool) → outside c.nodes n ≡ t → [] ≡ at [] (kept_of c) n
      go true h = ⊎_elim
          (λ (z : n ≡ 0). sym (ap (at [] (kept_of c)) z ∙ at_zero [] (kept_of c)))
          (λ (z : c.nodes < n). sym (at_none [] (kept_of c) n (omega (arith, kept-length c.cuts c.reduced c.nodes)))) (past n h)
      go false h =
          let e = is ∙ sym (a-row s n (within n h).0 (within n h).1 _ refl) in
          let z : ◌≡◌ {A = ℕ} 0 1 = cc in
          absurd (omega arith)

  abbrev kept_told : Option Described → ℕ
  kept_told (Some d) = d.kept
  kept_told None = 0

  -- a row that is told is that of a node
  pub told_row : Sound c → (n : ℕ) (r : ReducedRow) → described (Some r) ≡ described_in (state_of c) n → (0 < n) × (n ≤ c.nodes) × (r.kept ≡ (get_or c.reduced (n - 1) no_reduced).kept)
  told_row s n r is = go (outside c.nodes n) refl
    where
      go : (t : Bool) → outside c.nodes n ≡ t → (0 < n) × (n ≤ c.nodes) × (r.kept ≡ (get_or c.reduced (n - 1) no_reduced).kept)
      go true h =
          let e : described (Some r) ≡ None = is ∙ rw (ap (λ m. outside m n) count ∙ h) refl in
          let z : ◌≡◌ {A = ℕ} 0 1 = cc in
          absurd (omega arith)
      go false h = let w = within n h in (w.0, w.1, ap kept_told (is ∙ sym (a-row s n w.0 w.1 _ refl)))

-- the first rows alone have the same rows
pub row_at-take : {A : Type 0} (d : A) (rows : List A) (count n : ℕ) → count ≤ length rows → row_at d (take count rows) (length (take count rows)) n ≡ row_at d rows count n
row_at-take d rows count n fits = ap (λ m. row_at d (take count rows) m n) (length-take-le count rows fits) ∙ go (outside count n) refl
  where
    go : (t : Bool) → outside count n ≡ t → cond t None (Some (get_or (take count rows) (n - 1) d)) ≡ cond t None (Some (get_or rows (n - 1) d))
    go true h = refl
    go false h =
        let some = eqb-false n 0 (or_parts (eqb n 0) (ltb count n) h).0 in
        let known = ltb-false count n (or_parts (eqb n 0) (ltb count n) h).1 in
        ap Some (get_or-take count rows (n - 1) d (omega (arith, some, known)))

-- ---- the rows of a table, told newest first
module _ {A B : Type 0} (f : A → B) (d : A) (e : B) (rows : List A) (count n : ℕ) where
  row_by : (t : Bool) → outside count n ≡ t → option_map f (cond t None (Some (get_or rows (n - 1) d))) ≡ cond t None (Some (at e (newest f d rows count) n))
  row_by true h = refl
  row_by false h =
      let some : eqb n 0 ≡ false = (or_parts (eqb n 0) (ltb count n) h).0 in
      let known : ltb count n ≡ false = (or_parts (eqb n 0) (ltb count n) h).1 in
      let is : suc (n - 1) ≡ n = (let z = eqb-false n 0 some in omega (arith, z)) in
      let below : n - 1 < count = (let z = ltb-false count n known in let y = eqb-false n 0 some in omega (arith, z, y)) in
      ap Some (sym (newest-at f d e rows count (n - 1) below) ∙ ap (at e (newest f d rows count)) is)

  pub row_told : (x : Option A) → x ≡ row_at d rows count n → option_map f x ≡ entry e (newest f d rows count) n
  row_told x is = ap (option_map f) is ∙ row_by (outside count n) refl ∙ ap (λ m. cond (outside m n) None (Some (at e (newest f d rows count) n))) (sym (newest-length f d rows count))

pub node_row : (x : Option SourceRow) → node_told (option_map (λ r. r.node) x) ≡ option_map (λ r. node_in r.node) x
node_row (Some r) = refl
node_row None = refl

pub mapped_row : (x : Option SourceRow) → numbered (option_map (λ r. r.mapped) x) ≡ option_map (λ r. r.mapped.number) x
mapped_row (Some r) = refl
mapped_row None = refl

-- ---- what is told of a number
pub entry_some : {A : Type 0} (d : A) (xs : List A) (n : ℕ) (y : A) → Some y ≡ entry d xs n → (n ≤ length xs) × (y ≡ at d xs n)
entry_some d xs n y = go (outside (length xs) n) refl
  where
    go : (t : Bool) → outside (length xs) n ≡ t → Some y ≡ cond t None (Some (at d xs n)) → (n ≤ length xs) × (y ≡ at d xs n)
    go true h e = absurd (none-some y (sym e))
    go false h e = (ltb-false (length xs) n (or_parts (eqb n 0) (ltb (length xs) n) h).1, same_Some y (at d xs n) e)

pub entry_none : {A : Type 0} (d : A) (xs : List A) (n : ℕ) → (n ≡ 0 → ⊥) → None ≡ entry d xs n → length xs < n
entry_none d xs n some is = ⊎_elim (λ (h : length xs < n). h)
    (λ (h : n ≤ length xs). absurd (none-some (at d xs n) (is ∙ rw (ne_eqb n 0 some, le-ltb (length xs) n h) refl))) (cases_lt (length xs) n)
