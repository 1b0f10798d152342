-- Lists whose newest stands first, listed line by line from the oldest.
use Rattle.std.specs.Prelude.{◌≡◌, ℕ, suc, ◌+◌, ◌<◌, ◌≤◌, true, false, cond, List, [], ◌∷◌, ◌++◌, length, drop, Some, None, Option, refl}
use Rattle.std.specs.Option.{option_map}
use Rattle.std.proofs.Common.{sym, ap, ◌∙◌, ⊎_elim, add-one, arith, drop_at}
use Rattle.std.proofs.lemmas.List.{length_push, drop_all, drop-append-le}
use Rattle.std.proofs.lemmas.Bool.{cases_eq, cases_lt, eq-eqb, ne_eqb, lt-ltb, le-ltb}
use Rattle.model.specs.Graphs.{Node, Graph, at, input, gate, height, uses}
use Rattle.model.specs.Sessions.{State}
use Rattle.model.specs.Reports.{Line, node_lines, lines_of}
use Rattle.sweeper.specs.Reports.{Described, described_in, entry, outside}
use Rattle.listing.specs.Sections.{next_of, node_line}

pub next_none : (xs : List Line) (k : ℕ) → length xs ≤ k → None ≡ next_of (drop k xs)
next_none xs k h = ap next_of (sym (drop_all k xs h))

next_append : (xs ys : List Line) (l : Line) → next_of xs ≡ Some l → next_of (xs ++ ys) ≡ Some l
next_append [] ys l e = absurd (let z : ◌≡◌ {A = ℕ} 0 1 = cc in omega arith)
next_append (x ∷ xs) ys l e = e

module _ {A : Type 0} (w : ℕ → A → Line) (F : List A → List Line) (none : F [] ≡ []) (more : (x : A) (xs : List A) → F (x ∷ xs) ≡ F xs ++ (w (suc (length xs)) x ∷ [])) where
  pub count : (xs : List A) → length (F xs) ≡ length xs
  count [] = ap length none
  count (x ∷ xs) = ap length (more x xs) ∙ length_push (F xs) _ ∙ add-one (length (F xs)) ∙ ap suc (count xs)

  at_next : (d : A) (xs : List A) (k : ℕ) → k < length xs → next_of (drop k (F xs)) ≡ Some (w (suc k) (at d xs (suc k)))
  at_next d [] k h = absurd (omega arith)
  at_next d (x ∷ xs) k h = ⊎_elim
      (λ (z : k ≡ length xs). rw (more x xs, drop_at (F xs) (w (suc (length xs)) x ∷ []) k (count xs ∙ sym z), eq-eqb (suc k) (suc (length xs)) (ap suc z)) (ap (λ n. Some (w (suc n) x)) (sym z)))
      (λ (z : k ≡ length xs → ⊥).
      let less : k < length xs = omega (arith, z) in
      let within : k ≤ length (F xs) = omega (arith, count xs) in
      rw (more x xs, drop-append-le k (F xs) (w (suc (length xs)) x ∷ []) within, ne_eqb (suc k) (suc (length xs)) (λ q. z (omega arith))) (next_append (drop k (F xs)) _ _ (at_next d xs k less)))
      (cases_eq k (length xs))

  -- what stands at a number is told on the line after those before it
  pub tells : (d : A) (xs : List A) (k : ℕ) (r : Option A) → r ≡ entry d xs (k + 1) → option_map (w (k + 1)) r ≡ next_of (drop k (F xs))
  tells d xs k r e = ⊎_elim
      (λ (z : k < length xs).
      let inside : entry d xs (k + 1) ≡ Some (at d xs (k + 1)) = rw (ne_eqb (k + 1) 0 (λ q. omega arith), le-ltb (length xs) (k + 1) (omega arith)) refl in
      ap (option_map (w (k + 1))) (e ∙ inside) ∙ sym (at_next d xs k z ∙ ap (λ n. Some (w n (at d xs n))) (sym (add-one k))))
      (λ (z : length xs ≤ k).
      let past : entry d xs (k + 1) ≡ None = rw (ne_eqb (k + 1) 0 (λ q. omega arith), lt-ltb (length xs) (k + 1) (omega arith)) refl in
      ap (option_map (w (k + 1))) (e ∙ past) ∙ next_none (F xs) k (omega (arith, count xs)))
      (cases_lt k (length xs))

-- ---- the two kinds of such lists
node_more : (x : Node) (g : Graph) → node_lines (x ∷ g) ≡ node_lines g ++ (node_line (suc (length g)) x ∷ [])
node_more input g = refl
node_more (gate x y) g = refl

pub nodes_count : (g : Graph) → length (node_lines g) ≡ length g
nodes_count g = count node_line node_lines refl node_more g

pub nodes_tell : (g : Graph) (k : ℕ) (r : Option Node) → r ≡ entry input g (k + 1) → option_map (node_line (k + 1)) r ≡ next_of (drop k (node_lines g))
nodes_tell g k r e = tells node_line node_lines refl node_more input g k r e

module _ (line : ℕ → Line) where
  pub numbers_count : (ns : List ℕ) → length (lines_of line ns) ≡ length ns
  numbers_count ns = count (λ _. line) (lines_of line) refl (λ _ _. refl) ns

  pub numbers_tell : (ns : List ℕ) (k : ℕ) (r : Option ℕ) → r ≡ entry 0 ns (k + 1) → option_map line r ≡ next_of (drop k (lines_of line ns))
  numbers_tell ns k r e = tells (λ _. line) (lines_of line) refl (λ _ _. refl) 0 ns k r e

-- ---- a node, of what is told of it
abbrev pub node_of : Option Described → Option Node
node_of (Some d) = Some d.node
node_of None = None

abbrev the_row : State → ℕ → Described
the_row s n = record { node = at input s.reduced n; height = height s.reduced n; uses = uses s.reduced n; kept = length (at [] s.kept n) }

pub node_entry : (s : State) (n : ℕ) → node_of (described_in s n) ≡ entry input s.reduced n
node_entry s n =
    elim (outside (length s.reduced) n) as (λ b. node_of (cond b None (Some (the_row s n))) ≡ cond b None (Some (at input s.reduced n))) [ true ↦ refl | false ↦ refl ]
