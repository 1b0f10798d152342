-- where the first mark stands
use Rattle.std.proofs.Common.{◌≡◌, ℕ, zero, suc, ◌+◌, ◌<◌, Bool, true, false, cond, eqb, List, [], ◌∷◌, ◌++◌, length, get_or, take, drop, Some, None, Option, sym, refl, ap, ◌∙◌, add-one, arith, eq-eqb, ne_eqb, subst, length-append}
use Rattle.std.specs.List.{AllByRecursion, AllWithin, HoldsAt}
use Rattle.std.specs.Option.{MatchOption}
use Rattle.std.proofs.lemmas.Bool.{eqb-true, eqb-false}
use Rattle.lines.specs.Shape.{cut_at, in_front}

pub cut-none : (mark : ℕ) (xs : List ℕ) → ((k : ℕ) → k < length xs → get_or xs k 0 ≡ mark → ⊥) → cut_at mark xs ≡ None
cut-none mark [] no-mark = refl
cut-none mark (x ∷ xs) no-mark =
    ap (λ b. cond b (Some ([], xs)) (in_front x (cut_at mark xs))) (ne_eqb x mark (no-mark 0 (omega arith)))
    ∙ ap (in_front x) (cut-none mark xs (λ k h. no-mark (suc k) (omega arith)))

pub cut-here : (mark : ℕ) (xs : List ℕ) (i : ℕ) → i < length xs → ((k : ℕ) → k < i → get_or xs k 0 ≡ mark → ⊥) → get_or xs i 0 ≡ mark
    → cut_at mark xs ≡ Some (take i xs, drop (i + 1) xs)
cut-here mark [] i h no-mark here = absurd (omega arith)
cut-here mark (x ∷ xs) zero h no-mark here = ap (λ b. cond b (Some ([], xs)) (in_front x (cut_at mark xs))) (eq-eqb x mark here)
cut-here mark (x ∷ xs) (suc i) h no-mark here =
    ap (λ b. cond b (Some ([], xs)) (in_front x (cut_at mark xs))) (ne_eqb x mark (no-mark 0 (omega arith)))
    ∙ ap (in_front x) (cut-here mark xs i (omega arith) (λ k l. no-mark (suc k) (omega arith)) here)
    ∙ ap (λ m. Some (x ∷ take i xs, drop m (x ∷ xs))) (ap suc (add-one i) ∙ sym (add-one (suc i)))

-- what a search for the mark tells
pub cut-found_at : (mark : ℕ) (xs : List ℕ) (r : Option ℕ) → MatchOption r (AllWithin (λ x. x ≡ mark → ⊥) xs 0 (length xs)) (λ i. (i < length xs) × HoldsAt (λ x. x ≡ mark) xs i × AllWithin (λ x. x ≡ mark → ⊥) xs 0 i)
    → MatchOption r (cut_at mark xs ≡ None) (λ i. cut_at mark xs ≡ Some (take i xs, drop (i + 1) xs))
cut-found_at mark xs None none = cut-none mark xs (λ k h. none k 0 (omega arith) h)
cut-found_at mark xs (Some i) first = cut-here mark xs i first.0 (λ k h. first.2 k 0 (omega arith) h) (first.1 0)

-- no byte is the mark
abbrev pub Lacks : ℕ → List ℕ → Type 0
Lacks mark bs = AllByRecursion (λ c. c ≡ mark → ⊥) bs

pub cut-found : (mark : ℕ) (b a : List ℕ) → Lacks mark b → cut_at mark (b ++ mark ∷ a) ≡ Some (b, a)
cut-found mark [] a lacks = ap (λ t. cond t (Some ([], a)) (in_front mark (cut_at mark a))) (eq-eqb mark mark refl)
cut-found mark (c ∷ b) a lacks =
    ap (λ t. cond t (Some ([], b ++ mark ∷ a)) (in_front c (cut_at mark (b ++ mark ∷ a)))) (ne_eqb c mark lacks.0)
    ∙ ap (in_front c) (cut-found mark b a lacks.1)

-- how a cut puts its text together
abbrev pub Parts : ℕ → List ℕ → Option (List ℕ × List ℕ) → Type 0
Parts mark bs None = Lacks mark bs
Parts mark bs (Some (b, a)) = (bs ≡ b ++ mark ∷ a) × Lacks mark b

parts-front : (mark c : ℕ) (cs : List ℕ) → (c ≡ mark → ⊥) → (o : Option (List ℕ × List ℕ)) → Parts mark cs o → Parts mark (c ∷ cs) (in_front c o)
parts-front mark c cs ne None h = (ne, h)
parts-front mark c cs ne (Some (b, a)) h = (ap (λ l. c ∷ l) h.0, (ne, h.1))

parts_by : (mark c : ℕ) (cs : List ℕ) (t : Bool) → eqb c mark ≡ t → (o : Option (List ℕ × List ℕ)) → Parts mark cs o → Parts mark (c ∷ cs) (cond t (Some ([], cs)) (in_front c o))
parts_by mark c cs true e o h = (ap (λ m. m ∷ cs) (eqb-true c mark e), tt)
parts_by mark c cs false e o h = parts-front mark c cs (eqb-false c mark e) o h

pub cut_parts : (mark : ℕ) (bs : List ℕ) → Parts mark bs (cut_at mark bs)
cut_parts mark [] = tt
cut_parts mark (c ∷ cs) = parts_by mark c cs (eqb c mark) refl (cut_at mark cs) (cut_parts mark cs)

module _ (mark : ℕ) (bs b a : List ℕ) (cut : cut_at mark bs ≡ Some (b, a)) where
  pub cut-at : (bs ≡ b ++ mark ∷ a) × Lacks mark b
  cut-at = subst (Parts mark bs) cut (cut_parts mark bs)

  pub cut-length : length bs ≡ length b + length a + 1
  cut-length = ap length cut-at.0 ∙ simp length-append (omega arith)
