-- What holds of every element of a list, of its members and of its places.
use Rattle.std.proofs.Common.{◌≡◌, ℕ, zero, suc, ◌<◌, Bool, true, false, ◌||◌, eqb, List, [], ◌∷◌, ◌++◌, length, get_or, take, sym, refl, subst, ⊎_elim, arith}
use mathlib.Core.Bool.{or-true}
use mathlib.Core.List.Memᴰ
use mathlib.Core.List.{Memᴰ}
use Rattle.std.proofs.lemmas.Bool.{cond_both, eqb-true, eq-eqb, both_ways, or_cases, or_right}
use Rattle.model.specs.Leaves.{has}
use Rattle.model.specs.Keys.{holds, added}
use Rattle.model.specs.Graphs.{at}
use Rattle.model.specs.Rankings.{Every, rank_in, ranked, first_by}
use Rattle.model.specs.RunLaws.{first_of_each}

-- ---- members and places
module _ {A : Type 0} (d : A) where
  pub place-mem : (xs : List A) (i : ℕ) → i < length xs → Memᴰ (get_or xs i d) xs
  place-mem [] i h = absurd (omega arith)
  place-mem (x ∷ xs) zero h = Memᴰ.head refl
  place-mem (x ∷ xs) (suc i) h = Memᴰ.tail (place-mem xs i (omega arith))

  pub mem-place : (xs : List A) (x : A) → Memᴰ x xs → (i : ℕ) × (i < length xs) × (get_or xs i d ≡ x)
  mem-place [] x m = absurd (Memᴰ.not-nil m)
  mem-place (y ∷ xs) x m = ⊎_elim (λ (e : x ≡ y). (0, omega arith, sym e))
      (λ k. let z = mem-place xs x k in (suc z.0, omega (arith, z.1), z.2)) (Memᴰ.cases_cons m)

-- ---- every element
module _ {A : Type 0} (P : A → Type 0) where
  pub every-mem : (xs : List A) → Every P xs → (x : A) → Memᴰ x xs → P x
  every-mem [] e x m = absurd (Memᴰ.not-nil m)
  every-mem (y ∷ xs) e x m = ⊎_elim (λ q. subst P (sym q) e.0) (every-mem xs e.1 x) (Memᴰ.cases_cons m)

  pub every-at : (d : A) (xs : List A) (i : ℕ) → Every P xs → i < length xs → P (get_or xs i d)
  every-at d xs i e h = every-mem xs e (get_or xs i d) (place-mem d xs i h)

  -- number n of a list whose newest stands first, or the default
  pub every-number : (d : A) (xs : List A) (n : ℕ) → P d → Every P xs → P (at d xs n)
  every-number d [] n h e = h
  every-number d (x ∷ xs) n h e =
      let old = every-number d xs n h e.1 in
      cond_both (eqb n (suc (length xs))) x (at d xs n) P (λ _. e.0) (λ _. old)

  every-push : (xs : List A) (x : A) → Every P xs → P x → Every P (xs ++ (x ∷ []))
  every-push [] x e h = (h, tt)
  every-push (y ∷ xs) x e h = (e.0, every-push xs x e.1 h)

  pub every-added : (mean : A → List ℕ) (x : A) (xs : List A) → P x → Every P xs → Every P (added mean x xs)
  every-added mean x xs h e = cond_both (holds mean (mean x) xs) _ _ (Every P) (λ _. e) (λ _. every-push xs x e h)

  pub every-first_of_each : (mean : A → List ℕ) (xs done : List A) → Every P xs → Every P done → Every P (first_of_each mean xs done)
  every-first_of_each mean [] done e d = d
  every-first_of_each mean (x ∷ xs) done e d = every-first_of_each mean xs (added mean x done) e.1 (every-added mean x done e.0 d)

  every_take : (n : ℕ) (xs : List A) → Every P xs → Every P (take n xs)
  every_take zero xs e = tt
  every_take (suc n) [] e = tt
  every_take (suc n) (x ∷ xs) e = (e.0, every_take n xs e.1)

  pub every-rank_in : (before : A → A → Bool) (x : A) (ys : List A) → P x → Every P ys → Every P (rank_in before x ys)
  unfolding rank_in
  every-rank_in before x [] h e = (h, tt)
  every-rank_in before x (y ∷ ys) h e =
      cond_both (before x y) _ _ (Every P) (λ _. (h, e)) (λ _. (e.0, every-rank_in before x ys h e.1))

  every-ranked : (before : A → A → Bool) (xs done : List A) → Every P xs → Every P done → Every P (ranked before xs done)
  unfolding ranked
  every-ranked before [] done e d = d
  every-ranked before (x ∷ xs) done e d = every-ranked before xs (rank_in before x done) e.1 (every-rank_in before x done e.0 d)

  -- what holds of all holds of the chosen
  pub every-chosen : (before : A → A → Bool) (n : ℕ) (xs : List A) → Every P xs → Every P (first_by before n xs)
  every-chosen before n xs e = every_take n (ranked before xs []) (every-ranked before xs [] e tt)

module _ {A : Type 0} (P Q : A → Type 0) where
  pub every_weaken : (xs : List A) → ((x : A) → P x → Q x) → Every P xs → Every Q xs
  every_weaken [] f e = tt
  every_weaken (x ∷ xs) f e = (f x e.0, every_weaken xs f e.1)

  pub every_apply : (xs : List A) → Every P xs → Every (λ x. P x → Q x) xs → Every Q xs
  every_apply [] e f = tt
  every_apply (x ∷ xs) e f = (f.0 e.0, every_apply xs e.1 f.1)

-- ---- the same by leaves
pub or_swap : (a b c : Bool) → (a || (b || c)) ≡ (b || (a || c))
or_swap true b c = sym (or-true b)
or_swap false b c = refl

pub every_in : (P : ℕ → Type 0) (xs : List ℕ) (l : ℕ) → Every P xs → has l xs ≡ true → P l
every_in P [] l e h = absurd (both_ways false refl h)
every_in P (x ∷ xs) l e h = ⊎_elim (λ q. subst P (sym (eqb-true l x q)) e.0) (every_in P xs l e.1) (or_cases (eqb l x) (has l xs) h)

pub every-from : (P : ℕ → Type 0) (xs : List ℕ) → ((l : ℕ) → has l xs ≡ true → P l) → Every P xs
every-from P [] h = tt
every-from P (x ∷ xs) h = (h x (rw (eq-eqb x x refl)), every-from P xs (λ l e. h l (or_right (eqb l x) (has l xs) e)))
