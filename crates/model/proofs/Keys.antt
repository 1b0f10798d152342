-- Telling meanings apart, and the first of a meaning. Assumes nothing.
use Rattle.std.proofs.Common.{◌≡◌, ℕ, ◌+◌, ◌<◌, ◌≤◌, Bool, true, false, cond, not, ◌&&◌, eqb, ltb, List, [], ◌∷◌, ◌++◌, map, length, get_or, drop, sym, refl, ap, ◌∙◌, le-ltb, lt-ltb, eq-eqb, eqb-true}
use Rattle.std.proofs.lemmas.List.{at_drop_more, at_drop_all, map_push}
use Rattle.model.specs.Keys.{eq_list, first_of, holds, added, added_in, is_new}

pub same_refl : (xs : List ℕ) → eq_list xs xs ≡ true
same_refl [] = refl
same_refl (x ∷ xs) = rw (eq-eqb x x refl) (same_refl xs)

pub same-eq : (xs ys : List ℕ) → eq_list xs ys ≡ true → xs ≡ ys
same-eq [] [] e = refl
same-eq [] (y ∷ ys) e = cc
same-eq (x ∷ xs) [] e = cc
same-eq (x ∷ xs) (y ∷ ys) e = go (same-eq xs ys) (eqb x y) refl e
  where
    go : (eq_list xs ys ≡ true → xs ≡ ys) → (b : Bool) → eqb x y ≡ b → (b && eq_list xs ys) ≡ true → x ∷ xs ≡ y ∷ ys
    go f true h k = let p = eqb-true x y h in let q = f k in cc
    go f false h k = cc

-- the two halves of telling meanings apart settle the test
pub same-is : (xs ys : List ℕ) (b : Bool) → (b ≡ true → xs ≡ ys) → (xs ≡ ys → b ≡ true) → eq_list xs ys ≡ b
same-is xs ys true f g = rw (f refl) (same_refl ys)
same-is xs ys false f g = go (eq_list xs ys) refl
  where
    go : (t : Bool) → eq_list xs ys ≡ t → t ≡ false
    go true h = sym (g (same-eq xs ys h))
    go false h = refl

module _ {A B : Type 0} (mean : A → List ℕ) (gives : A → B) (none : B) (m : List ℕ) where
  pub first-none : first_of mean gives none m [] ≡ none
  unfolding first_of
  first-none = refl

  pub first_one : (x : A) (xs : List A) → first_of mean gives none m (x ∷ xs) ≡ cond (eq_list (mean x) m) (gives x) (first_of mean gives none m xs)
  unfolding first_of
  first_one x xs = refl

  -- the steps of a loop
  first-at : (xs : List A) (i : ℕ) (x : A) → i < length xs → x ≡ get_or xs i x
      → first_of mean gives none m (drop i xs) ≡ cond (eq_list (mean x) m) (gives x) (first_of mean gives none m (drop (i + 1) xs))
  first-at xs i x lt is =
      at_drop_more (first_of mean gives none m) xs i x lt ∙ first_one (get_or xs i x) (drop (i + 1) xs)
      ∙ ap (λ y. cond (eq_list (mean y) m) (gives y) (first_of mean gives none m (drop (i + 1) xs))) (sym is)

  pub first_hit : (xs : List A) (i : ℕ) (x : A) → i < length xs → x ≡ get_or xs i x → eq_list (mean x) m ≡ true
      → first_of mean gives none m (drop i xs) ≡ gives x
  first_hit xs i x lt is e = first-at xs i x lt is ∙ ap (λ t. cond t (gives x) (first_of mean gives none m (drop (i + 1) xs))) e

  pub first_pass : (xs : List A) (i : ℕ) (x : A) → i < length xs → x ≡ get_or xs i x → eq_list (mean x) m ≡ false
      → first_of mean gives none m (drop i xs) ≡ first_of mean gives none m (drop (i + 1) xs)
  first_pass xs i x lt is e = first-at xs i x lt is ∙ ap (λ t. cond t (gives x) (first_of mean gives none m (drop (i + 1) xs))) e

  pub first-all : (xs : List A) (i : ℕ) → length xs ≤ i → first_of mean gives none m (drop i xs) ≡ none
  first-all xs i le = at_drop_all (first_of mean gives none m) xs i le ∙ first-none

-- a distinct list and its image
pub holds-map : {A B : Type 0} (f : A → B) (mean : B → List ℕ) (m : List ℕ) (xs : List A) → holds (λ x. mean (f x)) m xs ≡ holds mean m (map f xs)
unfolding first_of
holds-map f mean m [] = refl
holds-map f mean m (x ∷ xs) = ap (cond (eq_list (mean (f x)) m) true) (holds-map f mean m xs)

pub added-map : {A B : Type 0} (f : A → B) (mean : B → List ℕ) (x : A) (xs : List A) → map f (added (λ y. mean (f y)) x xs) ≡ added mean (f x) (map f xs)
added-map f mean x xs = go (holds (λ y. mean (f y)) (mean (f x)) xs) ∙ ap (λ t. cond t (map f xs) (map f xs ++ (f x ∷ []))) (holds-map f mean (mean (f x)) xs)
  where
    go : (t : Bool) → map f (cond t xs (xs ++ (x ∷ []))) ≡ cond t (map f xs) (map f xs ++ (f x ∷ []))
    go true = refl
    go false = map_push f xs x

-- a distinct list that is full, or has the key, or takes it
module _ {A : Type 0} (n : ℕ) (mean : A → List ℕ) (x : A) (xs : List A) where
  pub full_adds : n ≤ length xs → (added_in n mean x xs ≡ xs) × (is_new n mean x xs ≡ false)
  full_adds h = let e = le-ltb (length xs) n h in (ap (λ t. cond t (added mean x xs) xs) e, ap (λ t. cond t (not (holds mean (mean x) xs)) false) e)

  pub old_adds : holds mean (mean x) xs ≡ true → (added_in n mean x xs ≡ xs) × (is_new n mean x xs ≡ false)
  old_adds h = (ap (λ t. cond (ltb (length xs) n) (cond t xs (xs ++ (x ∷ []))) xs) h ∙ both (ltb (length xs) n) xs, ap (λ t. cond (ltb (length xs) n) (not t) false) h ∙ both (ltb (length xs) n) false)
    where
      both : {B : Type 0} (t : Bool) (b : B) → cond t b b ≡ b
      both true b = refl
      both false b = refl

  pub room_adds : length xs < n → added_in n mean x xs ≡ added mean x xs
  room_adds h = ap (λ t. cond t (added mean x xs) xs) (lt-ltb (length xs) n h)

  pub new_adds : length xs < n → holds mean (mean x) xs ≡ false → (added_in n mean x xs ≡ xs ++ (x ∷ [])) × (is_new n mean x xs ≡ true)
  new_adds h e = (
    room_adds h ∙ ap (λ t. cond t xs (xs ++ (x ∷ []))) e,
    ap (λ t. cond t (not (holds mean (mean x) xs)) false) (lt-ltb (length xs) n h) ∙ ap not e,
  )
