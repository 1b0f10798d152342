-- Insertion in ranking order, cut to the first n. Needs no law of a ranking. Assumes nothing.
use Rattle.std.proofs.Common.{◌≡◌, ℕ, zero, suc, ◌+◌, ◌<◌, ◌≤◌, Bool, true, false, cond, List, [], ◌∷◌, map, length, get_or, take, drop, sym, refl, ap, ◌∙◌, arith}
use Rattle.std.specs.List.{insert}
use Rattle.std.proofs.lemmas.List.{take-take, at_drop_more, at_drop_all}
use Rattle.model.specs.Rankings.{rank_in, ranked, spot}

module _ {A : Type 0} (before : A → A → Bool) where
  -- one more in front, cut before or after
  cut-front : (n : ℕ) (y : A) (ys : List A) → take n (y ∷ ys) ≡ take n (y ∷ take n ys)
  cut-front zero y ys = refl
  cut-front (suc n) y ys = ap (λ l. y ∷ l) (sym (take-take n (suc n) ys (omega arith)))

  -- inserting into a list cut at n, and cutting after inserting
  pub cut-rank_in : (n : ℕ) (x : A) (ys : List A) → take n (rank_in before x ys) ≡ take n (rank_in before x (take n ys))
  unfolding rank_in
  cut-rank_in zero x ys = refl
  cut-rank_in (suc n) x [] = refl
  cut-rank_in (suc n) x (y ∷ ys) = go (cut-rank_in n x ys) (before x y)
    where
      go : take n (rank_in before x ys) ≡ take n (rank_in before x (take n ys)) → (t : Bool)
          → take (suc n) (cond t (x ∷ (y ∷ ys)) (y ∷ rank_in before x ys)) ≡ take (suc n) (cond t (x ∷ (y ∷ take n ys)) (y ∷ rank_in before x (take n ys)))
      go h true = ap (λ l. x ∷ l) (cut-front n y ys)
      go h false = ap (λ l. y ∷ l) h

  -- what ranked gives is its first n, if only the first n are kept on the way
  pub cut-ranked : (n : ℕ) (xs done : List A) → take n (ranked before xs done) ≡ take n (ranked before xs (take n done))
  unfolding ranked
  cut-ranked n [] done = sym (take-take n n done (omega arith))
  cut-ranked n (x ∷ xs) done =
      cut-ranked n xs (rank_in before x done) ∙ ap (λ l. take n (ranked before xs l)) (cut-rank_in n x done) ∙ sym (cut-ranked n xs (rank_in before x (take n done)))

  pub ranked-one : (x : A) (xs done : List A) → ranked before (x ∷ xs) done ≡ ranked before xs (rank_in before x done)
  unfolding ranked
  ranked-one x xs done = refl

  pub ranked-none : (done : List A) → ranked before [] done ≡ done
  unfolding ranked
  ranked-none done = refl

  -- one turn of a loop that keeps the first n
  pub keep_more : (n : ℕ) (x : A) (xs done more : List A) → more ≡ take n (rank_in before x done) → take n (ranked before (x ∷ xs) done) ≡ take n (ranked before xs more)
  keep_more n x xs done more e =
      ap (take n) (ranked-one x xs done) ∙ cut-ranked n xs (rank_in before x done) ∙ ap (λ l. take n (ranked before xs l)) (sym e)

  -- insertion is at the spot
  pub spot-within : (x : A) (ys : List A) → spot before x ys ≤ length ys
  unfolding spot
  spot-within x [] = omega arith
  spot-within x (y ∷ ys) = go (spot-within x ys) (before x y)
    where
      go : spot before x ys ≤ length ys → (t : Bool) → cond t 0 (suc (spot before x ys)) ≤ suc (length ys)
      go h true = omega arith
      go h false = omega arith

  pub rank_in-spot : (x : A) (ys : List A) → rank_in before x ys ≡ insert ys (spot before x ys) x
  unfolding rank_in spot
  rank_in-spot x [] = refl
  rank_in-spot x (y ∷ ys) = go (rank_in-spot x ys) (before x y)
    where
      go : rank_in before x ys ≡ insert ys (spot before x ys) x → (t : Bool)
          → cond t (x ∷ (y ∷ ys)) (y ∷ rank_in before x ys) ≡ insert (y ∷ ys) (cond t 0 (suc (spot before x ys))) x
      go h true = refl
      go h false = ap (λ l. y ∷ l) h

  -- the steps of the loop that finds the spot
  spot-at : (x : A) (ys : List A) (i : ℕ) (y : A) → i < length ys → y ≡ get_or ys i y
      → spot before x (drop i ys) ≡ cond (before x y) 0 (suc (spot before x (drop (i + 1) ys)))
  unfolding spot
  spot-at x ys i y lt is =
      at_drop_more (spot before x) ys i y lt ∙ ap (λ z. cond (before x z) 0 (suc (spot before x (drop (i + 1) ys)))) (sym is)

  pub spot-here : (x : A) (ys : List A) (i : ℕ) (y : A) → i < length ys → y ≡ get_or ys i y → before x y ≡ true → spot before x (drop i ys) ≡ 0
  spot-here x ys i y lt is e = spot-at x ys i y lt is ∙ ap (λ t. cond t 0 (suc (spot before x (drop (i + 1) ys)))) e

  pub spot_on : (x : A) (ys : List A) (i : ℕ) (y : A) → i < length ys → y ≡ get_or ys i y → before x y ≡ false → spot before x (drop i ys) ≡ suc (spot before x (drop (i + 1) ys))
  spot_on x ys i y lt is e = spot-at x ys i y lt is ∙ ap (λ t. cond t 0 (suc (spot before x (drop (i + 1) ys)))) e

  pub spot-all : (x : A) (ys : List A) (i : ℕ) → length ys ≤ i → spot before x (drop i ys) ≡ 0
  unfolding spot
  spot-all x ys i le = at_drop_all (spot before x) ys i le

-- ranking images
module _ {A B : Type 0} (f : A → B) (before : B → B → Bool) where
  pub rank_in-map : (x : A) (ys : List A) → map f (rank_in (λ a b. before (f a) (f b)) x ys) ≡ rank_in before (f x) (map f ys)
  unfolding rank_in
  rank_in-map x [] = refl
  rank_in-map x (y ∷ ys) = go (rank_in-map x ys) (before (f x) (f y))
    where
      go : map f (rank_in (λ a b. before (f a) (f b)) x ys) ≡ rank_in before (f x) (map f ys) → (t : Bool)
          → map f (cond t (x ∷ (y ∷ ys)) (y ∷ rank_in (λ a b. before (f a) (f b)) x ys)) ≡ cond t (f x ∷ (f y ∷ map f ys)) (f y ∷ rank_in before (f x) (map f ys))
      go h true = refl
      go h false = ap (λ l. f y ∷ l) h

  pub ranked-map : (xs done : List A) → map f (ranked (λ a b. before (f a) (f b)) xs done) ≡ ranked before (map f xs) (map f done)
  unfolding ranked
  ranked-map [] done = refl
  ranked-map (x ∷ xs) done = ranked-map xs (rank_in (λ a b. before (f a) (f b)) x done) ∙ ap (ranked before (map f xs)) (rank_in-map x done)
