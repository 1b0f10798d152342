-- Two rising lists united, the least first.
use Rattle.std.proofs.Common.{◌≡◌, ℕ, zero, suc, ◌+◌, ◌<◌, ◌≤◌, Bool, true, false, cond, ◌||◌, eqb, ltb, ◌⊎◌, List, [], ◌∷◌, ◌++◌, length, get_or, take, drop, set, sym, refl, ap, ◌∙◌, ap₂, inl, inr, ⊎_elim, append_assoc, append-nil, arith, length-append, length-drop, length-set, length-take-le, get_or-drop, drop-cons, get_or-set_other, take-suc-set}
use mathlib.Core.Bool.{or_assoc, or-true, or_self_left}
use lib.Seq.{drop-nil}
use Rattle.std.proofs.lemmas.Bool.{lt-ltb, le-ltb, eq-eqb, ne_eqb, ltb-true, ltb-false, eqb-true, eqb-false, cases_eq, or_cases}
use Rattle.model.specs.Leaves.{has, insert, unite, Rising, Within}
use Rattle.model.specs.Rankings.{Every}
use Rattle.model.proofs.Places.{has-at}
use Rattle.model.proofs.Lists.{or_swap, every_in, every-from}

abbrev pub Above : ℕ → List ℕ → Type 0
Above x zs = (q : ℕ) → q < length zs → x < get_or zs q 0

above-tail : (x z : ℕ) (zs : List ℕ) → Above x (z ∷ zs) → Above x zs
above-tail x z zs h q l = h (suc q) (omega arith)

above-cons : (x z : ℕ) (zs : List ℕ) → x < z → Above x zs → Above x (z ∷ zs)
above-cons x z zs a h zero l = a
above-cons x z zs a h (suc q) l = h q (omega arith)

insert-front : (x : ℕ) (zs : List ℕ) → Above x zs → insert x zs ≡ x ∷ zs
insert-front x [] h = refl
insert-front x (z ∷ zs) h = rw (lt-ltb x z (h 0 (omega arith)))

insert-same : (x : ℕ) (zs : List ℕ) → insert x (x ∷ zs) ≡ x ∷ zs
insert-same x zs = rw (le-ltb x x (omega arith), eq-eqb x x refl)

insert-later : (x z : ℕ) (zs : List ℕ) → z < x → insert x (z ∷ zs) ≡ z ∷ insert x zs
insert-later x z zs h = rw (le-ltb x z (omega arith), ne_eqb x z (λ e. omega arith))

insert-above : (x y : ℕ) (zs : List ℕ) → x < y → Above x zs → Above x (insert y zs)
insert-above x y [] a h = above-cons x y [] a h
insert-above x y (z ∷ zs) a h =
    go (ltb y z) (eqb y z) (insert-above x y zs a (above-tail x z zs h))
  where
    go : (s t : Bool) → Above x (insert y zs) → Above x (cond s (y ∷ (z ∷ zs)) (cond t (z ∷ zs) (z ∷ insert y zs)))
    go true t ih q l = above-cons x y (z ∷ zs) a h q l
    go false true ih q l = h q l
    go false false ih q l = above-cons x z (insert y zs) (h 0 (omega arith)) ih q l

pub unite-above : (x : ℕ) (xs ys : List ℕ) → Above x xs → Above x ys → Above x (unite xs ys)
unite-above x [] ys a b = b
unite-above x (z ∷ xs) ys a b = insert-above x z (unite xs ys) (a 0 (omega arith)) (unite-above x xs ys (above-tail x z xs a) b)

pub unite-left : (x : ℕ) (xs ys : List ℕ) → Above x xs → Above x ys → unite (x ∷ xs) ys ≡ x ∷ unite xs ys
unite-left x xs ys a b = insert-front x (unite xs ys) (unite-above x xs ys a b)

pub unite-right : (y : ℕ) (xs ys : List ℕ) → Above y xs → unite xs (y ∷ ys) ≡ y ∷ unite xs ys
unite-right y [] ys a = refl
unite-right y (x ∷ xs) ys a =
    ap (insert x) (unite-right y xs ys (above-tail y x xs a)) ∙ insert-later x y (unite xs ys) (a 0 (omega arith))

pub unite-both : (x : ℕ) (xs ys : List ℕ) → Above x xs → unite (x ∷ xs) (x ∷ ys) ≡ x ∷ unite xs ys
unite-both x xs ys a = ap (insert x) (unite-right x xs ys a) ∙ insert-same x (unite xs ys)

insert-some : (x : ℕ) (zs : List ℕ) → 0 < length (insert x zs)
insert-some x [] = omega arith
insert-some x (z ∷ zs) = go (ltb x z) (eqb x z)
  where
    go : (s t : Bool) → 0 < length (cond s (x ∷ (z ∷ zs)) (cond t (z ∷ zs) (z ∷ insert x zs)))
    go true t = omega arith
    go false true = omega arith
    go false false = omega arith

pub unite-some : (xs ys : List ℕ) → (0 < length xs) ⊎ (0 < length ys) → 0 < length (unite xs ys)
unite-some [] ys h = ⊎_elim (λ (a : 0 < 0). absurd (omega arith)) (λ (b : 0 < length ys). b) h
unite-some (x ∷ xs) ys h = insert-some x (unite xs ys)

-- each leaf of either list stands in the united one
insert-has : (l x : ℕ) (zs : List ℕ) → has l (insert x zs) ≡ (eqb l x || has l zs)
insert-has l x [] = refl
insert-has l x (z ∷ zs) = go (ltb x z) refl (eqb x z) refl (insert-has l x zs)
  where
    go : (s : Bool) → ltb x z ≡ s → (t : Bool) → eqb x z ≡ t → has l (insert x zs) ≡ (eqb l x || has l zs)
        → has l (cond s (x ∷ (z ∷ zs)) (cond t (z ∷ zs) (z ∷ insert x zs))) ≡ (eqb l x || (eqb l z || has l zs))
    go true e t f ih = refl
    go false e true f ih = ap (λ n. eqb l n || has l zs) (sym (eqb-true x z f)) ∙ sym (or_self_left (eqb l x) (has l zs)) ∙ ap (λ n. eqb l x || (eqb l n || has l zs)) (eqb-true x z f)
    go false e false f ih = ap (◌||◌ (eqb l z)) ih ∙ or_swap (eqb l z) (eqb l x) (has l zs)

pub unite-has : (l : ℕ) (xs ys : List ℕ) → has l (unite xs ys) ≡ (has l xs || has l ys)
unite-has l [] ys = refl
unite-has l (x ∷ xs) ys = insert-has l x (unite xs ys) ∙ ap (◌||◌ (eqb l x)) (unite-has l xs ys) ∙ sym (or_assoc (eqb l x) (has l xs) (has l ys))

pub within-left : (xs ys : List ℕ) → Within xs (unite xs ys)
within-left xs ys q h = unite-has (get_or xs q 0) xs ys ∙ rw (has-at xs q h)

pub within-right : (xs ys : List ℕ) → Within ys (unite xs ys)
within-right xs ys q h = unite-has (get_or ys q 0) xs ys ∙ rw (has-at ys q h) (or-true (has (get_or ys q 0) xs))

-- what holds of the leaves of both holds of the united ones
pub every-united : (P : ℕ → Type 0) (xs ys : List ℕ) → Every P xs → Every P ys → Every P (unite xs ys)
every-united P xs ys ex ey =
    every-from P (unite xs ys) (λ l h. ⊎_elim (every_in P xs l ex) (every_in P ys l ey) (or_cases (has l xs) (has l ys) (sym (unite-has l xs ys) ∙ h)))

-- rising
insert-rising : (x : ℕ) (zs : List ℕ) → Rising zs → Rising (insert x zs)
insert-rising x [] r = λ i j a b. absurd (omega arith)
insert-rising x (z ∷ zs) r = go (ltb x z) refl (eqb x z) refl (insert-rising x zs (λ i j a b. r (suc i) (suc j) (omega arith) (omega arith)))
  where
    over : Above z zs
    over q l = r 0 (suc q) (omega arith) (omega arith)

    cons : (y : ℕ) (ys : List ℕ) → Above y ys → Rising ys → Rising (y ∷ ys)
    cons y ys h s i zero a b = absurd (omega arith)
    cons y ys h s zero (suc j) a b = h j (omega arith)
    cons y ys h s (suc i) (suc j) a b = s i j (omega arith) (omega arith)

    go : (s : Bool) → ltb x z ≡ s → (t : Bool) → eqb x z ≡ t → Rising (insert x zs) → Rising (cond s (x ∷ (z ∷ zs)) (cond t (z ∷ zs) (z ∷ insert x zs)))
    go true e t f ih i j a b = cons x (z ∷ zs) (above-cons x z zs (ltb-true x z e) (λ q l. omega (arith, ltb-true x z e, over q l))) r i j a b
    go false e true f ih i j a b = r i j a b
    go false e false f ih i j a b = cons z (insert x zs) (insert-above z x zs (lt (ltb-false x z e) (eqb-false x z f)) over) ih i j a b
      where
        lt : z ≤ x → (x ≡ z → ⊥) → z < x
        lt p q = ⊎_elim (λ (k : x ≡ z). absurd (q k)) (λ (k : x ≡ z → ⊥). omega arith) (cases_eq x z)

pub unite-rising : (xs ys : List ℕ) → Rising ys → Rising (unite xs ys)
unite-rising [] ys r = r
unite-rising (x ∷ xs) ys r = insert-rising x (unite xs ys) (unite-rising xs ys r)

-- ---- leaf by leaf, the least first
pub record Merged (n : ℕ) (a b : List ℕ) (i j count : ℕ) (out : List ℕ) : Type 0 where
  pub of_a : i ≤ length a
  pub of_b : j ≤ length b
  pub few : count ≤ n
  pub room : n ≤ length out
  pub done : take count out ++ unite (drop i a) (drop j b) ≡ unite a b
  pub zeros : (k : ℕ) → count ≤ k → get_or out k 0 ≡ 0

drop-above : (a : List ℕ) (x k : ℕ) → Rising a → ((q : ℕ) → k ≤ q → q < length a → x < get_or a q 0) → Above x (drop k a)
drop-above a x k r h q l = rw (get_or-drop k a q 0) (h (k + q) (omega arith) (omega (arith, length-drop k a)))

module _ (n : ℕ) (a b : List ℕ) (ra : Rising a) (rb : Rising b) where
  pub merged-start : (out : List ℕ) → n ≤ length out → ((k : ℕ) → get_or out k 0 ≡ 0) → Merged n a b 0 0 0 out
  merged-start out l z = record { of_a = omega arith; of_b = omega arith; few = omega arith; room = l; done = refl; zeros = λ k _. z k }

  -- one more leaf x in front of what is left
  next : (i j count : ℕ) (out : List ℕ) (x : ℕ) (rest : List ℕ) → Merged n a b i j count out → count < n → unite (drop i a) (drop j b) ≡ x ∷ rest → take (suc count) (set out count x) ++ rest ≡ unite a b
  next i j count out x rest m h e =
      ap (λ r. r ++ rest) (take-suc-set out count x (omega (arith, m.room))) ∙ append_assoc (take count out) (x ∷ []) rest ∙ ap (λ r. take count out ++ r) (sym e) ∙ m.done

  module _ (i j count : ℕ) (out : List ℕ) (m : Merged n a b i j count out) (h : count < n) where
    stay : (x : ℕ) (k : ℕ) → suc count ≤ k → get_or (set out count x) k 0 ≡ 0
    stay x k l = get_or-set_other out count k x 0 (λ z. omega arith) ∙ m.zeros k (omega arith)

    above-a : i < length a → Above (get_or a i 0) (drop (suc i) a)
    above-a l = drop-above a (get_or a i 0) (suc i) ra (λ q k g. ra i q (omega arith) g)

    above-b : j < length b → Above (get_or b j 0) (drop (suc j) b)
    above-b l = drop-above b (get_or b j 0) (suc j) rb (λ q k g. rb j q (omega arith) g)

    pub merged-left : i < length a → (j < length b → get_or a i 0 < get_or b j 0) → Merged n a b (suc i) j (suc count) (set out count (get_or a i 0))
    merged-left l less =
        let e : unite (drop i a) (drop j b) ≡ get_or a i 0 ∷ unite (drop (suc i) a) (drop j b) =
        ap (λ r. unite r (drop j b)) (drop-cons a i 0 l)
        ∙ unite-left (get_or a i 0) (drop (suc i) a) (drop j b) (above-a l)
        (drop-above b (get_or a i 0) j rb (λ q k g. ⊎_elim (λ (z : q ≡ j). omega (arith, less (omega arith), ap (λ n. get_or b n 0) z)) (λ (z : q ≡ j → ⊥). omega (arith, less (omega arith), rb j q (omega arith) g)) (cases_eq q j))) in
        record {
          of_a = omega arith;
          of_b = m.of_b;
          few = omega arith;
          room = omega (arith, length-set out count (get_or a i 0), m.room);
          done = next i j count out (get_or a i 0) (unite (drop (suc i) a) (drop j b)) m h e;
          zeros = stay (get_or a i 0);
        }

    pub merged-right : j < length b → (i < length a → get_or b j 0 < get_or a i 0) → Merged n a b i (suc j) (suc count) (set out count (get_or b j 0))
    merged-right l less =
        let e : unite (drop i a) (drop j b) ≡ get_or b j 0 ∷ unite (drop i a) (drop (suc j) b) =
        ap (λ r. unite (drop i a) r) (drop-cons b j 0 l)
        ∙ unite-right (get_or b j 0) (drop i a) (drop (suc j) b)
        (drop-above a (get_or b j 0) i ra (λ q k g. ⊎_elim (λ (z : q ≡ i). omega (arith, less (omega arith), ap (λ n. get_or a n 0) z)) (λ (z : q ≡ i → ⊥). omega (arith, less (omega arith), ra i q (omega arith) g)) (cases_eq q i))) in
        record {
          of_a = m.of_a;
          of_b = omega arith;
          few = omega arith;
          room = omega (arith, length-set out count (get_or b j 0), m.room);
          done = next i j count out (get_or b j 0) (unite (drop i a) (drop (suc j) b)) m h e;
          zeros = stay (get_or b j 0);
        }

    pub merged-both : i < length a → j < length b → get_or a i 0 ≡ get_or b j 0 → Merged n a b (suc i) (suc j) (suc count) (set out count (get_or a i 0))
    merged-both l k same =
        let e : unite (drop i a) (drop j b) ≡ get_or a i 0 ∷ unite (drop (suc i) a) (drop (suc j) b) =
        ap₂ unite (drop-cons a i 0 l) (drop-cons b j 0 k ∙ ap (λ x. x ∷ drop (suc j) b) (sym same))
        ∙ unite-both (get_or a i 0) (drop (suc i) a) (drop (suc j) b) (above-a l) in
        record {
          of_a = omega arith;
          of_b = omega arith;
          few = omega arith;
          room = omega (arith, length-set out count (get_or a i 0), m.room);
          done = next i j count out (get_or a i 0) (unite (drop (suc i) a) (drop (suc j) b)) m h e;
          zeros = stay (get_or a i 0);
        }

  -- none left
  pub merged-all : (i j count : ℕ) (out : List ℕ) → Merged n a b i j count out → length a ≤ i → length b ≤ j → take count out ≡ unite a b
  merged-all i j count out m h k =
      sym (append-nil (take count out)) ∙ ap (λ r. take count out ++ r) (sym (ap₂ unite (none a i h) (none b j k))) ∙ m.done
    where
      none : (xs : List ℕ) (k : ℕ) → length xs ≤ k → drop k xs ≡ []
      none [] k l = drop-nil k
      none (x ∷ xs) zero l = absurd (omega arith)
      none (x ∷ xs) (suc k) l = none xs k (omega arith)

  -- one more, and no room
  pub merged-full : (i j count : ℕ) (out : List ℕ) → Merged n a b i j count out → count ≡ n → (i < length a) ⊎ (j < length b) → n < length (unite a b)
  merged-full i j count out m full h =
      let some : 0 < length (unite (drop i a) (drop j b)) = unite-some (drop i a) (drop j b)
      (⊎_elim (λ (x : i < length a). inl (omega (arith, length-drop i a))) (λ (x : j < length b). inr (omega (arith, length-drop j b))) h) in
      let e : length (take count out ++ unite (drop i a) (drop j b)) ≡ length (unite a b) = ap length m.done in
      omega (arith, length-append (take count out) (unite (drop i a) (drop j b)), length-take-le count out (omega (arith, m.room)))

-- as the code has them
pub merged_as : {n : ℕ} {a b : List ℕ} {i j count i' j' count' : ℕ} {out out' : List ℕ} → Merged n a b i j count out → i' ≡ i → j' ≡ j → count' ≡ count → out' ≡ out → Merged n a b i' j' count' out'
merged_as m e₁ e₂ e₃ e₄ = rw (e₁, e₂, e₃, e₄) m
