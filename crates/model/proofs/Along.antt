-- The steps of a search along a list. Assumes nothing.
use Rattle.std.proofs.Common.{◌≡◌, ℕ, ◌+◌, ◌<◌, ◌≤◌, List, [], ◌∷◌, ◌++◌, map, length, get_or, drop, Option, sym, refl, ap, ◌∙◌, arith}
use Rattle.std.proofs.lemmas.List.{at_drop_more, at_drop_all}
use Rattle.model.specs.Cuts.{Cut, key_list}
use Rattle.model.specs.Search.{Search, ended, candidates, Decision, after, along, judged, settled, pairs}

module _ {A : Type 0} (step : A → List Cut → Search) where
  pub along-none : (found : List Cut) → along step [] found ≡ candidates found
  unfolding along
  along-none found = refl

  pub along_one : (x : A) (xs : List A) (found : List Cut) → along step (x ∷ xs) found ≡ after (step x found) (along step xs)
  unfolding along
  along_one x xs found = refl

  -- where the i-th element ends the search
  pub along_ends : (xs : List A) (i : ℕ) (x : A) (found : List Cut) (d : Decision) → i < length xs → x ≡ get_or xs i x
      → step x found ≡ ended d → along step (drop i xs) found ≡ ended d
  along_ends xs i x found d lt is e =
      at_drop_more (λ l. along step l found) xs i x lt ∙ along_one (get_or xs i x) (drop (i + 1) xs) found
      ∙ ap (λ y. after (step y found) (along step (drop (i + 1) xs))) (sym is) ∙ ap (λ s. after s (along step (drop (i + 1) xs))) e

  -- where it leaves more candidates
  pub along-more : (xs : List A) (i : ℕ) (x : A) (found more : List Cut) → i < length xs → x ≡ get_or xs i x
      → step x found ≡ candidates more → along step (drop i xs) found ≡ along step (drop (i + 1) xs) more
  along-more xs i x found more lt is e =
      at_drop_more (λ l. along step l found) xs i x lt ∙ along_one (get_or xs i x) (drop (i + 1) xs) found
      ∙ ap (λ y. after (step y found) (along step (drop (i + 1) xs))) (sym is) ∙ ap (λ s. after s (along step (drop (i + 1) xs))) e

  pub along-all : (xs : List A) (i : ℕ) (found : List Cut) → length xs ≤ i → along step (drop i xs) found ≡ candidates found
  along-all xs i found le = at_drop_all (λ l. along step l found) xs i le ∙ along-none found

-- along the images of a list
pub along-map : {A B : Type 0} (f : A → B) (step : B → List Cut → Search) (xs : List A) (found : List Cut)
    → along (λ x. step (f x)) xs found ≡ along step (map f xs) found
unfolding along
along-map f step [] found = refl
along-map f step (x ∷ xs) found = ap (after (step (f x) found)) (λ i found. along-map f step xs found i)

-- two leaves or more: the key decides
pub judged-wide : (p : ℕ) (look : List ℕ → Option ℕ) (c : Cut) (ls : List ℕ) (found : List Cut) → 2 ≤ length ls → judged p look c ls found ≡ settled p c (look (key_list p c)) found
judged-wide p look c [] found h = absurd (omega arith)
judged-wide p look c (l ∷ []) found h = absurd (omega arith)
judged-wide p look c (l ∷ (m ∷ ls)) found h = refl

-- one list after another
along-append : {A : Type 0} (step : A → List Cut → Search) (xs ys : List A) (found : List Cut) → along step (xs ++ ys) found ≡ after (along step xs found) (along step ys)
unfolding along
along-append step [] ys found = refl
along-append step (x ∷ xs) ys found = go (step x found) (along-append step xs ys)
  where
    go : (s : Search) → ((f : List Cut) → along step (xs ++ ys) f ≡ after (along step xs f) (along step ys)) → after s (along step (xs ++ ys)) ≡ after (after s (along step xs)) (along step ys)
    go (ended d) h = refl
    go (candidates f) h = h f

-- the nested search is the search along the list of all pairs
pub along-pairs : (step : Cut × Cut → List Cut → Search) (xs ys : List Cut) (found : List Cut)
    → along step (pairs xs ys) found ≡ along (λ x. along (λ y. step (x, y)) ys) xs found
unfolding along
along-pairs step [] ys found = refl
along-pairs step (x ∷ xs) ys found =
    along-append step (map (λ y. (x, y)) ys) (pairs xs ys) found
    ∙ (let e = sym (along-map (λ y. (x, y)) step ys found) in λ i. after (e i) (λ f. along-pairs step xs ys f i))
