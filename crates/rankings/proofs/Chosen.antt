-- Choosing the first few, one candidate after the other. Assumes nothing.
use Rattle.std.proofs.Common.{◌≡◌, ℕ, ◌+◌, ◌<◌, ◌≤◌, min, Bool, List, [], ◌∷◌, length, get_or, take, drop, sym, refl, ap, ◌∙◌, ⊎_elim, arith}
use Rattle.std.proofs.lemmas.List.{take_all, length-take-le, length-drop, drop_all, drop-drop, at_drop_more, at_drop_all}
use Rattle.std.proofs.lemmas.Bool.{cases_lt}
use Rattle.lent.specs.declared.list.LentList.{LentList}
use Rattle.lent.specs.Lists.{listed, unused, room, lender}
use Rattle.model.specs.Rankings.{rank_in, ranked, first_by}
use Rattle.model.proofs.Ranks.{ranked-none, keep_more}

-- to a list that was empty the first i of the xs were offered
pub record Offered {A : Type 0} (before : A → A → Bool) (empty : LentList A) (xs : List A) (i : ℕ) (list : LentList A) : Type 0 where
  pub loan : lender list ≡ lender empty
  pub places : room list ≡ room empty
  pub first : take (room empty) (ranked before (drop i xs) (listed list)) ≡ take (room empty) (ranked before xs [])
  pub rest : unused list ≡ drop i (unused empty)

module _ {A : Type 0} (before : A → A → Bool) (empty : LentList A) (xs : List A) where
  pub offered-none : listed empty ≡ [] → Offered before empty xs 0 empty
  offered-none e = record { loan = refl; places = refl; first = ap (λ l. take (room empty) (ranked before xs l)) e; rest = refl }

  module _ (i : ℕ) (list : LentList A) (so : Offered before empty xs i list) where
    -- one more
    pub offered_more : (x : A) (more : LentList A) → i < length xs → x ≡ get_or xs i x
        → listed more ≡ take (room list) (rank_in before x (listed list)) → unused more ≡ drop 1 (unused list) → room more ≡ room list → lender more ≡ lender list
        → Offered before empty xs (i + 1) more
    offered_more x more lt at is rest same loan =
        record {
          loan = loan ∙ so.loan;
          places = same ∙ so.places;
          first =
              sym (at_drop_more (λ l. take (room empty) (ranked before l (listed list))) xs i x lt
              ∙ ap (λ y. take (room empty) (ranked before (y ∷ drop (i + 1) xs) (listed list))) (sym at)
              ∙ keep_more before (room empty) x (drop (i + 1) xs) (listed list) (listed more) (is ∙ ap (λ n. take n (rank_in before x (listed list))) so.places))
              ∙ so.first;
          rest = rest ∙ ap (drop 1) so.rest ∙ drop-drop 1 i (unused empty);
        }

    -- all of them, where the list was made on places ys
    module _ (ys : List A) (all : length xs ≤ i) (rest : unused empty ≡ ys) (same : room empty ≡ length ys) where
      pub offered-first : listed list ≡ first_by before (length ys) xs
      offered-first =
          let k = length-take-le list.count list.places.now list.within in
          sym (take_all (room empty) (listed list) (omega (arith, k, list.within, so.places))) ∙ ap (take (room empty)) (sym (ranked-none before (listed list)))
          ∙ sym (at_drop_all (λ l. take (room empty) (ranked before l (listed list))) xs i all) ∙ so.first ∙ ap (λ n. first_by before n xs) same

      after : unused list ≡ drop i ys
      after = so.rest ∙ ap (drop i) rest

      pub offered-count : list.count ≡ min (length ys) i
      offered-count = omega (arith, length-drop list.count list.places.now, length-drop i ys, ap length after, list.within, so.places, same)

      -- the places not in use stay as they were
      pub offered-rest : unused list ≡ drop list.count ys
      offered-rest =
          ⊎_elim
          (λ (lt : i < length ys). let s : list.count ≡ i = omega (arith, offered-count) in after ∙ ap (λ j. drop j ys) (sym s))
          (λ (le : length ys ≤ i). after ∙ drop_all i ys le ∙ sym (drop_all list.count ys (omega (arith, offered-count))))
          (cases_lt i (length ys))

-- a fact of a list, told of one that is equal to it
pub told_of : {A B : Type 0} (f : List A → B) (r : B) (ys ps : List A) → f ys ≡ r → ps ≡ ys → f ps ≡ r
told_of f r ys ps h e = ap f e ∙ h
