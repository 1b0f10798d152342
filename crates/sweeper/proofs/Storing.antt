-- Kept cuts in their rows, and their keys in the slots.
use Rattle.std.proofs.Common.{◌≡◌, ℕ, ◌+◌, ◌<◌, ◌≤◌, Bool, true, false, cond, List, [], ◌∷◌, ◌++◌, map, length, get_or, take, drop, Some, None, Option, sym, refl, ap, ◌∙◌, subst, ap₂, arith, length-append}
use borrow.Rule.Slice.PartMut.{put_mid}
use Rattle.std.proofs.lemmas.List.{drop-drop, take_more, map_push}
use Rattle.model.specs.Cuts.{Cut as Meant, key_list, key_sign}
use Rattle.model.specs.Edges.{signed}
use Rattle.model.specs.Graphs.{or_else}
use Rattle.model.specs.Keys.{eq_list, first_of}
use Rattle.model.specs.Rankings.{Every}
use Rattle.model.specs.Sessions.{positions}
use Rattle.model.proofs.Keys.{same-eq}
use Rattle.cuts.specs.declared.cut.Cut.{Cut}
use Rattle.cuts.specs.declared.key.CutKey.{CutKey}
use Rattle.cuts.specs.Meaning.{meaning}
use Rattle.cuts.specs.Keys.{key_meaning}
use Rattle.lookup.specs.Hash.{hashed_slot}
use Rattle.lookup.specs.Slots.{Slot, probed, found, slots_after}
use Rattle.lookup.proofs.Standing.{found-stays}
use Rattle.lookup.specs.Entries.{Stands, with_entry, taken}
use Rattle.sweeper.specs.Tables.{stored, look_with, Enters}

-- a part written over is the list stored there
pub put-stored : {A : Type 0} (ys part xs : List A) (at k : ℕ) → part ≡ xs → k ≡ length xs → put_mid at k ys part ≡ stored at xs ys
put-stored ys part xs at k e h = ap₂ (λ p n. take at ys ++ (p ++ drop n (drop at ys))) e h ∙ ap (λ l. take at ys ++ (xs ++ l)) (drop-drop (length xs) at ys)

-- ---- one more key
or-none : {A : Type 0} (m : Option A) → or_else m None ≡ m
or-none (Some a) = refl
or-none None = refl

first_more : (e : ℕ) (q : List ℕ) (cs : List Meant) (c : Meant)
    → first_of (key_list positions) (λ d. Some (signed e (key_sign d))) None q (cs ++ (c ∷ []))
    ≡ or_else (first_of (key_list positions) (λ d. Some (signed e (key_sign d))) None q cs) (cond (eq_list (key_list positions c) q) (Some (signed e (key_sign c))) None)
unfolding first_of
first_more e q [] c = refl
first_more e q (d ∷ cs) c = go (eq_list (key_list positions d) q) (first_more e q cs c)
  where
    F : List Meant → Option ℕ
    F = first_of (key_list positions) (λ d. Some (signed e (key_sign d))) None q

    go : (t : Bool) → F (cs ++ (c ∷ [])) ≡ or_else (F cs) (cond (eq_list (key_list positions c) q) (Some (signed e (key_sign c))) None)
        → cond t (Some (signed e (key_sign d))) (F (cs ++ (c ∷ []))) ≡ or_else (cond t (Some (signed e (key_sign d))) (F cs)) (cond (eq_list (key_list positions c) q) (Some (signed e (key_sign c))) None)
    go true h = refl
    go false h = h

module _ (e : ℕ) (look : List ℕ → Option ℕ) (cs : List Meant) (c : Meant) (unknown : look (key_list positions c) ≡ None) where
  abbrev F : List ℕ → Option ℕ
  F q = first_of (key_list positions) (λ d. Some (signed e (key_sign d))) None q cs

  more : (q : List ℕ) → look_with (cs ++ (c ∷ [])) e look q ≡ or_else (or_else (F q) (cond (eq_list (key_list positions c) q) (Some (signed e (key_sign c))) None)) (look q)
  more q = ap (λ m. or_else m (look q)) (first_more e q cs c)

  -- a new key
  look_new : look_with cs e look (key_list positions c) ≡ None → (q : List ℕ) → with_entry (key_list positions c) (signed e (key_sign c)) (look_with cs e look) q ≡ look_with (cs ++ (c ∷ [])) e look q
  look_new none q = go (eq_list (key_list positions c) q) refl ∙ sym (more q)
    where
      absent : (m : Option ℕ) (l : Option ℕ) → or_else m l ≡ None → m ≡ None
      absent (Some x) l h = cc
      absent None l h = refl

      go : (t : Bool) → eq_list (key_list positions c) q ≡ t → cond t (Some (signed e (key_sign c))) (look_with cs e look q) ≡ or_else (or_else (F q) (cond t (Some (signed e (key_sign c))) None)) (look q)
      go true h =
          let z = same-eq (key_list positions c) q h in
          sym (ap (λ m. or_else (or_else m (Some (signed e (key_sign c)))) (look q)) (absent (F q) (look q) (subst (λ k. look_with cs e look k ≡ None) z none)))
      go false h = sym (ap (λ m. or_else m (look q)) (or-none (F q)))

  -- a key that is there already
  look_old : (w : ℕ) → look_with cs e look (key_list positions c) ≡ Some w → (q : List ℕ) → look_with cs e look q ≡ look_with (cs ++ (c ∷ [])) e look q
  look_old w is q = go (eq_list (key_list positions c) q) refl ∙ sym (more q)
    where
      kept : (m l : Option ℕ) (d : Option ℕ) → l ≡ None → or_else m l ≡ Some w → or_else m l ≡ or_else (or_else m d) l
      kept (Some x) l d h k = refl
      kept None l d h k = let z : ◌≡◌ {A = ℕ} 0 1 = cc in absurd (omega arith)

      go : (t : Bool) → eq_list (key_list positions c) q ≡ t → look_with cs e look q ≡ or_else (or_else (F q) (cond t (Some (signed e (key_sign c))) None)) (look q)
      go true h =
          let z = same-eq (key_list positions c) q h in
          kept (F q) (look q) (Some (signed e (key_sign c))) (subst (λ k. look k ≡ None) z unknown) (subst (λ k. look_with cs e look k ≡ Some w) z is)
      go false h = sym (ap (λ m. or_else m (look q)) (or-none (F q)))

every-split : (P : Cut → Type 0) (xs : List Cut) (x : Cut) → Every P (xs ++ (x ∷ [])) → Every P xs × P x
every-split P [] x e = (tt, e.0)
every-split P (y ∷ xs) x e = let r = every-split P xs x e.1 in ((e.0, r.0), r.1)

pub enters_none : (e : ℕ) (slots : List (Slot CutKey)) → Enters [] e slots slots
unfolding first_of
enters_none e slots = record { room = refl; entered = λ look st h ev. (record { tidy = st.tidy; gives = st.gives; count = refl }, omega arith) }

pub enters_more : (kept : List Cut) (e : ℕ) (slots mid after : List (Slot CutKey)) (i : ℕ) (cut : Cut) (key : CutKey) (v : ℕ)
    → i < length kept → cut ≡ get_or kept i cut → key_meaning key ≡ key_list positions (meaning cut) → v ≡ signed e (key_sign (meaning cut))
    → Enters (take i kept) e slots mid
    → after ≡ slots_after (probed key_meaning hashed_slot mid (key_meaning key)) mid key v
    → length after ≡ length mid
    → ((look : List ℕ → Option ℕ) (n : ℕ) → Stands key_meaning hashed_slot mid look n → look (key_meaning key) ≡ None → n < length mid → Stands key_meaning hashed_slot after (with_entry (key_meaning key) v look) (n + 1))
    → Enters (take (i + 1) kept) e slots after
enters_more kept e slots mid after i cut key v h is kis vis en stored_there room new =
    subst (λ l. Enters l e slots after) (sym (take_more kept i cut h ∙ ap (λ x. take i kept ++ (x ∷ [])) (sym is)))
    (record { room = room ∙ en.room; entered = entered })
  where
    xs : List Cut
    xs = take i kept

    K : List ℕ
    K = key_list positions (meaning cut)

    entered : (look : List ℕ → Option ℕ) → Stands key_meaning hashed_slot slots look (taken slots) → taken slots + length (xs ++ (cut ∷ [])) ≤ length slots
        → Every (λ c. look (key_list positions (meaning c)) ≡ None) (xs ++ (cut ∷ []))
        → Stands key_meaning hashed_slot after (look_with (map meaning (xs ++ (cut ∷ []))) e look) (taken after) × (taken after ≤ taken slots + length (xs ++ (cut ∷ [])))
    entered look st fits every = go (look_with (map meaning xs) e look K) refl
      where
        parts : Every (λ c. look (key_list positions (meaning c)) ≡ None) xs × (look K ≡ None)
        parts = every-split (λ c. look (key_list positions (meaning c)) ≡ None) xs cut every

        size : length (xs ++ (cut ∷ [])) ≡ length xs + 1
        size = length-append xs (cut ∷ [])

        prior : Stands key_meaning hashed_slot mid (look_with (map meaning xs) e look) (taken mid) × (taken mid ≤ taken slots + length xs)
        prior = en.entered look st (omega (arith, size)) parts.0

        last : (q : List ℕ) → look_with (map meaning xs ++ (meaning cut ∷ [])) e look q ≡ look_with (map meaning (xs ++ (cut ∷ []))) e look q
        last q = ap (λ l. look_with l e look q) (sym (map_push meaning xs cut))

        go : (r : Option ℕ) → look_with (map meaning xs) e look K ≡ r
            → Stands key_meaning hashed_slot after (look_with (map meaning (xs ++ (cut ∷ []))) e look) (taken after) × (taken after ≤ taken slots + length (xs ++ (cut ∷ [])))
        go None z =
            let n = new (look_with (map meaning xs) e look) (taken mid) prior.0 (ap (look_with (map meaning xs) e look) kis ∙ z) (omega (arith, prior.1, size, en.room)) in (
              record {
                tidy = n.tidy;
                gives = λ q. n.gives q ∙ ap₂ (λ k w. with_entry k w (look_with (map meaning xs) e look) q) kis vis ∙ look_new e look (map meaning xs) (meaning cut) parts.1 z q ∙ last q;
                count = refl;
              },
              omega (arith, n.count, prior.1, size),
            )
        go (Some w) z =
            let f : found key_meaning hashed_slot mid (key_meaning key) ≡ Some w = prior.0.gives (key_meaning key) ∙ ap (look_with (map meaning xs) e look) kis ∙ z in
            let same : after ≡ mid = stored_there ∙ found-stays key_meaning hashed_slot mid (key_meaning key) key v w f in (
              subst (λ l. Stands key_meaning hashed_slot l (look_with (map meaning (xs ++ (cut ∷ []))) e look) (taken l)) (sym same) (record {
                tidy = prior.0.tidy;
                gives = λ q. prior.0.gives q ∙ look_old e look (map meaning xs) (meaning cut) parts.1 w z q ∙ last q;
                count = refl;
              }),
              omega (arith, prior.1, size, ap taken same),
            )
