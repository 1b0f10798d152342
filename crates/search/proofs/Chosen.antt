-- Choosing, over cuts beside their facts. Assumes nothing.
use Rattle.std.proofs.Common.{◌≡◌, ℕ, ◌+◌, ◌<◌, ◌≤◌, Bool, List, [], ◌∷◌, map, length, get_or, take, drop, sym, refl, ap, ◌∙◌, arith}
use Rattle.std.proofs.lemmas.List.{take_all, take-map, length-map, map-id, at_drop_more, at_drop_all}
use Rattle.model.specs.Cuts.{Cut as Meant}
use Rattle.model.specs.Rankings.{LeafFacts as Leaf, Facts, Before, rank_in, ranked, first_by}
use Rattle.model.specs.Search.{by_leaves}
use Rattle.model.proofs.Ranks.{rank_in-map, ranked-map, ranked-none, keep_more}
use Rattle.cuts.specs.Meaning.{meaning}
use Rattle.cuts.specs.declared.cut.Cut.{Cut}
use Rattle.rankings.specs.Facts.{facts_of}
use Rattle.rankings.specs.Candidates.{by_facts}
use Rattle.rankings.specs.declared.candidate.Candidate.{Candidate}

-- a candidate's cut and facts, and the same read for a cut
abbrev pub paired : Candidate Cut → Meant × Facts
paired c = (meaning c.item, facts_of c.facts)

abbrev pub paired_by : (ℕ → Leaf) → Meant → Meant × Facts
paired_by leaf c = (c, map leaf c.leaves)

abbrev pub by_pairs : Before → Meant × Facts → Meant × Facts → Bool
by_pairs before a b = before a.1 b.1

map-map : {A B C : Type 0} (f : B → C) (h : A → B) (xs : List A) → map f (map h xs) ≡ map (λ x. f (h x)) xs
map-map f h [] = refl
map-map f h (x ∷ xs) = ap (λ l. f (h x) ∷ l) (map-map f h xs)

module _ (before : Before) (leaf : ℕ → Leaf) where
  -- what is kept in the end, with some cuts still to come: a loop's invariant is that this stays
  abbrev pub to_come : ℕ → List Cut → List (Candidate Cut) → List (Meant × Facts)
  to_come n cs done = take n (ranked (by_pairs before) (map (λ c. paired_by leaf (meaning c)) cs) (map paired done))

  pub come_more : (n : ℕ) (cs : List Cut) (i : ℕ) (c : Cut) (x : Candidate Cut) (done more : List (Candidate Cut)) → i < length cs → c ≡ get_or cs i c
      → x.item ≡ c → facts_of x.facts ≡ map leaf (meaning c).leaves → more ≡ take n (rank_in (by_facts before) x done)
      → to_come n (drop i cs) done ≡ to_come n (drop (i + 1) cs) more
  come_more n cs i c x done more lt is item facts e =
      let rest = map (λ c. paired_by leaf (meaning c)) (drop (i + 1) cs) in
      let same : paired_by leaf (meaning c) ≡ paired x = λ j. (meaning (sym item j), sym facts j) in
      at_drop_more (λ l. to_come n l done) cs i c lt
      ∙ ap (λ k. take n (ranked (by_pairs before) (k ∷ rest) (map paired done))) (ap (λ c. paired_by leaf (meaning c)) (sym is) ∙ same)
      ∙ keep_more (by_pairs before) n (paired x) rest (map paired done) (map paired more)
      (ap (map paired) e ∙ sym (take-map paired n (rank_in (by_facts before) x done)) ∙ ap (take n) (rank_in-map paired (by_pairs before) x done))

  pub come_all : (n : ℕ) (cs : List Cut) (i : ℕ) (list : List (Candidate Cut)) → length cs ≤ i → length list ≤ n
      → to_come n (drop i cs) list ≡ to_come n cs [] → map meaning (map (λ c. c.item) list) ≡ first_by (by_leaves before leaf) n (map meaning cs)
  come_all n cs i list le few inv =
      let l = length-map list paired in
      let B = by_leaves before leaf in
      let all : map paired list ≡ to_come n cs [] =
      sym (take_all n (map paired list) (omega arith)) ∙ ap (take n) (sym (ranked-none (by_pairs before) (map paired list))) ∙ sym (at_drop_all (λ l. to_come n l list) cs i le) ∙ inv in
      let cuts : to_come n cs [] ≡ map (paired_by leaf) (first_by B n (map meaning cs)) =
      ap (λ l. take n (ranked (by_pairs before) l [])) (sym (map-map (paired_by leaf) meaning cs)) ∙ ap (take n) (sym (ranked-map (paired_by leaf) (by_pairs before) (map meaning cs) []))
      ∙ take-map (paired_by leaf) n (ranked B (map meaning cs) []) in
      map-map meaning (λ c. c.item) list ∙ sym (map-map (λ p. p.0) paired list) ∙ ap (map (λ p. p.0)) (all ∙ cuts) ∙ map-map (λ p. p.0) (paired_by leaf) (first_by B n (map meaning cs))
      ∙ map-id (first_by B n (map meaning cs))
