-- A position is free exactly when the leaf there does not matter; so a squeezed table depends on each of its leaves.
use Rattle.std.proofs.Common.{◌≡◌, ℕ, ◌<◌, ◌≤◌, Bool, true, false, cond, eqb, List, length, get_or, sym, refl, ap, ◌∙◌, subst, inl, inr, ⊎_elim, zero-add, arith}
use Rattle.std.proofs.lemmas.Bool.{eq-eqb, ne_eqb, cases_eq, cases_lt, cases_Bool, both_ways}
use Rattle.model.specs.CutLaws.{Alike, Idle}
use Rattle.model.specs.Cuts.{Cut, value_of, tabulate, needed}
use Rattle.model.specs.Tables.{masked, put, Free, Rests}
use Rattle.model.specs.Leaves.{has, place, Rising}
use Rattle.model.proofs.Rows.{tabulate-value}
use Rattle.model.proofs.Masked.{agree-free, masked-free, free-masked}
use Rattle.model.proofs.Places.{place_of, has-at, rising-one}
use Rattle.model.proofs.Stretching.{val_list, tabulate-rests}
use Rattle.model.proofs.Squeezing.{needed-at, needed-few, needed-rising, needed_open}

module _ (p t : ℕ) (ls : List ℕ) (few : length ls ≤ p) (rising : Rising ls) (rests : Rests p t (length ls)) where
  abbrev cut : Cut
  cut = record { leaves = ls; table = t }

  at_leaf : (u : ℕ → Bool) (i : ℕ) (b : Bool) → i < length ls → (q : ℕ) → q < length ls → put u (get_or ls i 0) b (get_or ls q 0) ≡ put (λ k. u (get_or ls k 0)) i b q
  at_leaf u i b h q l = ⊎_elim
      (λ (z : q ≡ i). rw (eq-eqb q i z, eq-eqb (get_or ls q 0) (get_or ls i 0) (ap (λ n. get_or ls n 0) z)))
      (λ (z : q ≡ i → ⊥). rw (ne_eqb q i z, ne_eqb (get_or ls q 0) (get_or ls i 0) (λ e. z (rising-one ls rising q i l h e))))
      (cases_eq q i)

  pub free-idle : (i : ℕ) → i < length ls → Free p t i → Idle cut (get_or ls i 0)
  free-idle i h free u b =
      val_list p t ls (put u (get_or ls i 0) b) (put (λ k. u (get_or ls k 0)) i b) few rests (λ q l. sym (at_leaf u i b h q l))
      ∙ free (λ k. u (get_or ls k 0)) b
      ∙ sym (val_list p t ls u (λ k. u (get_or ls k 0)) few rests (λ q l. refl))

  pub idle-free : (i : ℕ) → i < length ls → Idle cut (get_or ls i 0) → Free p t i
  idle-free i h idle v b =
      let u : ℕ → Bool = λ l. v (place l ls) in
      let back : (q : ℕ) → q < length ls → v q ≡ u (get_or ls q 0) = λ q l. ap v (sym (place_of ls rising q l)) in
      sym (val_list p t ls (put u (get_or ls i 0) b) (put v i b) few rests (λ q l. ap (λ x. cond (eqb q i) b x) (back q l) ∙ sym (at_leaf u i b h q l)))
      ∙ idle u b
      ∙ val_list p t ls u v few rests back

  -- the cut looks at the leaves that are needed only
  pub needed_local : (v w : ℕ → Bool) → Alike (needed p t 0 ls) v w → value_of cut v ≡ value_of cut w
  needed_local v w h =
      val_list p t ls v (λ q. v (get_or ls q 0)) few rests (λ q l. refl)
      ∙ agree-free p t (λ q. v (get_or ls q 0)) (λ q. w (get_or ls q 0)) (λ q k. ⊎_elim
      (λ (a : q < length ls). ⊎_elim
      (λ (e : masked p t q ≡ true). inr (masked-free p t q k e))
      (λ (e : masked p t q ≡ false).
      let n = needed-at p t 0 ls q a (ap (masked p t) (zero-add q) ∙ e) in
      let m : has (get_or ls q 0) (needed p t 0 ls) ≡ true = subst (λ x. has x (needed p t 0 ls) ≡ true) n.0 (has-at (needed p t 0 ls) _ n.1) in
      inl (h (get_or ls q 0) m))
      (cases_Bool (masked p t q)))
      (λ (a : length ls ≤ q). inr (rests q a k))
      (cases_lt q (length ls)))
      ∙ sym (val_list p t ls w (λ q. w (get_or ls q 0)) few rests (λ q l. refl))

  abbrev squeezed : ℕ
  squeezed = tabulate p (needed p t 0 ls) (value_of cut)

  -- squeezing keeps the meaning
  pub squeeze-value : (v : ℕ → Bool) → value_of (record { leaves = needed p t 0 ls; table = squeezed }) v ≡ value_of cut v
  squeeze-value v = tabulate-value p (needed p t 0 ls) (value_of cut) (omega (arith, needed-few p t 0 ls)) needed_local v

tight : (p t : ℕ) (ls : List ℕ) (few : length ls ≤ p) (rising : Rising ls) (rests : Rests p t (length ls)) (m : ℕ) → m < length (needed p t 0 ls)
    → masked p (tabulate p (needed p t 0 ls) (value_of (record { leaves = ls; table = t }))) m ≡ true → ⊥
tight p t ls few rising rests m h e =
    let K = needed p t 0 ls in
    let s = tabulate p K (value_of (record { leaves = ls; table = t })) in
    let fewK : length K ≤ p = omega (arith, needed-few p t 0 ls) in
    let n = needed_open p t 0 ls m h in
    let idle : Idle (record { leaves = K; table = s }) (get_or K m 0) = free-idle p s K fewK (needed-rising p t 0 ls rising) (tabulate-rests p K (value_of (record { leaves = ls; table = t }))) m h (masked-free p s m (omega arith) e) in
    let same = squeeze-value p t ls few rising rests in
    let back : Idle (record { leaves = ls; table = t }) (get_or K m 0) = λ u b. sym (same (put u (get_or K m 0) b)) ∙ idle u b ∙ same u in
    let free : Free p t n.0 = idle-free p t ls few rising rests n.0 n.1 (subst (Idle (record { leaves = ls; table = t })) n.2 back) in
    both_ways (masked p t n.0) (ap (masked p t) (sym (zero-add n.0)) ∙ n.3) (free-masked p t n.0 (omega (arith, n.1)) free)

-- a squeezed table depends on each of its leaves
pub squeezed-tight : (p t : ℕ) (ls : List ℕ) → length ls ≤ p → Rising ls → Rests p t (length ls) → (m : ℕ) → m < length (needed p t 0 ls)
    → masked p (tabulate p (needed p t 0 ls) (value_of (record { leaves = ls; table = t }))) m ≡ false
squeezed-tight p t ls few rising rests m h =
    ⊎_elim (λ e. absurd (tight p t ls few rising rests m h e)) (λ e. e) (cases_Bool (masked p (tabulate p (needed p t 0 ls) (value_of (record { leaves = ls; table = t }))) m))
