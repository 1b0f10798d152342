-- Two well-formed cuts with one meaning are one cut.
use Rattle.std.proofs.Common.{◌≡◌, ℕ, zero, suc, ◌<◌, ◌≤◌, Bool, true, false, List, [], ◌∷◌, length, get_or, sym, refl, ap, ◌∙◌, subst, ap₂, ⊎_elim, arith}
use Rattle.std.proofs.lemmas.Bool.{eq-eqb, ne_eqb, cases_eq, cases_Bool, both_ways}
use Rattle.model.specs.Cuts.{Formed, Cut, value_of}
use Rattle.model.specs.Leaves.{has, place, Rising}
use Rattle.model.specs.Tables.{masked, put, Rests}
use Rattle.model.proofs.Positions.{put_other, same_tables}
use Rattle.model.proofs.Masked.{both, free-masked}
use Rattle.model.proofs.Places.{place_in, place_of, has-at}
use Rattle.model.proofs.Stretching.{val_list}
use Rattle.model.specs.CutLaws.{Idle}
use Rattle.model.proofs.Tight.{idle-free}

head-least : (x y : ℕ) (ys : List ℕ) → Rising (y ∷ ys) → has x (y ∷ ys) ≡ true → y ≤ x
head-least x y ys r h = go (place x (y ∷ ys)) (place_in x (y ∷ ys) h)
  where
    go : (k : ℕ) → (get_or (y ∷ ys) k 0 ≡ x) × (k < length (y ∷ ys)) → y ≤ x
    go zero e = omega (arith, e.0)
    go (suc k) e = omega (arith, e.0, r 0 (suc k) (omega arith) e.1)

not-later : (x : ℕ) (xs : List ℕ) → Rising (x ∷ xs) → has x xs ≡ false
not-later x xs r = ⊎_elim
    (λ (h : has x xs ≡ true). let e = place_in x xs h in absurd (omega (arith, e.0, r 0 (suc (place x xs)) (omega arith) (omega (arith, e.1)))))
    (λ (h : has x xs ≡ false). h)
    (cases_Bool (has x xs))

pub same_members : (xs ys : List ℕ) → Rising xs → Rising ys → ((l : ℕ) → has l xs ≡ has l ys) → xs ≡ ys
same_members [] [] r s h = refl
same_members [] (y ∷ ys) r s h = absurd (both_ways false refl (h y ∙ rw (eq-eqb y y refl)))
same_members (x ∷ xs) [] r s h = absurd (both_ways false refl (sym (h x) ∙ rw (eq-eqb x x refl)))
same_members (x ∷ xs) (y ∷ ys) r s h =
    let hx : has x (y ∷ ys) ≡ true = sym (h x) ∙ rw (eq-eqb x x refl) in
    let hy : has y (x ∷ xs) ≡ true = h y ∙ rw (eq-eqb y y refl) in
    let a : y ≤ x = head-least x y ys s hx in
    let b : x ≤ y = head-least y x xs r hy in
    let e : x ≡ y = omega arith in
    ap₂ (λ z zs. z ∷ zs) e (same_members xs ys (λ i j k m. r (suc i) (suc j) (omega arith) (omega arith)) (λ i j k m. s (suc i) (suc j) (omega arith) (omega arith)) (λ l. ⊎_elim
    (λ (z : l ≡ x). ap (λ n. has n xs) z ∙ not-later x xs r ∙ sym (not-later y ys s) ∙ ap (λ n. has n ys) (sym (z ∙ e)))
    (λ (z : l ≡ x → ⊥).
    let p : has l (x ∷ xs) ≡ has l xs = rw (ne_eqb l x z) in
    let q : has l (y ∷ ys) ≡ has l ys = rw (ne_eqb l y (λ f. z (f ∙ sym e))) in
    sym p ∙ h l ∙ q)
    (cases_eq l x)))

-- a leaf of a well-formed cut matters, and any other does not
pub other-idle : (p : ℕ) (c : Cut) → Formed p c → (l : ℕ) → has l c.leaves ≡ false → Idle c l
other-idle p c f l h u b =
    let ls = c.leaves in
    val_list p c.table ls (put u l b) (λ k. u (get_or ls k 0)) f.few f.rests (λ q k. sym (put_other u l b (get_or ls q 0) (λ z. both_ways (has l ls) h (ap (λ n. has n ls) (sym z) ∙ has-at ls q k))))
    ∙ sym (val_list p c.table ls u (λ k. u (get_or ls k 0)) f.few f.rests (λ q k. refl))

pub leaf_matters : (p : ℕ) (c : Cut) → Formed p c → (l : ℕ) → has l c.leaves ≡ true → Idle c l → ⊥
leaf_matters p c f l h idle =
    let e = place_in l c.leaves h in
    let i = place l c.leaves in
    let free = idle-free p c.table c.leaves f.few f.rising f.rests i e.1 (subst (Idle c) (sym e.0) idle) in
    both_ways (masked p c.table i) (f.tight i e.1) (free-masked p c.table i (omega (arith, e.1, f.few)) free)

one_way : (p : ℕ) (a b : Cut) → Formed p a → Formed p b → ((v : ℕ → Bool) → value_of a v ≡ value_of b v) → (l : ℕ) → has l a.leaves ≡ true → has l b.leaves ≡ true
one_way p a b f g same l h = ⊎_elim (λ e. e)
    (λ (e : has l b.leaves ≡ false). absurd (leaf_matters p a f l h (λ u c. same (put u l c) ∙ other-idle p b g l e u c ∙ sym (same u))))
    (cases_Bool (has l b.leaves))

pub one-cut : (p : ℕ) (a b : Cut) → Formed p a → Formed p b → ((v : ℕ → Bool) → value_of a v ≡ value_of b v) → a ≡ b
one-cut p a b f g same =
    let e : a.leaves ≡ b.leaves = same_members a.leaves b.leaves f.rising g.rising
    (λ l. both (has l a.leaves) (has l b.leaves) (one_way p a b f g same l) (one_way p b a g f (λ v. sym (same v)) l)) in
    let ls = a.leaves in
    let rests : Rests p b.table (length ls) = subst (λ ms. Rests p b.table (length ms)) (sym e) g.rests in
    let equal : (v : ℕ → Bool) → value_of a v ≡ value_of (record { leaves = ls; table = b.table }) v = subst (λ ms. (v : ℕ → Bool) → value_of a v ≡ value_of (record { leaves = ms; table = b.table }) v) (sym e) same in
    let back : (v : ℕ → Bool) (q : ℕ) → q < length ls → v q ≡ v (place (get_or ls q 0) ls) = λ v q l. ap v (sym (place_of ls f.rising q l)) in
    let t : a.table ≡ b.table = same_tables p a.table b.table f.small g.small (λ v.
    sym (val_list p a.table ls (λ l. v (place l ls)) v f.few f.rests (back v))
    ∙ equal (λ l. v (place l ls))
    ∙ val_list p b.table ls (λ l. v (place l ls)) v f.few rests (back v)) in
    λ i. record { leaves = e i; table = t i }
