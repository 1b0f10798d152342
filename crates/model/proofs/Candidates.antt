-- The candidates of a search: which joined cuts they are, and what holds of each. Assumes nothing.
use Rattle.std.proofs.Common.{◌≡◌, ℕ, ◌≤◌, Bool, true, false, cond, ◌&&◌, List, [], ◌∷◌, map, length, Some, None, Option, sym, refl, ap, ◌∙◌, subst, ⊎_elim, arith}
use mathlib.Core.List.Memᴰ
use mathlib.Core.List.{Memᴰ}
use Rattle.std.proofs.lemmas.Bool.{cond_both, both_ways}
use Rattle.model.specs.Tables.{flip_if}
use Rattle.model.specs.Leaves.{unite}
use Rattle.model.specs.Cuts.{Cut, value_of, tabulate, join, joined, key_list}
use Rattle.model.specs.Keys.{eq_list, first_of, holds, added}
use Rattle.model.specs.Rankings.{Every}
use Rattle.model.specs.Search.{Decision, folded, shared, merged, made, Search, ended, candidates, after, along, settled, judged, considered, search_all, pairs}
use Rattle.model.specs.RunLaws.{cons_some, joins, first_of_each}
use Rattle.model.proofs.Keys.{same-eq}
use Rattle.model.proofs.Along.{along-pairs}
use Rattle.model.proofs.Lists.{every_apply, every-first_of_each}
use Rattle.model.proofs.Meaning.{squeeze-fewer}
use Rattle.model.proofs.Deciding.{joined-some}

-- ---- pairs of cuts and their joined cuts
mem-pairs : (xs ys : List Cut) (q : Cut × Cut) → Memᴰ q (pairs xs ys) → Memᴰ q.0 xs × Memᴰ q.1 ys
mem-pairs [] ys q m = absurd (Memᴰ.not-nil m)
mem-pairs (x ∷ xs) ys q m = ⊎_elim
    (λ k. let z = Memᴰ.of_map (λ y. (x, y)) ys k in (Memᴰ.head (sym (ap (λ (w : Cut × Cut). w.0) z.2)), Memᴰ.cast (sym (ap (λ (w : Cut × Cut). w.1) z.2)) z.1))
    (λ k. let z = mem-pairs xs ys q k in (Memᴰ.tail z.0, z.1))
    (Memᴰ.append_cases (map (λ y. (x, y)) ys) m)

pairs-mem : (xs ys : List Cut) (x y : Cut) → Memᴰ x xs → Memᴰ y ys → Memᴰ (x, y) (pairs xs ys)
pairs-mem [] ys x y m k = absurd (Memᴰ.not-nil m)
pairs-mem (z ∷ xs) ys x y m k = ⊎_elim
    (λ e. Memᴰ.append_left (pairs xs ys) (Memᴰ.cast (ap (λ (w : Cut). (w, y)) e) (Memᴰ.map (λ v. (z, v)) k)))
    (λ n. Memᴰ.append_right (map (λ v. (z, v)) ys) (pairs-mem xs ys x y n k))
    (Memᴰ.cases_cons m)

-- what holds of each joined pair holds of the joined cuts
every-joins : (C : Cut → Type 0) (join : Cut → Cut → Option Cut) (qs : List (Cut × Cut))
    → ((q : Cut × Cut) (c : Cut) → Memᴰ q qs → join q.0 q.1 ≡ Some c → C c) → Every C (joins join qs)
every-joins C join [] h = tt
every-joins C join (q ∷ qs) h = go (join q.0 q.1) refl (every-joins C join qs (λ r c m e. h r c (Memᴰ.tail m) e))
  where
    go : (o : Option Cut) → join q.0 q.1 ≡ o → Every C (joins join qs) → Every C (cons_some o (joins join qs))
    go None e r = r
    go (Some c) e r = (h q c (Memᴰ.head refl) e, r)

joins-mem : (join : Cut → Cut → Option Cut) (qs : List (Cut × Cut)) (q : Cut × Cut) (c : Cut) → Memᴰ q qs → join q.0 q.1 ≡ Some c → Memᴰ c (joins join qs)
joins-mem join [] q c m e = absurd (Memᴰ.not-nil m)
joins-mem join (r ∷ qs) q c m e = ⊎_elim
    (λ z. subst (λ o. Memᴰ c (cons_some o (joins join qs))) (sym (ap (λ (w : Cut × Cut). join w.0 w.1) (sym z) ∙ e)) (Memᴰ.head refl))
    (λ n. later (join r.0 r.1) (joins-mem join qs q c n e))
    (Memᴰ.cases_cons m)
  where
    later : (o : Option Cut) → Memᴰ c (joins join qs) → Memᴰ c (cons_some o (joins join qs))
    later None n = n
    later (Some d) n = Memᴰ.tail n

-- ---- the first of each key has the key of every element
module _ {A : Type 0} (mean : A → List ℕ) where
  -- one of this meaning stands in the list
  pub record MeantIn (q : List ℕ) (xs : List A) : Type 0 where
    pub one : A
    pub there : Memᴰ one xs
    pub key : mean one ≡ q

  held : (q : List ℕ) (xs : List A) → holds mean q xs ≡ true → MeantIn q xs
  unfolding first_of
  held q [] h = absurd (both_ways false refl h)
  held q (x ∷ xs) h = go (eq_list (mean x) q) refl h (held q xs)
    where
      go : (b : Bool) → eq_list (mean x) q ≡ b → cond b true (holds mean q xs) ≡ true → (holds mean q xs ≡ true → MeantIn q xs) → MeantIn q (x ∷ xs)
      go true e k ih = record { one = x; there = Memᴰ.head refl; key = same-eq (mean x) q e }
      go false e k ih = let f = ih k in record { one = f.one; there = Memᴰ.tail f.there; key = f.key }

  -- what was there stays, and an added meaning is there
  added_keeps : (q : List ℕ) (x : A) (xs : List A) → MeantIn q xs → MeantIn q (added mean x xs)
  added_keeps q x xs k =
      cond_both (holds mean (mean x) xs) _ _ (MeantIn q) (λ _. k) (λ _. record { one = k.one; there = Memᴰ.append_left (x ∷ []) k.there; key = k.key })

  added-there : (x : A) (xs : List A) → MeantIn (mean x) (added mean x xs)
  added-there x xs =
      cond_both (holds mean (mean x) xs) _ _ (MeantIn (mean x)) (held (mean x) xs) (λ _. record { one = x; there = Memᴰ.append_right xs (Memᴰ.head refl); key = refl })

  first_keeps : (q : List ℕ) (xs done : List A) → MeantIn q done → MeantIn q (first_of_each mean xs done)
  first_keeps q [] done k = k
  first_keeps q (x ∷ xs) done k = first_keeps q xs (added mean x done) (added_keeps q x done k)

  first-there : (xs done : List A) (x : A) → Memᴰ x xs → MeantIn (mean x) (first_of_each mean xs done)
  first-there [] done x m = absurd (Memᴰ.not-nil m)
  first-there (y ∷ xs) done x m = ⊎_elim
      (λ e. first_keeps (mean x) xs (added mean y done) (subst (λ z. MeantIn (mean z) (added mean y done)) (sym e) (added-there y done)))
      (first-there xs (added mean y done) x)
      (Memᴰ.cases_cons m)

-- ---- a search that was not ended

-- a joined cut that decides nothing: two leaves or more, and a key that is not known
pub record Undecided (p : ℕ) (look : List ℕ → Option ℕ) (c : Cut) : Type 0 where
  pub wide : 2 ≤ length c.leaves
  pub new : look (key_list p c) ≡ None

-- the candidates are the first of each key among the joined cuts, none of which decides
pub record Searched (p : ℕ) (look : List ℕ → Option ℕ) (js found cs : List Cut) : Type 0 where
  pub are : cs ≡ first_of_each (key_list p) js found
  pub undecided : Every (Undecided p look) js

-- a search never ends in a made gate
abbrev Ends : Decision → Type 0
Ends (folded e) = Unit {0}
Ends (shared e) = Unit {0}
Ends (merged e) = Unit {0}
Ends (made cs) = ⊥

abbrev Told : ℕ → (List ℕ → Option ℕ) → List Cut → List Cut → Search → Type 0
Told p look js found (ended d) = Ends d
Told p look js found (candidates cs) = Searched p look js found cs

module _ (p : ℕ) (look : List ℕ → Option ℕ) where
  told_more : (c : Cut) (js found : List Cut) (s : Search) → Undecided p look c → Told p look js (added (key_list p) c found) s → Told p look (c ∷ js) found s
  told_more c js found (ended d) u t = t
  told_more c js found (candidates cs) u t = record { are = t.are; undecided = (u, t.undecided) }

  told-settled : (c : Cut) (js found : List Cut) (k : List Cut → Search) (o : Option ℕ) → look (key_list p c) ≡ o → 2 ≤ length c.leaves
      → ((f : List Cut) → Told p look js f (k f)) → Told p look (c ∷ js) found (after (settled p c o found) k)
  told-settled c js found k (Some e) q h t = tt
  told-settled c js found k None q h t = told_more c js found (k (added (key_list p) c found)) (record { wide = h; new = q }) (t (added (key_list p) c found))

  told-judged : (c : Cut) (js found : List Cut) (k : List Cut → Search) (ls : List ℕ) → c.leaves ≡ ls
      → ((f : List Cut) → Told p look js f (k f)) → Told p look (c ∷ js) found (after (judged p look c ls found) k)
  told-judged c js found k [] e t = tt
  told-judged c js found k (l ∷ []) e t = tt
  told-judged c js found k (l ∷ (m ∷ ls)) e t = told-settled c js found k (look (key_list p c)) refl (rw e (omega arith)) t

  told-considered : (js found : List Cut) (k : List Cut → Search) (o : Option Cut)
      → ((f : List Cut) → Told p look js f (k f)) → Told p look (cons_some o js) found (after (considered p look o found) k)
  told-considered js found k None t = t found
  told-considered js found k (Some c) t = told-judged c js found k c.leaves refl t

  told-along : (join : Cut → Cut → Option Cut) (qs : List (Cut × Cut)) (found : List Cut)
      → Told p look (joins join qs) found (along (λ q. considered p look (join q.0 q.1)) qs found)
  unfolding along
  told-along join [] found = record { are = refl; undecided = tt }
  told-along join (q ∷ qs) found =
      told-considered (joins join qs) found (along (λ r. considered p look (join r.0 r.1)) qs) (join q.0 q.1) (told-along join qs)

  told-all : (join : Cut → Cut → Option Cut) (xs ys found : List Cut) → Told p look (joins join (pairs xs ys)) found (search_all p look join xs ys found)
  told-all join xs ys found =
      subst (Told p look (joins join (pairs xs ys)) found) (along-pairs (λ q. considered p look (join q.0 q.1)) xs ys found) (told-along join (pairs xs ys) found)

  pub searched : (join : Cut → Cut → Option Cut) (xs ys found cs : List Cut) → search_all p look join xs ys found ≡ candidates cs → Searched p look (joins join (pairs xs ys)) found cs
  searched join xs ys found cs e = subst (Told p look (joins join (pairs xs ys)) found) e (told-all join xs ys found)

  pub search_makes_none : (join : Cut → Cut → Option Cut) (xs ys found cs : List Cut) → search_all p look join xs ys found ≡ ended (made cs) → ⊥
  search_makes_none join xs ys found cs e = subst (Told p look (joins join (pairs xs ys)) found) e (told-all join xs ys found)

  -- what holds of every joined cut that decides nothing holds of every candidate
  pub every_candidate : (C : Cut → Type 0) (join : Cut → Cut → Option Cut) (xs ys cs : List Cut)
      → ((x y c : Cut) → Memᴰ x xs → Memᴰ y ys → join x y ≡ Some c → 2 ≤ length c.leaves → look (key_list p c) ≡ None → C c)
      → search_all p look join xs ys [] ≡ candidates cs → Every C cs
  every_candidate C join xs ys cs h e =
      let s = searched join xs ys [] cs e in
      let each : Every C (joins join (pairs xs ys)) =
      every_apply (Undecided p look) C (joins join (pairs xs ys)) s.undecided
      (every-joins (λ c. Undecided p look c → C c) join (pairs xs ys)
      (λ q c m j u. let z = mem-pairs xs ys q m in h q.0 q.1 c z.0 z.1 j u.wide u.new)) in
      subst (Every C) (sym s.are) (every-first_of_each C (key_list p) (joins join (pairs xs ys)) [] each tt)

  -- the key of every joined cut is among the candidates
  pub every-key-there : (join : Cut → Cut → Option Cut) (xs ys cs : List Cut) → search_all p look join xs ys [] ≡ candidates cs
      → (x y c : Cut) → Memᴰ x xs → Memᴰ y ys → join x y ≡ Some c → MeantIn (key_list p) (key_list p c) cs
  every-key-there join xs ys cs h x y c mx my e =
      subst (MeantIn (key_list p) (key_list p c)) (sym (searched join xs ys [] cs h).are)
      (first-there (key_list p) (joins join (pairs xs ys)) [] c (joins-mem join (pairs xs ys) (x, y) c (pairs-mem xs ys x y mx my) e))

-- no joined cut has more leaves than the limit
pub joined-few : (p k : ℕ) (s t : Bool) (a b c : Cut) → joined p k s t a b ≡ Some c → length c.leaves ≤ k
unfolding join
joined-few p k s t a b c e =
    let ls = unite a.leaves b.leaves in
    let z = joined-some p k s t a b c e in
    subst (λ (x : Cut). length x.leaves ≤ k) z.1
    (omega (arith, z.0, squeeze-fewer p (record { leaves = ls; table = tabulate p ls (λ v. flip_if s (value_of a v) && flip_if t (value_of b v)) })))
